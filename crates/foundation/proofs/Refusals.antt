-- What is given for a number and an answer, and for a refusal its number.
-- Assumes nothing.
use mathlib.Core.Path.{◌≡◌, refl, sym, ap, ◌∙◌}
use mathlib.Core.Logic.{◌≢◌}
use Prim.Native.Nat.{ℕ, ◌<◌}
use mathlib.Core.Bool.{true}
use native.Mathlib.Omega.{arith}
use lib.Dec.{eqb}
use borrow.Author.Tests.{eqb-true}
use Rattle.foundation.specs.Order.{every}
use Rattle.foundation.proofs.Every.{every_held}
use Rattle.std.specs.Prelude.{Result, Ok, Err, zero, suc}
use Rattle.foundation.specs.Refusals.{refusal, refusal_number, outcome, number_given}
use Rattle.foundation.specs.declared.refusal.Refusal.{Refusal}
use Rattle.foundation.specs.declared.refusal.Refusal.TheVariants.{Size, Prefix, FrameType, SlotType, DataType, Uncorrectable, Reserved, HeaderCheck, Format, NotForUs, BlockCount, NoTransaction, BlockCheck, Serial, OtherOctets, Unwritable, StoredCheck, StoredLayout, OtherAddress}

one-zero : ◌≡◌ {A = ℕ} 1 0 → ⊥
one-zero e = absurd (omega arith)

suc-zero : (n : ℕ) → suc n ≡ 0 → ◌≡◌ {A = ℕ} 0 1
suc-zero n e = absurd (omega arith)

-- each of the 19 numbers is that of its refusal
numbered : every 19 (λ k. eqb (refusal_number (refusal (suc k))) (suc k)) ≡ true
unfolding refusal refusal_number
numbered = refl

refusal-number : (n : ℕ) → n < 19 → refusal_number (refusal (suc n)) ≡ suc n
refusal-number n lt = eqb-true _ _ (every_held (λ k. eqb (refusal_number (refusal (suc k))) (suc k)) 19 numbered n lt)

-- no refusal has the number 0
pub some_number : (r : Refusal) → refusal_number r ≡ 0 → ⊥
unfolding refusal_number
some_number Size e = absurd (omega arith)
some_number Prefix e = absurd (omega arith)
some_number FrameType e = absurd (omega arith)
some_number SlotType e = absurd (omega arith)
some_number DataType e = absurd (omega arith)
some_number Uncorrectable e = absurd (omega arith)
some_number Reserved e = absurd (omega arith)
some_number HeaderCheck e = absurd (omega arith)
some_number Format e = absurd (omega arith)
some_number NotForUs e = absurd (omega arith)
some_number BlockCount e = absurd (omega arith)
some_number NoTransaction e = absurd (omega arith)
some_number BlockCheck e = absurd (omega arith)
some_number Serial e = absurd (omega arith)
some_number OtherOctets e = absurd (omega arith)
some_number Unwritable e = absurd (omega arith)
some_number StoredCheck e = absurd (omega arith)
some_number StoredLayout e = absurd (omega arith)
some_number OtherAddress e = absurd (omega arith)

module _ {A : Type 0} where
  abbrev refused : Result A Refusal → ℕ
  refused (Ok a) = 0
  refused (Err r) = 1

  abbrev answer_or : A → Result A Refusal → A
  answer_or d (Ok a) = a
  answer_or d (Err r) = d

  abbrev refusal_or : Refusal → Result A Refusal → Refusal
  refusal_or d (Ok a) = d
  refusal_or d (Err r) = r

  -- an answer is given only for number 0, and it is the answer
  pub ok_zero : (n : ℕ) (a b : A) → outcome n a ≡ Ok b → n ≡ 0
  unfolding outcome
  ok_zero zero a b e = refl
  ok_zero (suc n) a b e = absurd (one-zero (ap refused e))

  pub ok_same : (n : ℕ) (a b : A) → outcome n a ≡ Ok b → a ≡ b
  unfolding outcome
  ok_same zero a b e = ap (answer_or a) e
  ok_same (suc n) a b e = absurd (one-zero (ap refused e))

  -- a refusal is given only for another number, and it is the number's
  pub err_number : (n : ℕ) (a : A) (r : Refusal) → outcome n a ≡ Err r → n ≢ 0
  unfolding outcome
  err_number zero a r e p = one-zero (sym (ap refused e))
  err_number (suc n) a r e p = one-zero (sym (suc-zero n p))

  pub err_refusal : (n : ℕ) (a : A) (r : Refusal) → outcome n a ≡ Err r → refusal n ≡ r
  unfolding outcome
  err_refusal zero a r e = absurd (one-zero (sym (ap refused e)))
  err_refusal (suc n) a r e = ap (refusal_or r) e

  -- the number of what is given
  pub number_back : (n : ℕ) (a : A) → n < 20 → number_given (outcome n a) ≡ n
  unfolding outcome number_given
  number_back zero a lt = refl
  number_back (suc n) a lt = refusal-number n (omega arith)

  pub number_err : (n : ℕ) (a : A) (r : Refusal) → n < 20 → outcome n a ≡ Err r → refusal_number r ≡ n
  unfolding number_given
  number_err n a r lt e = sym (ap number_given e) ∙ number_back n a lt

module _ {A B : Type 0} where
  -- a refusal does not hang on what is refused
  pub err_any : (n : ℕ) (a : A) (b : B) (r : Refusal) → outcome n a ≡ Err r → outcome n b ≡ Err r
  unfolding outcome
  err_any zero a b r e = absurd (one-zero (sym (ap refused e)))
  err_any (suc n) a b r e = ap Err (ap (refusal_or r) e)
