-- What is given for a number of the table.
-- Assumes nothing.
use mathlib.Core.Path.{◌≡◌, refl, sym, ap, ◌∙◌}
use Prim.Native.Nat.{ℕ, ◌-◌, ◌≤◌, ◌<◌}
use native.Mathlib.Omega.{arith}
use Rattle.std.specs.Prelude.{Result, Ok, Err}
use Rattle.std.proofs.lemmas.List.{get_or_past}
use Rattle.foundation.specs.Refusals.{table, refusal, refusal_number, outcome}
use Rattle.foundation.specs.declared.refusal.Refusal.{Refusal}
use Rattle.foundation.specs.declared.refusal.Refusal.TheVariants.{Size, OtherAddress}
use Rattle.foundation.proofs.Refusals.{err_refusal, number_err}
use Rattle.foundation.proofs.Tests.{either}
use lib.Dec.{ltb}
use borrow.Author.Tests.{ltb-true, ltb-false}

-- the last is given for every number behind the table
pub refusal_past : (n : ℕ) → 19 < n → refusal n ≡ OtherAddress
unfolding refusal
refusal_past n h = get_or_past table (n - 1) OtherAddress (omega arith)

one_size : refusal_number Size ≡ 1
unfolding refusal_number
one_size = refl

last_number : refusal_number OtherAddress ≡ 19
unfolding refusal_number
last_number = refl

pub given_size : (n : ℕ) → outcome {A = Unit {0}} n tt ≡ Err Size → n ≡ 1
given_size n e =
    either (ltb n 20)
    (λ t. sym (number_err n tt Size (ltb-true n 20 t) e) ∙ one_size)
    (λ t. let past : 20 ≤ n = ltb-false n 20 t in
    let k : Size ≡ OtherAddress = sym (err_refusal n tt Size e) ∙ refusal_past n (omega arith) in
    absurd (omega (arith, one_size, last_number, ap refusal_number k)))

-- a refusal is no answer
pub not_both : {A : Type 0} (r : Refusal) (a : A) (x : Result A Refusal) → Err r ≡ x → Ok a ≡ x → ⊥
not_both r a x e o = let k : Err r ≡ Ok a = e ∙ sym o in cc

pub ok_value : {A : Type 0} (a b : A) → ◌≡◌ {A = Result A Refusal} (Ok a) (Ok b) → a ≡ b
ok_value a b e = cc
