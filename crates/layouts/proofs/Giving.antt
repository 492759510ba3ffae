-- What is given for an answer, by the size of the lent memory and the number.
-- Assumes nothing.
use mathlib.Core.Path.{◌≡◌, refl, sym, ap, subst, ◌∙◌}
use mathlib.Core.Bool.{true, false}
use mathlib.Core.List.{List, []}
use Prim.Native.Nat.{ℕ, ◌<◌}
use native.Mathlib.Omega.{arith}
use lib.Dec.{eqb}
use lib.ListN.{length}
use borrow.Author.Tests.{eqb-true, eq-eqb, ne_eqb}
use Rattle.std.specs.Prelude.{Result, zero, suc}
use Rattle.foundation.specs.Refusals.{refusal, refusal_number, outcome}
use Rattle.foundation.specs.declared.refusal.Refusal.{Refusal}
use Rattle.foundation.proofs.Refusals.{number_err}
use Rattle.foundation.proofs.Tests.{either}
use Rattle.layouts.specs.Lent.{Answer, answer_of, given, filled, Gives}

-- an answer in another form, and its size
pub gives_as : {m n r : ℕ} {a b : Answer} {out after : List ℕ} → m ≡ n → a ≡ b → Gives m a out r after → Gives n b out r after
gives_as {m} {n} {r} {a} {b} {out} {after} size e g =
    subst (λ (x : Answer). Gives n x out r after) e (subst (λ (x : ℕ). Gives x a out r after) size g)

module _ (n : ℕ) (a : Answer) (out : List ℕ) where
  pub another_size : (length out ≡ n → ⊥) → Gives n a out 1 out
  unfolding given filled
  another_size h = let e = ne_eqb (length out) n h in record { returned = rw e; holds = rw e }

  pub refused : length out ≡ n → (a.0 ≡ 0 → ⊥) → Gives n a out a.0 out
  unfolding given filled
  refused size h = let e = eq-eqb (length out) n size in record { returned = rw e; holds = rw (e, ne_eqb a.0 0 h) }

  pub given_back : length out ≡ n → a.0 ≡ 0 → (after : List ℕ) → after ≡ a.1 → Gives n a out 0 after
  unfolding given filled
  given_back size h after same = let e = eq-eqb (length out) n size in record { returned = rw (e, h); holds = rw (e, eq-eqb a.0 0 h) same }

  -- 1 is returned for any lent memory
  pub refused_with_1 : a.0 ≡ 1 → Gives n a out 1 out
  refused_with_1 h =
      either (eqb (length out) n)
      (λ e. subst (λ (x : ℕ). Gives n a out x out) h (refused (eqb-true (length out) n e) (λ z. omega arith)))
      (λ e. another_size (λ size. let z : true ≡ false = sym (eq-eqb (length out) n size) ∙ e in absurd (let y : ◌≡◌ {A = ℕ} 0 1 = cc in omega arith)))

module _ {n r : ℕ} {out after : List ℕ} where
  -- the octets of a refusal are given nowhere
  pub any_octets : (number : ℕ) (os octets : List ℕ) → (number ≡ 0 → ⊥) → Gives n (number, os) out r after → Gives n (number, octets) out r after
  unfolding given filled
  any_octets number os octets some g =
      let same : filled n out number os ≡ filled n out number octets =
      either (eqb (length out) n) (λ e. rw (e, ne_eqb number 0 some)) (λ e. rw e) in
      record { returned = g.returned; holds = g.holds ∙ same }

  -- an answer by the result that is made of it
  pub by_outcome : (number : ℕ) (octets : List ℕ) {given : Result (List ℕ) Refusal} → given ≡ outcome number octets → number < 20
      → Gives n (answer_of given) out r after → Gives n (number, octets) out r after
  unfolding answer_of outcome
  by_outcome zero octets e few g = subst (λ (x : Result (List ℕ) Refusal). Gives n (answer_of x) out r after) e g
  by_outcome (suc k) octets e few g =
      let some : suc k ≡ 0 → ⊥ = λ z. omega arith in
      let back : refusal_number (refusal (suc k)) ≡ suc k = number_err (suc k) octets _ few refl in
      any_octets (suc k) [] octets some
      (gives_as refl (ap (λ (x : ℕ). (x, [])) back) (subst (λ (x : Result (List ℕ) Refusal). Gives n (answer_of x) out r after) e g))
