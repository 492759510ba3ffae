-- Numbers in decimal: the fewest digits that hold a number are its places, and how many these can be.
-- Assumes nothing.
use mathlib.Core.Path.{◌≡◌, refl, sym, ap, ◌∙◌}
use mathlib.Core.List.{[], ◌∷◌}
use Prim.Native.Nat.{ℕ, zero, suc, ◌-◌, ◌/◌, ◌%◌, ◌^◌, ◌≤◌, ◌<◌}
use native.Mathlib.Decide.{dec_lt}
use native.Mathlib.Omega.{arith}
use lib.Dec.{ltb}
use lib.ListN.{length, length-append}
use native.Mathlib.Nat.{pow-suc, pow-le-pow_right}
use borrow.Author.Tests.{lt-ltb, ltb-true, ltb-false}
use Rattle.io.specs.Digits.{last_digits, hex_digit_ascii, IsDigitCount}
use Rattle.foundation.proofs.Tests.{either}
use Rattle.texts.specs.Texts.{places, decimal}

pub length_digits : (b k n : ℕ) → length (last_digits b k n) ≡ k
length_digits b zero n = refl
length_digits b (suc k) n = length-append (last_digits b k (n / b)) (hex_digit_ascii (n % b) ∷ []) ∙ omega (arith, length_digits b k (n / b))

-- ---- the fewest digits

one_place : (n k : ℕ) → n < 10 → IsDigitCount 10 1 n k → k ≡ 1
one_place n k small w = go (dec_lt 1 k)
  where
    go : Dec (1 < k) → k ≡ 1
    go (yes more) = absurd (omega (arith, w.2 more, pow-le-pow_right {n = 10} (omega arith) {i = 1} {j = k - 1} (omega arith)))
    go (no most) = omega (arith, w.0)

fewer : (n j : ℕ) → 10 ≤ n → IsDigitCount 10 1 n (suc j) → IsDigitCount 10 1 (n / 10) j
fewer n zero big w = absurd (omega (arith, w.1))
fewer n (suc i) big w =
    let e : suc (suc i) - 1 ≡ suc i = omega arith in
    let e' : suc i - 1 ≡ i = omega arith in
    let low : 10 ^ suc i ≤ n = rw e at (w.2 (omega arith)) in
    (omega arith, omega (arith, w.1, pow-suc 10 (suc i)), λ more. rw e' (omega (arith, low, pow-suc 10 i)))

places-one : (f n : ℕ) → n < 10 → places f n ≡ 1
unfolding places
places-one zero n h = refl
places-one (suc f) n h = rw (lt-ltb n 10 h)

fewest_is : (f n k : ℕ) → n ≤ f → IsDigitCount 10 1 n k → k ≡ places f n
unfolding places
fewest_is zero n k h w = one_place n k (omega arith) w
fewest_is (suc f) n zero h w = absurd (omega (arith, w.0))
fewest_is (suc f) n (suc j) h w =
    either (ltb n 10) (λ t. one_place n (suc j) (ltb-true n 10 t) w ∙ sym (places-one (suc f) n (ltb-true n 10 t)))
    (λ t. let big = ltb-false n 10 t in rw t (ap suc (fewest_is f (n / 10) j (omega arith) (fewer n j big w))))

-- what is spelled in the fewest digits is the number in decimal
pub spelled : (n k : ℕ) → IsDigitCount 10 1 n k → last_digits 10 k n ≡ decimal n
unfolding decimal
spelled n k w = ap (λ (j : ℕ). last_digits 10 j n) (fewest_is n n k (omega arith) w)

-- ---- how many digits

few_places : (j f n : ℕ) → n < 10 ^ suc j → places f n ≤ suc j
unfolding places
few_places zero f n h = omega (arith, places-one f n (omega arith))
few_places (suc j) zero n h = omega arith
few_places (suc j) (suc f) n h =
    either (ltb n 10) (λ t. rw t (omega arith)) (λ t. rw t (omega (arith, few_places j f (n / 10) (omega (arith, h, pow-suc 10 (suc j))))))

-- a number below 10^(j + 1) has at most j + 1 digits
pub short : (j n : ℕ) → n < 10 ^ suc j → length (decimal n) ≤ suc j
unfolding decimal
short j n h = omega (arith, length_digits 10 (places n n) n, few_places j n n h)
