-- Rows of 15 bits in one number, the first highest.
-- Assumes nothing.
use mathlib.Core.Path.{◌≡◌, refl, sym, ap, ap₂, ◌∙◌}
use mathlib.Core.List.{List, [], ◌∷◌}
use Prim.Native.Nat.{ℕ, zero, suc, ◌+◌, ◌*◌, ◌-◌, ◌/◌, ◌%◌, ◌^◌, ◌≤◌, ◌<◌}
use native.Mathlib.Nat.{not-suc-le-zero, le_of_suc-le-suc, mod-eq_of_lt, suc-mul, mul-le-mul_right}
use native.Mathlib.Omega.{arith}
use lib.Bits.{bit_xor, xor_shifted}
use lib.Dec.{lit<}
use lib.ListN.{length, get_or}
use lib.Pow.{pow-add, high, low, field, mod-mod-pow}
use Rattle.polynomials.proofs.Linear.{Linear, linear-shl, linear_then, linear-xor}

unfoldable pub packed : List ℕ → ℕ
packed [] = 0
packed (v ∷ vs) = bit_xor (v * 2 ^ (15 * length vs)) (packed vs)

-- every row has 15 bits
abbrev pub Rows : List ℕ → Type 0
Rows [] = Unit
Rows (v ∷ vs) = (v < 2 ^ 15) × Rows vs

packed_lt : (vs : List ℕ) → Rows vs → packed vs < 2 ^ (15 * length vs)
unfolding packed
packed_lt [] h = lit< tt
packed_lt (v ∷ vs) h =
    let l = packed_lt vs h.1 in
    let k : ℕ = 15 * length vs in
    let e : 15 * suc (length vs) ≡ 15 + k = omega arith in
    rw (xor_shifted v k (packed vs) l, e)
    (omega (arith, suc-mul v (2 ^ k), mul-le-mul_right {m = suc v} {n = 2 ^ 15} (2 ^ k) h.0, pow-add 2 15 k))

-- fifteen digits below digit n
below : (x n a : ℕ) → 15 + a ≤ n → x / 2 ^ a % 2 ^ 15 ≡ x % 2 ^ n / 2 ^ a % 2 ^ 15
below x n a h =
    sym (field x 15 a) ∙ ap (λ (y : ℕ). y / 2 ^ a) (sym (mod-mod-pow x (n - (15 + a)) (15 + a)) ∙ ap (λ (m : ℕ). x % 2 ^ m % 2 ^ (15 + a)) all) ∙ field (x % 2 ^ n) 15 a
  where
    all : n - (15 + a) + (15 + a) ≡ n
    all = omega arith

-- row k stands above the rows behind it
pub packed_row : (vs : List ℕ) → Rows vs → (k : ℕ) → k < length vs → packed vs / 2 ^ (15 * (length vs - 1 - k)) % 2 ^ 15 ≡ get_or vs k 0
unfolding packed
packed_row [] h k l = absurd (not-suc-le-zero l)
packed_row (v ∷ vs) h zero l =
    let e : suc (length vs) - 1 - 0 ≡ length vs = omega arith in
    rw (e, xor_shifted v (15 * length vs) (packed vs) (packed_lt vs h.1), high v (15 * length vs) (packed_lt vs h.1)) (mod-eq_of_lt h.0)
packed_row (v ∷ vs) h (suc k) l =
    let n : ℕ = 15 * length vs in
    let a : ℕ = 15 * (length vs - 1 - k) in
    let e : suc (length vs) - 1 - suc k ≡ length vs - 1 - k = omega arith in
    let lo = packed_lt vs h.1 in
    let inside : packed vs ≡ (v * 2 ^ n + packed vs) % 2 ^ n = sym (low v n lo) in
    rw (e, xor_shifted v n (packed vs) lo)
    (below (v * 2 ^ n + packed vs) n a (omega arith) ∙ ap (λ (x : ℕ). x / 2 ^ a % 2 ^ 15) (sym inside) ∙ packed_row vs h.1 k (le_of_suc-le-suc l))

-- a row more
pub linear_row : (f : ℕ → ℕ) (fs : ℕ → List ℕ) (k : ℕ) → ((i : ℕ) → length (fs i) ≡ k) → Linear f → Linear (λ i. packed (fs i)) → Linear (λ i. packed (f i ∷ fs i))
unfolding packed
linear_row f fs k e hf h a b =
    size (bit_xor a b) ∙ linear-xor (λ i. f i * 2 ^ (15 * k)) (λ i. packed (fs i)) (linear_then f (λ x. x * 2 ^ (15 * k)) hf (linear-shl (15 * k))) h a b
    ∙ sym (ap₂ bit_xor (size a) (size b))
  where
    size : (i : ℕ) → bit_xor (f i * 2 ^ (15 * length (fs i))) (packed (fs i)) ≡ bit_xor (f i * 2 ^ (15 * k)) (packed (fs i))
    size i = ap (λ (x : ℕ). bit_xor (f i * 2 ^ (15 * x)) (packed (fs i))) (e i)

pub linear_no_rows : Linear (λ i. packed [])
unfolding packed
linear_no_rows a b = refl
