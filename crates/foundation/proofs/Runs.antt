-- Laws of runs of bits, the numbers they make, and octets.
-- Assumes nothing.
use mathlib.Core.Path.{◌≡◌, refl, sym, ap, ap₂, subst, ◌∙◌}
use mathlib.Core.Bool.{Bool, true, false, cond}
use mathlib.Core.List.{List, ◌∷◌}
use Prim.Native.Nat.{ℕ, zero, suc, ◌+◌, ◌*◌, ◌-◌, ◌/◌, ◌%◌, ◌^◌, ◌≤◌, ◌<◌}
use native.Mathlib.Nat.{add-zero, add-suc, zero-add, mul-one, mul_assoc, mul_comm, mod-one, pow-suc, mod-eq_of_lt, mod-lt, lt_of_lt_of_le, zero-lt-suc, not-suc-le-zero, le_of_suc-le-suc}
use native.Mathlib.Omega.{arith}
use native.Mathlib.Numerals.{add-one}
use lib.Dec.{ltb, lit<}
use lib.Pow.{high, low, shr-shr, mod-pow-add, pow_mono}
use lib.ListN.{length, get_or}
use lib.Seq.{ext_get_or}
use borrow.Author.Tests.{lt-ltb, le-ltb}
use Rattle.foundation.specs.Bits.{Bits, digits, octet_bit, zeros, followed, value_of, tabulate, octets}
use Rattle.foundation.proofs.Xor.{bit-lt}

pub digits_bits : (n a : ℕ) → Bits (digits n a)
digits_bits n a p = bit-lt (n - 1 - p) a

pub zeros_bits : Bits zeros
zeros_bits p = lit< tt

pub octet_bit_bits : (os : List ℕ) → Bits (octet_bit os)
unfolding octet_bit
octet_bit_bits os i = bit-lt (8 - 1 - i % 8) (get_or os (i / 8) 0)

-- ---- one run behind another

pub followed-first : (k : ℕ) (u v : ℕ → ℕ) (p : ℕ) → p < k → followed k u v p ≡ u p
unfolding followed
followed-first k u v p h = ap (λ (t : Bool). cond t (u p) (v (p - k))) (lt-ltb p k h)

pub followed_rest : (k : ℕ) (u v : ℕ → ℕ) (p : ℕ) → k ≤ p → followed k u v p ≡ v (p - k)
unfolding followed
followed_rest k u v p h = ap (λ (t : Bool). cond t (u p) (v (p - k))) (le-ltb p k h)

pub followed-behind : (k : ℕ) (u v : ℕ → ℕ) (p : ℕ) → followed k u v (k + p) ≡ v p
followed-behind k u v p = followed_rest k u v (k + p) (omega arith) ∙ ap v same
  where
    same : k + p - k ≡ p
    same = omega arith

pub followed_bits : (k : ℕ) (u v : ℕ → ℕ) → Bits u → Bits v → Bits (followed k u v)
unfolding followed
followed_bits k u v hu hv p = go (ltb p k)
  where
    go : (t : Bool) → cond t (u p) (v (p - k)) < 2
    go true = hu p
    go false = hv (p - k)

-- ---- the number that bits make

pub value_ext : (u v : ℕ → ℕ) (at at' k : ℕ) → ((i : ℕ) → i < k → u (at + i) ≡ v (at' + i)) → value_of u at k ≡ value_of v at' k
unfolding value_of
value_ext u v at at' zero h = refl
value_ext u v at at' (suc k) h = ap₂ (λ (x y : ℕ). x * 2 + y) (value_ext u v at at' k (λ i l. h i (omega arith))) (h k (omega arith))

pub value_lt : (u : ℕ → ℕ) → Bits u → (at k : ℕ) → value_of u at k < 2 ^ k
unfolding value_of
value_lt u h at zero = lit< tt
value_lt u h at (suc k) = let l = value_lt u h at k in let b = h (at + k) in rw (pow-suc 2 k) (omega arith)

-- a run from the middle on
pub value_from : (u : ℕ → ℕ) (at k : ℕ) → value_of (λ p. u (at + p)) 0 k ≡ value_of u at k
value_from u at k = value_ext (λ p. u (at + p)) u 0 at k (λ i h. ap (λ (p : ℕ). u (at + p)) (zero-add i))

-- its first bits and then its last
pub value_append : (u : ℕ → ℕ) (at k l : ℕ) → value_of u at (k + l) ≡ value_of u at k * 2 ^ l + value_of u (at + k) l
unfolding value_of
value_append u at k zero = ap (value_of u at) (add-zero k) ∙ sym (add-zero (value_of u at k * 1) ∙ mul-one (value_of u at k))
value_append u at k (suc l) =
    ap (value_of u at) (add-suc k l)
    ∙ ap₂ (λ (x y : ℕ). x * 2 + u y) (value_append u at k l) place
    ∙ regroup (value_of u at k * 2 ^ l) (value_of u (at + k) l) (u (at + k + l))
    ∙ ap (λ (x : ℕ). x + (value_of u (at + k) l * 2 + u (at + k + l))) (mul_assoc (value_of u at k) (2 ^ l) 2 ∙ ap (λ (x : ℕ). value_of u at k * x) (sym (pow-suc 2 l)))
  where
    place : at + (k + l) ≡ at + k + l
    place = omega arith

    regroup : (x y z : ℕ) → (x + y) * 2 + z ≡ x * 2 + (y * 2 + z)
    regroup x y z = omega arith

-- n bits behind i, with t more behind them
pub value_part : (u : ℕ → ℕ) → Bits u → (at i n t : ℕ) → value_of u at (i + n + t) / 2 ^ t % 2 ^ n ≡ value_of u (at + i) n
value_part u h at i n t =
    ap (λ (x : ℕ). x / 2 ^ t % 2 ^ n) (value_append u at (i + n) t)
    ∙ ap (λ (x : ℕ). x % 2 ^ n) (high (value_of u at (i + n)) t (value_lt u h (at + (i + n)) t) ∙ value_append u at i n)
    ∙ low (value_of u at i) n (value_lt u h (at + i) n)

pub value_one : (u : ℕ → ℕ) (at : ℕ) → value_of u at 1 ≡ u at
unfolding value_of
value_one u at = zero-add (u (at + 0)) ∙ ap u (add-zero at)

-- each bit of the number is the bit of the run
pub digits_number : (n : ℕ) (u : ℕ → ℕ) → Bits u → (at p : ℕ) → p < n → digits n (value_of u at n) p ≡ u (at + p)
digits_number n u h at p l = ap (λ (k : ℕ). digits n (value_of u at k) p) whole ∙ value_part u h at p 1 (n - 1 - p) ∙ value_one u (at + p)
  where
    whole : n ≡ p + 1 + (n - 1 - p)
    whole = omega arith

-- the first k of n digits make the number without its last n - k
pub value_digits : (n a k : ℕ) → k ≤ n → value_of (digits n a) 0 k ≡ a / 2 ^ (n - k) % 2 ^ k
unfolding value_of
value_digits n a zero h = sym (mod-one (a / 2 ^ (n - 0)))
value_digits n a (suc k) h =
    ap₂ (λ (x y : ℕ). x * 2 + y) (value_digits n a k (omega arith) ∙ ap (λ (x : ℕ). x % 2 ^ k) half) (ap (digits n a) (zero-add k))
    ∙ sym (mod-pow-add (a / 2 ^ (n - 1 - k)) k 1)
    ∙ ap₂ (λ (i j : ℕ). a / 2 ^ i % 2 ^ j) left (add-one k)
  where
    more : n - k ≡ n - 1 - k + 1
    more = omega arith

    half : a / 2 ^ (n - k) ≡ a / 2 ^ (n - 1 - k) / 2 ^ 1
    half = ap (λ (x : ℕ). a / 2 ^ x) more ∙ sym (shr-shr a (n - 1 - k) 1)

    left : n - 1 - k ≡ n - suc k
    left = omega arith

-- all digits of a number below 2^n make the number
pub value_whole : (n a : ℕ) → a < 2 ^ n → value_of (digits n a) 0 n ≡ a
value_whole n a h =
    value_digits n a n (omega arith) ∙ ap (λ (k : ℕ). a / 2 ^ k % 2 ^ n) none ∙ ap (λ (x : ℕ). x % 2 ^ n) one ∙ mod-eq_of_lt h
  where
    none : n - n ≡ 0
    none = omega arith

    one : a / 2 ^ 0 ≡ a
    one = omega arith

-- a run behind another
pub value_followed : (k l : ℕ) (u v : ℕ → ℕ) → value_of (followed k u v) 0 (k + l) ≡ value_of u 0 k * 2 ^ l + value_of v 0 l
value_followed k l u v =
    value_append (followed k u v) 0 k l
    ∙ ap₂ (λ (x y : ℕ). x * 2 ^ l + y) (value_ext (followed k u v) u 0 0 k (λ i h. followed-first k u v (0 + i) (omega arith)))
    (value_ext (followed k u v) v (0 + k) 0 l (λ i h. followed_rest k u v (0 + k + i) (omega arith) ∙ ap v (place i)))
  where
    place : (i : ℕ) → 0 + k + i - k ≡ 0 + i
    place i = omega arith

-- n bits are the digits of the number they make
pub digits-whole : (n : ℕ) (u : ℕ → ℕ) → Bits u → (p : ℕ) → p < n → digits n (value_of u 0 n) p ≡ u p
digits-whole n u b p h = digits_number n u b 0 p h ∙ ap u (zero-add p)

-- one bit more behind those gathered
pub value_more : (u : ℕ → ℕ) (at k x b : ℕ) → x ≡ value_of u at k → b ≡ u (at + k) → 2 * x + b ≡ value_of u at (k + 1)
unfolding value_of
value_more u at k x b e f = ap₂ ◌+◌ (mul_comm 2 x ∙ ap (λ (y : ℕ). y * 2) e) f ∙ ap (value_of u at) (sym (add-one k))

-- a number of fewer than n bits has room for one more
pub value_room : (u : ℕ → ℕ) → Bits u → (at k n x : ℕ) → k < n → x ≡ value_of u at k → 2 * x + 1 < 2 ^ n
value_room u h at k n x l e = lt_of_lt_of_le (omega (arith, value_lt u h at k, pow-suc 2 k)) (pow_mono l)

-- ---- lists of values and octets

pub length-tabulate : (n : ℕ) (f : ℕ → ℕ) → length (tabulate n f) ≡ n
length-tabulate zero f = refl
length-tabulate (suc n) f = ap suc (length-tabulate n (λ k. f (suc k)))

pub get_d_tabulate : (n : ℕ) (f : ℕ → ℕ) (i d : ℕ) → i < n → get_or (tabulate n f) i d ≡ f i
get_d_tabulate zero f i d h = absurd (not-suc-le-zero h)
get_d_tabulate (suc n) f zero d h = refl
get_d_tabulate (suc n) f (suc i) d h = get_d_tabulate n (λ k. f (suc k)) i d (le_of_suc-le-suc h)

pub tabulate_ext : (n : ℕ) (f g : ℕ → ℕ) → ((k : ℕ) → k < n → f k ≡ g k) → tabulate n f ≡ tabulate n g
tabulate_ext zero f g h = refl
tabulate_ext (suc n) f g h = ap₂ ◌∷◌ (h 0 (omega arith)) (tabulate_ext n (λ k. f (suc k)) (λ k. g (suc k)) (λ k l. h (suc k) (omega arith)))

-- a list with these elements is the tabulated one
pub tabulated : (n : ℕ) (f : ℕ → ℕ) (os : List ℕ) → length os ≡ n → ((i : ℕ) → i < n → get_or os i 0 ≡ f i) → os ≡ tabulate n f
tabulated n f os e h =
    ext_get_or 0 os (tabulate n f) (e ∙ sym (length-tabulate n f))
    (λ i l. let k : i < n = subst (λ (x : ℕ). i < x) e l in h i k ∙ sym (get_d_tabulate n f i 0 k))

-- the eight bits of octet j make the octet
pub octet_at : (os : List ℕ) (j : ℕ) → get_or os j 0 < 256 → value_of (octet_bit os) (8 * j) 8 ≡ get_or os j 0
unfolding octet_bit
octet_at os j h = value_ext (octet_bit os) (digits 8 (get_or os j 0)) (8 * j) 0 8 bits ∙ value_whole 8 (get_or os j 0) h
  where
    bits : (i : ℕ) → i < 8 → octet_bit os (8 * j + i) ≡ digits 8 (get_or os j 0) (0 + i)
    bits i l = ap₂ (λ (k p : ℕ). digits 8 (get_or os k 0) p) place weight
      where
        place : (8 * j + i) / 8 ≡ j
        place = omega arith

        weight : (8 * j + i) % 8 ≡ 0 + i
        weight = omega arith

-- octets made of bits have these bits
pub octet_bit-octets : (n : ℕ) (u : ℕ → ℕ) → Bits u → (i : ℕ) → i < 8 * n → octet_bit (octets n u) i ≡ u i
unfolding octet_bit octets
octet_bit-octets n u h i l =
    ap (λ (x : ℕ). digits 8 x (i % 8)) (get_d_tabulate n (λ j. value_of u (8 * j) 8) (i / 8) 0 (omega arith))
    ∙ digits_number 8 u h (8 * (i / 8)) (i % 8) (mod-lt i (zero-lt-suc 7)) ∙ ap u whole
  where
    whole : 8 * (i / 8) + i % 8 ≡ i
    whole = omega arith

-- octets are made of their bits
pub octets-octet_bit : (n : ℕ) (os : List ℕ) → length os ≡ n → ((j : ℕ) → j < n → get_or os j 0 < 256) → octets n (octet_bit os) ≡ os
unfolding octets
octets-octet_bit n os e h = sym (tabulated n (λ j. value_of (octet_bit os) (8 * j) 8) os e (λ j l. sym (octet_at os j (h j l))))

pub octets_ext : (n : ℕ) (u v : ℕ → ℕ) → ((i : ℕ) → i < 8 * n → u i ≡ v i) → octets n u ≡ octets n v
unfolding octets
octets_ext n u v h =
    tabulate_ext n (λ j. value_of u (8 * j) 8) (λ j. value_of v (8 * j) 8) (λ j l. value_ext u v (8 * j) (8 * j) 8 (λ i k. h (8 * j + i) (omega arith)))
