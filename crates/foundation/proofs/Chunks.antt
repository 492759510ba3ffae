-- Lists cut into parts of one size, and the number of a first part.
-- Assumes nothing.
use mathlib.Core.Path.{◌≡◌, ap, ◌∙◌}
use mathlib.Core.List.{List}
use Prim.Native.Nat.{ℕ, zero, suc, ◌+◌, ◌*◌, ◌/◌, ◌%◌, ◌^◌, ◌-◌, ◌<◌}
use native.Mathlib.Nat.{mul-suc, not-suc-le-zero}
use native.Mathlib.Omega.{arith}
use lib.ListN.{get_or, take, drop}
use lib.Seq.{drop-drop, get_or-take, get_or-drop}
use Rattle.std.specs.Simd.{first_chunks}
use Rattle.foundation.specs.Bits.{octet_bit, value_of}
use Rattle.foundation.proofs.Runs.{value_ext}

-- part k of those of n elements
chunk_at : (n m : ℕ) (xs : List ℕ) (k : ℕ) (d : List ℕ) → k < m → get_or (first_chunks n m xs) k d ≡ take n (drop (n * k) xs)
chunk_at n zero xs k d h = absurd (not-suc-le-zero h)
chunk_at n (suc m) xs zero d h = let none : 0 ≡ n * 0 = omega arith in ap (λ (i : ℕ). take n (drop i xs)) none
chunk_at n (suc m) xs (suc k) d h =
    let more : n + n * k ≡ n * suc k = omega (arith, mul-suc n k) in
    chunk_at n m (drop n xs) k d (omega arith) ∙ ap (take n) (drop-drop (n * k) n xs) ∙ ap (λ (i : ℕ). take n (drop i xs)) more

-- and where s elements stand before them
pub chunk_behind : (n m s : ℕ) (xs : List ℕ) (ws : List (List ℕ)) (k : ℕ) (d : List ℕ) → ws ≡ first_chunks n m (drop s xs) → k < m
    → get_or ws k d ≡ take n (drop (s + n * k) xs)
chunk_behind n m s xs ws k d e h = ap (λ (l : List (List ℕ)). get_or l k d) e ∙ chunk_at n m (drop s xs) k d h ∙ ap (take n) (drop-drop (n * k) s xs)

-- the number of the first k octets
pub value-front : (os : List ℕ) (k : ℕ) → value_of (octet_bit (take k os)) 0 (8 * k) ≡ value_of (octet_bit os) 0 (8 * k)
unfolding octet_bit
value-front os k = value_ext (octet_bit (take k os)) (octet_bit os) 0 0 (8 * k) (λ i h. ap (λ (o : ℕ). o / 2 ^ (7 - (0 + i) % 8) % 2) (get_or-take k os ((0 + i) / 8) 0 (omega arith)))

-- element j of part k
pub chunk_element : (n m s : ℕ) (xs : List ℕ) (ws : List (List ℕ)) (k : ℕ) (d : List ℕ) (j : ℕ) → ws ≡ first_chunks n m (drop s xs) → k < m → j < n
    → get_or (get_or ws k d) j 0 ≡ get_or xs (s + n * k + j) 0
chunk_element n m s xs ws k d j e h l =
    ap (λ (w : List ℕ). get_or w j 0) (chunk_behind n m s xs ws k d e h) ∙ get_or-take n (drop (s + n * k) xs) j 0 l ∙ get_or-drop (s + n * k) xs j 0
