-- The message's register times x^32, four bits at a time by the table.
-- Assumes nothing.
use mathlib.Core.Path.{◌≡◌, refl, sym, ap, ap₂, ◌∙◌}
use mathlib.Core.Bool.{Bool, cond}
use mathlib.Core.List.{List}
use Prim.Native.Nat.{ℕ, zero, suc, ◌+◌, ◌*◌, ◌/◌, ◌%◌, ◌^◌, ◌≤◌, ◌<◌}
use native.Mathlib.Nat.{mod-one, mod-eq_of_lt, mod-lt}
use native.Mathlib.Numerals.{add-one}
use native.Mathlib.Omega.{arith}
use lib.Pow.{pow_pos, pow_mono, mod-pow-add, shl_lt}
use lib.Bits.{bit_xor, xor_comm, xor_shifted, xor_zero_l}
use lib.Dec.{eqb}
use lib.ListN.{length, get_or}
use borrow.Author.Tests.{eq-eqb}
use Rattle.foundation.specs.Bits.{zeros}
use Rattle.polynomials.specs.Remainder.{divide}
use Rattle.foundation.proofs.Runs.{length-tabulate, get_d_tabulate}
use Rattle.polynomials.proofs.Division.{divide-xor, divide-zero, times_small}
use Rattle.polynomials.proofs.Check.{times_times}
use Rattle.folds.specs.Folds.{message_generator, message_table, looked}

abbrev entry : ℕ → ℕ
entry i = divide 32 message_generator (i % 16) zeros (32 + 4 * (i / 16))

-- four bits of x, from 4 k on
abbrev four : ℕ → ℕ → ℕ
four k x = x / 2 ^ (4 * k) % 16

-- the entries of a table for the first m fours of x, added
unfoldable pub looked_first : List ℕ → ℕ → ℕ → ℕ
looked_first t x zero = 0
looked_first t x (suc m) = bit_xor (looked_first t x m) (get_or t (16 * m + four m x) 0)

pub looked_none : (t : List ℕ) (x : ℕ) → 0 ≡ looked_first t x 0
unfolding looked_first
looked_none t x = refl

pub looked_more : (t : List ℕ) (x m s : ℕ) → s ≡ looked_first t x m → bit_xor s (get_or t (16 * m + four m x) 0) ≡ looked_first t x (m + 1)
unfolding looked_first
looked_more t x m s e = rw (e, add-one m) refl

pub looked_eight : (t : List ℕ) (x : ℕ) → looked_first t x 8 ≡ looked t x
unfolding looked looked_first
looked_eight t x = rw (place, xor_zero_l (get_or t (x % 16) 0)) refl
  where
    place : 16 * 0 + four 0 x ≡ x % 16
    place = omega arith

-- the entries for the first m fours of x
abbrev gathered : ℕ → ℕ → ℕ
gathered zero x = 0
gathered (suc m) x = bit_xor (gathered m x) (divide 32 message_generator (four m x) zeros (32 + 4 * m))

gathered_is : (x m : ℕ) → m ≤ 8 → gathered m x ≡ divide 32 message_generator (x % 2 ^ (4 * m)) zeros 32
gathered_is x zero h = sym (ap (λ (y : ℕ). divide 32 message_generator y zeros 32) (mod-one x) ∙ divide-zero 32 message_generator 32)
gathered_is x (suc m) h =
    ap₂ bit_xor (gathered_is x m (omega arith)) last
    ∙ xor_comm (divide 32 message_generator (x % 2 ^ (4 * m)) zeros 32) (divide 32 message_generator (four m x * 2 ^ (4 * m)) zeros 32)
    ∙ sym (divide-xor 32 message_generator (four m x * 2 ^ (4 * m)) (x % 2 ^ (4 * m)) zeros zeros 32)
    ∙ ap (λ (y : ℕ). divide 32 message_generator y zeros 32)
    (xor_shifted (four m x) (4 * m) (x % 2 ^ (4 * m)) (mod-lt x (pow_pos (4 * m))) ∙ sym (mod-pow-add x 4 (4 * m)) ∙ ap (λ (e : ℕ). x % 2 ^ e) more)
  where
    more : 4 + 4 * m ≡ 4 * suc m
    more = omega arith

    order : 32 + 4 * m ≡ 4 * m + 32
    order = omega arith

    small : four m x < 2 ^ 4
    small = omega arith

    fits : four m x * 2 ^ (4 * m) < 2 ^ 32
    fits = omega (arith, shl_lt 4 (4 * m) small, pow_mono {i = 4 + 4 * m} {j = 32} (omega arith))

    last : divide 32 message_generator (four m x) zeros (32 + 4 * m) ≡ divide 32 message_generator (four m x * 2 ^ (4 * m)) zeros 32
    last =
        ap (divide 32 message_generator (four m x) zeros) order ∙ sym (times_times 32 message_generator (four m x) (4 * m) 32)
        ∙ ap (λ (y : ℕ). divide 32 message_generator y zeros 32) (times_small 32 message_generator (four m x) (4 * m) fits)

at : (k v : ℕ) → k < 8 → v < 16 → get_or message_table (16 * k + v) 0 ≡ divide 32 message_generator v zeros (32 + 4 * k)
unfolding message_table
at k v hk hv =
    get_d_tabulate 128 entry (16 * k + v) 0 (omega arith)
    ∙ ap₂ (λ (x y : ℕ). divide 32 message_generator x zeros (32 + 4 * y)) low high
  where
    low : (16 * k + v) % 16 ≡ v
    low = omega arith

    high : (16 * k + v) / 16 ≡ k
    high = omega arith

table_looked : (x : ℕ) → x < 2 ^ 32 → looked message_table x ≡ divide 32 message_generator x zeros 32
unfolding looked
table_looked x h =
    ap₂ bit_xor (ap₂ bit_xor (ap₂ bit_xor (ap₂ bit_xor (ap₂ bit_xor (ap₂ bit_xor (ap₂ bit_xor first (one 1 (omega arith))) (one 2 (omega arith))) (one 3 (omega arith)))
    (one 4 (omega arith))) (one 5 (omega arith))) (one 6 (omega arith))) (one 7 (omega arith))
    ∙ gathered_is x 8 (omega arith) ∙ ap (λ (y : ℕ). divide 32 message_generator y zeros 32) (mod-eq_of_lt h)
  where
    one : (k : ℕ) → k < 8 → get_or message_table (16 * k + four k x) 0 ≡ divide 32 message_generator (four k x) zeros (32 + 4 * k)
    one k l = at k (four k x) l (omega arith)

    place : x % 16 ≡ 16 * 0 + four 0 x
    place = omega arith

    first : get_or message_table (x % 16) 0 ≡ bit_xor 0 (divide 32 message_generator (four 0 x) zeros (32 + 4 * 0))
    first = ap (λ (i : ℕ). get_or message_table i 0) place ∙ one 0 (omega arith) ∙ sym (xor_zero_l (divide 32 message_generator (four 0 x) zeros (32 + 4 * 0)))

pub table_length : length message_table ≡ 128
unfolding message_table
table_length = length-tabulate 128 entry

-- x times x^32, as the code looks it up
pub message_times : (t : List ℕ) (x : ℕ) → t ≡ message_table → x < 2 ^ 32 → cond (eqb (length t) 128) (looked t x) 0 ≡ divide 32 message_generator x zeros 32
message_times t x e h =
    ap (λ (l : List ℕ). cond (eqb (length l) 128) (looked l x) 0) e
    ∙ ap (λ (b : Bool). cond b (looked message_table x) 0) (eq-eqb (length message_table) 128 table_length) ∙ table_looked x h
