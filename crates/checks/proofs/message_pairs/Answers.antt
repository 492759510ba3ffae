-- `checks::message_pairs` meets its contract.
-- Assumes nothing.
use mathlib.Core.Path.{◌≡◌, ap, ◌∙◌}
use mathlib.Core.List.{[]}
use Prim.Native.Nat.{ℕ, ◌+◌, ◌*◌, ◌/◌, ◌%◌, ◌<◌}
use native.Mathlib.Nat.{add-zero}
use native.Mathlib.Omega.{arith}
use lib.Bits.{bit_xor, xor_lt}
use lib.ListN.{length, take, drop, get_or}
use lib.Seq.{length-take-le, get_or-take}
use Rattle.std.specs.Simd.{first_chunks}
use Rattle.foundation.specs.Bits.{zeros}
use Rattle.foundation.proofs.OctetLists.{Octets}
use Rattle.polynomials.specs.Remainder.{divide}
use Rattle.folds.proofs.Tables.{message_times}
use Rattle.checks.specs.Checks.{message_generator}
use Rattle.checks.specs.Parts.{message_so_far}
use Rattle.foundation.proofs.Chunks.{chunk_element}
use Rattle.checks.proofs.MessageChecks.{so_far_lt, so_far_word}
use Rattle.checks.proofs.message_pairs.Goals as goal

pub loop-word-preserved : goal.loop-word-preserved
loop-word-preserved c =
    let os = c.args.octets.now in
    let octet : Octets os = λ j. omega (arith, c.type_inv.octets j) in
    let t = c.loop-word in
    let k = t.word-index in
    let w = c.from_le_bytes in
    let words = c.as_rchunks.ensures in
    let even : ℕ = length os / 2 * 2 in
    let i : ℕ = even % 4 + 4 * k in
    let size : length (take even os) ≡ even = length-take-le even os (omega arith) in
    let below : k < even / 4 = omega (arith, words.back_len) in
    let parts = words.back ∙ ap (λ (z : ℕ). first_chunks 4 (z / 4) (drop (z % 4) (take even os))) size in
    let at = λ (j : ℕ) (h : j < 4). chunk_element 4 (even / 4) (even % 4) (take even os) c.as_rchunks.result.1.now k [] j parts below h ∙ get_or-take even os (i + j) 0 (omega arith) in
    let word : w.result ≡ get_or os (i + 2) 0 + 256 * get_or os (i + 3) 0 + 65536 * get_or os i 0 + 16777216 * get_or os (i + 1) 0 =
    omega (arith, w.ensures, at 0 (omega arith), at 1 (omega arith), at 2 (omega arith), at 3 (omega arith), ap (λ (j : ℕ). get_or os j 0) (add-zero i)) in
    let more : i + 4 ≡ even % 4 + 4 * (k + 1) = omega arith in
    c.times_word-r.ensures ∙ message_times c.table-table.result (bit_xor t.r w.result) c.table-table.ensures (xor_lt 32 t.r w.result (omega (arith, t.invariant, so_far_lt os octet i)) (omega (arith, w.type_inv)))
    ∙ ap (λ (x : ℕ). divide 32 message_generator (bit_xor x w.result) zeros 32) t.invariant
    ∙ so_far_word os octet i w.result (omega arith) (omega arith) word ∙ ap (message_so_far os) more

pub returns : goal.returns
returns c =
    let os = c.args.octets.now in
    let t = c.loop-word in
    let even : ℕ = length os / 2 * 2 in
    let size : length (take even os) ≡ even = length-take-le even os (omega arith) in
    let all : even % 4 + 4 * t.word-index ≡ even = omega (arith, c.as_rchunks.ensures.back_len) in
    t.invariant ∙ ap (message_so_far os) all
