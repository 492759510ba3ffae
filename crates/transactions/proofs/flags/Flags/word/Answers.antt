-- `transactions::flags::Flags::word` meets its contract.
-- Assumes nothing.
use mathlib.Core.Path.{◌≡◌, ap, ◌∙◌}
use mathlib.Core.List.{[]}
use Prim.Native.Nat.{ℕ, ◌+◌, ◌*◌, ◌/◌, ◌<◌}
use native.Mathlib.Omega.{arith}
use lib.ListN.{length, get_or}
use borrow.Author.Rules.{rules}
use Rattle.transactions.specs.Flags.{flag_octet_count}
use Rattle.foundation.proofs.Chunks.{chunk_element}
use Rattle.transactions.proofs.FlagWords.{word_read}
use Rattle.transactions.proofs.flags.Flags.word.Goals as goal

pub returns : goal.returns
returns c =
    let os = c.args.self.octets in
    let j = c.args.j in
    let octet : (i : ℕ) → get_or os i 0 < 256 = λ i. search (rules, c.well_formed) in
    let eight : length os ≡ flag_octet_count = search (rules, c.well_formed) in
    c.from_le_bytes.ensures
    ∙ word_read os octet j _ (λ i h.
    let place : 0 + 8 * j + i ≡ 8 * j + i = omega arith in
    chunk_element 8 (length os / 8) 0 os c.as_chunks.result.0.now j [] i c.as_chunks.ensures.front (omega (arith, eight)) h
    ∙ ap (λ (k : ℕ). get_or os k 0) place)
