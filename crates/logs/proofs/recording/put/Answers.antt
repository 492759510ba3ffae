-- `logs::recording::put` meets its contract.
-- Assumes nothing.
use mathlib.Core.Path.{◌≡◌, ap, ◌∙◌}
use Prim.Native.Nat.{ℕ}
use native.Mathlib.Omega.{arith}
use borrow.Author.Rules.{rules}
use lib.ListN.{length}
use Rattle.logs.specs.Log.{line_size, line_octets}
use Rattle.foundation.proofs.OctetWords.{two_octets}
use Rattle.logs.proofs.Lines.{line-written}
use Rattle.logs.proofs.recording.put.Goals as goal

pub returns : goal.returns
returns c =
    let st = c.args in
    let l : length st.line.now ≡ line_size = search (rules, c.well_formed) in
    let two = two_octets _ (length st.contents.now) (omega (arith, c.requires)) c.to_be_bytes.ensures in
    line-written _ st.contents.now c.requires st.line.now _ _ _ l (rw two at c.put.ensures) c.put-2.ensures c.put-3.ensures
    ∙ ap (λ (k : ℕ). line_octets k st.contents.now) c.number.ensures.gives
