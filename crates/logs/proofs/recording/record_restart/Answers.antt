-- `logs::recording::record_restart` meets its contract.
-- Assumes nothing.
use mathlib.Core.Path.{◌≡◌, ap, ◌∙◌}
use Prim.Native.Nat.{ℕ, ◌-◌}
use native.Mathlib.Omega.{arith}
use borrow.Author.Rules.{rules}
use Rattle.receiver_state.specs.Receiver.{store_size}
use lib.ListN.{length, drop, replicate, length-drop, length-replicate}
use lib.Seq.{take_all}
use Rattle.foundation.proofs.Copying.{put_all}
use Rattle.history.specs.Run.{saved_form}
use Rattle.logs.specs.Numbers.{code_number}
use Rattle.logs.specs.Log.{code_of, contents_of, line_octets, line_in, line_of}
use Rattle.logs.proofs.OneRecord.{form_of, saves, restart-leaves}
use Rattle.logs.proofs.recording.record_restart.Goals as goal

pub unwrap-requires : goal.unwrap-requires
unwrap-requires c =
    let room : length c.args.store.now ≡ store_size = search (rules, c.well_formed) in
    saves c.args.rx c.args.store.now _ c.requires.0 room (omega arith) _ c.save.ensures.0

pub returns : goal.returns
unfolding saved_form line_of line_in code_of contents_of code_number
returns c =
    let a = c.args in
    let os = a.octets.now in
    let room : length a.store.now ≡ store_size = search (rules, c.well_formed) in
    let form = c.save.ensures.1 ∙ form_of a.rx c.requires.0 a.store.now _ _ _ room (omega arith) in
    let rest = take_all (length os - 2) (drop 2 os) (omega (arith, length-drop 2 os)) in
    let blank = length-replicate {A = ℕ} store_size 0 in
    let other = c.put-2.ensures ∙ put_all (replicate store_size 0) _ (ap length rest ∙ length-drop 2 os ∙ omega (arith, blank, c.requires.1)) ∙ rest in
    let r = c.restore.ensures in
    let left = restart-leaves a.rx a.store.now os _ _ _ c.idle-fresh.ensures form other _ r.0 in
    (c.unwrap_or-receiver.ensures ∙ left.0, r.1 ∙ left.1, c.put.ensures ∙ ap (line_octets 7) form)
