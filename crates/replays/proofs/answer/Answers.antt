-- `replays::answer` meets its contract.
-- Assumes nothing.
use mathlib.Core.Path.{◌≡◌, refl, ap}
use lib.ListN.{length}
use native.Mathlib.Omega.{arith}
use Rattle.transactions.specs.Flags.{flag_octet_count}
use Rattle.logs.specs.Log.{record_of, state_of}
use Rattle.replays.proofs.Text.{line_text_lem}
use Rattle.replays.proofs.Runs.{refused-step, taken_step, store_told}
use borrow.Author.Rules.{rules}
use Rattle.replays.proofs.answer.Goals as goal

pub returns-in-Ok : goal.returns-in-Ok
returns-in-Ok c =
    let a = c.args in
    let s = state_of a.rx a.store.now in
    let r = record_of a.kind a.octets.now in
    let e = c.in-Ok.ensures in
    let eight : length a.rx.flags.octets ≡ flag_octet_count = search (rules, c.well_formed) in
    let told = store_told a.rx a.store.now r _ (omega arith) refl _ _ e.1 e.2 a.out.now a.out.now _ e.0 in
    taken_step a.rx a.store.now r _ (omega arith) refl _ _ e.1 e.2 a.out.now _ _ e.0
    (line_text_lem s r (omega arith) (omega (arith, ap length told)) eight) c.put_line.ensures

pub returns-in-Err : goal.returns-in-Err
returns-in-Err c =
    let a = c.args in
    let e = c.in-Err.ensures in
    refused-step a.rx a.store.now (record_of a.kind a.octets.now) _ (omega arith) refl _ _ e.1 e.2 a.out.now _ _ e.0 _ c.number.ensures c.put_refusal.ensures
