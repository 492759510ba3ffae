-- `replays::answer_all` meets its contract.
-- Assumes nothing.
use mathlib.Core.Path.{◌≡◌}
use Rattle.logs.specs.Log.{state_of}
use Rattle.replays.proofs.Runs.{Midway}
use Rattle.replays.proofs.answer_all.Given as goal

abbrev pub invariant-loop-i : goal.invariant-loop-i
invariant-loop-i l =
    Midway (state_of l.fn.rx l.initial.store) l.octets l.last l.most l.initial.out l.i l.now.taken (state_of l.now.receiver l.store) l.out
    × (l.now.end ≡ l.out.end)
