-- `history::sending::loop_back` meets its contract: after each block the receiver follows the history of the blocks given so far.
-- Assumes nothing.
use Rattle.receiver.specs.Events.{told}
use Rattle.history.proofs.LoopingBack.{Looping}
use Rattle.history.proofs.sending.loop_back.Given as goal

abbrev pub invariant-loop-n : goal.invariant-loop-n
invariant-loop-n l = Looping l.message l.initial.store l.n l.rx l.store (told l.last)
