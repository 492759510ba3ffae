-- `bursts::burst::sync_bits` meets its contract.
-- Assumes nothing.
use Rattle.bursts.specs.Bursts.{sync_word}
use Rattle.bursts.proofs.burst.sync_bits.Goals as goal

pub returns-in-Base : goal.returns-in-Base
unfolding sync_word
returns-in-Base c = rw c.in-Base.is

pub returns-in-Mobile : goal.returns-in-Mobile
unfolding sync_word
returns-in-Mobile c = rw c.in-Mobile.is
