-- `Kind::from` meets its contract.
-- Assumes nothing.
use native.Mathlib.Omega.{arith}
use Rattle.bursts.proofs.DataTypes.{kind-header, kind-block, kind_other}
use Rattle.bursts.proofs.burst.KindFromU8.from.Goals as goal

pub returns-in-6 : goal.returns-in-6
returns-in-6 c = kind-header c.args.datatype c.in-6.is

pub returns-in-7 : goal.returns-in-7
returns-in-7 c = kind-block c.args.datatype c.in-7.is

pub returns-in_default : goal.returns-in_default
returns-in_default c = kind_other c.args.datatype (λ e. omega arith) (λ e. omega arith)
