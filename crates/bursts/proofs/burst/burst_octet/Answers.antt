-- `bursts::burst::burst_octet` meets its contract.
-- Assumes nothing.
use Prim.Native.Nat.{◌-◌}
use native.Mathlib.Omega.{arith}
use Rattle.bursts.proofs.Writing.{octet_field, octet_12, octet_13, octet_sync, octet_19, octet_20, octet_field_end}
use Rattle.bursts.proofs.burst.burst_octet.Goals as goal

pub returns-in-0-to-11 : goal.returns-in-0-to-11
returns-in-0-to-11 c =
    let a = c.args in
    octet_field a.f.now a.slot a.sync a.j (omega arith) (omega (arith, c.type_inv.f a.j))

pub returns-in-12 : goal.returns-in-12
returns-in-12 c =
    let a = c.args in
    omega (arith, octet_12 a.f.now a.slot a.sync a.j c.in-12.is, c.type_inv.f 12)

pub returns-in-13 : goal.returns-in-13
returns-in-13 c =
    let a = c.args in
    omega (arith, octet_13 a.f.now a.slot a.sync a.j c.in-13.is)

pub returns-in-14-to-18 : goal.returns-in-14-to-18
returns-in-14-to-18 c =
    let a = c.args in
    omega (arith, octet_sync a.f.now a.slot a.sync a.j (omega arith) (omega arith))

pub returns-in-19 : goal.returns-in-19
returns-in-19 c =
    let a = c.args in
    omega (arith, octet_19 a.f.now a.slot a.sync a.j c.in-19.is)

pub returns-in-20 : goal.returns-in-20
returns-in-20 c =
    let a = c.args in
    omega (arith, octet_20 a.f.now a.slot a.sync a.j c.in-20.is)

pub returns-in_default : goal.returns-in_default
returns-in_default c =
    let a = c.args in
    omega (arith, octet_field_end a.f.now a.slot a.sync a.j (omega arith), c.type_inv.f (a.j - 8))
