-- `texts::Writer::octets` meets its contract.
-- Assumes nothing.
use mathlib.Core.Path.{◌≡◌, refl, subst}
use mathlib.Core.Logic.{◌≢◌}
use mathlib.Core.List.{List}
use native.Mathlib.Omega.{arith}
use Prim.Native.Nat.{ℕ}
use lib.ListN.{length}
use Rattle.std.proofs.Common.{rules}
use Rattle.texts.specs.Texts.{Writes}
use Rattle.texts.proofs.Writing.{octets-none, octets_inside, octets_outside}
use Rattle.texts.proofs.Writer.octets.Goals as goal

pub returns-then-is_empty : goal.returns-then-is_empty
returns-then-is_empty c =
    let a = c.args in
    let none : length a.octets.now ≡ 0 = search rules in
    subst (λ (os : List ℕ). Writes os a.self.now c.word.new.self) (octets-none a.octets.now none) c.word.ensures

pub returns-then-size-room : goal.returns-then-size-room
returns-then-size-room c =
    let w = c.args.self.now in
    let os = c.args.octets.now in
    let some : length os ≢ 0 = search rules in
    let all = octets_inside os w.text.now w.end some (omega (arith, c.room.ensures, c.if-size-room.true)) c.put_digits.new.text c.put_digits.ensures in
    record { same_memory = refl; text = all.0; end = all.1 }

pub returns-else-size-room : goal.returns-else-size-room
returns-else-size-room c =
    let w = c.args.self.now in
    let os = c.args.octets.now in
    let some : length os ≢ 0 = search rules in
    let none = octets_outside os w.text.now w.end some (omega (arith, c.room.ensures, c.if-size-room.false)) in
    record { same_memory = refl; text = none.0; end = none.1 }
