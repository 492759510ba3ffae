-- `transactions::flags::Flags::with` meets its contract.
-- Assumes nothing.
use mathlib.Core.Path.{sym, ap, ◌∙◌}
use mathlib.Core.List.{List}
use Prim.Native.Nat.{ℕ, ◌/◌}
use native.Mathlib.Omega.{arith}
use mir.Syntax.{w8}
use mir.Val.{Fits}
use lib.ListN.{get_or}
use borrow.Author.Rules.{rules}
use Rattle.transactions.specs.declared.flags.Flags.{Flags}
use Rattle.transactions.proofs.FlagOctets.{past_with, held_with, more_with, room_with}
use Rattle.transactions.proofs.flags.Flags.with.Goals as goal
use Rattle.transactions.proofs.flags.Flags.with.Goals.{then-n-ge-FLAGS-via-then-n-ge-FLAGS, then-n-ge-FLAGS-via-else-n-ge-FLAGS+then-is_set}

abbrev flags_of : List ℕ → Flags
flags_of os = record { octets = os }

pub returns-then-n-ge-FLAGS : goal.returns-then-n-ge-FLAGS
returns-then-n-ge-FLAGS c =
    let a = c.args in
    elim c.then-n-ge-FLAGS.branch [
      | then-n-ge-FLAGS-via-then-n-ge-FLAGS w ↦ let l = w.if-n-ge-FLAGS.true in ap flags_of (sym (past_with a.self.octets a.n (omega arith)))
      | then-n-ge-FLAGS-via-else-n-ge-FLAGS+then-is_set w ↦ ap flags_of (sym (held_with a.self.octets a.n (sym w.is_set.ensures ∙ w.if-is_set.true)))
    ]

pub overflow_add-next : goal.overflow_add-next
overflow_add-next c =
    let a = c.args in
    let octet : Fits w8 (get_or a.self.octets (a.n / 8) 0) = search (rules, c.well_formed) in
    record { fits = room_with a.self.octets a.n octet.fits (sym c.is_set.ensures ∙ c.if-is_set.false) }

pub returns : goal.returns
returns c = let a = c.args in ap flags_of (more_with a.self.octets a.n (sym c.is_set.ensures ∙ c.if-is_set.false))
