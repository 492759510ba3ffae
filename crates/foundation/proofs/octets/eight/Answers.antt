-- `foundation::octets::eight` meets its contract.
-- Assumes nothing.
use mathlib.Core.Path.{◌≡◌, ap, ◌∙◌}
use Prim.Native.Nat.{◌+◌, ◌≤◌}
use native.Mathlib.Omega.{arith}
use lib.ListN.{length, take, drop}
use borrow.Author.Tests.{le-ltb}
use Rattle.std.specs.Int.{w64, from_be_bytes}
use Rattle.std.proofs.Common.{rules, Some}
use Rattle.std.proofs.lemmas.List.{length-drop}
use Rattle.foundation.proofs.OctetLists.{Octets}
use Rattle.foundation.proofs.OctetWords.{eight_read}
use Rattle.foundation.proofs.octets.eight.Goals as goal

pub returns : goal.returns
returns c =
    let os = c.args.octets.now in
    let i = c.args.i in
    let octet : Octets os = λ j. omega (arith, c.type_inv.octets j) in
    let word : c.in_ok-word.word.now ≡ take 8 (drop i os) = search rules in
    let long : i + 8 ≤ length os = omega (arith, ap length c.rest.ensures, length-drop i os, c.in_ok-word.ensures.cases.enough) in
    rw (le-ltb (length os) (i + 8) long) (ap Some (c.from_be_bytes.ensures ∙ ap (from_be_bytes w64) word ∙ eight_read os octet i))
