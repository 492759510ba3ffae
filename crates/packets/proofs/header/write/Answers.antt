-- `packets::header::write` meets its contract.
-- Assumes nothing.
-- what is given, and that it reads back
use mathlib.Core.Path.{◌≡◌, sym, ap, subst, ◌∙◌}
use native.Mathlib.Omega.{arith}
use borrow.Author.Tests.{eqb-true}
use Rattle.foundation.specs.Refusals.{refusal, outcome}
use Rattle.packets.specs.Headers.{HeaderOctets, width_number, header_octets_given}
use Rattle.packets.specs.HeaderClaims.{HeaderReadsBack}
use Rattle.packets.proofs.HeaderClaims.{claims}
use Rattle.packets.proofs.HeaderWriting.{common_within, last_within, format-known, number_wide, written-parts, common_wide, last_wide, all-within}
use Rattle.packets.proofs.header.write.Goals as goal
use Rattle.packets.proofs.header.write.Goals.{then-not-common_fits-via-then-not-common_fits, then-not-common_fits-via-else-not-common_fits+then-not-last_fits}

pub returns-then-not-common_fits : goal.returns-then-not-common_fits
unfolding header_octets_given outcome refusal
returns-then-not-common_fits c =
    let h = c.args.h in
    let s = c.common_of-c.ensures in
    let wide : width_number h ≡ 16 =
    elim c.then-not-common_fits.branch [
      | then-not-common_fits-via-then-not-common_fits w ↦ common_wide h _ s (sym c.common_fits.ensures ∙ w.if-not-common_fits.true)
      | then-not-common_fits-via-else-not-common_fits+then-not-last_fits w ↦
          last_wide h _ s (sym c.common_fits.ensures ∙ w.if-not-common_fits.false) (sym w.last_fits.ensures ∙ w.if-not-last_fits.true)
    ] in
    (ap header_octets_given (number_wide h wide), claims.reads_back h, tt)

pub last_of-requires : goal.last_of-requires
last_of-requires c = last_within c.args.h (eqb-true _ 0 (sym c.last_fits.ensures ∙ c.if-not-last_fits.false))

pub octets_of-requires : goal.octets_of-requires
octets_of-requires c =
    let f = c.format_of.ensures in
    (omega (arith, format-known c.args.h), common_within _ (eqb-true _ 0 (sym c.common_fits.ensures ∙ c.if-not-common_fits.false)))

pub returns : goal.returns
unfolding header_octets_given outcome
returns c =
    let h = c.args.h in
    let s = c.common_of-c.ensures in
    let is =
    written-parts h _ _ _ _ (all-within h _ s (sym c.common_fits.ensures ∙ c.if-not-common_fits.false) (sym c.last_fits.ensures ∙ c.if-not-last_fits.false))
    c.format_of.ensures s c.last_of.ensures c.octets_of.ensures in
    (ap header_octets_given is, claims.reads_back h, subst (λ (w : HeaderOctets). HeaderReadsBack h w) (sym is) (claims.reads_back h))
