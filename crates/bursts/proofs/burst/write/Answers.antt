-- `bursts::burst::write` meets its contract: what the writer answers, and that it comes back.
-- Assumes nothing.
use mathlib.Core.Path.{sym, ap, subst, ◌∙◌}
use mathlib.Core.Bool.{false, true}
use mathlib.Core.List.{List}
use Prim.Native.Nat.{ℕ}
use mir.Syntax.{w8}
use borrow.Author.Rules.{rules, elem_Fits}
use Rattle.foundation.specs.Refusals.{refusal, outcome}
use Rattle.bursts.specs.Bursts.{BurstOctets, burst_octets_given}
use Rattle.bursts.specs.BurstClaims.{BurstComesBack}
use Rattle.bursts.proofs.Variants.{known_by}
use Rattle.bursts.proofs.DataTypes.{known-lt}
use Rattle.bursts.proofs.Numbers.{write_wide, write_other, write_good}
use Rattle.bursts.proofs.ReadingBack.{comes_back}
use Rattle.bursts.proofs.burst.write.Goals.{then-colour-ge16-via-then-colour-ge16, then-colour-ge16-via-else-colour-ge16+then-eq}
use Rattle.bursts.proofs.burst.write.Goals as goal

pub returns-then-colour-ge16-clause-gives : goal.returns-then-colour-ge16-clause-gives
unfolding burst_octets_given outcome refusal
returns-then-colour-ge16-clause-gives c =
    let a = c.args in
    elim c.then-colour-ge16.branch [
      | then-colour-ge16-via-then-colour-ge16 w ↦ ap burst_octets_given (write_wide a.colour a.datatype a.info a.sync w.if-colour-ge16.true)
      | then-colour-ge16-via-else-colour-ge16+then-eq w ↦
          ap burst_octets_given (write_other a.colour a.datatype a.info a.sync w.if-colour-ge16.false
          (known_by a.datatype w.from.result true w.from.ensures (sym w.eq.ensures ∙ w.if-eq.true)))
    ]

pub written-requires : goal.written-requires
written-requires c =
    let t = c.args.datatype in
    (c.if-colour-ge16.false, known-lt t (known_by t c.from.result false c.from.ensures (sym c.eq.ensures ∙ c.if-eq.false)))

pub returns-clause-gives : goal.returns-clause-gives
unfolding burst_octets_given outcome
returns-clause-gives c =
    let a = c.args in
    let made : List ℕ → BurstOctets = λ os. record { number = 0; octets = os } in
    ap burst_octets_given (ap made c.written.ensures
    ∙ write_good a.colour a.datatype a.info a.sync c.if-colour-ge16.false (known_by a.datatype c.from.result false c.from.ensures (sym c.eq.ensures ∙ c.if-eq.false)))

pub returns-clause-comes_back : goal.returns-clause-comes_back
returns-clause-comes_back c =
    let a = c.args in
    let g = c.well_formed in
    subst (λ (os : List ℕ). BurstComesBack a.colour a.datatype a.info os) (sym c.written.ensures)
    (comes_back a.colour a.datatype a.info a.sync c.if-colour-ge16.false (known_by a.datatype c.from.result false c.from.ensures (sym c.eq.ensures ∙ c.if-eq.false))
    (search (rules, g)) (λ j. (elem_Fits w8 w8 a.info _ j g.1.1.0.1.1 tt).fits))
