-- `datagrams::write` meets its contract.
-- Assumes nothing.
use Rattle.std.proofs.Common.{ℕ, List, ◌++◌, sym, ap, ◌∙◌, arith, w8, rules}
use borrow.Author.Rules.{elem_Fits}
use Rattle.std.proofs.lemmas.Result.{err_from_is_err_and}
use Rattle.foundation.specs.Refusals.{refusal, outcome}
use Rattle.datagrams.specs.Datagrams.{datagram_octets_given}
use Rattle.datagrams.proofs.AnswerBack.{given_back}
use Rattle.datagrams.proofs.DatagramWriting.{write_unfit, burst_refused, given_type, burst_given}
use Rattle.datagrams.proofs.write.Goals as goal

pub returns-then-not-labels_fit-clause-gives : goal.returns-then-not-labels_fit-clause-gives
unfolding datagram_octets_given outcome refusal
returns-then-not-labels_fit-clause-gives c =
    let a = c.args in
    ap datagram_octets_given (write_unfit a.labels a.colour a.datatype a.info a.sync (sym c.labels_fit.ensures ∙ c.if-not-labels_fit.true))

pub returns-in_err-burst-clause-gives : goal.returns-in_err-burst-clause-gives
returns-in_err-burst-clause-gives c =
    let a = c.args in
    let p = err_from_is_err_and c.from_residual.result c.from_residual.ensures.1 in
    rw (p.1, p.2) (burst_refused a.labels a.colour a.datatype a.info a.sync (sym c.labels_fit.ensures ∙ c.if-not-labels_fit.false) _ (sym c.write.ensures.gives ∙ c.in_err-burst.was))

pub label_octets-head-requires : goal.label_octets-head-requires
label_octets-head-requires c =
    let a = c.args in
    let fit = sym c.labels_fit.ensures ∙ c.if-not-labels_fit.false in
    (fit, given_type a.labels a.colour a.datatype a.info a.sync fit _ (sym c.write.ensures.gives ∙ c.in_ok-burst.was))

pub returns-clause-gives : goal.returns-clause-gives
returns-clause-gives c =
    let a = c.args in
    burst_given a.labels a.colour a.datatype a.info a.sync (sym c.labels_fit.ensures ∙ c.if-not-labels_fit.false) _ (sym c.write.ensures.gives ∙ c.in_ok-burst.was)
    _ (c.joined.ensures (search (rules, c.well_formed, c.label_octets-head.ensures)) ∙ ap (λ (x : List ℕ). x ++ c.in_ok-burst.burst) c.label_octets-head.ensures)

pub returns-clause-comes_back : goal.returns-clause-comes_back
returns-clause-comes_back c =
    let a = c.args in
    let g = c.well_formed in
    given_back a.labels a.colour a.datatype a.info a.sync (omega (arith, g)) (omega (arith, g)) (omega (arith, g)) (search (rules, g)) (λ j. (elem_Fits w8 w8 a.info _ j g.1.1.1.0.1.1 tt).fits)
    _
    (burst_given a.labels a.colour a.datatype a.info a.sync (sym c.labels_fit.ensures ∙ c.if-not-labels_fit.false) _ (sym c.write.ensures.gives ∙ c.in_ok-burst.was)
    _ (c.joined.ensures (search (rules, c.well_formed, c.label_octets-head.ensures)) ∙ ap (λ (x : List ℕ). x ++ c.in_ok-burst.burst) c.label_octets-head.ensures))
