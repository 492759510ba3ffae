-- `inputs::printing::run` meets its contract: after each turn what was written, and then the text of the rest and of what follows, is the whole
-- text.
-- Assumes nothing.
use Rattle.std.proofs.Common.{◌≤◌, length, refl, ◌∙◌, arith}
use borrow.Author.Tests.{eqb-true}
use Rattle.inputs.proofs.Turns.{underway_over}
use Rattle.inputs.proofs.Known.{between_start, turned, between_read, between_over}
use Rattle.inputs.proofs.printing.run.Goals as goal

pub turns-init : goal.turns-init
turns-init g c =
    let a = c.args in
    (refl, omega arith, between_start g.P.Printer.whole a.printer.now (g.R.Read.remaining a.from.now) (g.W.Write.contents a.to.now))

pub turns-preserved-then-turn-size : goal.turns-preserved-then-turn-size
turns-preserved-then-turn-size g c =
    let a = c.args in
    let l = c.turns in
    let w = c.answer in
    let t =
    turned g.P.Printer.whole a.printer.now (g.R.Read.remaining a.from.now) (g.W.Write.contents a.to.now) l.read l.written l.last l.printer l.input l.size
    (g.R.Read.remaining l.from) (g.W.Write.contents l.to) (g.W.Write.contents w.new.to) l.invariant.2 (omega (arith, l.invariant)) c.in_ok-turn.turn _ _
    c.in_ok-turn.ensures in
    (w.auto.input ∙ l.invariant.0, omega (arith, t.fewer, l.invariant.1), t.between)

pub returns-then-last-clause-counted : goal.returns-then-last-clause-counted
returns-then-last-clause-counted g c =
    let a = c.args in
    let l = c.turns in
    let w = c.answer in
    let t =
    turned g.P.Printer.whole a.printer.now (g.R.Read.remaining a.from.now) (g.W.Write.contents a.to.now) l.read l.written l.last l.printer l.input l.size
    (g.R.Read.remaining l.from) (g.W.Write.contents l.to) (g.W.Write.contents w.new.to) l.invariant.2 (omega (arith, l.invariant)) c.in_ok-turn.turn _ _
    c.in_ok-turn.ensures in
    underway_over g.P.Printer.whole a.printer.now l.read _ l.last w.new.printer w.new.input c.in_ok-turn.turn.kept t.between.0 c.if-last.true
    (t.none c.if-last.true c.if-turn-size.false) _ (omega (arith, c.in_ok-end.ensures.0))

pub returns-then-last-clause-known : goal.returns-then-last-clause-known
returns-then-last-clause-known g c =
    let a = c.args in
    let l = c.turns in
    let w = c.answer in
    let t =
    turned g.P.Printer.whole a.printer.now (g.R.Read.remaining a.from.now) (g.W.Write.contents a.to.now) l.read l.written l.last l.printer l.input l.size
    (g.R.Read.remaining l.from) (g.W.Write.contents l.to) (g.W.Write.contents w.new.to) l.invariant.2 (omega (arith, l.invariant)) c.in_ok-turn.turn _ _
    c.in_ok-turn.ensures in
    between_over g.P.Printer.whole a.printer.now (g.R.Read.remaining a.from.now) (g.W.Write.contents a.to.now) l.read _ l.last w.new.printer w.new.input
    c.in_ok-turn.turn.kept (g.R.Read.remaining l.from) (g.W.Write.contents w.new.to) (g.W.Write.contents c.close.new.to) t.between c.if-last.true
    (t.none c.if-last.true c.if-turn-size.false) c.in_ok-end.ensures.1

pub turns-preserved : goal.turns-preserved
turns-preserved g c =
    let a = c.args in
    let l = c.turns in
    let w = c.answer in
    let t =
    turned g.P.Printer.whole a.printer.now (g.R.Read.remaining a.from.now) (g.W.Write.contents a.to.now) l.read l.written l.last l.printer l.input l.size
    (g.R.Read.remaining l.from) (g.W.Write.contents l.to) (g.W.Write.contents w.new.to) l.invariant.2 (omega (arith, l.invariant)) c.in_ok-turn.turn _ _
    c.in_ok-turn.ensures in
    let r = c.read_behind in
    let m = c.in_ok-more in
    let room = w.auto.input ∙ l.invariant.0 in
    let inside : l.size ≤ length w.new.input = omega (arith, room, l.invariant.1) in (
      r.auto.input ∙ room,
      omega (arith, room, m.ensures.behind.inside inside),
      between_read g.P.Printer.whole a.printer.now (g.R.Read.remaining a.from.now) (g.W.Write.contents a.to.now) w.new.input l.size m.more r.new.input
          m.ensures.behind inside r.auto.input l.read _ l.last _ c.in_ok-turn.turn.kept (g.R.Read.remaining l.from) (g.R.Read.remaining r.new.reader)
          (g.W.Write.contents w.new.to) t.between c.if-last.false (t.all c.if-turn-size.false) m.ensures.taken _ refl
          (λ e. m.ensures.ended (eqb-true m.more l.size e) (omega (arith, t.room c.if-last.false c.if-turn-size.false, room))) _ refl,
    )
