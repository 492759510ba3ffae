-- `replay::report` meets its contract.
-- Assumes nothing.
use Rattle.std.proofs.Common.{List, ℕ, arith}
use Rattle.std.proofs.lemmas.Result.{on_ok_weaker}
use Rattle.std.specs.Io.KnownBytes.{Appends}
use Rattle.inputs.proofs.Known.{first_and_rest}
use Rattle.replay.specs.Reports.{report_of}
use Rattle.replay.proofs.report.Goals as goal

pub returns : goal.returns
returns g c =
    let a = c.args in
    let f = c.fill in
    let s = c.in_ok-size in
    on_ok_weaker c.run.result (first_and_rest 3 (λ (own os : List ℕ). Appends (g.W.Write.contents a.to.now) (g.W.Write.contents c.run.new.to) (report_of own os))
    (g.R.Read.remaining a.from.now) (g.R.Read.remaining f.new.reader) f.new.octets s.size (omega arith) (omega (arith, s.ensures.inside)) s.ensures.taken
    (λ h. s.ensures.ended (omega (arith, h)))) c.run.ensures.known
