-- `logs::recording::put_response` meets its contract.
-- Assumes nothing.
use mathlib.Core.Path.{◌≡◌, sym, ap, ◌∙◌}
use mathlib.Core.List.{List, [], append-nil}
use Prim.Native.Nat.{ℕ}
use Rattle.std.specs.Prelude.{Option}
use Rattle.transactions.specs.Answers.{Said, response, block_said, given_said}
use Rattle.logs.specs.Numbers.{code_number}
use Rattle.logs.specs.Log.{answer, code_of, contents_of, line_octets, line_in}
use Rattle.logs.proofs.recording.put_response.Goals as goal

pub returns-in-None : goal.returns-in-None
unfolding line_in code_of contents_of code_number given_said block_said
returns-in-None c =
    let r = c.in-Ok.r in
    let said : given_said c.args.given ≡ response r.header [] = ap given_said c.in-Ok.is ∙ ap (λ (b : Option (List ℕ)). response r.header (block_said b)) c.in-None.is in
    c.put.ensures ∙ ap (λ (os : List ℕ). line_octets 6 os) (sym (append-nil r.header)) ∙ sym (ap (λ (s : Said). line_in (answer s)) said)

pub returns-in-Some : goal.returns-in-Some
unfolding line_in code_of contents_of code_number given_said block_said
returns-in-Some c =
    let r = c.in-Ok.r in
    let said : given_said c.args.given ≡ response r.header c.in-Some.block =
    ap given_said c.in-Ok.is ∙ ap (λ (b : Option (List ℕ)). response r.header (block_said b)) c.in-Some.is in
    c.put-in-Some.ensures ∙ ap (λ (os : List ℕ). line_octets 6 os) c.both.ensures ∙ sym (ap (λ (s : Said). line_in (answer s)) said)

pub returns-in-Err : goal.returns-in-Err
unfolding given_said
returns-in-Err c =
    c.put_refusal.ensures ∙ sym (ap (λ (s : Said). line_in (answer s)) (ap given_said c.in-Err.is))
