-- `logs::recording::put_answer` meets its contract.
-- Assumes nothing.
use mathlib.Core.Path.{◌≡◌, sym, ap, ◌∙◌}
use Prim.Native.Nat.{ℕ, min}
use borrow.Author.Rules.{rules}
use lib.ListN.{length, take}
use Rattle.receiver_state.specs.Receiver.{store_size}
use Rattle.std.specs.Prelude.{Ok}
use Rattle.receiver.specs.Events.{said, told}
use Rattle.logs.specs.Numbers.{code_number}
use Rattle.logs.specs.Log.{code_of, contents_of, line_octets, line_in}
use Rattle.logs.proofs.Lines.{said-line}
use Rattle.foundation.proofs.Copying.{take_shorter}
use Rattle.logs.proofs.recording.put_answer.Goals as goal

pub returns-in-Err : goal.returns-in-Err
unfolding said
returns-in-Err c = said-line c.args.store.now _ _ _ (ap told c.in-Err.is) c.put_refusal.ensures

pub returns-in-Ok-Opened : goal.returns-in-Ok-Opened
unfolding line_in code_of contents_of code_number said
returns-in-Ok-Opened c =
    let w = c.in-Ok-Opened in
    said-line c.args.store.now _ _ _ (ap told (w.is ∙ ap Ok (rw w.is at w.field-0-is))) c.put.ensures

pub returns-in-Ok-Repeat : goal.returns-in-Ok-Repeat
unfolding line_in code_of contents_of code_number said
returns-in-Ok-Repeat c =
    let w = c.in-Ok-Repeat in
    said-line c.args.store.now _ _ _ (ap told (w.is ∙ ap Ok (rw w.is at w.field-0-is))) c.put-in-Ok-Repeat.ensures

pub returns-in-Ok-Stored : goal.returns-in-Ok-Stored
unfolding line_in code_of contents_of code_number said
returns-in-Ok-Stored c =
    let w = c.in-Ok-Stored in
    said-line c.args.store.now _ _ _ (ap told (w.is ∙ ap Ok (rw w.is at w.field-0-is))) c.put-in-Ok-Stored.ensures

pub returns-in-Ok-Bad : goal.returns-in-Ok-Bad
unfolding line_in code_of contents_of code_number said
returns-in-Ok-Bad c =
    let w = c.in-Ok-Bad in
    said-line c.args.store.now _ _ _ (ap told (w.is ∙ ap Ok (rw w.is at w.field-0-is))) c.put-in-Ok-Bad.ensures

pub returns-in-Ok-Message : goal.returns-in-Ok-Message
unfolding line_in code_of contents_of code_number said
returns-in-Ok-Message c =
    let store = c.args.store.now in
    let s = c.shorter-end in
    let w = c.in-Ok-Message in
    let l : length store ≡ store_size = search (rules, c.well_formed) in
    said-line store _ _ _ (ap told (w.is ∙ ap Ok (rw w.is at w.field-0-is)))
    (c.put-in-Ok-Message.ensures ∙ ap (line_octets 5) (ap (λ (k : ℕ). take k store) (s.ensures ∙ ap (min c.in-Ok-Message.n) (sym l)) ∙ take_shorter _ store))
