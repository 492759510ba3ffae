-- A refused event changes nothing.
-- Assumes nothing.
use mathlib.Core.Path.{◌≡◌, refl}
use mathlib.Core.List.{List}
use Prim.Native.Nat.{ℕ}
use Rattle.transactions.specs.Answers.{refused}
use Rattle.receiver.specs.Events.{Answer, Refused, Opened, Repeat, Stored, Bad, Message, BlockLeft, said, on_header, on_block}
use Rattle.receiver.proofs.Claims.{claims}
use Rattle.history.specs.History.{Event, header, block, ended}
use Rattle.history.specs.Run.{State, after_event, answer_to}

-- only a refusal says that it is one
said-refused : (a : Answer) (store : List ℕ) (n : ℕ) → said a store ≡ refused n → a ≡ Refused n
unfolding said
said-refused (Refused k) store n e = cc
said-refused Opened store n e = cc
said-refused Repeat store n e = cc
said-refused Stored store n e = cc
said-refused Bad store n e = cc
said-refused (Message k) store n e = cc

pub refused_changes_nothing : (s : State) (e : Event) (n : ℕ) → answer_to s e ≡ refused n → after_event s e ≡ s
unfolding answer_to after_event
refused_changes_nothing s (header h) n e =
    let r = claims.header_refused s.receiver h n (said-refused (on_header s.receiver h).answer s.store n e) in
    λ i. record { receiver = r i; store = s.store }
refused_changes_nothing s (block b) n e =
    let x : BlockLeft = on_block s.receiver s.store b in
    let r = claims.block_refused s.receiver s.store b n (said-refused x.step.answer x.store n e) in
    λ i. record { receiver = r.0 i; store = r.1 i }
refused_changes_nothing s ended n e = refl
