-- `history::sending::loop_back` meets its contract.
-- Assumes nothing.
use mathlib.Core.Path.{◌≡◌, refl, sym, ap, subst, ◌∙◌}
use mathlib.Core.List.{List}
use native.Mathlib.Omega.{arith}
use Prim.Native.Nat.{ℕ, ◌<◌}
use lib.ListN.{length}
use Rattle.std.specs.Prelude.{Ok, Err}
use Rattle.std.proofs.lemmas.Result.{err_from_is_err_and}
use Rattle.foundation.specs.Refusals.{refusal, refusal_number}
use Rattle.foundation.specs.declared.refusal.Refusal.{Refusal}
use Rattle.foundation.proofs.Refusals.{ok_zero, ok_same, err_number}
use Rattle.packets.specs.Headers.{header_octets_given}
use Rattle.packets.specs.Blocks.{BlockOctets, block_octets_given}
use Rattle.messages.specs.Messages.{blocks_of, full_header, write_message_block}
use Rattle.messages.specs.declared.message.Delivery.{Delivery}
use Rattle.messages.proofs.MessageClaims.{messages}
use Rattle.messages.proofs.MessageParts.{too_long, blocks-given, full-16}
use Rattle.receiver.specs.Events.{Refused, told, step_told, on_header, on_block}
use Rattle.history.specs.Sending.{LoopsBack}
use Rattle.history.proofs.Claims.{claims}
use Rattle.history.proofs.LoopingBack.{header-taken, other_store, no_header, loops_back, looping_none, looping_more}
use Rattle.history.proofs.sending.loop_back.Goals as goal

written : (n : ℕ) (d : Delivery) (os : List ℕ) → header_octets_given (full_header n d) ≡ Ok os → (full_header n d).number ≡ 0
unfolding header_octets_given
written n d os e = ok_zero _ _ os e

octets : (n : ℕ) (d : Delivery) (os : List ℕ) → header_octets_given (full_header n d) ≡ Ok os → (full_header n d).octets ≡ os
unfolding header_octets_given
octets n d os e = ok_same _ _ os e

-- a header that is refused is refused with 16
refused : (n : ℕ) (d : Delivery) (r : Refusal) → header_octets_given (full_header n d) ≡ Err r → ((full_header n d).number ≡ 0 → ⊥) × (16 ≡ refusal_number r)
unfolding header_octets_given refusal refusal_number
refused n d r e = (err_number _ _ r e, ap refusal_number (sym (full-16 n d r e)))

block-octets : (m : List ℕ) (n : ℕ) (os : List ℕ) → block_octets_given (write_message_block m n) ≡ Ok os → (write_message_block m n).octets ≡ os
unfolding block_octets_given
block-octets m n os e = ok_same _ _ os e

-- each block that there is is written
never_refused : (m : List ℕ) (n : ℕ) (r : Refusal) → length m < 627 → n < blocks_of (length m) → block_octets_given (write_message_block m n) ≡ Err r → ⊥
unfolding block_octets_given
never_refused m n r short some e = err_number _ _ r e (ap (λ (w : BlockOctets). w.number) (messages.block_written m n (omega arith) some))

pub returns-then-store-ne-STORE : goal.returns-then-store-ne-STORE
unfolding refusal_number
returns-then-store-ne-STORE c =
    let a = c.args in
    (other_store a.message.now a.d a.store.now c.if-store-ne-STORE.true, claims.delivered a.message.now a.d)

pub returns-in_err-header : goal.returns-in_err-header
returns-in_err-header c =
    let p = err_from_is_err_and c.from_residual.result c.from_residual.ensures.1 in
    let a = c.args in
    let e = refused (length a.message.now) a.d _ (sym c.full_header.ensures ∙ c.in_err-header.was) in
    rw (p.1, p.2) (
      subst (λ (n : ℕ). LoopsBack a.message.now a.d a.store.now (Refused n) a.store.now) e.1 (no_header a.message.now a.d a.store.now c.if-store-ne-STORE.false e.0),
      claims.delivered a.message.now a.d,
    )

pub returns-in_err-size : goal.returns-in_err-size
returns-in_err-size c =
    let a = c.args in
    let n = length a.message.now in
    let t = header-taken n a.d (written n a.d _ (sym c.full_header.ensures ∙ c.in_ok-header.was)) in
    let long = too_long n _ (sym c.size_of.ensures ∙ c.in_err-size.was) in
    absurd (omega (arith, t.short, long))

pub loop-n-init : goal.loop-n-init
loop-n-init c =
    let a = c.args in
    let n = length a.message.now in
    let e = sym c.full_header.ensures ∙ c.in_ok-header.was in
    let f = c.idle-fresh in
    let r = c.on_header-opened in
    let t = header-taken n a.d (written n a.d _ e) in
    looping_none a.message.now a.d a.store.now c.if-store-ne-STORE.false t f.result (full_header n a.d) (step_told r.result) f.ensures refl
    (r.ensures.0 ∙ ap (on_header f.result) (sym (octets n a.d _ e)))

pub returns-in_err-block : goal.returns-in_err-block
returns-in_err-block c =
    let l = c.loop-n in
    let m = c.args.message.now in
    let blocks = blocks-given (length m) _ (sym c.size_of.ensures ∙ c.in_ok-size.was) in
    absurd (never_refused m l.n _ (omega (arith, l.invariant.short)) (omega (arith, c.loop-n-test.true, blocks)) (sym c.block.ensures ∙ c.in_err-block.was))

pub loop-n-preserved : goal.loop-n-preserved
loop-n-preserved c =
    let l = c.loop-n in
    let m = c.args.message.now in
    let r = c.on_block-step in
    let blocks = blocks-given (length m) _ (sym c.size_of.ensures ∙ c.in_ok-size.was) in
    let os = sym (block-octets m l.n _ (sym c.block.ensures ∙ c.in_ok-block.was)) in
    looping_more m _ l.n l.rx l.store (told l.last) l.invariant (omega (arith, c.loop-n-test.true, blocks))
    (write_message_block m l.n) (step_told r.result) _ refl
    (r.ensures.0 ∙ ap (λ (b : List ℕ). (on_block l.rx l.store b).step) os)
    (r.ensures.1 ∙ ap (λ (b : List ℕ). (on_block l.rx l.store b).store) os)

pub returns : goal.returns
returns c =
    let a = c.args in
    let n = length a.message.now in
    let l = c.loop-n in
    let blocks = blocks-given n _ (sym c.size_of.ensures ∙ c.in_ok-size.was) in (
      loops_back a.message.now a.d a.store.now (written n a.d _ (sym c.full_header.ensures ∙ c.in_ok-header.was)) _ _ _ _ l.invariant
          (omega (arith, c.loop-n-test.false, l.invariant.most, blocks)),
      claims.delivered a.message.now a.d,
    )
