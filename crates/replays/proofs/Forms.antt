-- What a receiver that follows a history saves is the history's stored form.
-- Assumes nothing.
use mathlib.Core.Path.{◌≡◌, refl, sym, ap, ap₂, ◌∙◌}
use mathlib.Core.Bool.{Bool, true, false, cond}
use mathlib.Core.List.{List, ◌∷◌}
use Prim.Native.Nat.{ℕ, zero, suc, ◌+◌, ◌*◌, ◌/◌, ◌%◌}
use native.Mathlib.Omega.{arith}
use lib.ListN.{get_or}
use Rattle.addresses.specs.declared.RadioAddress.{RadioAddress}
use Rattle.messages.specs.Messages.{block_size}
use Rattle.transactions.specs.Flags.{flagged, flag_octets}
use Rattle.transactions.specs.declared.header.Transaction.{Transaction}
use Rattle.transactions.proofs.FlagOctets.{octets_of_flags}
use Rattle.receiver.proofs.StoreBlocks.{get_d_at}
use Rattle.stored.specs.Stored.{first_part, held_octets, body0, body1, stored_form, saved}
use Rattle.history.specs.History.{History, holds, held_data}
use Rattle.history.specs.Run.{State, saved_form}
use Rattle.replays.specs.Rule.{history_form}
use Rattle.history.proofs.Follows.{Follows, held_is}

-- octets that are equal where they are held
module _ (f : ℕ → Bool) (octet other : ℕ → ℕ) (same : (i : ℕ) → f (i / block_size) ≡ true → octet i ≡ other i) where
  one : (t : Bool) (x y : ℕ) → (t ≡ true → x ≡ y) → cond t x 0 ≡ cond t y 0
  one true x y h = h refl
  one false x y h = refl

  held_ext : (at n : ℕ) → held_octets f octet at n ≡ held_octets f other at n
  unfolding held_octets
  held_ext at zero = refl
  held_ext at (suc n) = ap₂ ◌∷◌ (one (f (at / block_size)) (octet at) (other at) (same at)) (held_ext (suc at) n)

form_ext : (own : RadioAddress) (phase : ℕ) (t : Transaction) (flags : List ℕ) (octet other : ℕ → ℕ) (s0 s1 : ℕ)
    → ((i : ℕ) → flagged flags (i / block_size) ≡ true → octet i ≡ other i) → stored_form own phase t flags octet s0 s1 ≡ stored_form own phase t flags other s0 s1
unfolding stored_form body0 body1
form_ext own phase t flags octet other s0 s1 same =
    rw (held_ext (flagged flags) octet other same 0, held_ext (flagged flags) octet other same first_part)

module _ (own : RadioAddress) (s : State) (p : History) (m : Follows own s p) where
  flags_are : flag_octets (holds p.kept) ≡ s.receiver.flags.octets
  flags_are = ap flag_octets (sym (held_is own s p m)) ∙ octets_of_flags s.receiver.flags.octets m.places m.flag_octets_lem

  octet_is : (i : ℕ) → flagged s.receiver.flags.octets (i / block_size) ≡ true → get_or s.store i 0 ≡ get_or (held_data p.kept (i / block_size)) (i % block_size) 0
  octet_is i t =
      let k : block_size * (i / block_size) + i % block_size ≡ i = omega arith in
      ap (λ (j : ℕ). get_or s.store j 0) (sym k) ∙ sym (get_d_at s.store (i / block_size) (i % block_size) (omega arith))
      ∙ ap (λ (os : List ℕ). get_or os (i % block_size) 0) (m.agrees.octets (i / block_size) (sym (m.agrees.flags (i / block_size)) ∙ t))

  pub form_is : (s0 s1 : ℕ) → saved_form s s0 s1 ≡ history_form own p s0 s1
  unfolding saved_form saved history_form
  form_is s0 s1 =
      rw (flags_are, m.agrees.address, m.agrees.phase, m.agrees.transaction)
      (form_ext own p.phase p.transaction s.receiver.flags.octets (λ i. get_or s.store i 0)
      (λ i. get_or (held_data p.kept (i / block_size)) (i % block_size) 0) s0 s1 octet_is)
