-- Whatever the writer of datagrams answers without a number comes back.
-- Assumes nothing.
use Rattle.std.proofs.Common.{◌≡◌, ℕ, ◌^◌, ◌<◌, ◌≤◌, Bool, true, false, List, length, get_or, sym, refl, ap, ◌∙◌, subst, inl, inr, arith}
use native.Mathlib.Decide.{dec_lt}
use Rattle.bursts.specs.Bursts.{kind_of, known}
use Rattle.bursts.specs.declared.burst.Sync.{Sync}
use Rattle.std.specs.Prelude.{Ok}
use Rattle.foundation.proofs.Refusals.{ok_zero, ok_same}
use Rattle.datagrams.specs.Datagrams.{DatagramOctets, write_datagram, datagram_octets_given}
use Rattle.datagrams.specs.DatagramClaims.{Fits, Outside, DatagramComesBack}
use Rattle.datagrams.specs.declared.Labels.{Labels}
use Rattle.datagrams.proofs.DatagramClaims.{datagrams}

below : (x width : ℕ) → (width ≤ x → ⊥) → x < width
below x width f = go (dec_lt x width)
  where
    go : Dec (x < width) → x < width
    go (yes h) = h
    go (no h) = absurd (f (omega arith))

module _ (l : Labels) (colour type : ℕ) (info : List ℕ) (sync : Sync) (r : DatagramOctets) (is : r ≡ write_datagram l colour type info sync) where
  inside : r.number ≡ 0 → Outside l colour type → ⊥
  inside none o =
      let e : r.number ≡ 16 = ap (λ (x : DatagramOctets). x.number) is ∙ (datagrams.sixteen l colour type info sync).1 o in
      omega arith

  pub answer_back : l.sequence < 256 → l.repeater.0 < 2 ^ 32 → l.stream < 2 ^ 32 → length info ≡ 12 → ((j : ℕ) → get_or info j 0 < 256)
      → (r ≡ write_datagram l colour type info sync) × (r.number ≡ 0 → DatagramComesBack l colour type info r.octets)
  answer_back sequence repeater stream size octets = (is, λ none. go none (known (kind_of type)) refl)
    where
      go : r.number ≡ 0 → (k : Bool) → known (kind_of type) ≡ k → DatagramComesBack l colour type info r.octets
      go none true kind =
          subst (λ (x : DatagramOctets). DatagramComesBack l colour type info x.octets) (sym (is ∙ datagrams.writes l colour type info sync fits small kind))
          (datagrams.comes_back l colour type info sync fits small kind size octets)
        where
          fits : Fits l
          fits = record {
            sequence = sequence;
            source = below _ _ (λ h. inside none (inl h));
            target = below _ _ (λ h. inside none (inr (inl h)));
            repeater = repeater;
            timeslot = below _ _ (λ h. inside none (inr (inr (inl h))));
            call = below _ _ (λ h. inside none (inr (inr (inr (inl h)))));
            stream = stream;
          }

          small : colour < 16
          small = below _ _ (λ h. inside none (inr (inr (inr (inr (inl h))))))
      go none false kind = absurd (inside none (inr (inr (inr (inr (inr kind))))))

module _ (l : Labels) (colour type : ℕ) (info : List ℕ) (sync : Sync) (sequence : l.sequence < 256) (repeater : l.repeater.0 < 2 ^ 32)
    (stream : l.stream < 2 ^ 32) (size : length info ≡ 12) (octet : (j : ℕ) → get_or info j 0 < 256) where
  -- so do the octets that it gives
  pub given_back : (os : List ℕ) → Ok os ≡ datagram_octets_given (write_datagram l colour type info sync) → DatagramComesBack l colour type info os
  unfolding datagram_octets_given
  given_back os e =
      let w = write_datagram l colour type info sync in
      subst (λ (x : List ℕ). DatagramComesBack l colour type info x) (ok_same w.number w.octets os (sym e))
      ((answer_back l colour type info sync w refl sequence repeater stream size octet).1 (ok_zero w.number w.octets os (sym e)))
