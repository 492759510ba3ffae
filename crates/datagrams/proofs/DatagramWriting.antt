-- What the writer of datagrams answers, by the widths of the labels and by what the writer of bursts answers.
-- Assumes nothing.
use Rattle.std.proofs.Common.{◌≡◌, ℕ, ◌^◌, ◌<◌, Bool, true, false, ◌&&◌, cond, eqb, ltb, List, ◌++◌, replicate, sym, refl, ap, ◌∙◌, arith, ltb-true}
use Rattle.std.specs.Prelude.{Ok, Err}
use Rattle.foundation.specs.Order.{first_failed}
use Rattle.foundation.specs.Refusals.{outcome}
use Rattle.foundation.specs.declared.refusal.Refusal.{Refusal}
use Rattle.foundation.proofs.Refusals.{ok_zero, ok_same, err_any}
use Rattle.bursts.specs.Bursts.{BurstOctets, burst_octets_given, kind_of, known, burst_part_tests, written_burst, write_burst}
use Rattle.datagrams.specs.Datagrams.{DatagramOctets, datagram_octets_given, label_octets, written_datagram, label_tests, write_number, write_datagram}
use Rattle.datagrams.specs.DatagramParts.{labels_fit}
use Rattle.bursts.specs.declared.burst.Sync.{Sync}
use Rattle.datagrams.specs.declared.Labels.{Labels}
use Rattle.bursts.proofs.DataTypes.{known-lt}

-- colour code and data type that pass their tests
pub parts-known : (colour type : ℕ) → first_failed (burst_part_tests colour type) ≡ 0 → (colour < 16) × (known (kind_of type) ≡ true)
unfolding burst_part_tests first_failed
parts-known colour type h = go (ltb colour 16) (known (kind_of type)) refl refl h
  where
    go : (x y : Bool) → ltb colour 16 ≡ x → known (kind_of type) ≡ y → ◌≡◌ {A = ℕ} (cond x (cond y 0 16) 16) 0 → (colour < 16) × (known (kind_of type) ≡ true)
    go true true p q e = (ltb-true colour 16 p, q)
    go true false p q e = absurd (omega arith)
    go false y p q e = absurd (omega arith)

-- how the code's own and of a test a and of b comes to its value x
pub and_second : (a b x : Bool) → a ≡ true → x ≡ b → x ≡ a && b
and_second a b x p q = q ∙ sym (ap (λ (y : Bool). y && b) p)

pub and_first : (a b x : Bool) → a ≡ false → x ≡ a → x ≡ a && b
and_first a b x p q = q ∙ p ∙ sym (ap (λ (y : Bool). y && b) p)

module _ (l : Labels) where
  -- the widths, in the order of their tests
  pub fits_all : labels_fit l ≡ ltb l.source.0 (2 ^ 24) && ltb l.target.0 (2 ^ 24) && ltb l.timeslot 2 && ltb l.call 2
  unfolding labels_fit label_tests first_failed
  fits_all = go (ltb l.source.0 (2 ^ 24)) (ltb l.target.0 (2 ^ 24)) (ltb l.timeslot 2) (ltb l.call 2)
    where
      go : (a b x y : Bool) → eqb (cond a (cond b (cond x (cond y 0 16) 16) 16) 16) 0 ≡ a && b && x && y
      go true true true true = refl
      go true true true false = refl
      go true true false y = refl
      go true false x y = refl
      go false b x y = refl

  -- u and v are the tests that the code has behind it
  pub fits_by : (u v : Bool) → u ≡ ltb l.source.0 (2 ^ 24) && ltb l.target.0 (2 ^ 24) → v ≡ u && ltb l.timeslot 2 → labels_fit l ≡ v && ltb l.call 2
  fits_by u v p q = fits_all ∙ sym (ap (λ (z : Bool). z && ltb l.call 2) (q ∙ ap (λ (z : Bool). z && ltb l.timeslot 2) p))

  -- timeslot and call type of labels that fit are bits
  pub fit_bits : labels_fit l ≡ true → (l.timeslot < 2) × (l.call < 2)
  unfolding labels_fit label_tests first_failed
  fit_bits h = go (ltb l.source.0 (2 ^ 24)) (ltb l.target.0 (2 ^ 24)) (ltb l.timeslot 2) (ltb l.call 2) refl refl h
    where
      go : (a b x y : Bool) → ltb l.timeslot 2 ≡ x → ltb l.call 2 ≡ y → eqb (cond a (cond b (cond x (cond y 0 16) 16) 16) 16) 0 ≡ true
          → (l.timeslot < 2) × (l.call < 2)
      go true true true true p q e = (ltb-true l.timeslot 2 p, ltb-true l.call 2 q)
      go true true true false p q e = absurd (let z : ◌≡◌ {A = ℕ} 0 1 = cc in omega arith)
      go true true false y p q e = absurd (let z : ◌≡◌ {A = ℕ} 0 1 = cc in omega arith)
      go true false x y p q e = absurd (let z : ◌≡◌ {A = ℕ} 0 1 = cc in omega arith)
      go false b x y p q e = absurd (let z : ◌≡◌ {A = ℕ} 0 1 = cc in omega arith)

  -- ---- the number and the octets

  module _ (colour type : ℕ) where
    pub number-written : write_number l colour type ≡ cond (labels_fit l) (first_failed (burst_part_tests colour type)) 16
    unfolding write_number label_tests first_failed labels_fit
    number-written = go (ltb l.source.0 (2 ^ 24)) (ltb l.target.0 (2 ^ 24)) (ltb l.timeslot 2) (ltb l.call 2) (first_failed (burst_part_tests colour type))
      where
        go : (a b x y : Bool) (n : ℕ) → cond a (cond b (cond x (cond y n 16) 16) 16) 16 ≡ cond (eqb (cond a (cond b (cond x (cond y 0 16) 16) 16) 16) 0) n 16
        go true true true true n = refl
        go true true true false n = refl
        go true true false y n = refl
        go true false x y n = refl
        go false b x y n = refl

    module _ (info : List ℕ) (sync : Sync) where
      pub write_unfit : labels_fit l ≡ false → record { number = 16; octets = replicate 53 0 } ≡ write_datagram l colour type info sync
      unfolding write_datagram
      write_unfit f = rw (number-written, f)

      -- b is what the writer of bursts answers
      module _ (f : labels_fit l ≡ true) (b : BurstOctets) (e : b ≡ write_burst colour type info sync) where
        part-number : write_number l colour type ≡ b.number
        unfolding write_burst
        part-number = number-written ∙ ap (λ (t : Bool). cond t (first_failed (burst_part_tests colour type)) 16) f ∙ sym (ap (λ x. x.number) e)

        pub written_type : b.number ≡ 0 → type < 16
        unfolding write_burst
        written_type z = known-lt type (parts-known colour type (sym (ap (λ x. x.number) e) ∙ z)).1

        burst-octets : b.number ≡ 0 → b.octets ≡ written_burst colour type info sync
        unfolding write_burst
        burst-octets z = ap (λ x. x.octets) e ∙ rw (sym (ap (λ x. x.number) e) ∙ z)

        pub write_joined : b.number ≡ 0 → (os : List ℕ) → os ≡ label_octets l type ++ b.octets
            → record { number = 0; octets = os } ≡ write_datagram l colour type info sync
        unfolding write_datagram written_datagram
        write_joined z os j = rw (part-number, z) (ap made (j ∙ ap (λ (x : List ℕ). label_octets l type ++ x) (burst-octets z)))
          where
            made : List ℕ → DatagramOctets
            made x = record { number = 0; octets = x }

      -- by what the writer of bursts gives

      pub burst_refused : labels_fit l ≡ true → (r : Refusal) → burst_octets_given (write_burst colour type info sync) ≡ Err r
          → Err r ≡ datagram_octets_given (write_datagram l colour type info sync)
      unfolding burst_octets_given datagram_octets_given write_datagram
      burst_refused f r e =
          let b = write_burst colour type info sync in
          let w = write_datagram l colour type info sync in
          sym (ap (λ (n : ℕ). outcome n w.octets) (part-number f b refl) ∙ err_any b.number b.octets w.octets r e)

      module _ (f : labels_fit l ≡ true) (b : List ℕ) (e : burst_octets_given (write_burst colour type info sync) ≡ Ok b) where
        none : (write_burst colour type info sync).number ≡ 0
        unfolding burst_octets_given
        none = ok_zero (write_burst colour type info sync).number (write_burst colour type info sync).octets b e

        pub given_type : type < 16
        given_type = written_type f (write_burst colour type info sync) refl none

        pub burst_given : (os : List ℕ) → os ≡ label_octets l type ++ b → Ok os ≡ datagram_octets_given (write_datagram l colour type info sync)
        unfolding burst_octets_given datagram_octets_given outcome
        burst_given os j =
            let w = write_burst colour type info sync in
            ap datagram_octets_given (write_joined f w refl none os (j ∙ ap (λ (x : List ℕ). label_octets l type ++ x) (sym (ok_same w.number w.octets b e))))
