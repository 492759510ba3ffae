-- Each number of reading and writing a datagram is given exactly if its row of the table is true.
-- Assumes nothing.
use Rattle.std.proofs.Common.{◌≡◌, ℕ, ◌%◌, ◌^◌, ◌<◌, ◌≤◌, Bool, true, false, eqb, ltb, ◌≢◌, ◌⊎◌, ◌↔◌, List, [], ◌∷◌, length, get_or, take, drop, ◌++◌, sym, refl, ap, ◌∙◌, subst, inl, inr, arith, lit≤, length-drop, length-take-le, get_or-take, ext_get_or, lt-ltb}
use Rattle.std.specs.Cmp.Lexicographic.{pointwise}
use Rattle.std.proofs.lemmas.List.{take-append-drop}
use Rattle.std.proofs.lemmas.Bool.Decides.{Decides-eqb}
use Rattle.std.proofs.lemmas.Slice.Eq.{starts_is}
use native.Mathlib.Decide.{ℕ_discrete, dec_lt}
use Rattle.foundation.specs.Order.{first_failed}
use Rattle.codes.specs.SlotWord.{SlotType, Data, NoCodeword, TooWide, read_slot_type, slot_number}
use Rattle.codes.specs.Field.{field_number, read_field}
use Rattle.codes.proofs.SlotReading.{reads_near}
use Rattle.foundation.proofs.Tests.{choose, cond-lt, cond_ge, not-true, exactly}
use Rattle.bursts.specs.Bursts.{kind_of, known, slot_bits, field_of, burst_part_tests, written_burst}
use Rattle.bursts.specs.BurstClaims.{Near}
use Rattle.datagrams.specs.Datagrams.{prefix, prefixed, frame_of, named_type, burst_of, datagram_number, read_datagram, written_datagram, label_tests, write_number, write_datagram}
use Rattle.datagrams.specs.DatagramClaims.{Fits, Unprefixed, OtherFrame, Framed, NoSlotType, WrongType, FieldOf, Outside}
use Rattle.bursts.specs.declared.burst.Sync.{Sync}
use Rattle.datagrams.specs.declared.Labels.{Labels}
use Rattle.bursts.proofs.Variants.{slot_good}
use Rattle.bursts.proofs.Numbers.{slot_read, near_slot, field-read, write_good}
use Rattle.bursts.proofs.ReadingBack.{field-length}
use Rattle.bursts.proofs.Rows.{FieldNumber, field-numbers}
use Rattle.datagrams.proofs.DatagramNumbers.{Slotted, letters-same, letters-at, number_size, number-prefix, number-frame, number-slot, number_differs, number_other, number-field, read_number}
use Rattle.datagrams.proofs.DatagramWriting.{fits_all, write_joined}

module _ (d : List ℕ) where
  -- the prefix as four octets

  letters-take : length d ≡ 53 → prefixed d ≡ true → take 4 d ≡ prefix
  letters-take h e =
      ext_get_or 0 (take 4 d) prefix four (λ i l. let k : i < 4 = subst (λ (n : ℕ). i < n) four l in get_or-take 4 d i 0 k ∙ letters-at d e i k)
    where
      four : length (take 4 d) ≡ 4
      four = length-take-le 4 d (omega arith)

  take-letters : take 4 d ≡ prefix → prefixed d ≡ true
  take-letters e = letters-same d (λ i h. sym (get_or-take 4 d i 0 h) ∙ ap (λ (os : List ℕ). get_or os i 0) e)

  -- the slice's own test of the prefix is that of the letters
  pub prefix_tested : length d ≡ 53 → (r : Bool) → r ≡ pointwise eqb prefix (take 4 d) → r ≡ prefixed d
  prefix_tested h r e = go r (starts_is Decides-eqb d prefix r e)
    where
      go : (r : Bool) → (r ≡ true → d ≡ prefix ++ drop 4 d) × ((rest : List ℕ) → d ≡ prefix ++ rest → r ≡ true) → r ≡ prefixed d
      go true s = sym (take-letters (ap (take 4) (s.0 refl)))
      go false s =
          sym (not-true (prefixed d) (λ p. let q = s.1 (drop 4 d) (sym (take-append-drop 4 d) ∙ ap (λ (os : List ℕ). os ++ drop 4 d) (letters-take h p)) in let z : ◌≡◌ {A = ℕ} 0 1 = cc in omega arith))

  burst-size : length d ≡ 53 → length (burst_of d) ≡ 33
  burst-size h = omega (arith, length-drop 20 d)

  slotted : (s : ℕ) → Framed d → Near (burst_of d) s → Slotted d s
  slotted s (h, p, f) near = record { size = h; letters = take-letters p; frame = f; slot = near_slot (burst_of d) s (burst-size h) near }

  -- each row gives its number

  one_rule : length d ≢ 53 → (read_datagram d).number ≡ 1
  one_rule h = read_number d ∙ number_size d h

  two_rule : Unprefixed d → (read_datagram d).number ≡ 2
  two_rule (h, p) = read_number d ∙ number-prefix d h (not-true (prefixed d) (λ e. p (letters-take h e)))

  three_rule : OtherFrame d → (read_datagram d).number ≡ 3
  three_rule (h, p, f) = read_number d ∙ number-frame d h (take-letters p) f

  four_rule : NoSlotType d → (read_datagram d).number ≡ 4
  unfolding slot_number
  four_rule ((h, p, f), none) =
      read_number d
      ∙ number-slot d h (take-letters p) f (ap slot_good (sym (slot_read (burst_of d) (burst-size h))) ∙ go (read_slot_type (slot_bits (burst_of d))) refl)
    where
      go : (s : SlotType) → read_slot_type (slot_bits (burst_of d)) ≡ s → slot_good s ≡ false
      go (Data s) e = let n = reads_near (slot_bits (burst_of d)) s e in absurd (none s (n.0, n.2))
      go NoCodeword e = refl
      go TooWide e = refl

  five_rule : WrongType d → (read_datagram d).number ≡ 5
  five_rule (framed, s, near, inl n) = read_number d ∙ number_differs d s (slotted s framed near) n
  five_rule (framed, s, near, inr k) = read_number d ∙ go (ℕ_discrete (named_type d) (s % 16))
    where
      go : Dec (named_type d ≡ s % 16) → datagram_number d ≡ 5
      go (yes e) = number_other d s (slotted s framed near) e k
      go (no n) = number_differs d s (slotted s framed near) n

  field_rule : (n : ℕ) → FieldOf n d → (read_datagram d).number ≡ n
  unfolding read_field
  field_rule n (framed, s, near, same, k, e) =
      read_number d ∙ number-field d s (slotted s framed near) same k ∙ sym (ap (λ x. x.number) (field-read (burst_of d) (burst-size framed.0))) ∙ e

  -- the rows by their numbers
  abbrev Row : ℕ → Type 0
  Row n = get_or (FieldOf 0 d ∷ (length d ≢ 53) ∷ Unprefixed d ∷ OtherFrame d ∷ NoSlotType d ∷ WrongType d ∷ FieldOf 6 d ∷ FieldOf 7 d ∷ []) n ⊥

  -- one of them is true, and gives its number
  record Found : Type 0 where
    row : ℕ
    holds : Row row
    gives : (read_datagram d).number ≡ row
    listed : row ≤ 7

  field_found : (n : ℕ) → FieldOf n d → FieldNumber n → Found
  field_found n h (inl e) = let f = subst (λ (k : ℕ). FieldOf k d) e h in record { row = 0; holds = f; gives = field_rule 0 f; listed = lit≤ tt }
  field_found n h (inr (inl e)) = let f = subst (λ (k : ℕ). FieldOf k d) e h in record { row = 6; holds = f; gives = field_rule 6 f; listed = lit≤ tt }
  field_found n h (inr (inr e)) = let f = subst (λ (k : ℕ). FieldOf k d) e h in record { row = 7; holds = f; gives = field_rule 7 f; listed = lit≤ tt }

  wrong_found : WrongType d → Found
  wrong_found w = record { row = 5; holds = w; gives = five_rule w; listed = lit≤ tt }

  type_found : (s : ℕ) → Framed d → Near (burst_of d) s → Dec (named_type d ≡ s % 16) → (k : Bool) → known (kind_of (named_type d)) ≡ k → Found
  type_found s framed near (yes e) true k =
      let f = field_of (burst_of d) in
      field_found (field_number f) (framed, s, near, e, k, refl) (field-numbers f (field-length (burst_of d)))
  type_found s framed near (yes e) false k = wrong_found (framed, s, near, inr k)
  type_found s framed near (no n) t k = wrong_found (framed, s, near, inl n)

  unslotted : Framed d → slot_good (read_slot_type (slot_bits (burst_of d))) ≡ false → NoSlotType d
  unfolding slot_number
  unslotted (h, p, f) e =
      ((h, p, f), λ s near. let r : slot_good (read_slot_type (slot_bits (burst_of d))) ≡ true = ap slot_good (slot_read (burst_of d) (burst-size h) ∙ near_slot (burst_of d) s (burst-size h) near) in let z : ◌≡◌ {A = ℕ} 0 1 = cc in omega arith)

  unslotted_found : NoSlotType d → Found
  unslotted_found u = record { row = 4; holds = u; gives = four_rule u; listed = lit≤ tt }

  slot_found : Framed d → (s : SlotType) → read_slot_type (slot_bits (burst_of d)) ≡ s → Found
  unfolding slot_number
  slot_found framed (Data s) e =
      let n = reads_near (slot_bits (burst_of d)) s e in
      type_found s framed (n.0, n.2) (ℕ_discrete (named_type d) (s % 16)) (known (kind_of (named_type d))) refl
  slot_found framed NoCodeword e = unslotted_found (unslotted framed (ap slot_good e))
  slot_found framed TooWide e = unslotted_found (unslotted framed (ap slot_good e))

  frame_found : length d ≡ 53 → take 4 d ≡ prefix → Dec (frame_of d ≡ 2) → Found
  frame_found h p (yes f) = slot_found (h, p, f) (read_slot_type (slot_bits (burst_of d))) refl
  frame_found h p (no f) = record { row = 3; holds = (h, p, f); gives = three_rule (h, p, f); listed = lit≤ tt }

  prefix_found : length d ≡ 53 → (t : Bool) → prefixed d ≡ t → Found
  prefix_found h true e = frame_found h (letters-take h e) (ℕ_discrete (frame_of d) 2)
  prefix_found h false e =
      let u : Unprefixed d = (h, λ p. let r = take-letters p in let z : ◌≡◌ {A = ℕ} 0 1 = cc in omega arith) in
      record { row = 2; holds = u; gives = two_rule u; listed = lit≤ tt }

  size_found : Dec (length d ≡ 53) → Found
  size_found (yes h) = prefix_found h (prefixed d) refl
  size_found (no h) = record { row = 1; holds = h; gives = one_rule h; listed = lit≤ tt }

  found : Found
  found = size_found (ℕ_discrete (length d) 53)

  -- so the rows and the numbers agree

  agree : (n : ℕ) → (Row n → (read_datagram d).number ≡ n) → ((read_datagram d).number ≡ n) ↔ Row n
  agree n = exactly Row (read_datagram d).number found.row n found.holds found.gives

  pub zero : ((read_datagram d).number ≡ 0) ↔ FieldOf 0 d
  zero = agree 0 (field_rule 0)

  pub one : ((read_datagram d).number ≡ 1) ↔ (length d ≢ 53)
  one = agree 1 one_rule

  pub two : ((read_datagram d).number ≡ 2) ↔ Unprefixed d
  two = agree 2 two_rule

  pub three : ((read_datagram d).number ≡ 3) ↔ OtherFrame d
  three = agree 3 three_rule

  pub four : ((read_datagram d).number ≡ 4) ↔ NoSlotType d
  four = agree 4 four_rule

  pub five : ((read_datagram d).number ≡ 5) ↔ WrongType d
  five = agree 5 five_rule

  pub six : ((read_datagram d).number ≡ 6) ↔ FieldOf 6 d
  six = agree 6 (field_rule 6)

  pub seven : ((read_datagram d).number ≡ 7) ↔ FieldOf 7 d
  seven = agree 7 (field_rule 7)

  pub no_other : (read_datagram d).number ≤ 7
  no_other = omega (arith, found.gives, found.listed)

-- ---- writing

-- one width more, in front of others with the rows P
row : {P : Type 0} (x width n : ℕ) → (n ≡ 16) ↔ P → (choose (ltb x width) n 16 ≡ 16) ↔ ((width ≤ x) ⊎ P)
row {P} x width n (f, g) = (λ e. to (dec_lt x width) e, λ q. from (dec_lt x width) q)
  where
    to : Dec (x < width) → choose (ltb x width) n 16 ≡ 16 → (width ≤ x) ⊎ P
    to (yes h) e = inr (f (sym (cond-lt x width n 16 h) ∙ e))
    to (no h) e = inl (omega arith)

    from : Dec (x < width) → (width ≤ x) ⊎ P → choose (ltb x width) n 16 ≡ 16
    from (yes h) (inl k) = absurd (omega arith)
    from (yes h) (inr p) = cond-lt x width n 16 h ∙ g p
    from (no h) q = cond_ge x width n 16 (omega arith)

last_row : (k : Bool) → (choose k 0 16 ≡ 16) ↔ (k ≡ false)
last_row true = (λ e. absurd (omega arith), λ e. absurd (let z : ◌≡◌ {A = ℕ} 0 1 = cc in omega arith))
last_row false = (λ e. refl, λ e. refl)

module _ (l : Labels) (colour type : ℕ) (info : List ℕ) (sync : Sync) where
  pub sixteen : ((write_datagram l colour type info sync).number ≡ 16) ↔ Outside l colour type
  unfolding write_datagram write_number label_tests burst_part_tests first_failed
  sixteen =
      row l.source.0 (2 ^ 24) _ (row l.target.0 (2 ^ 24) _ (row l.timeslot 2 _ (row l.call 2 _ (row colour 16 _ (last_row (known (kind_of type)))))))

  pub writes : Fits l → colour < 16 → known (kind_of type) ≡ true
      → write_datagram l colour type info sync ≡ record { number = 0; octets = written_datagram l colour type info sync }
  unfolding written_datagram
  writes fits small kind =
      sym (write_joined l colour type info sync (fits_all l ∙ rw (lt-ltb l.source.0 (2 ^ 24) fits.source, lt-ltb l.target.0 (2 ^ 24) fits.target, lt-ltb l.timeslot 2 fits.timeslot, lt-ltb l.call 2 fits.call))
      (record { number = 0; octets = written_burst colour type info sync }) (write_good colour type info sync small kind) refl (written_datagram l colour type info sync) refl)
