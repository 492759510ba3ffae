-- The lines as they are written, part behind part.
-- Assumes nothing.
use mathlib.Core.Path.{◌≡◌, refl, sym, ap, subst}
use mathlib.Core.List.{List, [], ◌∷◌}
use Prim.Native.Nat.{ℕ, ◌+◌, ◌^◌, ◌≤◌, ◌<◌}
use native.Mathlib.Omega.{arith}
use lib.ListN.{length}
use Rattle.foundation.proofs.Copying.{length-put}
use Rattle.texts.specs.Texts.{decimal, octets_text, blank, line_feed, parts}
use Rattle.texts.specs.Parts.{HasRoom, Wrote, AtMost}
use Rattle.texts.specs.declared.Writer.{Writer}
use Rattle.texts.proofs.Decimals.{short}
use Rattle.texts.proofs.Writing.{wrote_none, Chain, more, chained, as_writes, length-parts, length-octets}
use Rattle.transactions.specs.declared.header.Transaction.{Transaction}
use Rattle.counting.specs.declared.Counts.{Counts}
use Rattle.transactions.specs.Answers.{number_of}
use Rattle.receiver_state.specs.Receiver.{store_size}
use Rattle.receiver.specs.Events.{Refused, Opened, Repeat, Stored, Bad, Message, said}
use Rattle.reception.specs.Reception.{Confirmed}
use Rattle.reception.specs.Reception as reception
use Rattle.counting.specs.Counts.{answer_number}
use Rattle.captures.specs.declared.Listing.{Listing}
use Rattle.captures.specs.declared.Listing.TheVariants.{Numbers, Deliveries}
use Rattle.captures.specs.Lines.{number_line, end_line, source_part, size_part, message_line, bad_line, closing}

-- a number of 64 bits has at most 20 digits
long-number : (n : ℕ) → n < 2 ^ 64 → length (decimal n) ≤ 20
long-number n h = short 19 n (omega arith)

module _ (w w' : Writer) where
  pub number-written : (i n : ℕ) → i < 2 ^ 64 → n < 256 → HasRoom 25 w → Chain (decimal i ∷ blank ∷ decimal n ∷ line_feed ∷ []) w w'
      → AtMost 25 (number_line i n) w w'
  unfolding number_line
  number-written i n small few room c =
      let ps = decimal i ∷ blank ∷ decimal n ∷ line_feed ∷ [] in
      let p : Wrote (parts ps) w w' = chained ps w w' (omega (arith, long-number i small, short 2 n (omega arith))) c in
      record { wrote = p; most = omega (arith, p.end, length-parts ps, long-number i small, short 2 n (omega arith)) }

  module _ (t : Transaction) where
    pub size-written : (n : ℕ) → t.sap < 256 → n ≤ store_size → HasRoom 8 w → Chain (blank ∷ decimal t.sap ∷ blank ∷ decimal n ∷ []) w w'
        → Wrote (size_part t n) w w'
    unfolding size_part
    size-written n few most room c = chained _ w w' (omega (arith, short 2 t.sap (omega arith), short 2 n (omega arith))) c

    pub source-written : (i : ℕ) → i < 2 ^ 64 → t.source.0 < 2 ^ 32 → HasRoom 31 w → Chain (decimal i ∷ blank ∷ decimal t.source.0 ∷ []) w w'
        → Wrote (source_part i t) w w'
    unfolding source_part
    source-written i small wide room c = chained _ w w' (omega (arith, long-number i small, short 9 t.source.0 (omega arith))) c

-- the lengths of the parts
length-source : (i : ℕ) (t : Transaction) → i < 2 ^ 64 → t.source.0 < 2 ^ 32 → length (source_part i t) ≤ 31
unfolding source_part
length-source i t small wide =
    omega (arith, length-parts (decimal i ∷ blank ∷ decimal t.source.0 ∷ []), long-number i small, short 9 t.source.0 (omega arith))

length-size : (t : Transaction) (n : ℕ) → t.sap < 256 → n ≤ store_size → length (size_part t n) ≤ 8
unfolding size_part
length-size t n few most =
    omega (arith, length-parts (blank ∷ decimal t.sap ∷ blank ∷ decimal n ∷ []), short 2 t.sap (omega arith), short 2 n (omega arith))

module _ (w : Writer) (i : ℕ) (t : Transaction) (small : i < 2 ^ 64) (wide : t.source.0 < 2 ^ 32) (w1 : Writer) (p1 : Wrote (source_part i t) w w1) where
  pub room-behind : (k : ℕ) → HasRoom (31 + k) w → HasRoom k w1
  room-behind k h = omega (arith, ap length p1.text, length-put w.text.now w.end (source_part i t), p1.end, length-source i t small wide)

  module _ (w' : Writer) where
    pub message-written : (os : List ℕ) → t.sap < 256 → length os ≤ store_size → HasRoom 1302 w → (w2 : Writer) → Wrote (size_part t (length os)) w1 w2
        → Chain (blank ∷ octets_text os ∷ line_feed ∷ []) w2 w' → AtMost 1302 (message_line i t os) w w'
    unfolding message_line
    message-written os few most room w2 p2 c =
        let l1 = length-source i t small wide in
        let l2 = length-size t (length os) few most in
        let ps = source_part i t ∷ size_part t (length os) ∷ blank ∷ octets_text os ∷ line_feed ∷ [] in
        let p : Wrote (parts ps) w w' =
        chained ps w w' (omega (arith, l1, l2, length-octets os))
        (more _ _ w w1 w' (as_writes (source_part i t) w w1 (omega (arith, l1)) p1)
        (more _ _ w1 w2 w' (as_writes (size_part t (length os)) w1 w2 (omega (arith, room-behind 8 (omega arith), l2)) p2) c)) in
        record { wrote = p; most = omega (arith, p.end, length-parts ps, l1, l2, length-octets os) }

    pub bad-written : HasRoom 1302 w → Chain ((0x20 ∷ 0x62 ∷ 0x61 ∷ 0x64 ∷ 0x0A ∷ []) ∷ []) w1 w' → AtMost 1302 (bad_line i t) w w'
    unfolding bad_line
    bad-written room c =
        let ps = source_part i t ∷ (0x20 ∷ 0x62 ∷ 0x61 ∷ 0x64 ∷ 0x0A ∷ []) ∷ [] in
        let l1 = length-source i t small wide in
        let p : Wrote (parts ps) w w' =
        chained ps w w' (omega (arith, l1)) (more _ _ w w1 w' (as_writes (source_part i t) w w1 (omega (arith, l1)) p1) c) in
        record { wrote = p; most = omega (arith, p.end, length-parts ps, l1) }

module _ (c : Counts) (datagrams : c.datagrams < 2 ^ 64) (messages : c.messages < 2 ^ 64) (refused : c.refused < 2 ^ 64) where
  pub end_written : (w w' : Writer) → HasRoom 67 w
      → Chain ((0x65 ∷ 0x6E ∷ 0x64 ∷ 0x20 ∷ []) ∷ decimal c.datagrams ∷ blank ∷ decimal c.messages ∷ blank ∷ decimal c.refused ∷ line_feed ∷ []) w w'
      → Wrote (end_line c) w w'
  unfolding end_line
  end_written w w' room p =
      chained _ w w' (omega (arith, long-number c.datagrams datagrams, long-number c.messages messages, long-number c.refused refused)) p

  pub length_end : length (end_line c) ≤ 67
  unfolding end_line
  length_end =
      omega (
        arith,
        length-parts ((0x65 ∷ 0x6E ∷ 0x64 ∷ 0x20 ∷ []) ∷ decimal c.datagrams ∷ blank ∷ decimal c.messages ∷ blank ∷ decimal c.refused ∷ line_feed ∷ []),
        long-number c.datagrams datagrams,
        long-number c.messages messages,
        long-number c.refused refused,
      )

  pub length-closing : (l : Listing) → length (closing l c) ≤ 67
  unfolding closing
  length-closing Numbers = length_end
  length-closing Deliveries = omega arith

-- ---- what is said

-- the number that is said, whatever the store holds
pub number-said : (a : reception.Answer) (store : List ℕ) → answer_number a ≡ number_of (reception.said a store)
unfolding answer_number said reception.said number_of
number-said (reception.Refused n) store = refl
number-said (Confirmed (Refused n)) store = refl
number-said (Confirmed Opened) store = refl
number-said (Confirmed Repeat) store = refl
number-said (Confirmed Stored) store = refl
number-said (Confirmed Bad) store = refl
number-said (Confirmed (Message n)) store = refl

-- no line
pub no_line : (k : ℕ) (os : List ℕ) (w : Writer) → os ≡ [] → AtMost k os w w
no_line k os w e = subst (λ (x : List ℕ). AtMost k x w w) (sym e) (record { wrote = wrote_none w; most = omega arith })
