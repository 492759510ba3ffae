-- Places of a stored form: no example of document 01 that is marked P depends on them.
-- Assumes nothing.
use Rattle.std.specs.Prelude.{◌≡◌, List, [], ◌∷◌, ◌++◌, ℕ, ◌%◌, length, take, drop, replicate}
use Rattle.stored.specs.Stored.{with_stored_check, stored_form}

-- own address 002104; open, a message from 1A0B0C in 63 blocks; blocks 0 and 48 held; octet i of the store is i mod 256; stamp A55A
abbrev pub some_form : List ℕ
some_form =
    stored_form (record { 0 = 0x002104 }) 1 (record { source = record { 0 = 0x1A0B0C }; sap = 4; ns = 5; pad = 3; blocks = 63 })
    (1 ∷ 0 ∷ 0 ∷ 0 ∷ 0 ∷ 0 ∷ 1 ∷ 0 ∷ []) (λ i. i % 256) 0xA5 0x5A

pub record StoredExamples : Type 0 where
  -- the start of block 0: all before the store, the held block 0, and a zero for block 1
  pub start : take 34 some_form
      ≡ 0x01 ∷ 0x00 ∷ 0xA5 ∷ 0x5A ∷ 0x01 ∷ 0x00 ∷ 0x21 ∷ 0x04 ∷ 0x1A ∷ 0x0B ∷ 0x0C ∷ 0x04 ∷ 0x05 ∷ 0x03 ∷ 0x3F ∷ 0x01 ∷ 0x00 ∷ 0x00 ∷ 0x00 ∷ 0x00 ∷ 0x00 ∷ 0x01 ∷ 0x00 ∷ 0x00 ∷ 0x01 ∷ 0x02 ∷ 0x03 ∷ 0x04 ∷ 0x05 ∷ 0x06 ∷ 0x07 ∷ 0x08 ∷ 0x09 ∷ 0x00 ∷ []
  -- its end: the store's octets 479 to 486; and the start of block 1: octets 487 to 490
  pub before_check : take 8 (drop 502 some_form) ≡ 0x00 ∷ 0xE0 ∷ 0xE1 ∷ 0xE2 ∷ 0xE3 ∷ 0xE4 ∷ 0xE5 ∷ 0xE6 ∷ []
  pub second : take 8 (drop 512 some_form) ≡ 0x01 ∷ 0x01 ∷ 0xA5 ∷ 0x5A ∷ 0xE7 ∷ 0xE8 ∷ 0xE9 ∷ 0x00 ∷ []
  pub size : length some_form ≡ 1024
  -- mask 0
  pub mask : with_stored_check (replicate 10 0) ≡ replicate 10 0 ++ (0xFF ∷ 0xFF ∷ [])
