-- What a block leads to, by what is given for its octets and by its flag.
-- Assumes nothing.
use mathlib.Core.Path.{◌≡◌, ap}
use mathlib.Core.Bool.{true, false}
use mathlib.Core.List.{List}
use Prim.Native.Nat.{ℕ}
use borrow.Author.Tests.{eq-eqb, ne_eqb}
use Rattle.std.specs.Prelude.{Ok, Err}
use Rattle.foundation.specs.Refusals.{refusal_number}
use Rattle.foundation.specs.declared.refusal.Refusal.{Refusal}
use Rattle.foundation.proofs.Refusals.{ok_zero, ok_same, err_number, number_err}
use Rattle.packets.specs.declared.block.Block.{Block}
use Rattle.transactions.specs.Transactions.{serial_of, data_of}
use Rattle.transactions.specs.Flags.{flagged, with_flag}
use Rattle.receiver_state.specs.declared.Receiver.{Receiver}
use Rattle.receiver.specs.Events.{Refused, Repeat, BlockLeft, answered, changed, put_block, block_refusal, taken, on_block}
use Rattle.receiver.specs.Parts.{block_taken}
use Rattle.receiver.proofs.BlockNumbers.{refusal_small}

module _ (rx : Receiver) (store b : List ℕ) where
  pub left-refused : (r : Refusal) → block_taken rx store b ≡ Err r
      → ◌≡◌ {A = BlockLeft} (record { step = answered rx (Refused (refusal_number r)); store = store }) (on_block rx store b)
  unfolding block_taken on_block
  left-refused r e =
      let number = number_err (block_refusal rx store b) _ r (refusal_small rx store b) e in
      rw (ne_eqb (block_refusal rx store b) 0 (err_number _ _ r e)) (ap (λ (k : ℕ). record { step = answered rx (Refused k); store = store }) number)

  module _ (x : Block) (e : block_taken rx store b ≡ Ok x) where
    pub none : block_refusal rx store b ≡ 0
    unfolding block_taken
    none = ok_zero _ _ x e

    fields : record { serial = serial_of b; octets = data_of b } ≡ x
    unfolding block_taken
    fields = ok_same _ _ x e

    pub serial_is : serial_of b ≡ x.serial
    serial_is = ap (λ (y : Block). y.serial) fields

    data_is : data_of b ≡ x.octets
    data_is = ap (λ (y : Block). y.octets) fields

    pub left-repeat : flagged rx.flags.octets x.serial ≡ true → ◌≡◌ {A = BlockLeft} (record { step = answered rx Repeat; store = store }) (on_block rx store b)
    unfolding on_block
    left-repeat h = rw (eq-eqb (block_refusal rx store b) 0 none, serial_is, h)

    abbrev next : List ℕ
    next = put_block store x.serial x.octets

    pub left_new : flagged rx.flags.octets x.serial ≡ false
        → ◌≡◌ {A = BlockLeft} (record { step = taken (changed rx 1 (with_flag rx.flags.octets x.serial)) next; store = next }) (on_block rx store b)
    unfolding on_block
    left_new h = rw (eq-eqb (block_refusal rx store b) 0 none, serial_is, data_is, h)
