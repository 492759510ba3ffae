-- The worked examples hold.
-- Assumes nothing.
use mathlib.Core.Path.{◌≡◌, refl, ap}
use mathlib.Core.Bool.{Bool, true, false, cond, not}
use mathlib.Core.List.{◌∷◌}
use Prim.Native.Nat.{ℕ, zero, suc}
use native.Mathlib.Omega.{arith}
use lib.Dec.{eqb, leb}
use lib.ListN.{replicate}
use borrow.Author.Tests.{le-leb, ne_eqb}
use Rattle.codes.proofs.Examples.{examples as codes}
use Rattle.checks.proofs.Examples.{examples as checks}
use Rattle.bursts.proofs.Examples.{examples as bursts}
use Rattle.datagrams.proofs.Examples.{examples as datagrams}
use Rattle.packets.proofs.Examples.{examples as packets}
use Rattle.messages.proofs.PacketExamples.{examples as messages}
use Rattle.stored.proofs.Examples.{examples as stored}
use Rattle.transactions.specs.Flags.{weights, flag_octets}
use Rattle.transactions.specs.Answers.{sack_flags}
use Rattle.transactions.specs.declared.header.Transaction.{Transaction}
use Rattle.packet_vectors.specs.Examples.{PExamples}

either_way : (held : Bool) → cond held true true ≡ true
either_way true = refl
either_way false = refl

module _ (t : Transaction) (held : ℕ → Bool) (three : t.blocks ≡ 3) (first : held 0 ≡ true) (second : held 1 ≡ false) (third : held 2 ≡ true) where
  all_but_1 : (n : ℕ) → cond (held n) true (leb t.blocks n) ≡ not (eqb n 1)
  all_but_1 zero = rw first
  all_but_1 (suc zero) = rw (second, three)
  all_but_1 (suc (suc zero)) = rw third
  all_but_1 (suc (suc (suc n))) =
      rw (three, le-leb 3 (suc (suc (suc n))) (omega arith), ne_eqb (suc (suc (suc n))) 1 (λ e. omega arith)) (either_way (held (suc (suc (suc n)))))

  flags : sack_flags t held ≡ 0xFD ∷ replicate 7 0xFF
  unfolding sack_flags flag_octets weights
  flags = ap flag_octets (λ i n. all_but_1 n i)

pub examples : PExamples
examples = record {
  codes = codes;
  checks = checks;
  bursts = bursts;
  datagrams = datagrams;
  packets = packets;
  messages = messages;
  stored = stored;
  flags = flags;
}
