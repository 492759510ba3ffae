-- A block that is written: 12 octets, which read back.
-- Assumes nothing.
use mathlib.Core.Path.{◌≡◌, sym, ap, subst, ◌∙◌}
use mathlib.Core.Bool.{true}
use mathlib.Core.List.{List, ◌∷◌}
use Prim.Native.Nat.{ℕ, zero, suc, ◌+◌, ◌*◌, ◌/◌, ◌%◌, ◌<◌}
use native.Mathlib.Decide.{ℕ_discrete, dec_lt}
use native.Mathlib.Omega.{arith}
use lib.ListN.{length, get_or}
use Rattle.checks.specs.Checks.{block_check, block_good}
use Rattle.checks.proofs.BlockChecks.{block_check-lt, block_carried}
use Rattle.packets.specs.Blocks.{read_block, written_block, write_block}
use Rattle.packets.specs.BlockClaims.{BlockReadsBack}
use Rattle.packets.specs.Blocks.{BlockOctets}
use Rattle.packets.proofs.BlockReading.{accepted}
use Rattle.packets.proofs.BlockWriting.{size-refused, serial-refused, written}

module _ (serial : ℕ) (os : List ℕ) where
  pub written-length : length os ≡ 10 → length (written_block serial os) ≡ 12
  unfolding written_block
  written-length size = omega arith

  module _ (narrow : serial < 128) where
    pub written-good : block_good (written_block serial os) ≡ true
    unfolding written_block
    written-good =
        let double : serial * 2 ≡ 2 * serial = omega arith in
        subst (λ (x : ℕ). block_good ((x + block_check serial os / 256) ∷ block_check serial os % 256 ∷ os) ≡ true) double (block_carried serial os narrow)

    pub written-octets : ((i : ℕ) → get_or os i 0 < 256) → (i : ℕ) → get_or (written_block serial os) i 0 < 256
    unfolding written_block
    written-octets below zero = omega (arith, block_check-lt serial os)
    written-octets below (suc zero) = omega arith
    written-octets below (suc (suc i)) = below i

    pub reads_back : length os ≡ 10 → read_block (written_block serial os) ≡ record { number = 0; serial = serial; octets = os }
    unfolding written_block
    reads_back size =
        let s : (2 * serial + block_check serial os / 256) / 2 ≡ serial = omega (arith, block_check-lt serial os) in
        sym (accepted (written_block serial os) (written-length size) written-good) ∙ (λ i. record { number = 0; serial = s i; octets = os })

  pub answer_back : BlockReadsBack serial os (write_block serial os)
  answer_back none = go (ℕ_discrete (length os) 10) (dec_lt serial 128)
    where
      go : Dec (length os ≡ 10) → Dec (serial < 128) → read_block (write_block serial os).octets ≡ record { number = 0; serial = serial; octets = os }
      go (yes size) (yes narrow) = ap (λ (r : BlockOctets). read_block r.octets) (sym (written serial os size narrow)) ∙ reads_back narrow size
      go (yes size) (no wide) =
          let e : 16 ≡ (write_block serial os).number = ap (λ (r : BlockOctets). r.number) (serial-refused serial os size (omega arith)) in
          absurd (omega arith)
      go (no other) t = let e : 1 ≡ (write_block serial os).number = ap (λ (r : BlockOctets). r.number) (size-refused serial os other) in absurd (omega arith)
