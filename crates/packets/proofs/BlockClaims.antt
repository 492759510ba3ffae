-- The claims of blocks hold.
-- Assumes nothing.
use mathlib.Core.Path.{sym, ap}
use Rattle.packets.specs.BlockClaims.{BlockClaims}
use Rattle.packets.specs.Blocks.{BlockRead}
use Rattle.packets.proofs.BlockReading.{size-refused, check-refused, accepted, 1-size, 13-check}
use Rattle.packets.proofs.BlockWriting.{size-refused as data-refused, serial-refused, written}
use Rattle.packets.proofs.BlockBack.{answer_back}

pub claims : BlockClaims
claims = record {
  written = λ serial os n s. sym (written serial os s n);
  reads_back = answer_back;
  data_size = λ serial os n. sym (data-refused serial os n);
  too_wide = λ serial os s w. sym (serial-refused serial os s w);
  size = λ b. (λ n. ap (λ (r : BlockRead). r.number) (sym (size-refused b n)), λ e s. 1-size b s e);
  check = λ b s. (λ g. ap (λ (r : BlockRead). r.number) (sym (check-refused b s g)), 13-check b s);
  fields = λ b s g. sym (accepted b s g);
}
