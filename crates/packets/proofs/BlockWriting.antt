-- What is written of a block, by the first test that it fails.
-- Assumes nothing.
use mathlib.Core.Path.{◌≡◌, ◌∙◌}
use mathlib.Core.List.{List, append-nil}
use Prim.Native.Nat.{ℕ, ◌+◌, ◌*◌, ◌/◌, ◌%◌, ◌≤◌, ◌<◌}
use native.Mathlib.Omega.{arith}
use borrow.Author.Tests.{eq-eqb, ne_eqb, lt-ltb, le-ltb}
use lib.ListN.{length, set, replicate}
use Rattle.foundation.specs.Order.{first_failed}
use Rattle.checks.specs.Checks.{block_check}
use Rattle.foundation.specs.Octets.{over, put}
use Rattle.foundation.proofs.Copying.{put_fits}
use Rattle.packets.specs.Blocks.{written_block, block_writer_tests, write_block}

module _ (serial : ℕ) (os : List ℕ) where
  pub size-refused : (length os ≡ 10 → ⊥) → record { number = 1; octets = replicate 12 0 } ≡ write_block serial os
  unfolding write_block block_writer_tests first_failed
  size-refused n = rw (ne_eqb (length os) 10 n)

  module _ (size : length os ≡ 10) where
    pub serial-refused : 128 ≤ serial → record { number = 16; octets = replicate 12 0 } ≡ write_block serial os
    unfolding write_block block_writer_tests first_failed
    serial-refused h = rw (eq-eqb (length os) 10 size, le-ltb serial 128 h)

    pub written : serial < 128 → record { number = 0; octets = written_block serial os } ≡ write_block serial os
    unfolding write_block block_writer_tests first_failed
    written h = rw (eq-eqb (length os) 10 size, lt-ltb serial 128 h)

    -- serial and check, and the data octets put behind them
    pub whole : (k : ℕ) → k ≡ block_check serial os
        → put (set (set (replicate 12 0) 0 (2 * serial + k / 256)) 1 (k % 256)) 2 os ≡ written_block serial os
    unfolding written_block over
    whole k e = put_fits _ 2 os (omega arith) ∙ rw (size, e, append-nil os)
