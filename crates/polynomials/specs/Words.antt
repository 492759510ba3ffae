-- What a word of 64 bits keeps of a polynomial.
-- Assumes nothing.
use Rattle.std.specs.Prelude.{ℕ, ◌*◌, ◌%◌, ◌^◌}

-- x shifted up by k: what goes out at the top is lost
abbrev pub up : ℕ → ℕ → ℕ
up k x = x * 2 ^ k % 2 ^ 64
