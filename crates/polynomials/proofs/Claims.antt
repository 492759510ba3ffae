-- The claims of remainders and checks hold.
-- Assumes nothing.
use Prim.Native.Nat.{ℕ}
use Rattle.polynomials.specs.Claims.{RemainderClaims}
use Rattle.polynomials.proofs.Division.{divide-followed, remainder-xor}
use Rattle.polynomials.proofs.Check.{check_more, codeword}

pub remainders : (n g : ℕ) → RemainderClaims n g
remainders n g = record { linear = remainder-xor n g; append = divide-followed n g; codeword = codeword n g; register = check_more n g }
