-- What private functions of the crates that write lines require and promise: nothing that a reader has to believe.
-- Assumes nothing.
use Rattle.std.specs.Prelude.{◌≡◌, List, ℕ, ◌+◌, ◌≤◌, length}
use Rattle.foundation.specs.Octets.{put}
use Rattle.texts.specs.declared.Writer.{Writer}

-- k octets more have room
abbrev pub HasRoom : ℕ → Writer → Type 0
HasRoom k w = w.end + k ≤ length w.text.now

-- what is written where there is room
pub record Wrote (os : List ℕ) (w w' : Writer) : Type 0 where
  pub same_memory : w'.text.ghost_name ≡ w.text.ghost_name
  pub text : w'.text.now ≡ put w.text.now w.end os
  pub end : w'.end ≡ w.end + length os

-- and that it takes no more than k octets
pub record AtMost (k : ℕ) (os : List ℕ) (w w' : Writer) : Type 0 where
  pub wrote : Wrote os w w'
  pub most : w'.end ≤ w.end + k
