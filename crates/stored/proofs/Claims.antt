-- The claims of saving and restoring hold.
-- Assumes nothing.
use mathlib.Core.List.{List}
use Prim.Native.Nat.{ℕ}
use Rattle.receiver_state.specs.declared.Receiver.{Receiver}
use Rattle.stored.specs.Claims.{Savable, Restores, StoredClaims}
use Rattle.stored.proofs.RestoredBack.{restores}
use Rattle.stored.proofs.SavingBack.{saved_back}

pub restores_law : (rx : Receiver) (store : List ℕ) (s0 s1 : ℕ) → Savable rx store → Restores rx store s0 s1
restores_law = restores

pub claims : StoredClaims
claims = record { restores = restores; saves_back = λ rx form store small none. saved_back rx form store none small }
