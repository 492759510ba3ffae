-- Octets moved to the front of the memory that they stand in; and a part read behind the first ones.
-- Assumes nothing.
use mathlib.Core.Path.{◌≡◌, sym, ap, ◌∙◌}
use mathlib.Core.List.{List, ◌++◌}
use Prim.Native.Nat.{ℕ, ◌+◌, ◌-◌, ◌≤◌}
use native.Mathlib.Omega.{arith}
use lib.ListN.{length, take, drop, length-drop, drop_of_length-le}
use lib.Seq.{paste, take_at, take-append-le, length-take-le}
use Rattle.foundation.specs.Octets.{put}
use Rattle.foundation.proofs.Copying.{copied_done, put_fits, length-put}
use Rattle.texts.proofs.Writing.{put-none, put_front}

module _ (d : List ℕ) (at : ℕ) where
  -- nothing to move
  pub none_left : length d ≤ at → (0 ≡ length d - at) × (d ≡ put d 0 (drop at d))
  none_left h = (omega arith, rw (drop_of_length-le d {i = at} h) (put-none d 0))

  room : 0 + length (drop at d) ≤ length d
  room = omega (arith, length-drop at d)

  pub moved : (m : List ℕ) → m ≡ paste d 0 (drop at d) (length d - at) → m ≡ put d 0 (drop at d)
  moved m e =
      let long = length-drop at d in
      copied_done d 0 (drop at d) (length d - at) m room (record { part = omega (arith, long); is = e }) (omega (arith, long))
      ∙ sym (put_fits d 0 (drop at d) room)

-- the first octets stay
pub first-kept : (d x : List ℕ) (first : ℕ) → first ≤ length d → take first (take first d ++ x) ≡ take first d
first-kept d x first h = take_at (take first d) x first (length-take-le first d h)

-- what is moved stands in front of all
pub rest_first : (d : List ℕ) (at k : ℕ) (m rest : List ℕ) → k ≡ length d - at → m ≡ put d 0 (drop at d) → take k (m ++ rest) ≡ drop at d
rest_first d at k m rest e em =
    let l : length m ≡ length d = ap length em ∙ length-put d 0 (drop at d) in
    let end : k ≡ length (drop at d) = omega (arith, length-drop at d) in
    take-append-le k m rest (omega arith) ∙ put_front (drop at d) d m k (omega (arith, length-drop at d)) end em
