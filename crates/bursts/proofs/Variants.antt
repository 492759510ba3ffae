-- What the place of an enum's variant says: by it the code tells the variants apart.
-- Assumes nothing.
use mathlib.Core.Path.{◌≡◌, refl, sym, ap, ◌∙◌}
use mathlib.Core.Bool.{Bool, not}
use Prim.Native.Nat.{ℕ}
use lib.Dec.{eqb}
use denote.Enum.Bare.{sameb}
use Rattle.codes.specs.SlotWord.{SlotType, slot_number}
use Rattle.bursts.specs.Bursts.{kind_of, known}
use Rattle.bursts.specs.declared.burst.Kind.{Kind}
use Rattle.bursts.specs.declared.burst.Kind.TheVariants.{Header, Block, Other}
use Rattle.bursts.specs.contracts.burst.Kind.{the_type as kind}

-- the known kinds are those that are compared unequal to the last variant
pub known_by : (t : ℕ) (k : Kind) (same : Bool) → k ≡ kind_of t → sameb kind k Other ≡ same → known (kind_of t) ≡ not same
unfolding known
known_by t k same e h = ap known (sym e) ∙ go k ∙ ap not h
  where
    go : (k : Kind) → known k ≡ not (sameb kind k Other)
    go Header = refl
    go Block = refl
    go Other = refl

-- a slot type that is not refused
abbrev pub slot_good : SlotType → Bool
slot_good s = eqb (slot_number s) 0
