-- How a case is counted.
-- Assumes nothing.
use Rattle.std.specs.Prelude.{◌≡◌, ℕ, ◌+◌, ◌%◌, ◌^◌, ◌≢◌, IsSome}
use Rattle.report.specs.declared.Tally.{Tally}

-- r is t after a case: one more, and one more wrong unless its value is what is expected. What could not be written once stays so
abbrev pub Counted : (A : Type 0) → A → A → Tally → Tally → Type 0
Counted A value expected t r =
    (r.cases ≡ (t.cases + 1) % 2 ^ 32) × (value ≡ expected → r.wrong ≡ t.wrong) × ((value ≢ expected) → r.wrong ≡ (t.wrong + 1) % 2 ^ 32)
    × (IsSome t.failed → IsSome r.failed)

-- r is t after writing that is no case. What could not be written once stays so
abbrev pub SameCounts : Tally → Tally → Type 0
SameCounts t r = (r.cases ≡ t.cases) × (r.wrong ≡ t.wrong) × (IsSome t.failed → IsSome r.failed)

-- r is t after so many cases
abbrev pub MoreCases : ℕ → Tally → Tally → Type 0
MoreCases n t r = r.cases ≡ (t.cases + n) % 2 ^ 32
