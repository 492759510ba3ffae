-- What private functions require and give: nothing that a reader has to believe.
-- Assumes nothing.
use Rattle.std.specs.Prelude.{◌≡◌, Result, cond, List, ℕ, ◌<◌, eqb, length}
use Rattle.bursts.specs.declared.burst.Kind.{Kind}
use Rattle.bursts.specs.declared.burst.Kind.TheVariants.{Header, Block, Other}
use Rattle.foundation.specs.Refusals.{outcome}
use Rattle.foundation.specs.declared.refusal.Refusal.{Refusal}
use Rattle.history.specs.Run.{State, saved_form}
use Rattle.logs.specs.Log.{Record, record_of, line_of, after_record, line_in}
use Rattle.forms.specs.Forms.{line_number, Asked, number_before, record_asked, event_number, form_after, line_after}

-- the kind and the octets of an event: a header, a block, or an end of attempt, which has no octets
abbrev pub AnEvent : ℕ → List ℕ → Type 0
AnEvent kind os = (kind < 3) × (kind ≡ 2 → length os ≡ 0)

-- what is given for the answer to a record; the form and the line after it, which a refusal leaves as they were
abbrev pub Answered : State → Record → ℕ → ℕ → List ℕ → List ℕ → Result (Unit {0}) Refusal → List ℕ → List ℕ → Type 0
Answered s r s0 s1 form line given form' line' =
    (given ≡ outcome (line_number (line_of s r)) tt) × (form' ≡ cond (eqb (line_number (line_of s r)) 0) (saved_form (after_record s r) s0 s1) form)
    × (line' ≡ cond (eqb (line_number (line_of s r)) 0) (line_in (line_of s r)) line)

-- what is returned for what is asked, and the form and the line after it
abbrev pub ActsOn : Asked → ℕ → ℕ → List ℕ → List ℕ → Result (Unit {0}) Refusal → List ℕ → List ℕ → Type 0
ActsOn a s0 s1 form line given form' line' =
    (given ≡ outcome (event_number form line a) tt) × (form' ≡ form_after form s0 s1 line a) × (line' ≡ line_after form line a)

-- the same for all of which this is found before any answer, and which is the record of this kind and these octets
abbrev pub ActsAs : Result (Unit {0}) Refusal → ℕ → List ℕ → ℕ → ℕ → List ℕ → List ℕ → Result (Unit {0}) Refusal → List ℕ → List ℕ → Type 0
ActsAs found kind os s0 s1 form line given form' line' =
    (a : Asked) → found ≡ outcome (number_before a) tt → record_asked a ≡ record_of kind os → ActsOn a s0 s1 form line given form' line'

-- the number of a header's or a block's size
abbrev pub size_number : List ℕ → ℕ
size_number os = cond (eqb (length os) 12) 0 1

-- the kind of the record of what a burst carries
unfoldable pub kind_number : Kind → ℕ
kind_number Header = 0
kind_number Block = 1
kind_number Other = 255
