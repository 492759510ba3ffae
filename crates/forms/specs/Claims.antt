-- Demand 3 with a restart before everything that is asked, as who keeps only the stored form meets it.
-- Assumes nothing.
use Rattle.std.specs.Prelude.{◌≡◌, cond, List, [], ◌∷◌, ℕ, eqb, length}
use Rattle.addresses.specs.declared.RadioAddress.{RadioAddress}
use Rattle.transactions.specs.Answers.{Said, number_of}
use Rattle.history.specs.History.{History, nothing, after, said_to}
use Rattle.history.specs.Run.{event}
use Rattle.history.specs.Claims.{Possible}
use Rattle.reception.specs.Rule.{said_to_datagram, rule_after}
use Rattle.logs.specs.Log.{answer, line_in, line_size}
use Rattle.forms.specs.Forms.{fresh_form, Asked, an_event, a_datagram, event_number, form_after, line_after}

-- what is asked, with the stamp of the form that is saved after it and the line that is lent
pub record Stamped : Type 0 where
  pub asked : Asked
  pub s0 : ℕ
  pub s1 : ℕ
  pub line : List ℕ

-- a number, and what the lent line holds
pub record Told : Type 0 where
  pub number : ℕ
  pub line : List ℕ

-- what is told on a form, each time on the form that was left before
unfoldable pub told_on : List ℕ → List Stamped → List Told
told_on form [] = []
told_on form (c ∷ rest) =
    record { number = event_number form c.line c.asked; line = line_after form c.line c.asked }
    ∷ told_on (form_after form c.s0 c.s1 c.line c.asked) rest

-- what the history rule says to what is asked, and the history after it
unfoldable pub said_to_asked : RadioAddress → History → Asked → Said
said_to_asked own p (an_event e) = said_to own p e
said_to_asked own p (a_datagram d) = said_to_datagram own p d

unfoldable pub after_asked : RadioAddress → History → Asked → History
after_asked own p (an_event e) = after own p e
after_asked own p (a_datagram d) = rule_after own p d

-- an answer in a lent line: a refusal leaves it as it was
unfoldable pub tells_in : List ℕ → Said → Told
tells_in line s = record { number = number_of s; line = cond (eqb (number_of s) 0) (line_in (answer s)) line }

-- what the history rule tells
unfoldable pub told_from : RadioAddress → History → List Stamped → List Told
told_from own p [] = []
told_from own p (c ∷ rest) = tells_in c.line (said_to_asked own p c.asked) ∷ told_from own (after_asked own p c.asked) rest

-- events are of octets, and a datagram may be anything
abbrev pub PossibleAsked : Asked → Type 0
PossibleAsked (an_event e) = Possible (event e ∷ [])
PossibleAsked (a_datagram d) = Unit

-- lines of the right size are lent
abbrev pub PossibleStamped : List Stamped → Type 0
PossibleStamped [] = Unit
PossibleStamped (c ∷ rest) = PossibleAsked c.asked × (length c.line ≡ line_size) × PossibleStamped rest

-- from a fresh form of every address and stamp, over every list of events and datagrams: numbers and lines are the history rule's
abbrev pub FormClaim : RadioAddress → ℕ → ℕ → Type 0
FormClaim own s0 s1 = (cs : List Stamped) → PossibleStamped cs → told_on (fresh_form own s0 s1) cs ≡ told_from own nothing cs
