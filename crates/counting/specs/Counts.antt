-- The counts that the program prints, over the list of its answers, one for each datagram. They wrap at 2^64.
-- Assumes nothing.
use Rattle.std.specs.Prelude.{Result, Ok, Err, ◌≡◌, ℕ, ◌+◌, ◌%◌, ◌^◌, Bool, true, false, cond, List, [], ◌∷◌, ◌++◌, length}
use Rattle.transactions.specs.Answers.{Said, refused, opened, repeat, stored, bad, message, response, number_of}
use Rattle.receiver.specs.Events as event
use Rattle.receiver.specs.declared.event.Answer as answers
use Rattle.reception.specs.Reception.{Answer, said}
use Rattle.counting.specs.declared.Counts.{Counts}

-- what is given says one of the receiver's answers: a refusal of any kind is told by its number
abbrev pub told_by : {E : Type 0} → (E → ℕ) → Result answers.Answer E → event.Answer
told_by number (Ok answers.TheVariants.Opened) = event.Opened
told_by number (Ok answers.TheVariants.Repeat) = event.Repeat
told_by number (Ok answers.TheVariants.Stored) = event.Stored
told_by number (Ok answers.TheVariants.Bad) = event.Bad
told_by number (Ok (answers.TheVariants.Message n)) = event.Message n
told_by number (Err e) = event.Refused (number e)

-- document 01's number for an answer: 0 for none. Which octets a message has is no matter here, so none stand for the store
unfoldable pub answer_number : Answer → ℕ
answer_number a = number_of (said a [])

-- a message is handed on
unfoldable pub hands_on : Said → Bool
hands_on (refused n) = false
hands_on opened = false
hands_on repeat = false
hands_on stored = false
hands_on bad = false
hands_on (message m) = true
hands_on (response h d) = false

unfoldable pub is_message : Answer → Bool
is_message a = hands_on (said a [])

-- a number of the table is given
unfoldable pub refuses : Said → Bool
refuses (refused n) = true
refuses opened = false
refuses repeat = false
refuses stored = false
refuses bad = false
refuses (message m) = false
refuses (response h d) = false

unfoldable pub is_refused : Answer → Bool
is_refused a = refuses (said a [])

-- how many answers of a list pass a test
unfoldable pub how_many : (Answer → Bool) → List Answer → ℕ
how_many test [] = 0
how_many test (a ∷ rest) = cond (test a) 1 0 + how_many test rest

unfoldable pub counts_of : List Answer → Counts
counts_of given = record {
  datagrams = length given % 2 ^ 64;
  messages = how_many is_message given % 2 ^ 64;
  refused = how_many is_refused given % 2 ^ 64;
}

-- the counts with one answer more
unfoldable pub counted : Counts → Answer → Counts
counted c a = record {
  datagrams = (c.datagrams + 1) % 2 ^ 64;
  messages = (c.messages + cond (is_message a) 1 0) % 2 ^ 64;
  refused = (c.refused + cond (is_refused a) 1 0) % 2 ^ 64;
}

-- with a list of answers more
unfoldable pub counted_all : Counts → List Answer → Counts
counted_all c [] = c
counted_all c (a ∷ more) = counted_all (counted c a) more

-- whatever answers are counted before: those and the list's are counted after it
abbrev pub CountsOn : List Answer → Type 0
CountsOn more = (given : List Answer) → counted_all (counts_of given) more ≡ counts_of (given ++ more)
