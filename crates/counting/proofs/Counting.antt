-- The counts of a list with more answers behind it.
-- Assumes nothing.
use Rattle.std.proofs.Common.{◌≡◌, ℕ, ◌+◌, ◌%◌, ◌^◌, Bool, cond, List, [], ◌∷◌, ◌++◌, sym, refl, ap, ◌∙◌, append_assoc, append-nil, arith, length-append}
use Rattle.std.specs.Prelude.{Result, Ok, Err}
use Rattle.foundation.specs.Refusals.{refusal_number}
use Rattle.foundation.specs.declared.refusal.Refusal.{Refusal}
use Rattle.transactions.specs.Answers.{number_of}
use Rattle.receiver.specs.Events as event
use Rattle.receiver.specs.declared.event.Answer as answers
use Rattle.reception.specs.Reception.{Answer, Confirmed, said}
use Rattle.counting.specs.Counts.{told_by, answer_number, how_many, is_message, is_refused, counts_of, counted, counted_all, CountsOn}
use Rattle.counting.specs.declared.Counts.{Counts}

how_many_more : (test : Answer → Bool) (given : List Answer) (a : Answer)
    → how_many test (given ++ (a ∷ [])) ≡ how_many test given + cond (test a) 1 0
unfolding how_many
how_many_more test [] a = omega arith
how_many_more test (b ∷ rest) a = omega (arith, how_many_more test rest a)

-- a sum that wraps goes on from a count that wrapped
wraps_on : (x y before after : ℕ) → before ≡ x % 2 ^ 64 → after ≡ x + y → (before + y) % 2 ^ 64 ≡ after % 2 ^ 64
wraps_on x y before after e f = omega arith

one_more : (given : List Answer) (a : Answer) → counted (counts_of given) a ≡ counts_of (given ++ (a ∷ []))
unfolding counted counts_of
one_more given a =
    rw (
      wraps_on _ 1 _ _ refl (length-append given (a ∷ [])),
      wraps_on _ (cond (is_message a) 1 0) _ _ refl (how_many_more is_message given a),
      wraps_on _ (cond (is_refused a) 1 0) _ _ refl (how_many_more is_refused given a),
    )

pub counts_on : (more : List Answer) → CountsOn more
unfolding counted_all
counts_on [] given = ap counts_of (sym (append-nil given))
counts_on (a ∷ more) given =
    ap (λ (c : Counts). counted_all c more) (one_more given a) ∙ counts_on more (given ++ (a ∷ [])) ∙ ap counts_of (append_assoc given (a ∷ []) more)

-- a refusal of the table is told as the receiver tells it
pub told_refusal : (a : Result answers.Answer Refusal) → told_by refusal_number a ≡ event.told a
told_refusal (Ok answers.TheVariants.Opened) = refl
told_refusal (Ok answers.TheVariants.Repeat) = refl
told_refusal (Ok answers.TheVariants.Stored) = refl
told_refusal (Ok answers.TheVariants.Bad) = refl
told_refusal (Ok (answers.TheVariants.Message n)) = refl
told_refusal (Err r) = refl

-- what is no refusal has no number, whatever refusals are told by
pub no_number_by : {E : Type 0} (number : E → ℕ) (x : answers.Answer) → 0 ≡ answer_number (Confirmed (told_by number (Ok x)))
unfolding answer_number said event.said number_of
no_number_by number answers.TheVariants.Opened = refl
no_number_by number answers.TheVariants.Repeat = refl
no_number_by number answers.TheVariants.Stored = refl
no_number_by number answers.TheVariants.Bad = refl
no_number_by number (answers.TheVariants.Message n) = refl

-- and so as the receiver tells it
pub no_number : (x : answers.Answer) → 0 ≡ answer_number (Confirmed (event.told (Ok x)))
no_number x = no_number_by refusal_number x ∙ ap (λ (a : event.Answer). answer_number (Confirmed a)) (told_refusal (Ok x))
