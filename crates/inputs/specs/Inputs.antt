-- What holds of octets that are read behind others, and of a program that has read its input and written its text.
-- Assumes nothing.
use Rattle.std.specs.Prelude.{IfSome, cond, nat_lt, [], ◌++◌, ◌≡◌, Bool, true, false, List, ℕ, ◌%◌, ◌^◌, ◌≤◌, ◌<◌, length, get_or, take, drop}
use Rattle.std.specs.Io.KnownBytes.{Appends}
use Rattle.std.specs.declared.option.Option.{Option}
use Rattle.std.specs.declared.result.Result.{Result}
use Rattle.std.specs.declared.result.Result.TheVariants.{Ok, Err}
use Rattle.std.specs.declared.io.Error.{Error}
use Rattle.inputs.specs.declared.Unread.{Unread}
use Rattle.inputs.specs.declared.printing.Printed.{Printed}
use Rattle.inputs.specs.declared.printing.Failed.{Failed}
use Rattle.inputs.specs.declared.printing.Failed.TheVariants.{Input, Output}

-- how many octets there are after a reading, that of a part too
abbrev pub size_read : Result ℕ Unread → ℕ
size_read (Ok n) = n
size_read (Err u) = u.size

-- the first octets stay, and the others are behind them and inside the memory
pub record ReadBehind (input : List ℕ) (first size : ℕ) (input' : List ℕ) : Type 0 where
  pub kept : take first input' ≡ take first input
  pub behind : first ≤ size
  pub inside : first ≤ length input → size ≤ length input
  pub octets : (i : ℕ) → get_or input' i 0 < 256

-- whatever follows, or nothing where nothing can: the text of what was read and follows is what was written, and then the text, from now on, of
-- the rest and of what follows
abbrev pub Continues : {S : Type 0} → (S → List ℕ → List ℕ) → S → List ℕ → Bool → List ℕ → S → List ℕ → Type 0
Continues text first read ended written now rest =
    (more : List ℕ) → (ended ≡ true → more ≡ []) → text first (read ++ more) ≡ written ++ text now (rest ++ more)

-- what a printer gives for octets: their text in front, those behind them as they are to be answered from there on; some of the last ones are
-- taken, and some of so many as there is memory for
pub record Prints {S : Type 0} (text : S → List ℕ → List ℕ) (first : S) (octets : List ℕ) (last : Bool) (r : Printed) (now : S) (lent : List ℕ) : Type 0 where
  pub goes_on : Continues text first octets last (take r.end lent) now (drop r.taken octets)
  pub ends : r.end ≤ length lent
  pub takes : r.taken ≤ length octets
  pub takes_last : last ≡ true → r.taken ≡ 0 → length octets ≡ 0
  pub takes_full : last ≡ false → r.taken ≡ 0 → length octets < 65538

-- a program that makes a text of what it reads, from a state on, and counts both (modulo 2^64): there are octets, as many as it counted as read,
-- and a text, of as many octets as it counted as written, and the text is that of the octets
pub record ReadAndWritten {S : Type 0} (text : S → List ℕ → List ℕ) (first : S) (octets letters : ℕ) : Type 0 where
  pub read : List ℕ
  pub written : List ℕ
  pub octets-read : (i : ℕ) → get_or read i 0 < 256
  pub as_many : length read % 2 ^ 64 ≡ octets
  pub so_long : length written % 2 ^ 64 ≡ letters
  pub whole : text first read ≡ written

-- where it is known which octets the reader has left and which the writer holds: the writer holds as many more as the text of all of them is
abbrev pub AllWritten : {S : Type 0} → (S → List ℕ → List ℕ) → S → Option (List ℕ) → Option (List ℕ) → Option (List ℕ) → Type 0
AllWritten text first from to to' = IfSome from (λ os. ((i : ℕ) → get_or os i 0 < 256) × Appends to to' (text first os))

-- the text of what stands behind an own address of three octets: where that is cut short, the text of nothing
unfoldable pub behind_own : {S : Type 0} → (S → List ℕ → List ℕ) → List ℕ → S → List ℕ → List ℕ
behind_own text own first os = cond (nat_lt (length own) 3) (text first []) (text first os)

-- the same as `AllWritten` behind an own address
abbrev pub WrittenBehind : {S : Type 0} → (S → List ℕ → List ℕ) → S → List ℕ → Option (List ℕ) → Option (List ℕ) → Option (List ℕ) → Type 0
WrittenBehind text first own from to to' =
    IfSome from (λ os. (3 ≤ length own → (i : ℕ) → get_or os i 0 < 256) × Appends to to' (behind_own text own first os))

-- why a stream failed
abbrev pub failed_by : Failed → Error
failed_by (Input e) = e
failed_by (Output e) = e
