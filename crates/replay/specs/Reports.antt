-- A log on standard input, its lines on standard output.
-- Assumes nothing.
use Rattle.std.specs.Prelude.{ℕ, cond, List, [], IfSome, IfOk, OnOk, length, take, drop, nat_lt}
use Rattle.std.specs.Io.KnownBytes.{Appends}
use Rattle.std.specs.declared.option.Option.{Option}
use Rattle.std.specs.declared.result.Result.{Result}
use Rattle.addresses.specs.Octets.{address_at}
use Rattle.history.specs.History.{nothing}
use Rattle.replays.specs.Log.{records_of}
use Rattle.replays.specs.Text.{report_text}
use Rattle.replays.specs.Rule.{lines_from}
use Rattle.inputs.specs.Inputs.{ReadAndWritten}
use Rattle.inputs.specs.declared.printing.Ended.{Ended}
use Rattle.inputs.specs.declared.printing.Failed.{Failed}

-- the whole text of an own address and what follows it: the lines of the records by the history rule; none where the address is cut short
unfoldable pub report_of : List ℕ → List ℕ → List ℕ
report_of own os = cond (nat_lt (length own) 3) [] (report_text (lines_from (address_at own 0) nothing (records_of os)))

-- a run that comes to the end of the input and writes all: the text is that of what was read behind the own address, as counted
abbrev pub WritesReport : List ℕ → Result Ended Failed → Type 0
WritesReport own r = IfOk r (λ e. ReadAndWritten report_of own e.read e.written)

-- and where it is known which octets the reader has left and which the writer holds: the writer holds as many more as the text of all of them is
abbrev pub ReportsKnown : List ℕ → Result Ended Failed → Option (List ℕ) → Option (List ℕ) → Option (List ℕ) → Type 0
ReportsKnown own r from to to' = OnOk r (IfSome from (λ os. Appends to to' (report_of own os)))

-- the same of the own address and what follows it
abbrev pub ReportsAll : Result Ended Failed → Option (List ℕ) → Option (List ℕ) → Option (List ℕ) → Type 0
ReportsAll r from to to' = OnOk r (IfSome from (λ os. Appends to to' (report_of (take 3 os) (drop 3 os))))
