-- A capture on standard input, listed on standard output.
-- Assumes nothing.
use Rattle.std.specs.Prelude.{ℕ, cond, List, [], ◌++◌, IfSome, IfOk, OnOk, length, take, drop, replicate, nat_lt}
use Rattle.std.specs.Io.KnownBytes.{Appends}
use Rattle.std.specs.declared.option.Option.{Option}
use Rattle.std.specs.declared.result.Result.{Result}
use Rattle.addresses.specs.Octets.{address_at}
use Rattle.receiver_state.specs.Receiver.{store_size}
use Rattle.history.specs.History.{nothing}
use Rattle.counting.specs.Counts.{counts_of}
use Rattle.captures.specs.declared.Listing.{Listing}
use Rattle.captures.specs.Lines.{listed, closing}
use Rattle.captures.specs.Captures.{datagrams_of, Running, running, started, answers_given}
use Rattle.captures.specs.Rule.{outcomes_by_rule}
use Rattle.inputs.specs.Inputs.{ReadAndWritten}
use Rattle.inputs.specs.declared.printing.Ended.{Ended}
use Rattle.inputs.specs.declared.printing.Failed.{Failed}

-- a gateway of this address before its first datagram, over a store of zeros
abbrev pub beginning : List ℕ → Running
beginning own = running (started own) (replicate store_size 0)

-- the whole text of an own address and what follows it: the lines of what the history rule tells of the datagrams, and the last line of the
-- counts of the answers given; the last line alone where the address is cut short
unfoldable pub listing_of : Listing → List ℕ → List ℕ → List ℕ
listing_of l own os =
    let ds = datagrams_of os in
    cond (nat_lt (length own) 3) (closing l (counts_of []))
    (listed l 0 (outcomes_by_rule (address_at own 0) nothing ds) ++ closing l (counts_of (answers_given (beginning own) ds)))

-- a run that comes to the end of the input and writes all: the text is that of what was read behind the own address, as counted
abbrev pub WritesListing : Listing → List ℕ → Result Ended Failed → Type 0
WritesListing l own r = IfOk r (λ e. ReadAndWritten (listing_of l) own e.read e.written)

-- and where it is known which octets the reader has left and which the writer holds: the writer holds as many more as the text of all of them is
abbrev pub ListsKnown : Listing → List ℕ → Result Ended Failed → Option (List ℕ) → Option (List ℕ) → Option (List ℕ) → Type 0
ListsKnown l own r from to to' = OnOk r (IfSome from (λ os. Appends to to' (listing_of l own os)))

-- the same of the own address and what follows it
abbrev pub ListsAll : Listing → Result Ended Failed → Option (List ℕ) → Option (List ℕ) → Option (List ℕ) → Type 0
ListsAll l r from to to' = OnOk r (IfSome from (λ os. Appends to to' (listing_of l (take 3 os) (drop 3 os))))
