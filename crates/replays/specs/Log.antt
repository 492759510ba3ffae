-- A log: own address (3 octets), then records of kind (1 octet: 0 header, 1 block, 2 end of attempt, 3 restart), length (2 octets, most
-- significant first) and that many octets. Which records a part of it has.
-- Assumes nothing.
use Rattle.std.specs.Prelude.{Bool, true, cond, List, [], ◌∷◌, ℕ, zero, suc, ◌+◌, ◌*◌, leb, ltb, length, get_or, take, drop}
use Rattle.foundation.specs.Order.{all}
use Rattle.history.specs.Run.{Action}
use Rattle.logs.specs.Log.{Record, act, none, record_of}

-- where the first record ends, by its length
abbrev pub record_end : List ℕ → ℕ
record_end os = 3 + (256 * get_or os 1 0 + get_or os 2 0)

-- whether all of it has come
unfoldable pub is_whole : List ℕ → Bool
is_whole os = all (leb 3 (length os) ∷ leb (record_end os) (length os) ∷ [])

abbrev pub first_record : List ℕ → Record
first_record os = record_of (get_or os 0 0) (drop 3 (take (record_end os) os))

-- the records that have come whole, at most k; where nothing follows (`last`), octets left over are one more, which is none
unfoldable pub records : Bool → ℕ → List ℕ → List Record
records last zero os = []
records last (suc k) os =
    cond (is_whole os) (first_record os ∷ records last k (drop (record_end os) os))
    (cond (all (last ∷ ltb 0 (length os) ∷ [])) (none ∷ []) [])

-- the octets that they take
unfoldable pub octets_taken : Bool → ℕ → List ℕ → ℕ
octets_taken last zero os = 0
octets_taken last (suc k) os =
    cond (is_whole os) (record_end os + octets_taken last k (drop (record_end os) os)) (cond last (length os) 0)

-- all records of a log, behind its own address
unfoldable pub records_of : List ℕ → List Record
records_of os = records true (length os) os

-- the actions of a list of records
unfoldable pub actions_of : List Record → List Action
actions_of [] = []
actions_of (act a ∷ rest) = a ∷ actions_of rest
actions_of (none ∷ rest) = actions_of rest
