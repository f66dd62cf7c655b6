-- What the reading of an input finds.
use Rattle.std.specs.Prelude.{ℕ, ◌≡◌, ◌≤◌, ◌<◌, ◌+◌, ◌++◌, Option, Some, None, List, [], length, drop}
use Rattle.amqp_below_streams.specs.Streams.{SourceTold}
use Rattle.amqp_txn_types.specs.Counts.{Rose}
use Rattle.txn_program_edges.specs.declared.std_streams.StdSource.{StdSource}
use Rattle.txn_program_edges.specs.declared.input.Reading.{Reading}
use Rattle.txn_program_edges.specs.declared.input.Reading.TheVariants as readings

-- what a source tells, by its two members
abbrev pub source_of : {I : Type 0} → (I → Option (List ℕ)) → (I → ℕ) → I → SourceTold
source_of rest faults input = record { rest = rest input; faults = faults input }

-- the reader of a source, and how often it failed
abbrev pub reader_of : {R : Type 0} → StdSource R → R
reader_of source = source.reader

abbrev pub source_faults_of : {R : Type 0} → StdSource R → ℕ
source_faults_of source = source.faults

-- where the octets are told, these came first and the others are left
abbrev pub IsRead : Option (List ℕ) → List ℕ → Option (List ℕ) → Type 0
IsRead None octets after = after ≡ None
IsRead (Some before) octets after =
    (rest : List ℕ) × (before ≡ octets ++ rest) × (after ≡ Some rest)

-- where the octets are told, a read of none comes at the end alone
abbrev pub IsEndAt : Option (List ℕ) → ℕ → Type 0
IsEndAt None count = Unit {0}
IsEndAt (Some before) count = count ≡ 0 → before ≡ []

-- where the octets are told: they were more than the limit, of which that many and one were read
abbrev pub IsTooLong : ℕ → Option (List ℕ) → Option (List ℕ) → Type 0
IsTooLong limit None after = Unit {0}
IsTooLong limit (Some before) after =
    (limit < length before) × (after ≡ Some (drop (limit + 1) before))

-- where the octets are told: these are all of them, and none is left
abbrev pub IsWhole : Option (List ℕ) → List ℕ → Option (List ℕ) → Type 0
IsWhole None octets after = Unit {0}
IsWhole (Some before) octets after = (before ≡ octets) × (after ≡ Some [])

-- a reading of octets up to a limit, by what it found: a fault only where the count of faults rose
abbrev pub Finds : ℕ → SourceTold → SourceTold → Reading → Type 0
Finds limit before after readings.Fault = Rose before.faults after.faults
Finds limit before after readings.TooLong = IsTooLong limit before.rest after.rest
Finds limit before after (readings.Whole octets) =
    (length octets ≤ limit) × IsWhole before.rest octets after.rest
