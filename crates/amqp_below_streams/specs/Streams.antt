-- What a source of octets gives, and what a sink takes.
use Rattle.std.specs.Prelude.{ℕ, ◌≡◌, ◌≤◌, ◌<◌, ◌+◌, Option, Some, None, Result, Ok, Err, List, [], length, take, drop, OnErr}
use Rattle.amqp_below_streams.specs.declared.source.Failed.{Failed}
use Rattle.amqp_txn_types.specs.declared.items.NoMemory.{NoMemory}
use Rattle.amqp_txn_types.specs.Growing.{grown}
use Rattle.amqp_txn_types.specs.Counts.{Rose}

-- what a source tells: the octets that are left, where it tells them, and how often it failed
pub record SourceTold : Type 0 where
  pub rest : Option (List ℕ)
  pub faults : ℕ

-- what a sink tells: the octets that were written, where it tells them, how often it failed, and
-- for how many octets there is room
pub record SinkTold : Type 0 where
  pub written : Option (List ℕ)
  pub faults : ℕ
  pub spare : ℕ

-- where the octets are told, these n came first and the others are left
abbrev pub MovesOn : Option (List ℕ) → Option (List ℕ) → List ℕ → ℕ → Type 0
MovesOn None new filled n = new ≡ None
MovesOn (Some octets) new filled n =
    (n ≤ length octets) × (take n filled ≡ take n octets) × (new ≡ Some (drop n octets))

-- where the octets are told, 0 in a buffer that isn't empty comes exactly at the end
abbrev pub IsEnd : Option (List ℕ) → List ℕ → ℕ → Type 0
IsEnd None buffer n = Unit {0}
IsEnd (Some octets) buffer n = 0 < length buffer → n ≡ 0 → octets ≡ []

-- the next n octets went to the front of the buffer; 0 in a buffer that isn't empty is the end
pub record Gives (old new : Option (List ℕ)) (buffer filled : List ℕ) (n : ℕ) : Type 0 where
  pub within : n ≤ length buffer
  pub behind : drop n filled ≡ drop n buffer
  pub left : MovesOn old new filled n
  pub more : IsEnd old buffer n

-- a read, by its answer
abbrev pub ReadGave : Option (List ℕ) → Option (List ℕ) → List ℕ → List ℕ → Result ℕ Failed → Type 0
ReadGave old new buffer filled (Ok n) = Gives old new buffer filled n
ReadGave old new buffer filled (Err failed) = new ≡ old

-- one read
pub record Reads (old new : Option (List ℕ)) (faults faults_after : ℕ) (buffer filled : List ℕ)
    (result : Result ℕ Failed) : Type 0 where
  pub gave : ReadGave old new buffer filled result
  pub later : faults ≤ faults_after
  pub cause : OnErr result (Rose faults faults_after)

-- a reserve, by its answer
abbrev pub ReserveGave : ℕ → ℕ → ℕ → Result Unit NoMemory → Type 0
ReserveGave spare spare_after more (Ok done) = more ≤ spare_after
ReserveGave spare spare_after more (Err error) = spare_after ≡ spare

-- room was made
pub record Reserves (old new : Option (List ℕ)) (faults faults_after spare spare_after more : ℕ)
    (result : Result Unit NoMemory) : Type 0 where
  pub written : new ≡ old
  pub faults_stay : faults_after ≡ faults
  pub room : ReserveGave spare spare_after more result

-- the first n octets were appended, at least one where there is one
pub record Appends (old new : Option (List ℕ)) (spare spare_after : ℕ) (octets : List ℕ)
    (n : ℕ) : Type 0 where
  pub within : n ≤ length octets
  pub moves : 0 < length octets → 0 < n
  pub written : new ≡ grown old (take n octets)
  pub room : spare ≤ spare_after + n

-- a write, by its answer
abbrev pub WriteGave : Option (List ℕ) → Option (List ℕ) → ℕ → ℕ → List ℕ → Result ℕ Failed → Type 0
WriteGave old new spare spare_after octets (Ok n) = Appends old new spare spare_after octets n
WriteGave old new spare spare_after octets (Err failed) = (new ≡ old) × (spare_after ≡ spare)

-- one write
pub record Writes (old new : Option (List ℕ)) (faults faults_after spare spare_after : ℕ)
    (octets : List ℕ) (result : Result ℕ Failed) : Type 0 where
  pub gave : WriteGave old new spare spare_after octets result
  pub later : faults ≤ faults_after
  pub cause : OnErr result (Rose faults faults_after)
