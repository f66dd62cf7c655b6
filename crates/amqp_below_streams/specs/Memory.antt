-- Streams in memory of which some calls fail.
use Rattle.std.specs.Prelude.{ℕ, Bool, true, false, Some, Result, Ok, Err, List}
use Rattle.amqp_txn_types.specs.declared.calls.Calls.{Calls}
use Rattle.amqp_below_streams.specs.Streams.{SinkTold, SourceTold}

-- a source: the octets that are left, and its calls
pub record SourceInMemory : Type 0 where
  pub rest : List ℕ
  pub calls : Calls

-- what a source tells
abbrev pub source_told : SourceInMemory → SourceTold
source_told source = record { rest = Some source.rest; faults = source.calls.faults }

-- a sink: the octets that were written, for how many more there is room, and its calls
pub record SinkInMemory : Type 0 where
  pub octets : List ℕ
  pub spare : ℕ
  pub calls : Calls

-- what a sink tells
abbrev pub sink_told : SinkInMemory → SinkTold
sink_told sink = record {
  written = Some sink.octets;
  faults = sink.calls.faults;
  spare = sink.spare;
}

-- a call fails exactly where it is to
abbrev pub FailsWhere : {T E : Type 0} → Bool → Result T E → Type 0
FailsWhere true (Ok answer) = ⊥
FailsWhere true (Err error) = Unit {0}
FailsWhere false (Ok answer) = Unit {0}
FailsWhere false (Err error) = ⊥
