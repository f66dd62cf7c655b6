-- What is written of a text.
use Rattle.std.specs.Prelude.{ℕ, ◌≡◌, ◌==◌, ◌⊎◌, Option, List, [], take, if◌then◌else◌}
use Rattle.amqp_below_streams.specs.Streams.{SinkTold}
use Rattle.amqp_txn_types.specs.Counts.{Rose}
use Rattle.txn_program_edges.specs.declared.std_streams.StdSink.{StdSink}
use Rattle.amqp_txn_types.specs.Growing.{grown}

-- what a sink tells, by its three members
abbrev pub sink_of :
    {O : Type 0} → (O → Option (List ℕ)) → (O → ℕ) → (O → ℕ) → O → SinkTold
sink_of written faults spare output =
    record { written = written output; faults = faults output; spare = spare output }

-- a front of the text was written
abbrev pub WroteFront : Option (List ℕ) → Option (List ℕ) → List ℕ → Type 0
WroteFront before after text = (count : ℕ) × (after ≡ grown before (take count text))

-- what is written of a text by the status: nothing where memory runs out, a front where the sink
-- failed, else the text
abbrev pub text_by : ℕ → ℕ → List ℕ → List ℕ
text_by status count text =
    if status == 6 then [] else (if status == 5 then take count text else text)

-- the text was written, as far as the status says
pub record Wrote (before after : Option (List ℕ)) (status : ℕ) (text : List ℕ) : Type 0 where
  pub count : ℕ
  pub written : after ≡ grown before (text_by status count text)

-- the status is that of the table, or in its place 6 where memory runs out, or 5 where the count of
-- faults of the sink rose
abbrev pub EndsWith : ℕ → ℕ → ℕ → ℕ → Type 0
EndsWith faults faults_after wanted status =
    (status ≡ 6) ⊎ (((status ≡ 5) × Rose faults faults_after) ⊎ (status ≡ wanted))

-- the writer of a sink, how often it failed, and for how many octets there is room
abbrev pub writer_of : {W : Type 0} → StdSink W → W
writer_of sink = sink.writer

abbrev pub sink_faults_of : {W : Type 0} → StdSink W → ℕ
sink_faults_of sink = sink.faults

abbrev pub spare_of : {W : Type 0} → StdSink W → ℕ
spare_of sink = sink.spare
