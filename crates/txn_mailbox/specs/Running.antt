-- What a run of a mailbox answers: its statuses, what was served, and what is written.
use Rattle.std.specs.Prelude.{ℕ, ◌≡◌, ◌≤◌, ◌⊎◌, Bool, Option, Some, None, Result, Ok, Err, List, [], length, codes, IsNone, IfSome}
use Rattle.amqp_below_ids.specs.Listed.{listed}
use Rattle.amqp_below_ids.specs.declared.list_ids.ListIds.{ListIds}
use Rattle.amqp_below_layer.specs.Told.{Told}
use Rattle.amqp_below_layer.specs.declared.open.OpenSession.{OpenSession}
use Rattle.amqp_below_recorder.specs.declared.recorder.Recorder.{Recorder}
use Rattle.amqp_below_streams.specs.Streams.{SinkTold, SourceTold}
use Rattle.amqp_resource_session.specs.declared.session.TxnSession.{TxnSession}
use Rattle.amqp_resource_session.specs.Session.{IsFresh, below_of}
use Rattle.amqp_txn_types.specs.declared.id.TransactionId.{TransactionId}
use Rattle.txn_program_edges.specs.Faults.{fault_status, fault_text}
use Rattle.txn_program_edges.specs.Reading.{Finds}
use Rattle.txn_program_edges.specs.Unserved.{line_text}
use Rattle.txn_program_edges.specs.Writing.{EndsWith, Wrote}
use Rattle.txn_program_edges.specs.declared.fault.Fault.{Fault}
use Rattle.txn_program_edges.specs.declared.input.Reading.{Reading}
use Rattle.txn_program_edges.specs.declared.input.Reading.TheVariants as readings
use Rattle.txn_program_runs.specs.Ends.{IsNewRecorder}
use Rattle.txn_program_runs.specs.Running.{stop_status, taken_of}
use Rattle.txn_program_runs.specs.declared.step_runs.TheConstants.{INPUT_LIMIT}
use Rattle.txn_mailbox_serving.specs.Serving.{KeepsLists, Serves}
use Rattle.txn_mailbox_serving.specs.declared.server.Served.{Served}
use Rattle.txn_mailbox.specs.Lists.{mailbox_ids, two_lists_of}
use Rattle.txn_mailbox.specs.Texts.{counts_text}
use Rattle.txn_mailbox.specs.declared.lists.TwoLists.{TwoLists}
use Rattle.txn_mailbox.specs.declared.runs.MailboxRan.{MailboxRan}

-- what is served: over a recorder of a layer that takes everything, with listed ids
abbrev pub ServedHere : Type 0
ServedHere = Served (Recorder OpenSession) ListIds

-- ---- statuses

-- the status of what was served: 6 where memory ran out before
abbrev pub served_status : Option ServedHere → ℕ
served_status None = 6
served_status (Some served) = stop_status served.stop

-- the status of what the lines spell: 3 for a line outside the line table
abbrev pub spelled_status : Result TwoLists ℕ → Option ServedHere → ℕ
spelled_status (Err line) served = 3
spelled_status (Ok lists) served = served_status served

-- the status of the input: 4 for a fault of the source, 7 for more octets than the limit
abbrev pub input_status : Reading → Option ServedHere → ℕ
input_status readings.Fault served = 4
input_status readings.TooLong served = 7
input_status (readings.Whole octets) served = spelled_status (two_lists_of octets) served

-- the status: 2 for words outside the table; out of memory and a fault of the sink apart
abbrev pub mailbox_status : Option (List TransactionId) → Reading → Option ServedHere → ℕ
mailbox_status None reading served = 2
mailbox_status (Some ids) reading served = input_status reading served

-- ---- texts

-- the text of what was served, by what the recorder tells of itself
abbrev pub served_text : (Recorder OpenSession → Told) → Option ServedHere → List ℕ
served_text told None = []
served_text told (Some served) =
    counts_text (length served.entries) served.marks
    (length (taken_of (told (below_of served.session)))) served.stop

-- the text of what the lines spell: of the line that is outside the table, or what was served
abbrev pub spelled_text :
    (Recorder OpenSession → Told) → Result TwoLists ℕ → Option ServedHere → List ℕ
spelled_text told (Err line) served = line_text line
spelled_text told (Ok lists) served = served_text told served

-- the text of the input
abbrev pub input_text : (Recorder OpenSession → Told) → Reading → Option ServedHere → List ℕ
input_text told readings.Fault served = codes "read fault\n"
input_text told readings.TooLong served = codes "input too long\n"
input_text told (readings.Whole octets) served = spelled_text told (two_lists_of octets) served

-- the text that is written
abbrev pub mailbox_text : (Recorder OpenSession → Told) → Option (List TransactionId) → Reading
    → Option ServedHere → List ℕ
mailbox_text told None reading served = codes "usage\n"
mailbox_text told (Some ids) reading served = input_text told reading served

-- ---- what a run leaves

-- what was read: the input, before a step is served, and nothing else reads it; out of memory may
-- come before the input is read
abbrev pub ReadFor : Option (List TransactionId) → ℕ → Option ServedHere → SourceTold → SourceTold
    → Reading → Type 0
ReadFor None status served before after reading = after ≡ before
ReadFor (Some ids) status served before after reading =
    Finds INPUT_LIMIT before after reading ⊎ ((status ≡ 6) × IsNone served)

-- both lists were served over a new recorder, of which `told` says what it tells, and declares drew
-- from that source
pub record ServesOver (told : Recorder OpenSession → Told) (sure : Bool)
    (next : ListIds → ℕ → TransactionId) (starts : ListIds → Option (ℕ → TransactionId))
    (source : ListIds) (lists : TwoLists) (served : ServedHere) : Type 0 where
  pub session : TxnSession (Recorder OpenSession)
  pub fresh : IsFresh told session
  pub recorder : IsNewRecorder (told (below_of session)) (below_of session)
  pub keeps : KeepsLists lists.first lists.second served.session served.entries served.marks
      served.stop
  pub serves : Serves told sure next starts session served.session source served.ids lists.first
      lists.second served.entries served.marks served.stop

-- both lists were served over a new recorder, and declares drew these ids
abbrev pub ServesLists : (Recorder OpenSession → Told) → Bool → (ListIds → ℕ → TransactionId)
    → (ListIds → Option (ℕ → TransactionId)) → List TransactionId → TwoLists → ServedHere
    → Type 0
ServesLists told sure next starts ids lists served =
    (source : ListIds) × ((n : ℕ) → next source n ≡ listed ids n)
    × ServesOver told sure next starts source lists served

-- a fact of the two lists that the octets spell, where they spell two
abbrev pub IfSpelled : Result TwoLists ℕ → (TwoLists → Type 0) → Type 0
IfSpelled (Err line) Fact = ⊥
IfSpelled (Ok lists) Fact = Fact lists

-- the input was read whole and spells two lists, of which the fact holds
abbrev pub IfRead : Reading → (TwoLists → Type 0) → Type 0
IfRead readings.Fault Fact = ⊥
IfRead readings.TooLong Fact = ⊥
IfRead (readings.Whole octets) Fact = IfSpelled (two_lists_of octets) Fact

-- the words name ids, and the input spells two lists, of both of which the fact holds
abbrev pub IfAsked :
    Option (List TransactionId) → Reading → (List TransactionId → TwoLists → Type 0) → Type 0
IfAsked None reading Fact = ⊥
IfAsked (Some ids) reading Fact = IfRead reading (Fact ids)

-- what was read is within the limit of the input
abbrev pub IsWithinLimit : Reading → Type 0
IsWithinLimit readings.Fault = Unit {0}
IsWithinLimit readings.TooLong = Unit {0}
IsWithinLimit (readings.Whole octets) = length octets ≤ INPUT_LIMIT

-- what a run served and wrote: of what was served, `status_by` is the status of the table, `Of` what
-- it is, and `text_by` what is written
pub record ServesAndWrites (output written : SinkTold) (status_by : Option ServedHere → ℕ)
    (Of : ServedHere → Type 0) (text_by : Option ServedHere → List ℕ) (ran : MailboxRan)
    : Type 0 where
  -- the status is that of the table; out of memory or a fault of the sink may come in its place
  pub status : EndsWith output.faults written.faults (status_by ran.served) ran.status
  pub serves : IfSome ran.served Of
  -- what is written are the numbers of what was served, or the text of the status
  pub text : Wrote output.written written.written ran.status (text_by ran.served)

-- a run of a mailbox for the ids of its words, none for words outside the table, with what the
-- source tells before and after, and the sink. `told` says what a recorder tells, and `Serving` what
-- it is to serve two lists with some ids
pub record RunsMailbox (told : Recorder OpenSession → Told)
    (Serving : List TransactionId → TwoLists → ServedHere → Type 0)
    (words : Option (List TransactionId)) (input left : SourceTold) (output written : SinkTold)
    (ran : MailboxRan) : Type 0 where
  -- what the reading of the input found, before a step was served
  pub reading : Reading
  pub read : ReadFor words ran.status ran.served input left reading
  -- what was served are the two lists that the input spells, with the ids of the words
  pub run : ServesAndWrites output written (mailbox_status words reading)
      (λ served. IfAsked words reading (λ ids lists. Serving ids lists served))
      (mailbox_text told words reading) ran

-- a run without arguments: nothing is read or served. The status is that of the fault; out of
-- memory or a fault of the sink may come in its place
pub record EndsFaulty (fault : Fault) (input left : SourceTold) (output written : SinkTold)
    (ran : MailboxRan) : Type 0 where
  pub read : left ≡ input
  pub status : EndsWith output.faults written.faults (fault_status fault) ran.status
  pub text : Wrote output.written written.written ran.status (fault_text fault)
  pub served : IsNone ran.served

-- the run of a process: it does what the arguments ask for, and without arguments it ends by the
-- fault
abbrev pub EndsMailbox : (Recorder OpenSession → Told)
    → (List TransactionId → TwoLists → ServedHere → Type 0)
    → Result (List (List ℕ)) Fault → SourceTold → SourceTold → SinkTold → SinkTold → MailboxRan
    → Type 0
EndsMailbox told Serving (Ok arguments) input left output written ran =
    RunsMailbox told Serving (mailbox_ids arguments) input left output written ran
EndsMailbox told Serving (Err fault) input left output written ran =
    EndsFaulty fault input left output written ran
