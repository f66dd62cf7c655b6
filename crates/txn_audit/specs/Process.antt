-- What an audit of a process leaves: for its arguments, or where there were none.
use Rattle.std.specs.Prelude.{ℕ, ◌≡◌, Option, None, Result, Ok, Err, List}
use Rattle.amqp_below_streams.specs.Streams.{SinkTold, SourceTold}
use Rattle.txn_program_edges.specs.Faults.{fault_status, fault_text}
use Rattle.txn_program_edges.specs.Writing.{EndsWith, Wrote}
use Rattle.txn_program_edges.specs.declared.fault.Fault.{Fault}
use Rattle.txn_audit.specs.AuditInput.{audit_words}
use Rattle.txn_audit.specs.Auditing.{Audits}

-- a process without arguments: nothing is read, and nothing told. The status is that of the fault; out of memory or a
-- fault of the sink may come in its place
pub record EndsFaulty (fault : Fault) (input left : SourceTold) (output written : SinkTold)
    (ended : ℕ) (why : Option (List ℕ)) : Type 0 where
  pub told : why ≡ None
  pub read : left ≡ input
  pub status : EndsWith output.faults written.faults (fault_status fault) ended
  pub text : Wrote output.written written.written ended (fault_text fault)

-- the audit of a process, with what the source and the sink tell before and after
abbrev pub EndsAudit : Result (List (List ℕ)) Fault → SourceTold → SourceTold → SinkTold
    → SinkTold → ℕ → Option (List ℕ) → Type 0
EndsAudit (Ok arguments) input left output written status why =
    Audits (audit_words arguments) input left output written status why
EndsAudit (Err fault) input left output written status why =
    EndsFaulty fault input left output written status why
