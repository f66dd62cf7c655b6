-- How runs of a mailbox end.
use Rattle.std.proofs.Common.{◌≡◌, ℕ, inl, inr, Bool, Option, Some, None, List, refl, sym, ap, ◌∙◌, subst}
use Rattle.std.specs.Prelude.{IfSome}
use Rattle.amqp_txn_types.specs.declared.id.TransactionId.{TransactionId}
use Rattle.amqp_txn_types.proofs.Growing.{grown-nil}
use Rattle.amqp_below_ids.specs.Listed.{listed}
use Rattle.amqp_below_ids.specs.declared.list_ids.ListIds.{ListIds}
use Rattle.amqp_below_layer.specs.Told.{Told}
use Rattle.amqp_below_layer.specs.declared.open.OpenSession.{OpenSession}
use Rattle.amqp_below_recorder.specs.declared.recorder.Recorder.{Recorder}
use Rattle.amqp_below_streams.specs.Streams.{SinkTold, SourceTold}
use Rattle.txn_program_edges.specs.Unserved.{unserved_status, unserved_text}
use Rattle.txn_program_edges.specs.Writing.{EndsWith, Wrote}
use Rattle.txn_program_edges.specs.declared.input.Reading.TheVariants as readings
use Rattle.txn_program_edges.specs.declared.unserved.Unserved.{Unserved}
use Rattle.txn_mailbox.specs.declared.lists.TwoLists.{TwoLists}
use Rattle.txn_mailbox.specs.declared.runs.MailboxRan.{MailboxRan}
use Rattle.txn_mailbox.specs.Running.{RunsMailbox, ServedHere, ServesAndWrites, ServesLists, ServesOver}

pub some_is : {A : Type 0} (a b : A) → Some a ≡ Some b → a ≡ b
some_is a b e = cc e

-- a run where nothing was served
abbrev pub unserving : ℕ → MailboxRan
unserving status = record { status = status; served = None }

-- memory ran out
pub no-memory : (output : SinkTold) (status_by : Option ServedHere → ℕ) (Of : ServedHere → Type 0) (text_by : Option ServedHere → List ℕ)
    → ServesAndWrites output output status_by Of text_by (unserving 6)
no-memory output status_by Of text_by = record { status = inl refl; serves = tt; text = record { count = 0; written = sym (grown-nil output.written) } }

-- the status and the text are those of why
pub unserved : (output written : SinkTold) (why : Unserved) (status : ℕ) (status_by : Option ServedHere → ℕ) (Of : ServedHere → Type 0) (text_by : Option ServedHere → List ℕ)
    → EndsWith output.faults written.faults (unserved_status why) status → Wrote output.written written.written status (unserved_text why)
    → status_by None ≡ unserved_status why → text_by None ≡ unserved_text why
    → ServesAndWrites output written status_by Of text_by (unserving status)
unserved output written why status status_by Of text_by ends wrote same_status same_text = record {
  status = subst (λ (s : ℕ). EndsWith output.faults written.faults s status) (sym same_status) ends;
  serves = tt;
  text = subst (λ (t : List ℕ). Wrote output.written written.written status t) (sym same_text) wrote;
}

-- what was served is that
pub of-served : (output written : SinkTold) (status_by : Option ServedHere → ℕ) (text_by : Option ServedHere → List ℕ) (served : ServedHere) (Of : ServedHere → Type 0) (ran : MailboxRan)
    → ServesAndWrites output written status_by (λ s. s ≡ served) text_by ran → Of served
    → ServesAndWrites output written status_by Of text_by ran
of-served output written status_by text_by served Of ran run fact = record { status = run.status; serves = same ran.served run.serves; text = run.text }
  where
    same : (o : Option ServedHere) → IfSome o (λ s. s ≡ served) → IfSome o Of
    same None h = tt
    same (Some s) h = subst Of (sym h) fact

-- memory ran out before the input was read
pub unread : (told : Recorder OpenSession → Told) (Serving : List TransactionId → TwoLists → ServedHere → Type 0) (words : Option (List TransactionId)) (input : SourceTold) (output : SinkTold)
    → RunsMailbox told Serving words input input output output (unserving 6)
unread told Serving None input output = record { reading = readings.Fault; read = refl; run = no-memory output _ _ _ }
unread told Serving (Some ids) input output = record { reading = readings.Fault; read = inr (refl, refl); run = no-memory output _ _ _ }

-- a run whose declares drew from a source of these ids
pub with-source : (output written : SinkTold) (status_by : Option ServedHere → ℕ) (text_by : Option ServedHere → List ℕ) (told : Recorder OpenSession → Told) (sure : Bool) (next : ListIds → ℕ → TransactionId) (starts : ListIds → Option (ℕ → TransactionId)) (source : ListIds) (lists : TwoLists) (ran : MailboxRan) (these ids : List TransactionId)
    → these ≡ ids → ((n : ℕ) → next source n ≡ listed these n)
    → ServesAndWrites output written status_by (ServesOver told sure next starts source lists) text_by ran
    → ServesAndWrites output written status_by (ServesLists told sure next starts ids lists) text_by ran
with-source output written status_by text_by told sure next starts source lists ran these ids same ids_are run = record { status = run.status; serves = more ran.served run.serves; text = run.text }
  where
    more : (o : Option ServedHere) → IfSome o (ServesOver told sure next starts source lists) → IfSome o (ServesLists told sure next starts ids lists)
    more None h = tt
    more (Some s) h = (source, λ n. ids_are n ∙ ap (λ l. listed l n) same, h)
