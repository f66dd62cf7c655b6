-- Transactions that own their control link.
use Rattle.std.specs.Prelude.{◌≡◌, Bool, true, false, Option, Some, None, Result, Ok, Err, IsSome, IsNone}
use Rattle.amqp_txn_types.specs.declared.delivery.SessionStopReason.{SessionStopReason}
use Rattle.amqp_txn_types.specs.declared.id.TransactionId.{TransactionId}
use Rattle.amqp_txn_types.specs.declared.performatives.Attach.{Attach}
use Rattle.amqp_txn_types.specs.declared.performatives.LinkEnd.{LinkEnd}
use Rattle.amqp_txn_types.specs.declared.text.Text.{Text}
use Rattle.amqp_links.specs.declared.errors.DetachError.{DetachError}
use Rattle.amqp_links.specs.declared.sendable.Sent.{Sent}
use Rattle.amqp_links.specs.Sending.{SenderTold}
use Rattle.amqp_below_sessions.specs.declared.relay.NameState.{NameState}
use Rattle.amqp_below_sessions.specs.declared.relay.NameState.TheVariants.{Taken}
use Rattle.amqp_below_sessions.specs.declared.attach_errors.SenderAttachError.{SenderAttachError}
use Rattle.amqp_links.specs.declared.progress.Progress.{Progress}
use Rattle.amqp_links.specs.declared.progress.Progress.TheVariants as waits
use Rattle.amqp_controller_calls.specs.declared.errors.ControllerSendError.{ControllerSendError}
use Rattle.amqp_controller_calls.specs.Errors.{is_rollback}
use Rattle.amqp_controller_calls.specs.Polls.{LooksOn}
use Rattle.amqp_controller_calls.specs.Sends.{SendsOn}
use Rattle.amqp_controller_transactions.specs.declared.begun.Begun.{Begun}
use Rattle.amqp_controller_transactions.specs.declared.owned_errors.OwnedDeclareError.{OwnedDeclareError}
use Rattle.amqp_controller_transactions.specs.declared.owned_errors.OwnedDeclareError.TheVariants as declares
use Rattle.amqp_controller_transactions.specs.declared.owned_errors.OwnedDischargeError.{OwnedDischargeError}
use Rattle.amqp_controller_transactions.specs.declared.owned_errors.OwnedDischargeError.TheVariants as discharges
use Rattle.amqp_controller_transactions.specs.declared.owned_transaction.OwnedDeclaringOn.{OwnedDeclaringOn}
use Rattle.amqp_controller_transactions.specs.declared.owned_transaction.OwnedTransaction.{OwnedTransaction}
use Rattle.amqp_controller_transactions.specs.declared.owned_declare.Awaited.{Awaited}
use Rattle.amqp_controller_transactions.specs.declared.owned_declare.Awaited.TheVariants as awaits
use Rattle.amqp_controller_transactions.specs.Attaches.{IsStopped}
use Rattle.amqp_controller_transactions.specs.Declares.{PollsToBegin}
use Rattle.amqp_controller_transactions.specs.Locked.{ClosesOn, ClosesUnder, DischargesUnder, PollsUnder, SendsUnder, declare_of}

-- the error is that of the close of the link
abbrev pub is_close_error : OwnedDischargeError → Bool
is_close_error (discharges.DetachError fault) = true
is_close_error (discharges.ControllerSendError fault) = false

-- the error says that the transaction was rolled back
abbrev pub is_owned_rollback : OwnedDischargeError → Bool
is_owned_rollback (discharges.DetachError fault) = false
is_owned_rollback (discharges.ControllerSendError fault) = is_rollback fault

-- what its owner sees of a transaction
abbrev pub owned_begun : {L : Type 0} → OwnedTransaction L → Begun
owned_begun transaction = transaction.begun

-- how the declare of an owned transaction was sent
abbrev pub owned_sent : {L : Type 0} → OwnedDeclaringOn L → Sent
owned_sent declaring = declaring.declare

-- what the link answered to that declare
abbrev pub owned_declare_sent : {L C : Type 0}
    → Result (OwnedDeclaringOn L) (C × ControllerSendError) → Result Sent ControllerSendError
owned_declare_sent (Ok declaring) = Ok (owned_sent declaring)
owned_declare_sent (Err refused) = Err refused.1

-- an error of the discharge, as an owned transaction's
abbrev pub owned_by_send : {R : Type 0} → Result R ControllerSendError
    → Result R OwnedDischargeError
owned_by_send (Ok done) = Ok done
owned_by_send (Err error) = Err (discharges.ControllerSendError error)

-- what a poll of the discharge found, as an owned transaction's
abbrev pub owned_by_poll : {W R : Type 0} → Progress W (Result R ControllerSendError)
    → Progress W (Result R OwnedDischargeError)
owned_by_poll (waits.Pending wait) = waits.Pending wait
owned_by_poll (waits.Ready result) = waits.Ready (owned_by_send result)

-- an error of the close, as an owned transaction's
abbrev pub owned_by_close : Result Unit DetachError → Result Unit OwnedDischargeError
owned_by_close (Ok done) = Ok done
owned_by_close (Err fault) = Err (discharges.DetachError fault)

-- a discharge of an owned transaction is put
abbrev pub OwnedDischarges : {L : Type 0} → SendsOn L → (L → SenderTold) → Begun → Bool
    → Result Sent OwnedDischargeError → Type 0
OwnedDischarges gives told begun fail result =
    (sent : Result Sent ControllerSendError)
    × DischargesUnder gives told begun fail sent × (result ≡ owned_by_send sent)

-- a poll of it: one look
abbrev pub OwnedPolls : {L : Type 0} → LooksOn L → (L → SenderTold) → Sent
    → Progress Sent (Result Unit OwnedDischargeError) → Type 0
OwnedPolls gives told waiting result =
    (found : Progress Sent (Result Unit ControllerSendError))
    × PollsUnder gives told waiting found × (result ≡ owned_by_poll found)

-- a discharged transaction is dropped: its link is closed
abbrev pub ClosesAtEnd : {L : Type 0} → ClosesOn L → (L → SenderTold)
    → Result Unit OwnedDischargeError → Type 0
ClosesAtEnd gives told result =
    (closed : Result Unit DetachError)
    × ClosesUnder gives told None closed × (result ≡ owned_by_close closed)

-- what an owned transaction that is being declared waits for, as contracts see it: the peer's
-- attach of its link, with the global id that the declare is to name; then the outcome of the
-- declare, by how that was sent
pub data OwnedWait : Type 0 where
  for_attach : LinkEnd → Option TransactionId → OwnedWait
  for_declare : Sent → OwnedWait

abbrev pub awaited_of : Awaited → OwnedWait
awaited_of (awaits.Attach attaching global_id) = for_attach attaching global_id
awaited_of (awaits.Declare declaring) = for_declare (owned_sent declaring)

-- the link was attached, and the declare was put
abbrev pub is_put : OwnedWait → Bool
is_put (for_attach end global_id) = false
is_put (for_declare sent) = true

-- an attach that was asked for, as the wait for an owned transaction
abbrev pub owned_by : Option TransactionId → Result (LinkEnd × Attach) SenderAttachError
    → Result (OwnedWait × Attach) OwnedDeclareError
owned_by global_id (Ok attached) = Ok (for_attach attached.0 global_id, attached.1)
owned_by global_id (Err error) = Err (declares.AttachError error)

-- the error is that of an attach, for which this holds
abbrev pub IsAttachError : OwnedDeclareError → (SenderAttachError → Type 0) → Type 0
IsAttachError (declares.AttachError fault) P = P fault
IsAttachError (declares.ControllerSendError fault) P = ⊥

-- the error is that of a declare, for which this holds
abbrev pub IsDeclareError : OwnedDeclareError → (ControllerSendError → Type 0) → Type 0
IsDeclareError (declares.AttachError fault) P = ⊥
IsDeclareError (declares.ControllerSendError fault) P = P fault

-- the declare failed by this error, and the controller is handed back
abbrev pub DeclareFailed : {C : Type 0} → Option C × OwnedDeclareError → ControllerSendError
    → Type 0
DeclareFailed refused error =
    IsSome refused.0 × (refused.1 ≡ declares.ControllerSendError error)

-- an error while the link isn't attached: that its session stopped
abbrev pub AttachFailed : {C : Type 0} → Option SessionStopReason → Option C → OwnedDeclareError
    → Type 0
AttachFailed None controller error = ⊥
AttachFailed (Some reason) controller error =
    IsNone controller × IsAttachError error (IsStopped reason)

-- a poll that finds the link attached: it puts the declare, by what the link answers to it
abbrev pub PutsDeclare : {T C : Type 0} → (Result Sent ControllerSendError → Type 0)
    → Progress OwnedWait (Result T (Option C × OwnedDeclareError)) → Type 0
PutsDeclare answers (waits.Pending (for_attach end global_id)) = ⊥
PutsDeclare answers (waits.Pending (for_declare sent)) = answers (Ok sent)
PutsDeclare answers (waits.Ready (Ok transaction)) = ⊥
PutsDeclare answers (waits.Ready (Err refused)) =
    IsSome refused.0 × IsDeclareError refused.1 (λ error. answers (Err error))

-- a poll that finds the link not attached: it goes on, unless the session stopped
abbrev pub AwaitsOpen : {T C : Type 0} → Option SessionStopReason → OwnedWait
    → Progress OwnedWait (Result T (Option C × OwnedDeclareError)) → Type 0
AwaitsOpen stop old (waits.Pending wait) = (stop ≡ None) × (wait ≡ old)
AwaitsOpen stop old (waits.Ready (Ok transaction)) = ⊥
AwaitsOpen stop old (waits.Ready (Err refused)) = AttachFailed stop refused.0 refused.1

-- a poll while the link waited, by how the session knows its name
abbrev pub PollsOpen : {T C : Type 0} → (Result Sent ControllerSendError → Type 0) → NameState
    → Option SessionStopReason → OwnedWait
    → Progress OwnedWait (Result T (Option C × OwnedDeclareError)) → Type 0
PollsOpen answers Taken stop old result = PutsDeclare answers result
PollsOpen answers state stop old result = AwaitsOpen stop old result

-- a poll of an owned transaction that is being declared, over links that tell so and of which one
-- send and one look leave so much
abbrev pub PollsOwned : {L C : Type 0} → SendsOn L → LooksOn L → (L → SenderTold)
    → (Text → NameState) → Option SessionStopReason → OwnedWait
    → Progress OwnedWait (Result (OwnedTransaction L) (Option C × OwnedDeclareError)) → Type 0
PollsOwned sends looks told known stop (for_attach end global_id) result =
    PollsOpen (SendsUnder sends told (declare_of global_id)) (known end.name) stop
    (for_attach end global_id) result
PollsOwned sends looks told known stop (for_declare sent) result =
    PollsToBegin looks told owned_begun DeclareFailed sent (for_declare sent) result
