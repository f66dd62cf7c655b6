-- With which error a session is ended for a fault.
use Rattle.std.specs.Prelude.{Bool, true, false, Option, Some, None, Result, Err, List, ℕ, codes}
use Rattle.amqp_txn_types.specs.declared.delivery.Error.{Error}
use Rattle.amqp_txn_types.specs.declared.delivery.ErrorCondition.{ErrorCondition}
use Rattle.amqp_txn_types.specs.declared.delivery.ErrorCondition.TheVariants as conditions
use Rattle.amqp_txn_types.specs.declared.small.AmqpError.TheVariants as amqp_errors
use Rattle.amqp_txn_types.specs.declared.small.SessionError.TheVariants as session_errors
use Rattle.amqp_txn_types.specs.declared.small.TransactionError.TheVariants as transaction_errors
use Rattle.amqp_below_layer.specs.declared.inner_error.SessionInnerError.{SessionInnerError}
use Rattle.amqp_below_layer.specs.declared.inner_error.SessionInnerError.TheVariants as faults
use Rattle.amqp_engine_events.specs.declared.turn.Turn.{Turn}
use Rattle.amqp_engine_events.specs.Calls.{OrNoCopy, OrNoMemory}
use Rattle.amqp_engine_events.specs.Turns.{Unasked}

-- an error without a text
abbrev pub plain_error : ErrorCondition → Option Error
plain_error condition =
    Some (record { condition = condition; description = None; info = None })

-- an error with a text
abbrev pub told_error : ErrorCondition → List ℕ → Option Error
told_error condition text =
    Some (record { condition = condition; description = Some text; info = None })

-- the error of the end; none where the peer has ended the session, or the connection stopped
abbrev pub error_of_fault : SessionInnerError → Option Error
error_of_fault faults.UnattachedHandle =
    plain_error (conditions.SessionError session_errors.UnattachedHandle)
error_of_fault faults.HandleInUse =
    plain_error (conditions.SessionError session_errors.HandleInUse)
error_of_fault faults.IllegalState =
    plain_error (conditions.AmqpError amqp_errors.IllegalState)
error_of_fault faults.UnknownTxnId =
    plain_error (conditions.TransactionError transaction_errors.UnknownId)
error_of_fault faults.RemoteAttachingLinkNameNotFound =
    told_error (conditions.AmqpError amqp_errors.InternalError) (codes "Link name is not found")
error_of_fault faults.TransferFrameToSender =
    told_error (conditions.AmqpError amqp_errors.NotAllowed)
    (codes "Found Transfer frame sent Sender link")
error_of_fault faults.NoMemory =
    plain_error (conditions.AmqpError amqp_errors.InternalError)
error_of_fault faults.RemoteEnded = None
error_of_fault (faults.RemoteEndedWithError error) = None
error_of_fault (faults.ConnectionStopped reason) = None

-- the fault is that the connection stopped
abbrev pub is_cut_off : SessionInnerError → Bool
is_cut_off (faults.ConnectionStopped reason) = true
is_cut_off _ = false

-- something is made or copied for the fault: the text of an error, or why the connection stopped
abbrev pub copies_for : SessionInnerError → Bool
copies_for faults.RemoteAttachingLinkNameNotFound = true
copies_for faults.TransferFrameToSender = true
copies_for (faults.ConnectionStopped reason) = true
copies_for _ = false

-- a session is ended for a fault, but where its connection stopped: then that is answered
abbrev pub EndsFor : {S : Type 0} → S → S → (Result Turn SessionInnerError → Type 0)
    → SessionInnerError → Result Turn SessionInnerError → Type 0
EndsFor old new Ends (faults.ConnectionStopped reason) result =
    OrNoMemory old new (Unasked old new (Err (faults.ConnectionStopped reason)) result) result
EndsFor old new Ends fault result = OrNoCopy (copies_for fault) old new (Ends result) result
