-- The lines of refusals, and the codes that have them.
use Rattle.std.proofs.Common.{◌≡◌, ℕ, Bool, true, false, cond, Some, None, List, [], ◌∷◌, ◌++◌, refl, sym, ◌∙◌, ap}
use Rattle.std.specs.Prelude.{codes}
use Rattle.std.specs.List.{list_all}
use Rattle.std.specs.Str.{bytes_eq}
use Rattle.std.proofs.lemmas.Slice.Eq.{bytes_eq-Decides}
use Rattle.std.proofs.lemmas.Bool.{and_parts}
use Rattle.amqp_below_layer.specs.declared.inner_error.SessionInnerError.{SessionInnerError}
use Rattle.amqp_below_layer.specs.declared.inner_error.SessionInnerError.TheVariants as faults
use Rattle.amqp_txn_types.specs.declared.delivery.ConnectionStopReason.TheVariants as reasons
use Rattle.amqp_txn_types.specs.declared.delivery.ErrorCondition.TheVariants as conditions
use Rattle.amqp_txn_types.specs.declared.small.AmqpError.TheVariants as amqp_errors
use Rattle.amqp_resource_record.specs.declared.stop.StopCode.{StopCode}
use Rattle.amqp_resource_record.specs.declared.stop.StopCode.TheVariants as stop_codes
use Rattle.amqp_resource_record.specs.Stops.{fault_code}
use Rattle.txn_program_report.specs.Report.{stop_word}
use Rattle.txn_audit_report.specs.Stopping.{code_of_line, is_refusal, refusal_of_attach, refusal_of_stop, refusals}

-- the code that was found makes the line, and passes what all of them pass
pub code-found : (p : StopCode → Bool) (front line : List ℕ) (all : List StopCode) (code : StopCode) → list_all p all ≡ true → code_of_line front line all ≡ Some code → (p code ≡ true) × (front ++ stop_word code ≡ line)
code-found p front line [] code a e = cc e
code-found p front line (first ∷ others) code a e = by_case (bytes_eq line (front ++ stop_word first)) refl (code-found p front line others code)
  where
    parts : (p first ≡ true) × (list_all p others ≡ true)
    parts = and_parts (p first) (list_all p others) a

    by_case : (b : Bool) → bytes_eq line (front ++ stop_word first) ≡ b → (list_all p others ≡ true → code_of_line front line others ≡ Some code → (p code ≡ true) × (front ++ stop_word code ≡ line)) → (p code ≡ true) × (front ++ stop_word code ≡ line)
    by_case true h more =
        let same : Some first ≡ Some code = sym (ap (λ b. cond b (Some first) (code_of_line front line others)) h) ∙ e in
        let one : first ≡ code = cc same in
        (sym (ap p one) ∙ parts.0, sym (ap (λ c. front ++ stop_word c) one) ∙ sym ((bytes_eq-Decides line (front ++ stop_word first)).0 h))
    by_case false h more = more parts.1 (sym (ap (λ b. cond b (Some first) (code_of_line front line others)) h) ∙ e)

pub stop-found : (line : List ℕ) (code : StopCode) → refusal_of_stop line ≡ Some code → (is_refusal code ≡ true) × (codes "stop " ++ stop_word code ≡ line)
unfolding refusal_of_stop
stop-found line code e = code-found is_refusal (codes "stop ") line refusals code refl e

-- a stop's line tells whether its code is that of a refusal
pub stop-told : (code : StopCode) → refusal_of_stop (codes "stop " ++ stop_word code) ≡ cond (is_refusal code) (Some code) None
unfolding refusal_of_stop
stop-told stop_codes.Done = refl
stop-told stop_codes.UnknownTxnId = refl
stop-told stop_codes.UnattachedHandle = refl
stop-told stop_codes.LinkNameNotFound = refl
stop-told stop_codes.HandleInUse = refl
stop-told stop_codes.IllegalState = refl
stop-told stop_codes.TransferToSender = refl
stop-told stop_codes.BelowConnectionStopped = refl
stop-told stop_codes.BelowRemoteEnded = refl
stop-told stop_codes.BelowRemoteEndedWithError = refl
stop-told stop_codes.BelowNoMemory = refl
stop-told stop_codes.Ended = refl
stop-told stop_codes.EndedWithError = refl
stop-told stop_codes.RemoteEnded = refl
stop-told stop_codes.RemoteEndedWithError = refl
stop-told stop_codes.ConnectionStopped = refl
stop-told stop_codes.NoMemory = refl

-- the code is that of an error of a layer
abbrev pub is_fault : StopCode → Bool
is_fault stop_codes.UnknownTxnId = true
is_fault code = is_refusal code

pub fault-of : (code : StopCode) → is_fault code ≡ true → (error : SessionInnerError) × (fault_code error ≡ code)
fault-of stop_codes.UnknownTxnId h = (faults.UnknownTxnId, refl)
fault-of stop_codes.UnattachedHandle h = (faults.UnattachedHandle, refl)
fault-of stop_codes.LinkNameNotFound h = (faults.RemoteAttachingLinkNameNotFound, refl)
fault-of stop_codes.HandleInUse h = (faults.HandleInUse, refl)
fault-of stop_codes.IllegalState h = (faults.IllegalState, refl)
fault-of stop_codes.TransferToSender h = (faults.TransferFrameToSender, refl)
fault-of stop_codes.BelowConnectionStopped h = (faults.ConnectionStopped reasons.Closed, refl)
fault-of stop_codes.BelowRemoteEnded h = (faults.RemoteEnded, refl)
fault-of stop_codes.BelowRemoteEndedWithError h = (faults.RemoteEndedWithError (record { condition = conditions.AmqpError amqp_errors.InternalError; description = None; info = None }), refl)
fault-of stop_codes.BelowNoMemory h = (faults.NoMemory, refl)
fault-of stop_codes.Done h = cc h
fault-of stop_codes.Ended h = cc h
fault-of stop_codes.EndedWithError h = cc h
fault-of stop_codes.RemoteEnded h = cc h
fault-of stop_codes.RemoteEndedWithError h = cc h
fault-of stop_codes.ConnectionStopped h = cc h
fault-of stop_codes.NoMemory h = cc h

pub attach-found : (line : List ℕ) (code : StopCode) → refusal_of_attach line ≡ Some code → (error : SessionInnerError) × (codes "attach-refused " ++ stop_word (fault_code error) ≡ line)
unfolding refusal_of_attach
attach-found line code e =
    let found = code-found is_fault (codes "attach-refused ") line (stop_codes.UnknownTxnId ∷ refusals) code refl e in
    let fault = fault-of code found.0 in
    (fault.0, ap (λ c. codes "attach-refused " ++ stop_word c) fault.1 ∙ found.1)

pub attach-told : (error : SessionInnerError) → refusal_of_attach (codes "attach-refused " ++ stop_word (fault_code error)) ≡ Some (fault_code error)
unfolding refusal_of_attach
attach-told faults.UnattachedHandle = refl
attach-told faults.RemoteAttachingLinkNameNotFound = refl
attach-told faults.HandleInUse = refl
attach-told faults.IllegalState = refl
attach-told (faults.ConnectionStopped reason) = refl
attach-told faults.TransferFrameToSender = refl
attach-told faults.RemoteEnded = refl
attach-told (faults.RemoteEndedWithError error) = refl
attach-told faults.UnknownTxnId = refl
attach-told faults.NoMemory = refl
