-- When a step may stop the session, and when a commit is vetoed.
use Rattle.std.proofs.Common.{◌≡◌, ℕ, Bool, true, false, not, Option, Some, None, List, refl, sym, ◌∙◌, ap, subst}
use Rattle.amqp_txn_types.specs.declared.id.TransactionId.{TransactionId}
use Rattle.amqp_txn_types.specs.declared.performatives.Frame.{Frame}
use Rattle.amqp_txn_types.specs.Frames.{is_coordinator_attach, is_plain_by, txn}
use Rattle.amqp_below_layer.specs.declared.inner_error.SessionInnerError.{SessionInnerError}
use Rattle.amqp_below_layer.specs.declared.inner_error.SessionInnerError.TheVariants as faults
use Rattle.amqp_resource_record.specs.declared.entry.Entry.{Entry}
use Rattle.amqp_resource_record.specs.declared.reply.Reply.{Reply}
use Rattle.amqp_resource_record.specs.declared.reply.Reply.TheVariants as replies
use Rattle.amqp_txn_types.specs.declared.small.TransactionError.TheVariants as transaction_errors
use Rattle.amqp_resource_record.specs.declared.step.Step.{Step}
use Rattle.amqp_resource_record.specs.declared.step.Step.TheVariants as steps
use Rattle.amqp_resource_record.specs.declared.stop.StopCode.TheVariants as codes
use Rattle.amqp_resource_record.specs.Entries.{is_veto}
use Rattle.amqp_resource_record.specs.Hands.{hands}
use Rattle.amqp_resource_record.specs.Stops.{fault_code}
use Rattle.amqp_resource_held.specs.Views.{view_of_record}
use Rattle.amqp_resource_held.proofs.Views.{live-record}
use Rattle.amqp_resource_session.specs.Steps.{FrameMayFault, IfVeto, IsDead, MayFault, StopsSurely, UnderDead, is_unknown}
use Rattle.txn_parties.specs.Turns.{MayStop, StopsFrame, StopsUnder}

pub unknown_code : (error : SessionInnerError) → is_unknown error ≡ true → fault_code error ≡ codes.UnknownTxnId
unknown_code faults.UnknownTxnId h = refl
unknown_code faults.UnattachedHandle h = cc h
unknown_code faults.RemoteAttachingLinkNameNotFound h = cc h
unknown_code faults.HandleInUse h = cc h
unknown_code faults.IllegalState h = cc h
unknown_code (faults.ConnectionStopped reason) h = cc h
unknown_code faults.TransferFrameToSender h = cc h
unknown_code faults.RemoteEnded h = cc h
unknown_code (faults.RemoteEndedWithError error) h = cc h
unknown_code faults.NoMemory h = cc h

known_code : (error : SessionInnerError) → is_unknown error ≡ false → fault_code error ≡ codes.UnknownTxnId → ⊥
known_code faults.UnknownTxnId h e = cc h
known_code faults.UnattachedHandle h e = cc e
known_code faults.RemoteAttachingLinkNameNotFound h e = cc e
known_code faults.HandleInUse h e = cc e
known_code faults.IllegalState h e = cc e
known_code (faults.ConnectionStopped reason) h e = cc e
known_code faults.TransferFrameToSender h e = cc e
known_code faults.RemoteEnded h e = cc e
known_code (faults.RemoteEndedWithError error) h e = cc e
known_code faults.NoMemory h e = cc e

-- the stop of a frame whose id isn't live
dead_frame : (r : List Entry) (frame : Frame) (o : Option TransactionId) (error : SessionInnerError) → is_unknown error ≡ true → IsDead (view_of_record r) o → StopsFrame r frame o (fault_code error)
dead_frame r frame None error u d = absurd d
dead_frame r frame (Some t) error u d = subst (λ (b : Bool). StopsUnder b t frame (fault_code error)) (sym (sym (live-record r t) ∙ d)) (unknown_code error u)

pub may_stop_dead : (sure : Bool) (r : List Entry) (s : Step) (error : SessionInnerError) (handed : ℕ) → is_unknown error ≡ true → UnderDead (view_of_record r) s → MayStop sure r s (record { code = fault_code error; handed = handed })
may_stop_dead sure r (steps.Frame frame) error handed u d = dead_frame r frame (txn frame) error u d
may_stop_dead sure r (steps.Control k payload) error handed u d = absurd d
may_stop_dead sure r (steps.LinkEnd k) error handed u d = absurd d
may_stop_dead sure r (steps.LocalEnd e) error handed u d = absurd d
may_stop_dead sure r (steps.RemoteEnd e) error handed u d = absurd d
may_stop_dead sure r (steps.ConnectionStop e) error handed u d = absurd d

refused_frame : (r : List Entry) (frame : Frame) (o : Option TransactionId) (error : SessionInnerError) → is_unknown error ≡ false → txn frame ≡ o → FrameMayFault (view_of_record r) frame o → StopsFrame r frame o (fault_code error)
refused_frame r frame None error u e f =
    (ap (λ (x : Option TransactionId). is_plain_by x (is_coordinator_attach frame)) e ∙ ap not f, (error, refl, known_code error u))
refused_frame r frame (Some t) error u e f = subst (λ (b : Bool). StopsUnder b t frame (fault_code error)) (sym (sym (live-record r t) ∙ f.0)) (f.1, (error, refl, known_code error u))

pub may_stop_refused : (sure : Bool) (r : List Entry) (s : Step) (error : SessionInnerError) (handed : ℕ) → is_unknown error ≡ false → MayFault (view_of_record r) s (hands r s) error → StopsSurely sure s handed → MayStop sure r s (record { code = fault_code error; handed = handed })
may_stop_refused sure r (steps.Frame frame) error handed u f g = refused_frame r frame (txn frame) error u refl f
may_stop_refused sure r (steps.Control k payload) error handed u f g = (f.0, ap fault_code f.1, g)
may_stop_refused sure r (steps.LinkEnd k) error handed u f g = absurd f
may_stop_refused sure r (steps.LocalEnd e) error handed u f g = absurd f
may_stop_refused sure r (steps.RemoteEnd e) error handed u f g = absurd f
may_stop_refused sure r (steps.ConnectionStop e) error handed u f g = absurd f

-- ---- a veto

pub veto_rose : (reply : Reply) (P : Type 0) → IfVeto reply P → is_veto reply ≡ true → P
veto_rose (replies.Rejected transaction_errors.Rollback text) P h e = h
veto_rose (replies.Rejected transaction_errors.UnknownId text) P h e = cc e
veto_rose (replies.Rejected transaction_errors.Timeout text) P h e = cc e
veto_rose (replies.Frames a) P h e = cc e
veto_rose (replies.Attached k given) P h e = cc e
veto_rose (replies.AttachRefused error) P h e = cc e
veto_rose replies.LinkEnded P h e = cc e
veto_rose replies.NoLink P h e = cc e
veto_rose (replies.LinkClosed error) P h e = cc e
veto_rose (replies.Declared t) P h e = cc e
veto_rose (replies.Accepted echoes) P h e = cc e
