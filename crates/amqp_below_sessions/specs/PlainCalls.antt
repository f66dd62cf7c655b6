-- What the calls of a session answer and leave in a plain session.
use Rattle.std.specs.Prelude.{◌≡◌, cond, Bool, is_some, option_map, Option, Some, None, Result, Ok, Err, IfOk}
use Rattle.amqp_txn_types.specs.declared.delivery.Error.{Error}
use Rattle.amqp_txn_types.specs.declared.performatives.Begin.{Begin}
use Rattle.amqp_txn_types.specs.declared.performatives.End.{End}
use Rattle.amqp_txn_types.specs.declared.performatives.Flow.{Flow}
use Rattle.amqp_txn_types.specs.declared.performatives.LinkFlow.{LinkFlow}
use Rattle.amqp_txn_types.specs.declared.performatives.Transfer.{Transfer}
use Rattle.amqp_txn_types.specs.declared.small.IncomingChannel.{IncomingChannel}
use Rattle.amqp_txn_types.specs.declared.small.InputHandle.{InputHandle}
use Rattle.amqp_txn_types.specs.declared.small.OutputHandle.{OutputHandle}
use Rattle.amqp_txn_types.specs.declared.text.Text.{Text}
use Rattle.amqp_below_layer.specs.declared.inner_error.SessionInnerError.{SessionInnerError}
use Rattle.amqp_below_sessions.specs.declared.plain_session.PlainSession.{PlainSession}
use Rattle.amqp_below_sessions.specs.declared.relay.Relay.{Relay}
use Rattle.amqp_below_sessions.specs.declared.session_errors.AllocLinkError.{AllocLinkError}
use Rattle.amqp_below_sessions.specs.declared.session_errors.BeginError.{BeginError}
use Rattle.amqp_below_sessions.specs.declared.stop_reason.StopReason.{StopReason}
use Rattle.amqp_below_sessions.specs.declared.stop_reason.StopReason.TheVariants as reasons
use Rattle.amqp_below_sessions.specs.LinkMoves.{FreesOutput, Places}
use Rattle.amqp_below_sessions.specs.Links.{mapped_link, waiting_link}
use Rattle.amqp_below_sessions.specs.Numbers.{flow_with}
use Rattle.amqp_below_sessions.specs.Plain.{AllocatedBy, BegunBy, RefusedOnlyBy, mapped_fault, move_fault, outgoing_fault, place_fault, place_mapped_fault}
use Rattle.amqp_below_sessions.specs.PlainSessions.{BeganBy, ChangesLinks, ChangesNothing, Moved, Numbered, begin_of, incoming_of, links_of, numbers_of, state_of, stop_of}
use Rattle.amqp_below_sessions.specs.SessionStates.{begin_received, begin_sent, end_received, end_sent}
use Rattle.amqp_below_sessions.specs.Sessions.{first_of}

-- the first reason why it or its connection stopped is kept, and nothing else changes
abbrev pub PlainStops : PlainSession → PlainSession → StopReason → Type 0
PlainStops old new (reasons.Session reason) = new ≡ record old { stop = first_of old.stop reason }
PlainStops old new (reasons.Connection reason) =
    new ≡ record old { connection_stop = first_of old.connection_stop reason }

-- a link is allocated, before the peer attaches it
pub record PlainAllocates (old new : PlainSession) (name : Text) (relay : Relay)
    (result : Result OutputHandle AllocLinkError) : Type 0 where
  pub fault :
      AllocatedBy (stop_of old) (place_fault (links_of old) (begin_of old).handle_max name) result
  pub placed :
      IfOk result (λ output.
      Places (links_of old) (links_of new) output (waiting_link name relay))
  pub rest : ChangesLinks old new result

-- a link that the peer attached is allocated
pub record PlainAllocatesIncoming (old new : PlainSession) (name : Text) (relay : Relay)
    (input : InputHandle) (result : Result OutputHandle AllocLinkError) : Type 0 where
  pub fault :
      AllocatedBy (stop_of old)
      (place_mapped_fault (links_of old) (begin_of old).handle_max name input) result
  pub placed :
      IfOk result (λ output.
      Places (links_of old) (links_of new) output (mapped_link name relay input))
  pub rest : ChangesLinks old new result

-- an output handle is freed
pub record PlainFrees (old new : PlainSession) (output : OutputHandle) (found : Bool) : Type 0 where
  pub freed : FreesOutput (links_of old) (links_of new) output.0 found
  pub rest : new ≡ record old { links = new.links }

-- a begin that came
pub record PlainBegun (old new : PlainSession) (channel : IncomingChannel) (begin : Begin)
    (result : Result Unit SessionInnerError) : Type 0 where
  pub fault : RefusedOnlyBy (move_fault (begin_received (state_of old))) result
  pub rest : BeganBy old new channel begin result

-- an end that came
pub record PlainEnded (old new : PlainSession) (result : Result Unit SessionInnerError)
    : Type 0 where
  pub fault : RefusedOnlyBy (move_fault (end_received (state_of old))) result
  pub rest : Moved old new result

-- the begin that is sent: the session's own, with the channel of the peer's begin
abbrev pub begin_to_send : PlainSession → Begin
begin_to_send session =
    record (begin_of session) {
      remote_channel = option_map (λ channel. channel.0) (incoming_of session);
    }

-- a begin is sent
pub record PlainBegins (old new : PlainSession) (result : Result Begin BeginError) : Type 0 where
  pub fault : BegunBy (begin_sent (state_of old)) result
  pub given : IfOk result (λ begin. begin ≡ begin_to_send old)
  pub rest : Moved old new result

-- an end is sent
pub record PlainEnds (old new : PlainSession) (error : Option Error)
    (result : Result End SessionInnerError) : Type 0 where
  pub fault : RefusedOnlyBy (move_fault (end_sent (is_some error) (state_of old))) result
  pub given : IfOk result (λ end. end ≡ record { error = error })
  pub rest : Moved old new result

-- a link's flow is sent
pub record PlainFlows (old new : PlainSession) (flow : LinkFlow)
    (result : Result Flow SessionInnerError) : Type 0 where
  pub fault : RefusedOnlyBy (mapped_fault (state_of old) None) result
  pub given : IfOk result (λ sent. sent ≡ flow_with (numbers_of old) (begin_of old) flow)
  pub rest : ChangesNothing old new result

-- a transfer as it is sent: the first of a delivery has the delivery's id, a continuation none
abbrev pub transfer_to_send : PlainSession → Transfer → Bool → Transfer
transfer_to_send session transfer is_first =
    record transfer {
      delivery_id = cond is_first (Some (numbers_of session).next_delivery_id) None;
    }

-- the transfer after the call, which a refusal leaves
abbrev pub SentAs :
    PlainSession → Transfer → Transfer → Bool → Result Unit SessionInnerError → Type 0
SentAs session before after is_first (Ok done) = after ≡ transfer_to_send session before is_first
SentAs session before after is_first (Err error) = after ≡ before

-- a transfer is sent
pub record PlainSends (old new : PlainSession) (before after : Transfer) (is_first : Bool)
    (result : Result Unit SessionInnerError) : Type 0 where
  pub fault :
      RefusedOnlyBy
      (mapped_fault (state_of old) (outgoing_fault is_first (is_some before.delivery_tag))) result
  pub sent : SentAs old before after is_first result
  pub rest : Numbered old new is_first result
