-- How a link that the peer attached is opened. Part 2 of the standard, section 2.6.3 (establishing
-- a link).
use Rattle.std.specs.Prelude.{ℕ, ◌≡◌, Bool, Option, None, Result, Ok, Err, List, []}
use Rattle.amqp_txn_types.specs.declared.small.InputHandle.{InputHandle}
use Rattle.amqp_txn_types.specs.declared.small.OutputHandle.{OutputHandle}
use Rattle.amqp_txn_types.specs.declared.small.ReceiverSettleMode.{ReceiverSettleMode}
use Rattle.amqp_txn_types.specs.declared.small.Role.{Role}
use Rattle.amqp_txn_types.specs.declared.performatives.Attach.{Attach}
use Rattle.amqp_txn_types.specs.declared.performatives.Flow.{Flow}
use Rattle.amqp_txn_types.specs.declared.performatives.Frame.{Frame}
use Rattle.amqp_txn_types.specs.declared.performatives.LinkEnd.{LinkEnd}
use Rattle.amqp_txn_types.specs.declared.delivery.SessionStopReason.{SessionStopReason}
use Rattle.amqp_txn_types.specs.declared.performatives.LinkFlow.{LinkFlow}
use Rattle.amqp_txn_types.specs.declared.text.Text.{Text}
use Rattle.amqp_below_layer.specs.declared.inner_error.SessionInnerError.{SessionInnerError}
use Rattle.amqp_below_sessions.specs.declared.relay.NameState.TheVariants.{Taken}
use Rattle.amqp_below_sessions.specs.declared.relay.Relay.{Relay}
use Rattle.amqp_below_sessions.specs.declared.session_errors.AllocLinkError.{AllocLinkError}
use Rattle.amqp_below_sessions.specs.Names.{Names, Placed, SameNames}
use Rattle.amqp_below_sessions.specs.Sessions.{StoppedBy}
use Rattle.amqp_accept_links.specs.declared.open_link.Opening.{Opening}
use Rattle.amqp_accept_links.specs.declared.open_link.OpenError.{OpenError}
use Rattle.amqp_accept_links.specs.declared.open_link.OpenError.TheVariants as errors
use Rattle.amqp_accept_links.specs.declared.fields.SharedLinkAcceptorFields.{SharedLinkAcceptorFields}
use Rattle.amqp_accept_links.specs.Fields.{receiver_mode_for}
use Rattle.amqp_accept_links.specs.Replies.{SendsReply, reply_of}

-- the relay of a link through which nothing came
abbrev pub relay_of : Text → Role → ReceiverSettleMode → Relay
relay_of name role mode = record {
  name = name;
  role = role;
  rcv_settle_mode = mode;
  flows = [];
  transfers = 0;
}

-- the peer's link with this side's terminus in its place, ready to be opened
abbrev pub opening_of :
    SharedLinkAcceptorFields → Attach → Role → Option ℕ → Option LinkFlow → Opening
opening_of shared remote role delivery_count credit = record {
  name = remote.name;
  relay = relay_of remote.name role (receiver_mode_for shared remote.rcv_settle_mode);
  input = record { 0 = remote.handle.0 };
  reply = record {
    attach = reply_of shared remote role delivery_count;
    credit = credit;
  };
}

-- what the end of a link that was opened knows of itself
abbrev pub end_of : Opening → OutputHandle → LinkEnd
end_of opening output = record {
  name = opening.name;
  role = opening.relay.role;
  output = output;
  snd_settle_mode = opening.reply.attach.snd_settle_mode;
  rcv_settle_mode = opening.relay.rcv_settle_mode;
}

-- a link is opened: the session allocates it, and then its reply is sent
abbrev pub OpensThrough : {S : Type 0}
    → (S → S → Text → Relay → InputHandle → Result OutputHandle AllocLinkError → Type 0)
    → (S → S → LinkFlow → Result Flow SessionInnerError → Type 0)
    → (S → S → OutputHandle → Bool → Type 0)
    → S → S → Opening → Result (OutputHandle × List Frame) OpenError → Type 0
OpensThrough {S} allocates flows frees old new opening (Ok opened) =
    (allocated : S)
    × allocates old allocated opening.name opening.relay opening.input (Ok opened.0)
    × SendsReply flows frees opening.reply.credit allocated new opening.reply.attach opened.0
    (Ok opened.1)
OpensThrough allocates flows frees old new opening (Err (errors.Alloc error)) =
    allocates old new opening.name opening.relay opening.input (Err error)
OpensThrough {S} allocates flows frees old new opening (Err (errors.Session error)) =
    (allocated : S) × (output : OutputHandle)
    × allocates old allocated opening.name opening.relay opening.input (Ok output)
    × SendsReply flows frees opening.reply.credit allocated new opening.reply.attach output
    (Err error)

-- a link is opened only where no reason is kept why the session stopped, and a reason that is told
-- is the one that is kept
abbrev pub OpenStoppedBy : {A : Type 0} → Option SessionStopReason → Result A OpenError → Type 0
OpenStoppedBy stop (Ok opened) = stop ≡ None
OpenStoppedBy stop (Err (errors.Alloc error)) = StoppedBy {T = OutputHandle} stop (Err error)
OpenStoppedBy stop (Err (errors.Session error)) = Unit {0}

-- a link that is opened is placed under its output handle; where it isn't, the names are as they
-- were
abbrev pub OpenLeaves : Names → Names → Text → Result (OutputHandle × List Frame) OpenError
    → Type 0
OpenLeaves old new name (Ok opened) = Placed old new name Taken opened.0
OpenLeaves old new name (Err error) = SameNames old new
