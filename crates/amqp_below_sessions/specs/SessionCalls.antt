-- What the calls of a session answer and leave, beside those of a layer below, and what they do
-- through what wraps the session.
use Rattle.std.specs.Prelude.{◌≡◌, Bool, Option, Result, is_some}
use Rattle.amqp_txn_types.specs.declared.delivery.Error.{Error}
use Rattle.amqp_txn_types.specs.declared.performatives.Attach.{Attach}
use Rattle.amqp_txn_types.specs.declared.performatives.Begin.{Begin}
use Rattle.amqp_txn_types.specs.declared.performatives.Detach.{Detach}
use Rattle.amqp_txn_types.specs.declared.performatives.End.{End}
use Rattle.amqp_txn_types.specs.declared.performatives.Flow.{Flow}
use Rattle.amqp_txn_types.specs.declared.performatives.LinkFlow.{LinkFlow}
use Rattle.amqp_txn_types.specs.declared.performatives.Transfer.{Transfer}
use Rattle.amqp_txn_types.specs.declared.small.IncomingChannel.{IncomingChannel}
use Rattle.amqp_txn_types.specs.declared.small.InputHandle.{InputHandle}
use Rattle.amqp_txn_types.specs.declared.small.OutputHandle.{OutputHandle}
use Rattle.amqp_txn_types.specs.declared.text.Text.{Text}
use Rattle.amqp_below_layer.specs.declared.inner_error.SessionInnerError.{SessionInnerError}
use Rattle.amqp_below_layer.specs.Told.{Checks, Told}
use Rattle.amqp_below_sessions.specs.declared.relay.Relay.{Relay}
use Rattle.amqp_below_sessions.specs.declared.session_errors.AllocLinkError.{AllocLinkError}
use Rattle.amqp_below_sessions.specs.declared.session_errors.BeginError.{BeginError}
use Rattle.amqp_below_sessions.specs.declared.stop_reason.StopReason.{StopReason}
use Rattle.amqp_below_sessions.specs.SessionStates.{begin_received, begin_sent, end_received, end_sent}
use Rattle.amqp_below_sessions.specs.Sessions.{Moves}

-- what each call answers and leaves: the session before and after, what the call was given, and the
-- answer where it has one
pub record SessionCalls (S : Type 0) : Type 1 where
  -- Keeping a reason why the session stopped, or its connection.
  pub stop : S → S → StopReason → Type 0
  -- Allocating a link by its name, with its relay; for one that the peer attached, with the peer's
  -- handle.
  pub allocate_link : S → S → Text → Relay → Result OutputHandle AllocLinkError → Type 0
  pub allocate_incoming_link : S → S → Text → Relay → InputHandle
      → Result OutputHandle AllocLinkError → Type 0
  -- Freeing an output handle.
  pub deallocate_link : S → S → OutputHandle → Bool → Type 0
  -- A begin or an end that came, with its channel.
  pub begin_received : S → S → IncomingChannel → Begin → Result Unit SessionInnerError → Type 0
  pub end_received : S → S → IncomingChannel → End → Result Unit SessionInnerError → Type 0
  -- Sending a begin; sending an end, with the error.
  pub begin_sent : S → S → Result Begin BeginError → Type 0
  pub end_sent : S → S → Option Error → Result End SessionInnerError → Type 0
  -- The check of an attach.
  pub outgoing_attach : S → S → Attach → Result Unit SessionInnerError → Type 0
  -- Sending a link's flow.
  pub outgoing_flow : S → S → LinkFlow → Result Flow SessionInnerError → Type 0
  -- Sending a transfer: the link's input handle, the transfer before and after, and whether it is
  -- the first of its delivery.
  pub outgoing_transfer : S → S → InputHandle → Transfer → Transfer → Bool
      → Result Unit SessionInnerError → Type 0
  -- The check of a detach.
  pub outgoing_detach : S → S → Detach → Result Unit SessionInnerError → Type 0

-- what wraps a session passes each call on: PassesOn of a call that refuses nothing, Passes of one
-- that may, each by what the session tells and what it gives
abbrev pub passed : {S W : Type 0} → (S → Told) → SessionCalls S
    → ((S → S → Type 0) → (S → S → Type 0) → W → W → Type 0)
    → ((T E : Type 0) → (S → S → Type 0) → (S → S → Type 0) → W → W → Result T E → Type 0)
    → SessionCalls W
passed told calls PassesOn Passes = record {
  stop = λ old new reason.
      PassesOn (λ a b. told b ≡ told a) (λ a b. calls.stop a b reason) old new;
  allocate_link = λ old new name relay answer.
      Passes _ _ (λ a b. Checks (told a) (told b) answer)
      (λ a b. calls.allocate_link a b name relay answer) old new answer;
  allocate_incoming_link = λ old new name relay input answer.
      Passes _ _ (λ a b. Checks (told a) (told b) answer)
      (λ a b. calls.allocate_incoming_link a b name relay input answer) old new answer;
  deallocate_link = λ old new output answer.
      PassesOn (λ a b. told b ≡ told a) (λ a b. calls.deallocate_link a b output answer) old new;
  begin_received = λ old new channel begin answer.
      Passes _ _ (λ a b. Moves (begin_received (told a).fixed.state) (told a) (told b) answer)
      (λ a b. calls.begin_received a b channel begin answer) old new answer;
  end_received = λ old new channel end answer.
      Passes _ _ (λ a b. Moves (end_received (told a).fixed.state) (told a) (told b) answer)
      (λ a b. calls.end_received a b channel end answer) old new answer;
  begin_sent = λ old new answer.
      Passes _ _ (λ a b. Moves (begin_sent (told a).fixed.state) (told a) (told b) answer)
      (λ a b. calls.begin_sent a b answer) old new answer;
  end_sent = λ old new error answer.
      Passes _ _
      (λ a b. Moves (end_sent (is_some error) (told a).fixed.state) (told a) (told b) answer)
      (λ a b. calls.end_sent a b error answer) old new answer;
  outgoing_attach = λ old new attach answer.
      Passes _ _ (λ a b. Checks (told a) (told b) answer)
      (λ a b. calls.outgoing_attach a b attach answer) old new answer;
  outgoing_flow = λ old new flow answer.
      Passes _ _ (λ a b. Checks (told a) (told b) answer)
      (λ a b. calls.outgoing_flow a b flow answer) old new answer;
  outgoing_transfer = λ old new input before after is_first answer.
      Passes _ _ (λ a b. Checks (told a) (told b) answer)
      (λ a b. calls.outgoing_transfer a b input before after is_first answer) old new answer;
  outgoing_detach = λ old new detach answer.
      Passes _ _ (λ a b. Checks (told a) (told b) answer)
      (λ a b. calls.outgoing_detach a b detach answer) old new answer;
}
