-- What an acceptor answers to the attach of a peer. Part 2 of the standard, sections 2.6.3
-- (establishing a link), 2.7.3 (attach) and 2.7.4 (flow).
use Rattle.std.specs.Prelude.{ℕ, ◌≡◌, Bool, Option, Some, None, Result, Ok, Err, List, [], ◌∷◌, unwrap_or}
use Rattle.amqp_txn_types.specs.declared.small.OutputHandle.{OutputHandle}
use Rattle.amqp_txn_types.specs.declared.small.Role.{Role}
use Rattle.amqp_txn_types.specs.declared.performatives.Attach.{Attach}
use Rattle.amqp_txn_types.specs.declared.performatives.Flow.{Flow}
use Rattle.amqp_txn_types.specs.declared.performatives.Frame.{Frame}
use Rattle.amqp_txn_types.specs.declared.performatives.Frame.TheVariants as frames
use Rattle.amqp_txn_types.specs.declared.performatives.LinkFlow.{LinkFlow}
use Rattle.amqp_txn_types.specs.Plain.{plain_link_flow}
use Rattle.amqp_below_layer.specs.declared.inner_error.SessionInnerError.{SessionInnerError}
use Rattle.amqp_below_sessions.specs.Names.{FreesLink, Names, SameNames}
use Rattle.amqp_accept_links.specs.declared.credit.CreditMode.{CreditMode}
use Rattle.amqp_accept_links.specs.declared.credit.CreditMode.TheVariants as credits
use Rattle.amqp_accept_links.specs.declared.fields.SharedLinkAcceptorFields.{SharedLinkAcceptorFields}
use Rattle.amqp_accept_links.specs.Fields.{receiver_mode_for, sender_mode_for}

-- what is sent for a link once it has its output handle: its attach, and the flow that grants the
-- peer credit, where there is one
pub record Replying : Type 0 where
  pub attach : Attach
  pub credit : Option LinkFlow

-- the attach under its output handle
abbrev pub attach_under : OutputHandle → Attach → Attach
attach_under output attach = record attach { handle = record { 0 = output.0 } }

-- the flow of the link under its output handle
abbrev pub flow_under : OutputHandle → LinkFlow → LinkFlow
flow_under output flow = record flow { handle = record { 0 = output.0 } }

-- the attach that answers the peer's, under the peer's handle and with the peer's termini: its
-- name, the local role, the modes settled on, and the acceptor's own fields
abbrev pub reply_of : SharedLinkAcceptorFields → Attach → Role → Option ℕ → Attach
reply_of shared remote role delivery_count = record remote {
  role = role;
  snd_settle_mode = sender_mode_for shared remote.snd_settle_mode;
  rcv_settle_mode = receiver_mode_for shared remote.rcv_settle_mode;
  initial_delivery_count = delivery_count;
  max_message_size = shared.max_message_size;
  offered_capabilities = shared.offered_capabilities;
  desired_capabilities = shared.desired_capabilities;
  properties = shared.properties;
}

-- the flow that grants the peer credit, under the peer's handle: from its first delivery count,
-- which is 0 where it names none
abbrev pub credit_of : CreditMode → Attach → Option LinkFlow
credit_of (credits.Auto credit) remote = Some (record (plain_link_flow remote.handle) {
  delivery_count = Some (unwrap_or remote.initial_delivery_count 0);
  link_credit = Some credit;
})
credit_of credits.Manual remote = None

-- a flow is sent by the session; where that refuses it, the link's output handle is freed
abbrev pub Grants : {S : Type 0} → (S → S → LinkFlow → Result Flow SessionInnerError → Type 0)
    → (S → S → OutputHandle → Bool → Type 0) → S → S → LinkFlow → OutputHandle
    → Result Flow SessionInnerError → Type 0
Grants flows frees old new credit output (Ok flow) = flows old new credit (Ok flow)
Grants {S} flows frees old new credit output (Err error) =
    (refused : S) × (freed : Bool) × flows old refused credit (Err error)
    × frees refused new output freed

-- the reply's frames with its flow, or why that isn't sent
abbrev pub with_flow : Frame → Result Flow SessionInnerError → Result (List Frame) SessionInnerError
with_flow attach (Ok flow) = Ok (attach ∷ frames.Flow flow ∷ [])
with_flow attach (Err error) = Err error

-- the frames of a reply, by its credit: the attach alone, or also the session's flow
abbrev pub SendsReply : {S : Type 0} → (S → S → LinkFlow → Result Flow SessionInnerError → Type 0)
    → (S → S → OutputHandle → Bool → Type 0) → Option LinkFlow → S → S → Attach → OutputHandle
    → Result (List Frame) SessionInnerError → Type 0
SendsReply flows frees None old new attach output result =
    (result ≡ Ok (frames.Attach (attach_under output attach) ∷ [])) × (new ≡ old)
SendsReply flows frees (Some credit) old new attach output result =
    (answer : Result Flow SessionInnerError)
    × Grants flows frees old new (flow_under output credit) output answer
    × (result ≡ with_flow (frames.Attach (attach_under output attach)) answer)

-- a reply leaves the names; where its flow is refused, the output handle is freed
abbrev pub ReplyLeaves : {T : Type 0} → Names → Names → OutputHandle → Result T SessionInnerError
    → Type 0
ReplyLeaves old new output (Ok sent) = SameNames old new
ReplyLeaves old new output (Err error) = FreesLink (old.at output) old new output
