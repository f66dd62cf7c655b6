-- The steps of the input: its lines, the words of a line, and the step that the words spell.
use Rattle.std.specs.Prelude.{ℕ, false, Option, Some, None, Result, List, [], ◌∷◌, codes, if◌then◌else◌}
use Rattle.std.specs.Int.{w32, to_be_bytes}
use Rattle.std.specs.Str.{bytes_eq}
use Rattle.amqp_txn_types.specs.declared.small.Role.{Role}
use Rattle.amqp_txn_types.specs.declared.small.Role.TheVariants as roles
use Rattle.amqp_txn_types.specs.declared.small.SenderSettleMode.TheVariants as sender_modes
use Rattle.amqp_txn_types.specs.declared.small.ReceiverSettleMode.TheVariants as receiver_modes
use Rattle.amqp_txn_types.specs.declared.delivery.Outcome.{Outcome}
use Rattle.amqp_txn_types.specs.declared.delivery.DeliveryState.{DeliveryState}
use Rattle.amqp_txn_types.specs.declared.delivery.DeliveryState.TheVariants as states
use Rattle.amqp_txn_types.specs.declared.delivery.ConnectionStopReason.TheVariants as reasons
use Rattle.amqp_txn_types.specs.declared.performatives.Attach.{Attach}
use Rattle.amqp_txn_types.specs.declared.performatives.Flow.{Flow}
use Rattle.amqp_txn_types.specs.declared.performatives.Transfer.{Transfer}
use Rattle.amqp_txn_types.specs.declared.performatives.Disposition.{Disposition}
use Rattle.amqp_txn_types.specs.declared.performatives.TargetArchetype.{TargetArchetype}
use Rattle.amqp_txn_types.specs.declared.performatives.TargetArchetype.TheVariants as targets
use Rattle.amqp_txn_types.specs.declared.performatives.Frame.{Frame}
use Rattle.amqp_txn_types.specs.declared.performatives.Frame.TheVariants as frames
use Rattle.amqp_txn_types.specs.Frames.{state_of_outcomes}
use Rattle.amqp_resource_record.specs.declared.step.Step.{Step}
use Rattle.amqp_resource_record.specs.declared.step.Step.TheVariants as steps
use Rattle.txn_program_lines.specs.declared.line_words.Delivery.{Delivery}
use Rattle.txn_program_lines.specs.declared.line_words.Deliveries.{Deliveries}
use Rattle.txn_program_lines.specs.Cutting.{lines_of, words_of}
use Rattle.txn_program_lines.specs.Numbered.{items_from}
use Rattle.txn_program_lines.specs.LineWords.{◌>>=◌, name_of, u32_of, u64_of, bool_of, role_of, outcome_of, optional, txn_id_of, payload_of}

-- the first of the words, and the others
abbrev pub word_at : List (List ℕ) → Option (List ℕ × List (List ℕ))
word_at [] = None
word_at (word ∷ words) = Some (word, words)

-- what the first of the words means, and the others
abbrev pub next : {A : Type 0} → (List ℕ → Option A) → List (List ℕ) → Option (A × List (List ℕ))
next kind words = do
  word ← word_at words
  meaning ← kind word.0
  Some (meaning, word.1)

-- no word is left
abbrev pub ended : List (List ℕ) → Option (Unit {0})
ended [] = Some tt
ended (word ∷ words) = None

-- what is spelled, where no word is left
abbrev pub alone : {A : Type 0} → List (List ℕ) → A → Option A
alone words spelled = do
  done ← ended words
  Some spelled

-- a delivery count is there for a sender
abbrev pub first_count : Role → Option ℕ
first_count roles.Sender = Some 0
first_count roles.Receiver = None

-- an attach that names what a line names
abbrev pub attach_of : List ℕ → ℕ → Role → TargetArchetype → Attach
attach_of name handle role target = record {
  name = name;
  handle = record { 0 = handle };
  role = role;
  snd_settle_mode = sender_modes.Mixed;
  rcv_settle_mode = receiver_modes.First;
  source = Some (record {
    address = None;
    dynamic = false;
    dynamic_node_properties = None;
    outcomes = None;
    capabilities = None;
  });
  target = Some target;
  initial_delivery_count = first_count role;
  max_message_size = None;
  offered_capabilities = None;
  desired_capabilities = None;
  properties = None;
}

-- a coordinator without capabilities
abbrev pub coordinator : TargetArchetype
coordinator = targets.Coordinator (record { capabilities = None })

-- the node of that address
abbrev pub node : List ℕ → TargetArchetype
node address = targets.Target (record {
  address = Some address;
  dynamic = false;
  dynamic_node_properties = None;
  capabilities = None;
})

-- a flow, of a link with its credit or of the session alone
abbrev pub flow_of : Option (ℕ × ℕ) → Flow
flow_of None = record {
  next_incoming_id = Some 0;
  incoming_window = 2048;
  next_outgoing_id = 0;
  outgoing_window = 2048;
  handle = None;
  delivery_count = None;
  link_credit = None;
  available = None;
  drain = false;
  echo = false;
  properties = None;
}
flow_of (Some link) = record {
  next_incoming_id = Some 0;
  incoming_window = 2048;
  next_outgoing_id = 0;
  outgoing_window = 2048;
  handle = Some (record { 0 = link.0 });
  delivery_count = Some 0;
  link_credit = Some link.1;
  available = None;
  drain = false;
  echo = false;
  properties = None;
}

-- the four octets of a delivery's number, as its tag
abbrev pub tag_of : Option ℕ → Option (List ℕ)
tag_of None = None
tag_of (Some number) = Some (to_be_bytes w32 number)

-- a delivery that has a number has a message format
abbrev pub format_of : Option ℕ → Option ℕ
format_of None = None
format_of (Some number) = Some 0

-- a transfer of that delivery
abbrev pub transfer_of : Delivery → Option DeliveryState → Transfer
transfer_of delivery state = record {
  handle = record { 0 = delivery.handle };
  delivery_id = delivery.delivery_id;
  delivery_tag = tag_of delivery.delivery_id;
  message_format = format_of delivery.delivery_id;
  settled = delivery.settled;
  more = false;
  rcv_settle_mode = None;
  state = state;
  resume = false;
  aborted = false;
  batchable = false;
}

-- a disposition of those deliveries
abbrev pub disposition_of : Deliveries → Option DeliveryState → Disposition
disposition_of deliveries state = record {
  role = deliveries.role;
  first = deliveries.first;
  last = deliveries.last;
  settled = deliveries.settled;
  state = state;
  batchable = false;
}

-- the state of a delivery under a transaction
abbrev pub state_under : List ℕ → Option Outcome → Option DeliveryState
state_under txn_id outcome =
    Some (states.TransactionalState (record { txn_id = txn_id; outcome = outcome }))

-- H ID SET
unfoldable pub delivery_at : List (List ℕ) → Option (Delivery × List (List ℕ))
delivery_at words = do
  handle ← next u32_of words
  delivery_id ← next (optional u32_of) handle.1
  settled ← next (optional bool_of) delivery_id.1
  Some (record { handle = handle.0; delivery_id = delivery_id.0; settled = settled.0 }, settled.1)

-- ROLE FIRST LAST BOOL
unfoldable pub deliveries_at : List (List ℕ) → Option (Deliveries × List (List ℕ))
deliveries_at words = do
  role ← next role_of words
  first ← next u32_of role.1
  last ← next (optional u32_of) first.1
  settled ← next bool_of last.1
  Some (record { role = role.0; first = first.0; last = last.0; settled = settled.0 }, settled.1)

-- attach NAME H
unfoldable pub attach_line : List (List ℕ) → Option Frame
attach_line words = do
  name ← next name_of words
  handle ← next u32_of name.1
  alone handle.1 (frames.Attach (attach_of name.0 handle.0 roles.Sender coordinator))

-- link NAME H ROLE
unfoldable pub link_line : List (List ℕ) → Option Frame
link_line words = do
  name ← next name_of words
  handle ← next u32_of name.1
  role ← next role_of handle.1
  alone role.1 (frames.Attach (attach_of name.0 handle.0 role.0 (node name.0)))

-- flow H N
unfoldable pub link_flow_line : List (List ℕ) → Option Frame
link_flow_line words = do
  handle ← next u32_of words
  credit ← next u32_of handle.1
  alone credit.1 (frames.Flow (flow_of (Some (handle.0, credit.0))))

-- flow H N, or flow -
unfoldable pub flow_line : List (List ℕ) → Option Frame
flow_line words = do
  first ← word_at words
  if bytes_eq first.0 (codes "-") then alone first.1 (frames.Flow (flow_of None))
      else link_flow_line words

-- transfer H ID SET PAYLOAD
unfoldable pub transfer_line : List (List ℕ) → Option Frame
transfer_line words = do
  delivery ← delivery_at words
  payload ← next payload_of delivery.1
  alone payload.1 (frames.Transfer (transfer_of delivery.0 None) payload.0)

-- post T H ID SET OUT PAYLOAD
unfoldable pub post_line : List (List ℕ) → Option Frame
post_line words = do
  txn_id ← next txn_id_of words
  delivery ← delivery_at txn_id.1
  outcome ← next (optional outcome_of) delivery.1
  payload ← next payload_of outcome.1
  alone payload.1
      (frames.Transfer (transfer_of delivery.0 (state_under txn_id.0 outcome.0)) payload.0)

-- disposition ROLE FIRST LAST BOOL OUT
unfoldable pub disposition_line : List (List ℕ) → Option Frame
disposition_line words = do
  deliveries ← deliveries_at words
  outcome ← next (optional outcome_of) deliveries.1
  alone outcome.1
      (frames.Disposition (disposition_of deliveries.0 (state_of_outcomes outcome.0)))

-- retire T ROLE FIRST LAST BOOL OUT
unfoldable pub retire_line : List (List ℕ) → Option Frame
retire_line words = do
  txn_id ← next txn_id_of words
  deliveries ← deliveries_at txn_id.1
  outcome ← next (optional outcome_of) deliveries.1
  alone outcome.1
      (frames.Disposition (disposition_of deliveries.0 (state_under txn_id.0 outcome.0)))

-- detach H BOOL
unfoldable pub detach_line : List (List ℕ) → Option Frame
detach_line words = do
  handle ← next u32_of words
  closed ← next bool_of handle.1
  alone closed.1 (frames.Detach (record {
    handle = record { 0 = handle.0 };
    closed = closed.0;
    error = None;
  }))

-- the frame of a line, by its first word and the words after it
unfoldable pub frame_of_words : List ℕ → List (List ℕ) → Option Frame
frame_of_words kind words =
    if bytes_eq kind (codes "attach") then attach_line words
    else if bytes_eq kind (codes "link") then link_line words
    else if bytes_eq kind (codes "flow") then flow_line words
    else if bytes_eq kind (codes "transfer") then transfer_line words
    else if bytes_eq kind (codes "post") then post_line words
    else if bytes_eq kind (codes "disposition") then disposition_line words
    else if bytes_eq kind (codes "retire") then retire_line words
    else if bytes_eq kind (codes "detach") then detach_line words
    else None

-- a frame as a step
abbrev pub frame_step : Option Frame → Option Step
frame_step None = None
frame_step (Some frame) = Some (steps.Frame frame)

-- control K PAYLOAD
unfoldable pub control_line : List (List ℕ) → Option Step
control_line words = do
  link ← next u64_of words
  payload ← next payload_of link.1
  alone payload.1 (steps.Control link.0 payload.0)

-- link-end K
unfoldable pub link_end_line : List (List ℕ) → Option Step
link_end_line words = do
  link ← next u64_of words
  alone link.1 (steps.LinkEnd link.0)

-- the step of a line, by its first word and the words after it
unfoldable pub step_of_words : List ℕ → List (List ℕ) → Option Step
step_of_words kind words =
    if bytes_eq kind (codes "control") then control_line words
    else if bytes_eq kind (codes "link-end") then link_end_line words
    else if bytes_eq kind (codes "end") then alone words (steps.LocalEnd None)
    else if bytes_eq kind (codes "remote-end") then alone words (steps.RemoteEnd None)
    else if bytes_eq kind (codes "connection-stop") then
    alone words (steps.ConnectionStop reasons.RemoteClosed)
    else frame_step (frame_of_words kind words)

-- the step that a line spells
unfoldable pub step_of_line : List ℕ → Option Step
step_of_line line = do
  kind ← word_at (words_of line)
  step_of_words kind.0 kind.1

-- the steps of the input's lines, or the number, from 1, of the first line that isn't a step
abbrev pub input_steps : List ℕ → Result (List Step) ℕ
input_steps octets = items_from step_of_line 1 (lines_of octets)
