-- The queues of a list of frames, which look back over it.
use Rattle.std.specs.Prelude.{ℕ, ◌+◌, ◌==◌, ◌&&◌, Bool, true, false, not, cond, Option, Some, None, List, [], ◌∷◌, drop, length, nat_eq, nat_le, reverse, slice_get, take, unwrap_or}
use Rattle.std.specs.List.{enumerate_from, filter_map, list_any, range_with_len}
use Rattle.std.specs.Option.{option_map, option_or}
use Rattle.std.specs.Cmp.Lexicographic.{pointwise}
use Rattle.amqp_txn_types.specs.declared.delivery.DeliveryState.{DeliveryState}
use Rattle.amqp_txn_types.specs.declared.delivery.DeliveryState.TheVariants as states
use Rattle.amqp_txn_types.specs.declared.performatives.Attach.{Attach}
use Rattle.amqp_txn_types.specs.declared.performatives.Disposition.{Disposition}
use Rattle.amqp_txn_types.specs.declared.performatives.Frame.{Frame}
use Rattle.amqp_txn_types.specs.declared.performatives.Frame.TheVariants as frames
use Rattle.amqp_txn_types.specs.declared.performatives.Source.{Source}
use Rattle.amqp_txn_types.specs.declared.performatives.TargetArchetype.{TargetArchetype}
use Rattle.amqp_txn_types.specs.declared.performatives.TargetArchetype.TheVariants as targets
use Rattle.amqp_txn_types.specs.declared.small.Role.{Role}
use Rattle.amqp_txn_types.specs.declared.small.Role.TheVariants as roles
use Rattle.txn_broker_queues.specs.declared.message.Message.{Message}

-- ---- links

-- a link: the address of its queue, and which end the peer is
pub record Linked : Type 0 where
  pub address : List ℕ
  pub peer : Role

-- the address of a node that takes messages; a coordinator has none (part 3, 3.5.4, target)
abbrev pub target_address : Option TargetArchetype → Option (List ℕ)
target_address (Some (targets.Target target)) = target.address
target_address _ = None

-- the address of a node that messages come from (part 3, 3.5.3, source)
abbrev pub source_address : Option Source → Option (List ℕ)
source_address None = None
source_address (Some source) = source.address

-- the address by the peer's end: that of the target; for a receiver that of its source, where that
-- has one (part 2, 2.6.1, naming a link)
abbrev pub address_by : Role → Option Source → Option TargetArchetype → Option (List ℕ)
address_by roles.Sender source target = target_address target
address_by roles.Receiver source target = option_or (source_address source) (target_address target)

-- the address that an attach names
abbrev pub address_of : Attach → Option (List ℕ)
address_of attach = address_by attach.role attach.source attach.target

-- the link that an attach makes
abbrev pub link_of : Attach → Option Linked
link_of attach =
    option_map (λ address. record { address = address; peer = attach.role }) (address_of attach)

-- the link of a handle, by the last frame first: that of its last attach, if it wasn't detached
-- since (part 2, 2.6.2, link handles)
abbrev pub link_back : ℕ → List Frame → Option Linked
link_back handle [] = None
link_back handle (frames.Attach attach ∷ earlier) =
    cond (attach.handle.0 == handle) (link_of attach) (link_back handle earlier)
link_back handle (frames.Detach detach ∷ earlier) =
    cond (detach.handle.0 == handle) None (link_back handle earlier)
link_back handle (_ ∷ earlier) = link_back handle earlier

-- the link of a handle once these frames were taken
abbrev pub link_after : List Frame → ℕ → Option Linked
link_after taken handle = link_back handle (reverse taken)

-- the link of a handle before this place
abbrev pub link_at : List Frame → ℕ → ℕ → Option Linked
link_at taken place handle = link_after (take place taken) handle

-- the address is this name
abbrev pub is_address : List ℕ → Option (List ℕ) → Bool
is_address name None = false
is_address name (Some address) = pointwise nat_eq name address

-- the frame attaches a link to the address of this name
abbrev pub attaches : List ℕ → Frame → Bool
attaches name (frames.Attach attach) = is_address name (address_of attach)
attaches name _ = false

-- ---- messages

-- a message that was sent to a queue, with its place among the frames
pub record Sent : Type 0 where
  pub place : ℕ
  pub address : List ℕ
  pub payload : List ℕ

-- the peer sends on the link
abbrev pub is_sender : Role → Bool
is_sender roles.Sender = true
is_sender roles.Receiver = false

abbrev pub sent_on : ℕ → List ℕ → Option Linked → Option Sent
sent_on place payload None = None
sent_on place payload (Some link) = cond (is_sender link.peer)
    (Some (record { place = place; address = link.address; payload = payload })) None

abbrev pub sent_by : List Frame → ℕ → Option Frame → Option Sent
sent_by taken place (Some (frames.Transfer transfer payload)) =
    sent_on place payload (link_at taken place transfer.handle.0)
sent_by taken place _ = None

-- the message at a place: a transfer on a link of which the peer is the sender (part 2, 2.7.5,
-- transfer)
abbrev pub sent_at : List Frame → ℕ → Option Sent
sent_at taken place = sent_by taken place (slice_get taken place)

-- the messages, by place. The number of a message is the number of messages before it
abbrev pub messages : List Frame → List Sent
messages taken = filter_map (sent_at taken) (range_with_len 0 (length taken))

-- ---- what removes them

-- a final outcome that leaves the message with the receiver, or that it can't be taken (part 3,
-- 3.4.2, accepted; 3.4.3, rejected)
abbrev pub is_final : Option DeliveryState → Bool
is_final (Some states.Accepted) = true
is_final (Some (states.Rejected rejected)) = true
is_final _ = false

abbrev pub is_receiver : Role → Bool
is_receiver roles.Receiver = true
is_receiver roles.Sender = false

-- a disposition covers the numbers from its first to its last, and its first alone where it has no
-- last (part 2, 2.7.6, disposition)
abbrev pub covers : Disposition → ℕ → Bool
covers d number = nat_le d.first number && nat_le number (unwrap_or d.last d.first)

-- a receiver's disposition takes the message of a number from its queue
abbrev pub removes : ℕ → Frame → Bool
removes number (frames.Disposition d) = is_receiver d.role && is_final d.state && covers d number
removes number _ = false

-- the numbers that a disposition removes, from the first up to, but not with, the second
abbrev pub removed_numbers : Disposition → Option (ℕ × ℕ)
removed_numbers d = cond (is_receiver d.role && is_final d.state)
    (Some (d.first, unwrap_or d.last d.first + 1)) None

-- a message is gone where a later frame removes it
abbrev pub is_gone : List Frame → ℕ → ℕ → Bool
is_gone taken number place = list_any (removes number) (drop (place + 1) taken)

-- ---- queues

abbrev pub waiting : List Frame → List ℕ → ℕ × Sent → Option Message
waiting taken name (number, sent) =
    cond (pointwise nat_eq sent.address name && not (is_gone taken number sent.place))
    (Some (record { number = number; payload = sent.payload })) None

-- the queue of a name: the messages that were sent to it and aren't gone, by place
abbrev pub queue : List Frame → List ℕ → List Message
queue taken name = filter_map (waiting taken name) (enumerate_from 0 (messages taken))

-- the queue of a name to which a link was ever attached
abbrev pub queue_found : List Frame → List ℕ → Option (List Message)
queue_found taken name =
    cond (list_any (attaches name) taken) (Some (queue taken name)) None
