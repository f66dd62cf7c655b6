-- A broker with the two links of a relay, and the messages in `from`.
use Rattle.std.specs.Prelude.{ℕ, ◌≡◌, ◌+◌, Some, List, [], ◌∷◌, length}
use Rattle.amqp_txn_types.specs.Plain.{plain_attach, plain_target}
use Rattle.amqp_txn_types.specs.declared.performatives.Attach.{Attach}
use Rattle.amqp_txn_types.specs.declared.performatives.TargetArchetype.TheVariants as targets
use Rattle.amqp_txn_types.specs.declared.small.Handle.{Handle}
use Rattle.amqp_txn_types.specs.declared.small.Role.TheVariants as roles
use Rattle.txn_broker_queues.specs.declared.message.Message.{Message}
use Rattle.txn_broker_queues.specs.Queues.{messages, queue_found}
use Rattle.txn_broker_queues.specs.Taking.{Board, taken_of}
use Rattle.txn_relay.specs.Moves.{from_handle, from_name, to_handle, to_name}
use Rattle.txn_relay.specs.Relaying.{IsLinked}

-- the attach of a link to the queue of a name, of which the peer is the sender
abbrev pub attach_to : List ℕ → Handle → Attach
attach_to name handle = record (plain_attach name handle roles.Sender) {
  target = Some (targets.Target (record plain_target { address = Some name }));
  initial_delivery_count = Some 0;
}

-- messages of these octets, numbered from this number on
abbrev pub numbered : ℕ → List (List ℕ) → List Message
numbered number [] = []
numbered number (payload ∷ payloads) =
    record { number = number; payload = payload } ∷ numbered (number + 1) payloads

-- the two links are attached, `from` has these messages and `to` none
pub record IsFilled (broker : Board) (messages : List Message) : Type 0 where
  pub from_is : queue_found (taken_of broker) from_name ≡ Some messages
  pub to_is : queue_found (taken_of broker) to_name ≡ Some []
  pub from_link : IsLinked broker from_handle from_name
  pub to_link : IsLinked broker to_handle to_name

-- the same, with how many messages the broker took
pub record Filled (broker : Board) (list : List Message) (count : ℕ) : Type 0 where
  pub filled : IsFilled broker list
  pub count_is : length (messages (taken_of broker)) ≡ count
