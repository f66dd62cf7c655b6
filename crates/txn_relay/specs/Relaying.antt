-- What contracts see of a relay, and what its calls answer and leave.
use Rattle.std.specs.Prelude.{ℕ, ◌≡◌, ◌<◌, true, Some, Result, Ok, List, [], ◌∷◌, Option, drop, length, map, take, IfOk, OnErr}
use Rattle.amqp_txn_types.specs.declared.id.TransactionId.{TransactionId}
use Rattle.amqp_txn_types.specs.declared.items.NoMemory.{NoMemory}
use Rattle.amqp_txn_types.specs.declared.small.Role.TheVariants as roles
use Rattle.amqp_below_ids.specs.declared.list_ids.ListIds.{ListIds}
use Rattle.amqp_resource_record.specs.declared.stop.StopCode.TheVariants as codes
use Rattle.txn_broker_queues.specs.declared.message.Message.{Message}
use Rattle.txn_broker_queues.specs.Queues.{link_after, queue_found}
use Rattle.txn_broker_queues.specs.Taking.{Board, taken_of, told_by}
use Rattle.txn_parties.specs.declared.event.Event.{Event}
use Rattle.txn_parties.specs.declared.event.Event.TheVariants as events
use Rattle.txn_parties.specs.declared.event.Happened.{Happened}
use Rattle.txn_parties.specs.declared.event.Happened.TheVariants as happenings
use Rattle.txn_parties.specs.declared.event.Heard.TheVariants as hearings
use Rattle.txn_parties.specs.declared.item.Halt.{Halt}
use Rattle.txn_parties.specs.Exchange.{Begins, begun, heard, made}
use Rattle.txn_parties.specs.Turns.{Follows}
use Rattle.txn_world.specs.Happening.{EventSays, TwoParties}
use Rattle.txn_relay.specs.declared.event.RelayEvent.{RelayEvent}
use Rattle.txn_relay.specs.declared.event.RelayEvent.TheVariants as relay_events
use Rattle.txn_relay.specs.Moves.{from_handle, from_name, moves, to_handle, to_name}
use Rattle.txn_relay.specs.Once.{Once}

-- a relay at one moment: the two parties over a broker, and the messages that are moved
pub record Relaying : Type 0 where
  pub world : TwoParties Board ListIds
  pub work : List Message

-- a link of which the peer is the sender is attached with this handle to this address
abbrev pub IsLinked : Board → ℕ → List ℕ → Type 0
IsLinked board handle name =
    link_after (taken_of board) handle ≡ Some (record { address = name; peer = roles.Sender })

-- the two parties, with one controller, had no event yet, and the broker is ready: `from` has the
-- messages and `to` none, and both are linked
pub record IsReady (world : TwoParties Board ListIds) (work : List Message) : Type 0 where
  pub sides : world.sides ≡ begun true world.sides.first
  pub begins : Begins world.sides.first
  pub one : length world.sides.first ≡ 1
  pub from_is : queue_found (taken_of world.below) from_name ≡ Some work
  pub to_is : queue_found (taken_of world.below) to_name ≡ Some []
  pub from_link : IsLinked world.below from_handle from_name
  pub to_link : IsLinked world.below to_handle to_name

-- each of these events put its item
abbrev pub all_put : List Event → List (Event × Happened)
all_put list = map (λ (event : Event). (event, happenings.Put)) list

-- these events put their items, in order, and nothing else happened
pub record Put (old new : Relaying) (list : List Event) : Type 0 where
  pub follows : Follows old.world.sides (all_put list) [] new.world.sides
  pub below : new.world.below ≡ old.world.below
  pub ids : new.world.ids ≡ old.world.ids
  pub work : new.work ≡ old.work

-- the next move is made whole; where none is left nothing changes
abbrev pub Moved : Relaying → Relaying → List Event → Happened → Type 0
Moved old new [] happened = (happened ≡ happenings.Skipped) × (new ≡ old)
Moved old new (event ∷ rest) happened =
    (happened ≡ happenings.Put) × Put old new (event ∷ rest)

-- out of memory: the first of the move's items were put, and the next move is the rest of it
pub record Half (old new : Relaying) (list : List Event) : Type 0 where
  pub count : ℕ
  pub some : count < length list
  pub put : Put old new (take count list)
  pub rest : moves new.world.sides new.work ≡ drop count list

-- what a source of ids tells: the next ones, and those that it began with
pub record Draws : Type 0 where
  pub next : ListIds → ℕ → TransactionId
  pub start : ListIds → Option (ℕ → TransactionId)

-- one event of the two parties, as they say it: a turn, with what was drawn, and what the broker
-- took, refused and vetoed
pub record Turned (draws : Draws) (old new : Relaying) (event : Event) (happened : Happened)
    : Type 0 where
  pub says : EventSays told_by draws.next draws.start old.world new.world event (Ok happened)
  pub work : new.work ≡ old.work

-- what happens: Go makes the next move, each other event is that of the two parties
abbrev pub Happens : Draws → Relaying → Relaying → RelayEvent → Happened → Type 0
Happens draws old new relay_events.Go happened =
    Moved old new (moves old.world.sides old.work) happened
Happens draws old new relay_events.Arrive happened = Turned draws old new events.Arrive happened
Happens draws old new relay_events.Return happened = Turned draws old new events.Return happened
Happens draws old new relay_events.Cut happened = Turned draws old new events.Cut happened

-- what out of memory leaves: a part of the move of Go, and nothing else of any event
abbrev pub LeavesSome : Relaying → Relaying → RelayEvent → Type 0
LeavesSome old new relay_events.Go = Half old new (moves old.world.sides old.work)
LeavesSome old new event = new ≡ old

-- what is so of a relay after every list of events
pub record Holds (relay : Relaying) : Type 0 where
  -- each message is in exactly one of the two queues
  pub once : Once relay.work relay.world.sides (taken_of relay.world.below)
  -- the session stops where the layer below runs out of memory, and nowhere else
  pub stops : (halt : Halt) → relay.world.sides.stop ≡ Some halt
      → halt.code ≡ codes.BelowNoMemory
  -- once a transaction heard Rejected, no move is left
  pub ends : (txn : ℕ) → txn < made relay.world.sides
      → heard relay.world.sides txn ≡ hearings.Rejected
      → moves relay.world.sides relay.work ≡ []

-- one event of a relay
pub record RelaySays (draws : Draws) (old new : Relaying) (event : RelayEvent)
    (result : Result Happened NoMemory) : Type 0 where
  pub happens : IfOk result (Happens draws old new event)
  pub err : OnErr result (LeavesSome old new event)
  pub holds : Holds new
