-- How the next move is made, item by item.
use Rattle.std.specs.Prelude.{ℕ, zero, suc, ◌≡◌, Option, Some, None, Result, Ok, Err, List, [], ◌∷◌, drop, slice_get}
use Rattle.amqp_txn_types.specs.declared.items.NoMemory.{NoMemory}
use Rattle.txn_broker_queues.specs.declared.message.Message.{Message}
use Rattle.txn_parties.specs.declared.event.Event.{Event}
use Rattle.txn_parties.specs.declared.event.Event.TheVariants as events
use Rattle.txn_parties.specs.declared.event.Happened.{Happened}
use Rattle.txn_parties.specs.declared.event.Happened.TheVariants as happenings
use Rattle.txn_parties.specs.declared.event.Heard.{Heard}
use Rattle.txn_parties.specs.declared.event.Heard.TheVariants as hearings
use Rattle.txn_parties.specs.Exchange.{Exchange, heard, made}
use Rattle.txn_parties.specs.Turns.{Turn}
use Rattle.txn_world_wires.specs.Putting.{IsDeclare}
use Rattle.txn_relay.specs.declared.relay.Next.{Next}
use Rattle.txn_relay.specs.declared.relay.Next.TheVariants as nexts
use Rattle.txn_relay.specs.Moves.{moves, put_since, retirement_of, work_of}
use Rattle.txn_relay.specs.Relaying.{Half, Moved, Relaying}

-- the declare for a message that is left
abbrev pub next_for : Option Message → Next
next_for None = nexts.Nothing
next_for (Some message) = nexts.Declare

-- what follows so many items of a transaction
abbrev pub next_after : ℕ → Next
next_after zero = nexts.Post
next_after (suc zero) = nexts.Retirement
next_after (suc (suc zero)) = nexts.Commit
next_after (suc (suc (suc put))) = nexts.Nothing

-- what follows once the last transaction heard this
abbrev pub next_heard : List Message → ℕ → ℕ → Heard → Next
next_heard work txn put hearings.Committed = next_for (slice_get work (suc txn))
next_heard work txn put hearings.Nothing = next_after put
next_heard work txn put _ = nexts.Nothing

abbrev pub next_by : Exchange → List Message → ℕ → Next
next_by sides work zero = next_for (slice_get work 0)
next_by sides work (suc txn) = next_heard work txn (put_since sides txn) (heard sides txn)

-- where the next move begins
abbrev pub next_of : Relaying → Next
next_of relay = next_by relay.world.sides relay.work (made relay.world.sides)

-- the next move is this one of the last transaction and its message
abbrev pub IsWork : Relaying → (ℕ → Message → List Event) → Type 0
IsWork relay move =
    (txn : ℕ) × (message : Message) × (made relay.world.sides ≡ suc txn)
    × (slice_get relay.work txn ≡ Some message)
    × (moves relay.world.sides relay.work ≡ move txn message)

-- the next move, by where it begins
abbrev pub BeginsWith : Relaying → Next → Type 0
BeginsWith relay nexts.Declare = moves relay.world.sides relay.work ≡ events.Declare 0 ∷ []
BeginsWith relay nexts.Post = IsWork relay work_of
BeginsWith relay nexts.Retirement =
    IsWork relay (λ txn message. retirement_of txn message ∷ events.Commit txn ∷ [])
BeginsWith relay nexts.Commit = IsWork relay (λ txn message. events.Commit txn ∷ [])
BeginsWith relay nexts.Nothing = moves relay.world.sides relay.work ≡ []

-- the next move is made whole, or, out of memory, a front of it
abbrev pub Goes : Relaying → Relaying → Result Happened NoMemory → Type 0
Goes old new (Ok happened) = Moved old new (moves old.world.sides old.work) happened
Goes old new (Err error) = Half old new (moves old.world.sides old.work)

-- the event is the first of the next move, which is work of a transaction
abbrev pub IsFirst : Relaying → Event → Type 0
IsFirst relay event =
    (IsDeclare event → ⊥) × (rest : List Event)
    × (moves relay.world.sides relay.work ≡ event ∷ rest)

-- its item was put, and the next move is the rest
pub record PutFirst (old new : Relaying) (event : Event) : Type 0 where
  pub turn : Turn old.world.sides event happenings.Put [] new.world.sides
  pub below : new.world.below ≡ old.world.below
  pub ids : new.world.ids ≡ old.world.ids
  pub work : new.work ≡ old.work
  pub made_is : made new.world.sides ≡ made old.world.sides
  pub rest : moves new.world.sides new.work ≡ drop 1 (moves old.world.sides old.work)
