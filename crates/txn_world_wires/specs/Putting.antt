-- What a controller may put, by what it knows.
use Rattle.std.specs.Prelude.{ℕ, Bool, true, false, cond, ◌||◌, Option, Some, None, List, [], ◌∷◌, ◌++◌, slice_get}
use Rattle.amqp_txn_types.specs.declared.delivery.Outcome.{Outcome}
use Rattle.amqp_txn_types.specs.declared.id.TransactionId.{TransactionId}
use Rattle.amqp_txn_types.specs.declared.performatives.Disposition.{Disposition}
use Rattle.amqp_txn_types.specs.declared.performatives.Frame.{Frame}
use Rattle.amqp_txn_types.specs.declared.performatives.Frame.TheVariants as frames
use Rattle.amqp_txn_types.specs.declared.performatives.Transfer.{Transfer}
use Rattle.txn_parties.specs.declared.event.Event.{Event}
use Rattle.txn_parties.specs.declared.event.Event.TheVariants as events
use Rattle.txn_parties.specs.declared.item.Item.{Item}
use Rattle.txn_parties.specs.Turns.{state_under}
use Rattle.txn_world_wires.specs.declared.controllers.Controllers.{Controllers}
use Rattle.txn_world_wires.specs.declared.controllers.Transaction.{Transaction}
use Rattle.txn_world_wires.specs.declared.parties.Parties.{Parties}
use Rattle.txn_world_wires.specs.Knowing.{has_ended}

-- with an item more on the forward wire
abbrev pub with_item : Parties → Item → Parties
with_item parties item = record parties { waiting = parties.waiting ++ item ∷ [] }

-- the transfer under the id
abbrev pub posted : TransactionId → Transfer → Option Outcome → List ℕ → Frame
posted id transfer outcome payload =
    frames.Transfer (record transfer { state = state_under id outcome }) payload

-- the disposition under the id
abbrev pub retired : TransactionId → Disposition → Option Outcome → Frame
retired id disposition outcome =
    frames.Disposition (record disposition { state = state_under id outcome })

-- the id under which a transaction may put frames: it has heard it, and has sent no discharge
abbrev pub working_id : Option Transaction → Option TransactionId
working_id None = None
working_id (Some txn) = cond txn.sent None txn.id

-- the transaction with this id, where there is one
abbrev pub beside : Transaction → Option TransactionId → Option (Transaction × TransactionId)
beside txn None = None
beside txn (Some id) = Some (txn, id)

-- the transaction and its id, where it may put a discharge: it may put frames, and its link's end
-- wasn't sent
abbrev pub discharges_by : Controllers → Option Transaction → Option (Transaction × TransactionId)
discharges_by known None = None
discharges_by known (Some txn) =
    cond (txn.sent || has_ended (slice_get known.ended txn.link)) None (beside txn txn.id)

abbrev pub to_discharge : Controllers → ℕ → Option (Transaction × TransactionId)
to_discharge known number = discharges_by known (slice_get known.transactions number)

-- the event that asks for a discharge
abbrev pub discharge_event : ℕ → Bool → Event
discharge_event number false = events.Commit number
discharge_event number true = events.Rollback number

-- the event is a declare
abbrev pub IsDeclare : Event → Type 0
IsDeclare (events.Declare link) = Unit {0}
IsDeclare event = ⊥
