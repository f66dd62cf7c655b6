-- What an event leaves that is no arrival.
use Rattle.std.specs.Prelude.{◌≡◌, Bool, Result, [], IfOk, OnErr}
use Rattle.amqp_txn_types.specs.declared.items.NoMemory.{NoMemory}
use Rattle.txn_parties.specs.declared.event.Event.{Event}
use Rattle.txn_parties.specs.declared.event.Happened.{Happened}
use Rattle.txn_parties.specs.Turns.{Turn}
use Rattle.txn_world_wires.specs.declared.parties.Parties.{Parties}
use Rattle.txn_world_wires.specs.Parties.{Sound, exchange_of}

-- it is a turn that draws no id, leaves the record and the stop, and keeps what is so
pub record Moves (sure : Bool) (old : Parties) (event : Event) (happened : Happened)
    (new : Parties) : Type 0 where
  pub turn : Turn (exchange_of sure old) event happened [] (exchange_of sure new)
  pub sound : Sound sure new
  pub entries : new.entries ≡ old.entries
  pub attached : new.attached ≡ old.attached
  pub tags : new.tags ≡ old.tags
  pub stop : new.stop ≡ old.stop

-- the same, whether the layer below is sure or not; where memory runs out nothing changes
pub record MovesParties (old : Parties) (event : Event) (result : Result Happened NoMemory)
    (new : Parties) : Type 0 where
  pub moves : IfOk result (λ happened. (sure : Bool) → Sound sure old
      → Moves sure old event happened new)
  pub err : OnErr result (new ≡ old)
