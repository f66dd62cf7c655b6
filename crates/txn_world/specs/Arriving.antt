-- What the step of the first item answers and leaves.
use Rattle.std.specs.Prelude.{◌≡◌, ◌⊎◌, ◌&&◌, Bool, true, false, not, Option, Some, None, Result, Ok, Err, List, [], ◌∷◌, ◌++◌}
use Rattle.amqp_below_ids.specs.Drawn.{DrawnIds}
use Rattle.amqp_resource_record.specs.declared.reply.Reply.{Reply}
use Rattle.amqp_resource_record.specs.declared.step.Step.{Step}
use Rattle.amqp_resource_record.specs.declared.stop.StepError.{StepError}
use Rattle.amqp_resource_record.specs.declared.stop.StepError.TheVariants as errors
use Rattle.amqp_resource_record.specs.Stops.{fault_code}
use Rattle.amqp_txn_types.specs.declared.items.NoMemory.{NoMemory}
use Rattle.txn_parties.specs.declared.event.Happened.{Happened}
use Rattle.txn_parties.specs.declared.event.Happened.TheVariants as happenings
use Rattle.txn_parties.specs.declared.item.Halt.{Halt}
use Rattle.txn_parties.specs.declared.item.Item.{Item}
use Rattle.txn_parties.specs.Items.{step_of}
use Rattle.txn_parties.specs.BackWire.{answers}
use Rattle.txn_parties.specs.Turns.{IsShort, entry_by}
use Rattle.txn_world_wires.specs.declared.tag.Tag.{Tag}
use Rattle.txn_world_wires.specs.declared.parties.Parties.{Parties}
use Rattle.txn_world_wires.specs.Tags.{item_of}

-- why the session stopped, where the error is a fault
abbrev pub halt_of : StepError → Option Halt
halt_of (errors.Fault error handed) =
    Some (record { code = fault_code error; handed = handed })
halt_of error = None

-- the session stopped by the halt, or without one memory ran out
abbrev pub StopsAt : Parties → Parties → Option Halt → Result Happened NoMemory → Type 0
StopsAt old new (Some halt) result =
    (result ≡ Ok happenings.Arrived) × (new ≡ record old { stop = Some halt })
StopsAt old new None result = (result ≡ Err (record {})) × (new ≡ old)

-- one waits
abbrev pub has_items : List Item → Bool
has_items [] = false
has_items (item ∷ rest) = true

-- no stop was
abbrev pub runs_on : Option Halt → Bool
runs_on None = true
runs_on (Some halt) = false

-- an item may arrive: one waits, the wires weren't cut, and the session hasn't stopped
abbrev pub may_arrive : Parties → Bool
may_arrive p = has_items p.waiting && (not p.cut && runs_on p.stop)

-- the first item was answered: it is recorded, and what it was answered is put back
pub record Recorded (old new : Parties) (item : Item) (drawn : DrawnIds) (reply : Reply)
    : Type 0 where
  pub rest : List Item
  pub tag : Tag
  pub waits : old.waiting ≡ item ∷ rest
  pub is : item_of tag (step_of item) ≡ item
  pub short : IsShort reply
  pub after : new ≡ record old {
    entries = old.entries ++ entry_by (step_of item) drawn reply ∷ [];
    tags = old.tags ++ tag ∷ [];
    waiting = rest;
    answers = old.answers ++ answers item reply;
  }

-- the first item is a step, of which this is said; or there was no room for its entry
abbrev pub StepsFirst : (Step → Result (DrawnIds × Reply) StepError → Type 0) → Type 0 → Parties
    → Parties → Result Unit StepError → Type 0
StepsFirst says same old new (Ok done) =
    (item : Item) × (drawn : DrawnIds) × (reply : Reply) × Recorded old new item drawn reply
    × says (step_of item) (Ok (drawn, reply))
StepsFirst says same old new (Err error) =
    ((item : Item) × (rest : List Item) × (old.waiting ≡ item ∷ rest) × (new ≡ old)
    × says (step_of item) (Err error))
    ⊎ ((error ≡ errors.NoMemory) × (new ≡ old) × same)
