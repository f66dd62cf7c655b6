-- What contracts see of a world, and what one event answers and leaves.
use Rattle.std.specs.Prelude.{ℕ, ◌≡◌, ◌≤◌, true, Option, Some, None, Result, Ok, List, [], ◌∷◌, ◌++◌, IfOk, OnErr}
use Rattle.amqp_txn_types.specs.Counts.{Rose}
use Rattle.amqp_txn_types.specs.declared.id.TransactionId.{TransactionId}
use Rattle.amqp_txn_types.specs.declared.items.NoMemory.{NoMemory}
use Rattle.amqp_below_layer.specs.Told.{Told}
use Rattle.amqp_below_layer.specs.declared.inner_error.SessionInnerError.{SessionInnerError}
use Rattle.amqp_below_ids.specs.Ids.{Drew}
use Rattle.amqp_resource_record.specs.Entries.{is_veto}
use Rattle.amqp_resource_record.specs.Hands.{hands}
use Rattle.amqp_resource_record.specs.Stops.{fault_code}
use Rattle.amqp_resource_record.specs.declared.entry.Entry.{Entry}
use Rattle.amqp_resource_record.specs.declared.stop.StopCode.{StopCode}
use Rattle.amqp_resource_record.specs.declared.stop.StopCode.TheVariants as codes
use Rattle.amqp_resource_session.specs.Steps.{OpenedBy, RefusedAdds, RefusedBy, TookHands, VetoedBy}
use Rattle.txn_parties.specs.declared.event.Event.{Event}
use Rattle.txn_parties.specs.declared.event.Happened.{Happened}
use Rattle.txn_parties.specs.declared.event.Happened.TheVariants as happenings
use Rattle.txn_parties.specs.declared.item.Item.{Item}
use Rattle.txn_parties.specs.declared.item.Halt.{Halt}
use Rattle.txn_parties.specs.Items.{step_of}
use Rattle.txn_parties.specs.Exchange.{Exchange, record_of}
use Rattle.txn_parties.specs.Turns.{Turn}
use Rattle.txn_parties.specs.Invariant.{Keeps}
use Rattle.txn_parties.specs.Agreement.{Agreement}
use Rattle.txn_parties.specs.Taken.{Grew}

-- two parties at one moment: the wires with the record, the layer below and the id source
pub record TwoParties (S G : Type 0) : Type 0 where
  pub sides : Exchange
  pub below : S
  pub ids : G

-- why the session stopped at an item: the id of its frame isn't live; or the layer below refused,
-- and told the refusal by this error
pub data StopCause (old new : Told) (w : Exchange) (item : Item) (halt : Halt) : Type 0 where
  Unknown : halt.code ≡ codes.UnknownTxnId → StopCause old new w item halt
  Refused : (error : SessionInnerError) → halt.code ≡ fault_code error
      → Rose old.refusals new.refusals
      → RefusedAdds old new (step_of item) (hands (record_of w) (step_of item)) error halt.handed
      → StopCause old new w item halt

-- what the item of an entry did below, which came after these entries: what below took of it, with
-- what was given back, and what it opened, refused and vetoed
pub record DidBelow (old new : Told) (entries : List Entry) (entry : Entry) : Type 0 where
  pub took : TookHands old new entries entry.step entry.reply
  pub opened : OpenedBy old new entry.step entry.reply
  pub refused : RefusedBy old new entry.step entry.reply
  pub vetoed : VetoedBy old new entries entry.step entry.reply

-- below opened and vetoed nothing
pub record OpenedNothing (old new : Told) : Type 0 where
  pub opened : new.opened ≡ old.opened
  pub vetoed : new.reviews.vetoed ≡ old.reviews.vetoed

-- one event of two parties over a layer that tells this, with a source that gives these ids
pub record EventSays {S G : Type 0} (told : S → Told) (next : G → ℕ → TransactionId)
    (starts : G → Option (ℕ → TransactionId)) (old new : TwoParties S G) (event : Event)
    (result : Result Happened NoMemory) : Type 0 where
  -- It is a turn, and the ids that it drew are the source's next ones.
  pub turn : IfOk result (λ happened. (drawn : List TransactionId)
      × Turn old.sides event happened drawn new.sides × Drew (next old.ids) (next new.ids) drawn)
  -- Where memory runs out, all is as it was.
  pub err : OnErr result (new ≡ old)
  -- Below took the frames at the places that were drawn on anew.
  pub grew : Grew old.sides new.sides (told old.below).taken (told new.below).taken
  pub start : starts new.ids ≡ starts old.ids
  -- The session stops for its cause alone, and a commit is vetoed only where the vetoes rose.
  pub stopped : (halt : Halt) (item : Item) (rest : List Item) → old.sides.stop ≡ None
      → new.sides.stop ≡ Some halt → old.sides.waiting ≡ item ∷ rest
      → StopCause (told old.below) (told new.below) old.sides item halt
  pub vetoed : (item : Item) (entry : Entry)
      → new.sides.came ≡ old.sides.came ++ (item, entry) ∷ [] → is_veto entry.reply ≡ true
      → Rose (told old.below).reviews.vetoes (told new.below).reviews.vetoes
  -- Neither count falls, and nothing else of the layer's that no call changes.
  pub later : (told old.below).refusals ≤ (told new.below).refusals
  pub counted : (told old.below).reviews.vetoes ≤ (told new.below).reviews.vetoes
  pub fixed : (told new.below).fixed ≡ (told old.below).fixed
  -- Of an item that is answered below did what its entry says; of one that stops the session
  -- below opened and vetoed nothing; and where no item arrived below and the source are as they
  -- were.
  pub answered : (item : Item) (entry : Entry)
      → new.sides.came ≡ old.sides.came ++ (item, entry) ∷ []
      → DidBelow (told old.below) (told new.below) (record_of old.sides) entry
  pub halted : (halt : Halt) → old.sides.stop ≡ None → new.sides.stop ≡ Some halt
      → OpenedNothing (told old.below) (told new.below)
  pub quiet : (result ≡ Ok happenings.Arrived → ⊥)
      → (new.below ≡ old.below) × (new.ids ≡ old.ids)
  -- The two sides agree, before and after any event.
  pub keeps : Keeps new.sides
  pub agree : Agreement new.sides

-- the code of a stop
abbrev pub code_of_stop : Option Halt → Option StopCode
code_of_stop None = None
code_of_stop (Some halt) = Some halt.code

-- how many frames of the stopping item were taken
abbrev pub handed_of_stop : Option Halt → ℕ
handed_of_stop None = 0
handed_of_stop (Some halt) = halt.handed
