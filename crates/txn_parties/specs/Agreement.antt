-- The agreement of the two sides: what it means that a transaction heard this or that. Where the
-- places of its frames are among those that were drawn on, the layer below took its frames.
use Rattle.std.specs.Prelude.{ℕ, ◌≡◌, ◌<◌, ◌≤◌, Bool, true, false, Some, List, ◌∷◌, ◌++◌, length, take}
use Rattle.amqp_txn_types.specs.declared.id.TransactionId.{TransactionId}
use Rattle.amqp_txn_types.specs.declared.small.TransactionError.{TransactionError}
use Rattle.amqp_below_layer.specs.declared.answers.Answers.{Answers}
use Rattle.amqp_resource_record.specs.declared.entry.Entry.{Entry}
use Rattle.amqp_resource_record.specs.declared.reply.Reply.{Reply}
use Rattle.amqp_resource_record.specs.declared.reply.Reply.TheVariants as replies
use Rattle.amqp_resource_record.specs.declared.reply.RejectText.{RejectText}
use Rattle.amqp_resource_record.specs.declared.stop.StopCode.TheVariants as codes
use Rattle.amqp_resource_record.specs.Work.{origins}
use Rattle.txn_parties.specs.declared.event.Heard.{Heard}
use Rattle.txn_parties.specs.declared.event.Heard.TheVariants as hearings
use Rattle.txn_parties.specs.declared.item.Item.{Item}
use Rattle.txn_parties.specs.declared.item.Item.TheVariants as items
use Rattle.txn_parties.specs.declared.item.Halt.{Halt}
use Rattle.txn_parties.specs.Times.{times, RisingFrom}
use Rattle.txn_parties.specs.Exchange.{Exchange, back_of, heard, id_heard, record_of}
use Rattle.txn_parties.specs.Spans.{span, drawn_on}

-- all of these places were drawn on, next to each other
abbrev pub AllOf : Exchange → List ℕ → Type 0
AllOf exchange places =
    (before : List ℕ) × (after : List ℕ) × (drawn_on exchange ≡ (before ++ places) ++ after)

-- none of them was
abbrev pub NoneOf : Exchange → List ℕ → Type 0
NoneOf exchange places = (place : ℕ) → 1 ≤ times place places → times place (drawn_on exchange) ≡ 0

-- the transaction's own commit is the first item that waits
abbrev pub CommitWaits : ℕ → List Item → Type 0
CommitWaits number waiting =
    (link : ℕ) × (id : TransactionId) × (rest : List Item)
    × (waiting ≡ items.Discharge number link id false ∷ rest)

-- the first of them were, some and not all: the session stopped at the transaction's own commit,
-- for which the layer below, which isn't sure, ran out of memory
pub record PartOf (exchange : Exchange) (number : ℕ) (places : List ℕ) : Type 0 where
  pub handed : ℕ
  pub some : 1 ≤ handed
  pub proper : handed < length places
  pub drawn : drawn_on exchange ≡ origins (record_of exchange) ++ take handed places
  pub others : (place : ℕ) → 1 ≤ times place places → times place (origins (record_of exchange)) ≡ 0
  pub stop : exchange.stop ≡ Some (record { code = codes.BelowNoMemory; handed = handed })
  pub own : CommitWaits number exchange.waiting
  pub unsure : exchange.sure ≡ false

-- where no answer to a discharge was heard: none, all, or a part
pub data Open (exchange : Exchange) (number : ℕ) (places : List ℕ) : Type 0 where
  NoneHanded : NoneOf exchange places → Open exchange number places
  AllHanded : AllOf exchange places → Open exchange number places
  PartHanded : PartOf exchange number places → Open exchange number places

-- what it means for the frames at these places that their transaction heard this
abbrev pub Means : Exchange → ℕ → List ℕ → Heard → Type 0
Means exchange number places hearings.Undeclared = ⊥
Means exchange number places hearings.Nothing = Open exchange number places
Means exchange number places hearings.Committed = AllOf exchange places
Means exchange number places hearings.RolledBack = NoneOf exchange places
Means exchange number places hearings.Rejected = NoneOf exchange places

-- the item is among those that arrived, and its entry of the resource's record has this reply
pub record Replied (came : List (Item × Entry)) (item : Item) (reply : Reply) : Type 0 where
  pub before : List (Item × Entry)
  pub after : List (Item × Entry)
  pub entry : Entry
  pub parts : came ≡ before ++ (item, entry) ∷ after
  pub answer : entry.reply ≡ reply

-- what the transaction heard is what its own discharge was answered
abbrev pub OwnAnswer : Exchange → ℕ → Heard → Type 0
OwnAnswer exchange number hearings.Committed =
    (link : ℕ) × (id : TransactionId) × (echoes : List Answers)
    × Replied exchange.came (items.Discharge number link id false) (replies.Accepted echoes)
OwnAnswer exchange number hearings.RolledBack =
    (link : ℕ) × (id : TransactionId) × (echoes : List Answers)
    × Replied exchange.came (items.Discharge number link id true) (replies.Accepted echoes)
OwnAnswer exchange number hearings.Rejected =
    (link : ℕ) × (id : TransactionId) × (rollback : Bool) × (error : TransactionError)
    × (text : RejectText)
    × Replied exchange.came (items.Discharge number link id rollback) (replies.Rejected error text)
OwnAnswer exchange number _ = Unit {0}

-- the id that the transaction heard is that with which its own declare was answered
abbrev pub OwnDeclare : Exchange → ℕ → TransactionId → Type 0
OwnDeclare exchange number id =
    (link : ℕ) × Replied exchange.came (items.Declare number link) (replies.Declared id)

-- over a sure layer, nothing was handed of a discharge at which the session stopped
abbrev pub StopsSure : Exchange → Type 0
StopsSure exchange =
    (halt : Halt) (number link : ℕ) (id : TransactionId) (rollback : Bool) (rest : List Item)
    → exchange.sure ≡ true → exchange.stop ≡ Some halt
    → exchange.waiting ≡ items.Discharge number link id rollback ∷ rest → halt.handed ≡ 0

-- the agreement of the two sides
pub record Agreement (exchange : Exchange) : Type 0 where
  -- no frame was handed twice
  pub once : (place : ℕ) → times place (drawn_on exchange) ≤ 1
  -- the frames of a transaction are in the order in which they were put
  pub rising : (number : ℕ) (id : TransactionId) → RisingFrom 0 (span exchange number id)
  -- what it means that a transaction heard what it heard
  pub means : (number : ℕ) (id : TransactionId) → id_heard exchange number ≡ Some id
      → Means exchange number (span exchange number id) (heard exchange number)
  pub surely : StopsSure exchange
  -- what was put back has returned or waits, in order, and what a transaction heard is the answer
  -- to its own request
  pub back : exchange.told ++ exchange.coming ≡ back_of exchange.came
  pub declared : (number : ℕ) (id : TransactionId) → id_heard exchange number ≡ Some id
      → OwnDeclare exchange number id
  pub own : (number : ℕ) → OwnAnswer exchange number (heard exchange number)
