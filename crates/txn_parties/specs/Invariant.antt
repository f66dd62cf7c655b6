-- What is so of two parties after every list of events.
use Rattle.std.specs.Prelude.{ℕ, ◌≡◌, ◌≤◌, true, false, Option, Some, None, List, [], ◌∷◌, ◌++◌, length, map}
use Rattle.std.specs.List.{list_any}
use Rattle.amqp_txn_types.specs.declared.id.TransactionId.{TransactionId}
use Rattle.amqp_resource_record.specs.declared.entry.Entry.{Entry}
use Rattle.amqp_resource_record.specs.Entries.{steps_of}
use Rattle.amqp_resource_record.specs.Hands.{hands}
use Rattle.amqp_resource_record.specs.Legal.{IsLegal}
use Rattle.txn_parties.specs.declared.event.Heard.{Heard}
use Rattle.txn_parties.specs.declared.event.Heard.TheVariants as hearings
use Rattle.txn_parties.specs.declared.item.Item.{Item}
use Rattle.txn_parties.specs.declared.item.Item.TheVariants as items
use Rattle.txn_parties.specs.declared.item.Halt.{Halt}
use Rattle.txn_parties.specs.Items.{controller_in, is_declare, item_ends, made_in, step_of}
use Rattle.txn_parties.specs.BackWire.{id_in, verdict_in}
use Rattle.txn_parties.specs.Exchange.{Begins, Exchange, back_of, entries_of, forward, items_of, record_of}
use Rattle.txn_parties.specs.Spans.{span_from, within}
use Rattle.txn_parties.specs.Lives.{Apart, Holds, Life, Runs, Spent, Took, Unborn, life_in}
use Rattle.txn_parties.specs.Turns.{MayStop}

-- its span among the items that arrived and any that follow, the next one being at this place
abbrev pub Spans : ℕ → ℕ → ℕ → List Item → Life → Type 0
Spans first number place list Unborn = Unit {0}
Spans first number place list (Runs start id link places) =
    (rest : List Item)
    → span_from first number id (list ++ rest) ≡ places ++ within place number id link rest
Spans first number place list (Took id places) =
    (rest : List Item) → span_from first number id (list ++ rest) ≡ places
Spans first number place list (Spent id places) =
    (rest : List Item) → span_from first number id (list ++ rest) ≡ places

-- it was declared on a link, and what ended it is among the items
abbrev pub HasEnded : ℕ → List Item → Type 0
HasEnded number list =
    (link : ℕ) × (controller_in number list ≡ Some link)
    × (list_any (item_ends number link) list ≡ true)

-- its link, and whether it has ended
abbrev pub Marks : ℕ → List Item → Life → Type 0
Marks number list Unborn = Unit {0}
Marks number list (Runs start id link places) = controller_in number list ≡ Some link
Marks number list (Took id places) = HasEnded number list
Marks number list (Spent id places) = HasEnded number list

-- the id that it was told, and what its discharge was answered
abbrev pub Agrees : Life → Option TransactionId → Option Heard → Type 0
Agrees Unborn id answer = (id ≡ None) × (answer ≡ None)
Agrees (Runs start own link places) id answer = (id ≡ Some own) × (answer ≡ None)
Agrees (Took own places) id answer = (id ≡ Some own) × (answer ≡ Some hearings.Committed)
Agrees (Spent own places) id answer = (id ≡ Some own) × (answer ≡ Some hearings.Committed → ⊥)

-- what is so of one transaction
pub record One (first : List Entry) (came : List (Item × Entry)) (number : ℕ) (life : Life)
    : Type 0 where
  pub holds : Holds (first ++ entries_of came) life
  pub spans : Spans (length first) number (length (first ++ entries_of came)) (items_of came) life
  pub marks : Marks number (items_of came) life
  pub agrees : Agrees life (id_in number (back_of came)) (verdict_in number (back_of came))

-- what is so of all that arrived
pub record Past (first : List Entry) (came : List (Item × Entry)) : Type 0 where
  pub legal : IsLegal (first ++ entries_of came)
  -- the entries' steps are those of the attaches, and then those of the items, in order
  pub steps :
      steps_of (first ++ entries_of came) ≡ steps_of first ++ map step_of (items_of came)
  pub apart : Apart (life_in first came)
  pub one : (number : ℕ) → One first came number (life_in first came number)

-- what an item meets by the items before it and the ids that were heard: a declare is a new
-- transaction's; a discharge has the id that was heard, and is the first on its link to end it
abbrev pub PutFits : (ℕ → Option TransactionId) → List Item → Item → Type 0
PutFits told before (items.Declare other link) = list_any (is_declare other) before ≡ false
PutFits told before (items.Discharge other link id rollback) =
    (told other ≡ Some id) × (controller_in other before ≡ Some link)
    × (list_any (item_ends other link) before ≡ false)
PutFits told before _ = Unit {0}

-- each of the items that wait meets it by those before it
abbrev pub Ready : (ℕ → Option TransactionId) → List Item → List Item → Type 0
Ready told before [] = Unit {0}
Ready told before (item ∷ rest) = PutFits told before item × Ready told (before ++ item ∷ []) rest

-- the item at which the session stopped still waits, and this is one of its stops
pub record Halted (exchange : Exchange) (halt : Halt) : Type 0 where
  pub item : Item
  pub rest : List Item
  pub waits : exchange.waiting ≡ item ∷ rest
  pub cause : MayStop exchange.sure (record_of exchange) (step_of item) halt
  pub within : halt.handed ≤ length (hands (record_of exchange) (step_of item))

-- what is so of two parties after every list of events
pub record Keeps (exchange : Exchange) : Type 0 where
  pub begins : Begins exchange.first
  pub past : Past exchange.first exchange.came
  -- what was put back for the items that arrived has returned or waits, in order
  pub back : exchange.told ++ exchange.coming ≡ back_of exchange.came
  pub ready : Ready (λ x. id_in x exchange.told) (items_of exchange.came) exchange.waiting
  pub halted : (halt : Halt) → exchange.stop ≡ Some halt → Halted exchange halt
  -- no declare has the number of a transaction that wasn't made
  pub numbered : (x : ℕ) → made_in (forward exchange) ≤ x
      → list_any (is_declare x) (forward exchange) ≡ false
