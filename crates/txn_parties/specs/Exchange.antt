-- Two parties and the wires between them, as plain data.
use Rattle.std.specs.Prelude.{ℕ, ◌≡◌, Bool, true, false, cond, nat_lt, Option, Some, None, List, [], ◌++◌, map}
use Rattle.std.specs.List.{flat_map, AllByRecursion}
use Rattle.amqp_txn_types.specs.declared.id.TransactionId.{TransactionId}
use Rattle.amqp_resource_record.specs.declared.entry.Entry.{Entry}
use Rattle.amqp_resource_record.specs.Entries.{is_attached}
use Rattle.amqp_resource_record.specs.Legal.{IsLegal}
use Rattle.txn_parties.specs.declared.event.Heard.{Heard}
use Rattle.txn_parties.specs.declared.item.Item.{Item}
use Rattle.txn_parties.specs.declared.item.Answered.{Answered}
use Rattle.txn_parties.specs.declared.item.Halt.{Halt}
use Rattle.txn_parties.specs.Items.{made_in}
use Rattle.txn_parties.specs.BackWire.{answers, heard_by, id_in, verdict_in}

-- the two parties at one moment, since they began
pub record Exchange : Type 0 where
  -- the entries of the attaches of the control links, one for each controller
  pub first : List Entry
  -- the items that arrived and were answered, each with its entry of the resource's record
  pub came : List (Item × Entry)
  -- the items that wait on the forward wire; the one that stopped the session is the first of them
  pub waiting : List Item
  -- the answers that returned
  pub told : List Answered
  -- the answers that wait on the back wire
  pub coming : List Answered
  -- whether the wires were cut
  pub cut : Bool
  -- why the session stopped, where it did
  pub stop : Option Halt
  -- whether the layer below is sure to take what it accepted in a review
  pub sure : Bool

-- the items that arrived
abbrev pub items_of : List (Item × Entry) → List Item
items_of came = map (λ (p : Item × Entry). p.0) came

-- their entries
abbrev pub entries_of : List (Item × Entry) → List Entry
entries_of came = map (λ (p : Item × Entry). p.1) came

-- all that was put back for them
abbrev pub back_of : List (Item × Entry) → List Answered
back_of came = flat_map (λ (p : Item × Entry). answers p.0 p.1.reply) came

-- the record of the resource: the attaches, and then the items that arrived, in order
abbrev pub record_of : Exchange → List Entry
record_of exchange = exchange.first ++ entries_of exchange.came

-- all items that were put, in order
abbrev pub forward : Exchange → List Item
forward exchange = items_of exchange.came ++ exchange.waiting

-- how many transactions were made
abbrev pub made : Exchange → ℕ
made exchange = made_in (forward exchange)

-- the id that the transaction was told
abbrev pub id_heard : Exchange → ℕ → Option TransactionId
id_heard exchange number = id_in number exchange.told

-- hearing: what the transaction heard, by the answers to its own declare and discharge that
-- returned
abbrev pub heard : Exchange → ℕ → Heard
heard exchange number = heard_by (id_in number exchange.told) (verdict_in number exchange.told)

-- the same, where there is a transaction with this number
abbrev pub heard_at : Exchange → ℕ → Option Heard
heard_at exchange number = cond (nat_lt number (made exchange)) (Some (heard exchange number)) None

-- the attaches with which two parties begin: allowed, and each of them attached a link
pub record Begins (first : List Entry) : Type 0 where
  pub legal : IsLegal first
  pub attached : AllByRecursion (λ (e : Entry). is_attached e.reply ≡ true) first

-- two parties as they begin
abbrev pub begun : Bool → List Entry → Exchange
begun sure first = record {
  first = first;
  came = [];
  waiting = [];
  told = [];
  coming = [];
  cut = false;
  stop = None;
  sure = sure;
}
