-- What became of one transaction, item by item, and what the record has of it.
use Rattle.std.specs.Prelude.{ℕ, ◌≡◌, ◌==◌, ◌+◌, ◌<◌, ◌≤◌, Bool, true, false, cond, Some, List, [], ◌∷◌, ◌++◌, length}
use Rattle.amqp_txn_types.specs.Ids.{is_some_id}
use Rattle.amqp_txn_types.specs.declared.id.TransactionId.{TransactionId}
use Rattle.amqp_txn_types.specs.Frames.{txn}
use Rattle.amqp_resource_record.specs.declared.entry.Entry.{Entry}
use Rattle.amqp_resource_record.specs.declared.reply.Reply.{Reply}
use Rattle.amqp_resource_record.specs.declared.reply.Reply.TheVariants as replies
use Rattle.amqp_resource_record.specs.Live.{since, home, is_live, frame_places}
use Rattle.amqp_resource_record.specs.Work.{origins}
use Rattle.txn_parties.specs.declared.item.Item.{Item}
use Rattle.txn_parties.specs.declared.item.Item.TheVariants as items
use Rattle.txn_parties.specs.Times.{times}

-- a transaction: not declared; declared by the entry at this place, with this id on this link, and
-- not ended; committed; ended without a commit. The list has the places of its frames so far
pub data Life : Type 0 where
  Unborn : Life
  Runs : ℕ → TransactionId → ℕ → List ℕ → Life
  Took : TransactionId → List ℕ → Life
  Spent : TransactionId → List ℕ → Life

-- declared at the place, on the link, by this reply
abbrev pub born : ℕ → ℕ → Reply → Life
born place link (replies.Declared id) = Runs place id link []
born place link _ = Unborn

-- ended by the reply to its own discharge: a commit that wasn't accepted was vetoed
abbrev pub ended : Bool → Reply → TransactionId → List ℕ → Life
ended false (replies.Accepted echoes) id places = Took id places
ended _ _ id places = Spent id places

-- a running one, after the item at this place
abbrev pub runs_next : ℕ → ℕ → Item → Reply → ℕ → TransactionId → ℕ → List ℕ → Life
runs_next number place (items.Declare other link) reply start id home places =
    Runs start id home places
runs_next number place (items.Discharge other link asked rollback) reply start id home places =
    cond (number == other) (ended rollback reply id places) (Runs start id home places)
runs_next number place (items.LinkEnd link) reply start id home places =
    cond (link == home) (Spent id places) (Runs start id home places)
runs_next number place (items.Frame frame) reply start id home places =
    Runs start id home (places ++ cond (is_some_id id (txn frame)) (place ∷ []) [])

-- one that isn't declared, after the item at this place
abbrev pub unborn_next : ℕ → ℕ → Item → Reply → Life
unborn_next number place (items.Declare other link) reply =
    cond (number == other) (born place link reply) Unborn
unborn_next number place _ reply = Unborn

-- one, after the item at this place with this reply
abbrev pub next_life : ℕ → ℕ → Life → Item → Reply → Life
next_life number place Unborn item reply = unborn_next number place item reply
next_life number place (Runs start id link places) item reply =
    runs_next number place item reply start id link places
next_life number place (Took id places) item reply = Took id places
next_life number place (Spent id places) item reply = Spent id places

-- one, after the items with their entries, the first of them at this place
abbrev pub fate_from : ℕ → ℕ → Life → List (Item × Entry) → Life
fate_from number place life [] = life
fate_from number place life (arrived ∷ trace) =
    fate_from number (place + 1) (next_life number place life arrived.0 arrived.1.reply) trace

-- what became of the transaction with this number
abbrev pub life_in : List Entry → List (Item × Entry) → ℕ → Life
life_in first came number = fate_from number (length first) Unborn came

-- a dead place of the record: it was not handed, and no live id has it among its frames
pub record Dead (entries : List Entry) (place : ℕ) : Type 0 where
  pub below : place < length entries
  pub handed : times place (origins entries) ≡ 0
  pub kept : (id : TransactionId) → is_live entries id ≡ true
      → times place (frame_places entries id) ≡ 0

-- the record has a running transaction: the entry at the place is the last that declares its id,
-- which is live with this link as its home, and its frames are at these places
pub record Running (entries : List Entry) (start : ℕ) (id : TransactionId) (link : ℕ)
    (places : List ℕ) : Type 0 where
  pub since : since entries id ≡ Some start
  pub live : is_live entries id ≡ true
  pub home : home entries id ≡ Some link
  pub span : frame_places entries id ≡ places
  pub short : length id ≤ 32

-- what the record has of a transaction: of a committed one all its frames were handed next to each
-- other, of one that ended without a commit every place is dead
abbrev pub Holds : List Entry → Life → Type 0
Holds entries Unborn = Unit {0}
Holds entries (Runs start id link places) = Running entries start id link places
Holds entries (Took id places) =
    (before : List ℕ) × (after : List ℕ) × (origins entries ≡ before ++ places ++ after)
Holds entries (Spent id places) = (place : ℕ) → 1 ≤ times place places → Dead entries place

-- two that run don't have one id
abbrev pub Apart : (ℕ → Life) → Type 0
Apart lives =
    (x y p q : ℕ) (t : TransactionId) (j k : ℕ) (s w : List ℕ) → lives x ≡ Runs p t j s
    → lives y ≡ Runs q t k w → x ≡ y

-- a discharge that arrives is that of a running transaction, on its link and with its id
abbrev pub Fits : (ℕ → Life) → Item → Type 0
Fits lives (items.Discharge other link id rollback) =
    (start : ℕ) × (places : List ℕ) × (lives other ≡ Runs start id link places)
Fits lives _ = Unit {0}
