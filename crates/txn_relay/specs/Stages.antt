-- How far a relay is: the transactions before the last one, which all were committed and heard so,
-- and the stage of the last one.
use Rattle.std.specs.Prelude.{ℕ, suc, ◌≡◌, ◌+◌, ◌<◌, ◌≤◌, ◌⊎◌, true, false, Some, None, List, [], ◌∷◌, ◌++◌, drop, length, slice_get, take}
use Rattle.std.specs.List.{list_any, AllByRecursion}
use Rattle.amqp_txn_types.specs.declared.id.TransactionId.{TransactionId}
use Rattle.amqp_txn_types.specs.declared.delivery.Outcome.TheVariants as outcomes
use Rattle.amqp_txn_types.specs.declared.performatives.Frame.{Frame}
use Rattle.amqp_txn_types.specs.declared.performatives.Frame.TheVariants as frames
use Rattle.amqp_txn_types.specs.declared.small.Role.TheVariants as roles
use Rattle.amqp_txn_types.specs.Plain.{plain_disposition}
use Rattle.amqp_resource_record.specs.declared.entry.Entry.{Entry}
use Rattle.amqp_resource_record.specs.declared.reply.Reply.TheVariants as replies
use Rattle.amqp_resource_record.specs.declared.stop.StopCode.TheVariants as codes
use Rattle.txn_broker_queues.specs.declared.message.Message.{Message}
use Rattle.txn_broker_queues.specs.Queues.{attaches, link_after, queue}
use Rattle.txn_parties.specs.declared.event.Heard.TheVariants as hearings
use Rattle.txn_parties.specs.declared.item.Answered.{Answered}
use Rattle.txn_parties.specs.declared.item.Asked.TheVariants as asked
use Rattle.txn_parties.specs.declared.item.Halt.{Halt}
use Rattle.txn_parties.specs.declared.item.Item.{Item}
use Rattle.txn_parties.specs.declared.item.Item.TheVariants as items
use Rattle.txn_parties.specs.BackWire.{answers, declared_id, heard_by, id_in, state_of, verdict, verdict_in}
use Rattle.txn_parties.specs.Exchange.{Exchange, back_of, entries_of, items_of, made as made_of, record_of}
use Rattle.txn_parties.specs.Invariant.{Keeps}
use Rattle.txn_parties.specs.Items.{made_in}
use Rattle.txn_parties.specs.Turns.{state_under}
use Rattle.txn_relay.specs.Moves.{from_name, put_since, to_handle, to_name, transfer_on}
use Rattle.txn_relay.specs.Once.{accepted_commits, payloads}

-- ---- the items of a transaction

abbrev pub post_frame : TransactionId → Message → Frame
post_frame id message = frames.Transfer
    (record (transfer_on to_handle message.number) { state = state_under id None })
    message.payload

abbrev pub post_item : TransactionId → Message → Item
post_item id message = items.Frame (post_frame id message)

abbrev pub retirement_frame : TransactionId → Message → Frame
retirement_frame id message = frames.Disposition
    (record (plain_disposition roles.Receiver message.number) {
      state = state_under id (Some outcomes.Accepted);
    })

abbrev pub retirement_item : TransactionId → Message → Item
retirement_item id message = items.Frame (retirement_frame id message)

-- what a transaction with this id puts, in order
abbrev pub three : ℕ → TransactionId → Message → List Item
three txn id message =
    post_item id message ∷ retirement_item id message ∷ items.Discharge txn 0 id false ∷ []

-- ---- the transactions before

-- the item isn't a link's end, and isn't of a transaction from this number on
abbrev pub IsBelow : ℕ → Item → Type 0
IsBelow n (items.Declare txn link) = txn < n
IsBelow n (items.Discharge txn link id rollback) = txn < n
IsBelow n (items.LinkEnd link) = ⊥
IsBelow n (items.Frame frame) = Unit {0}

-- so many transactions came, and each of them was committed and heard so
pub record Behind (first : List Entry) (past : List (Item × Entry)) (n : ℕ) : Type 0 where
  pub below : AllByRecursion (λ (p : Item × Entry). IsBelow n p.0) past
  pub made : made_in (items_of past) ≡ n
  pub accepted : accepted_commits (first ++ entries_of past) ≡ n
  pub heard : (txn : ℕ) → txn < n
      → heard_by (id_in txn (back_of past)) (verdict_in txn (back_of past)) ≡ hearings.Committed

-- ---- the last transaction

-- these of its items arrived and these wait, and of the answers to it these returned and these wait
pub record Last (sides : Exchange) (work : List Message) (txn : ℕ) (message : Message)
    (came : List (Item × Entry)) (waiting : List Item) (told coming : List Answered) : Type 0 where
  pub past : List (Item × Entry)
  pub behind : Behind sides.first past txn
  pub is : slice_get work txn ≡ Some message
  pub came_is : sides.came ≡ past ++ came
  pub waiting_is : sides.waiting ≡ waiting
  pub told_is : sides.told ≡ back_of past ++ told
  pub coming_is : sides.coming ≡ coming

-- the answer that declares a transaction
abbrev pub declared : ℕ → TransactionId → Answered
declared txn id =
    record { txn = txn; asked = asked.Declare; state = state_of (replies.Declared id) }

-- what the commit was answered says that it was committed
abbrev pub SaysCommitted : Entry → Type 0
SaysCommitted commit = verdict asked.Commit (state_of commit.reply) ≡ Some hearings.Committed

-- the commit is among the accepted ones, or it wasn't accepted
abbrev pub Counted : Entry → ℕ → ℕ → Type 0
Counted commit txn count =
    (SaysCommitted commit × (count ≡ suc txn)) ⊎ ((SaysCommitted commit → ⊥) × (count ≡ txn))

-- how far a relay of this work is that made so many transactions, of which the last has put so many
-- of its three items, with so many accepted commits
pub data Stage (sides : Exchange) (work : List Message) (made put count : ℕ) : Type 0 where
  -- all transactions were committed and heard so
  Idle : Behind sides.first sides.came made → sides.waiting ≡ [] → sides.coming ≡ []
      → sides.told ≡ back_of sides.came → count ≡ made → Stage sides work made put count
  -- the last declare waits
  Declaring : (txn : ℕ) → (message : Message) → made ≡ suc txn → put ≡ 0 → count ≡ txn
      → Last sides work txn message [] (items.Declare txn 0 ∷ []) [] []
      → Stage sides work made put count
  -- it was answered
  Answering : (txn : ℕ) → (message : Message) → (entry : Entry) → made ≡ suc txn → put ≡ 0
      → count ≡ txn
      → Last sides work txn message ((items.Declare txn 0, entry) ∷ []) [] []
      (answers (items.Declare txn 0) entry.reply)
      → Stage sides work made put count
  -- the answer that returned gives no id
  Undeclared : (txn : ℕ) → (message : Message) → (entry : Entry) → made ≡ suc txn → put ≡ 0
      → count ≡ txn → declared_id asked.Declare (state_of entry.reply) ≡ None
      → Last sides work txn message ((items.Declare txn 0, entry) ∷ []) []
      (answers (items.Declare txn 0) entry.reply) []
      → Stage sides work made put count
  -- it heard its id; the items that arrived and those that are left are its three, and the first of
  -- those that are left wait
  Open : (txn : ℕ) → (message : Message) → (entry : Entry) → (id : TransactionId)
      → (arrived : List (Item × Entry)) → (left : List Item) → (ahead : ℕ)
      → made ≡ suc txn → put ≡ length arrived + ahead → count ≡ txn → ahead ≤ length left
      → 1 ≤ length left → items_of arrived ++ left ≡ three txn id message
      → entry.reply ≡ replies.Declared id
      → Last sides work txn message ((items.Declare txn 0, entry) ∷ arrived) (take ahead left)
      (declared txn id ∷ []) []
      → Stage sides work made put count
  -- its commit was answered
  Discharged : (txn : ℕ) → (message : Message) → (entry post retirement commit : Entry)
      → (id : TransactionId)
      → made ≡ suc txn → put ≡ 3 → entry.reply ≡ replies.Declared id
      → Counted commit txn count
      → Last sides work txn message
      ((items.Declare txn 0, entry) ∷ (post_item id message, post)
      ∷ (retirement_item id message, retirement)
      ∷ (items.Discharge txn 0 id false, commit) ∷ []) []
      (declared txn id ∷ []) (answers (items.Discharge txn 0 id false) commit.reply)
      → Stage sides work made put count
  -- the answer that returned doesn't say that it was committed
  Rejected : (txn : ℕ) → (message : Message) → (entry post retirement commit : Entry)
      → (id : TransactionId)
      → made ≡ suc txn → put ≡ 3 → entry.reply ≡ replies.Declared id → count ≡ txn
      → (SaysCommitted commit → ⊥)
      → Last sides work txn message
      ((items.Declare txn 0, entry) ∷ (post_item id message, post)
      ∷ (retirement_item id message, retirement)
      ∷ (items.Discharge txn 0 id false, commit) ∷ []) []
      (declared txn id ∷ answers (items.Discharge txn 0 id false) commit.reply) []
      → Stage sides work made put count

-- ---- the queues

-- the queues, once so many messages were moved
pub record Queues (taken : List Frame) (work : List Message) (count : ℕ) : Type 0 where
  pub from_there : list_any (attaches from_name) taken ≡ true
  pub to_there : list_any (attaches to_name) taken ≡ true
  pub to_link : link_after taken to_handle ≡ Some (record { address = to_name; peer = roles.Sender })
  pub within : count ≤ length work
  pub from_is : queue taken from_name ≡ drop count work
  pub to_is : payloads (queue taken to_name) ≡ payloads (take count work)

-- what is so of a relay after every list of events: of the two parties, of the frames that the
-- broker took, and of what the relay keeps beside them
pub record Stands (sides : Exchange) (taken : List Frame) (work : List Message) (made put : ℕ)
    : Type 0 where
  pub sure : sides.sure ≡ true
  pub link : length sides.first ≡ 1
  pub keeps : Keeps sides
  -- the session stops where the layer below runs out of memory, and nowhere else
  pub stops : (halt : Halt) → sides.stop ≡ Some halt → halt.code ≡ codes.BelowNoMemory
  pub few : length work ≤ 4294967295
  pub made_is : made_of sides ≡ made
  pub put_few : put ≤ 3
  pub put_is : (txn : ℕ) → made ≡ suc txn → put_since sides txn ≡ put
  pub stage : Stage sides work made put (accepted_commits (record_of sides))
  pub queues : Queues taken work (accepted_commits (record_of sides))
