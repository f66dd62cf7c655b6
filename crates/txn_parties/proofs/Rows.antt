-- The definitions on small runs of one controller and one transaction, whose one frame has the
-- place 2, after the attach and the declare.
use Rattle.std.proofs.Common.{◌≡◌, ℕ, Bool, true, false, Option, Some, None, List, [], ◌∷◌, ◌++◌, refl}
use Rattle.amqp_txn_types.specs.declared.id.TransactionId.{TransactionId}
use Rattle.amqp_txn_types.specs.declared.performatives.Frame.{Frame}
use Rattle.amqp_txn_types.specs.declared.performatives.Frame.TheVariants as frames
use Rattle.amqp_txn_types.specs.declared.performatives.Transfer.{Transfer}
use Rattle.amqp_txn_types.specs.declared.small.TransactionError.TheVariants as transaction_errors
use Rattle.amqp_txn_types.specs.Frames.{txn}
use Rattle.amqp_resource_record.specs.declared.entry.Entry.{Entry}
use Rattle.amqp_resource_record.specs.declared.reply.Reply.{Reply}
use Rattle.amqp_resource_record.specs.declared.reply.Reply.TheVariants as replies
use Rattle.amqp_resource_record.specs.declared.reply.RejectText.TheVariants as texts
use Rattle.amqp_resource_record.specs.declared.stop.StopCode.TheVariants as codes
use Rattle.txn_parties.specs.declared.event.Heard.TheVariants as hearings
use Rattle.txn_parties.specs.declared.item.Item.{Item}
use Rattle.txn_parties.specs.declared.item.Item.TheVariants as items
use Rattle.txn_parties.specs.declared.item.Answered.{Answered}
use Rattle.txn_parties.specs.declared.item.Halt.{Halt}
use Rattle.txn_parties.specs.Items.{step_of}
use Rattle.txn_parties.specs.BackWire.{answers}
use Rattle.txn_parties.specs.Exchange.{Exchange, heard, heard_at}
use Rattle.txn_parties.specs.Spans.{span}
use Rattle.txn_parties.specs.Turns.{entry_by, state_under}

-- the id
abbrev id : TransactionId
id = 1 ∷ []

-- an item with its entry
abbrev with_entry : Item → Reply → Item × Entry
with_entry i reply = (i, entry_by (step_of i) (record { ids = []; spare = 0 }) reply)

-- its frame
abbrev post : Transfer → List ℕ → Item
post transfer payload = items.Frame (frames.Transfer (record transfer { state = state_under id None }) payload)

-- after the attach, the declare and the frame: what else came, waits, was told and stopped
abbrev run : Entry → Transfer → List ℕ → List (Item × Entry) → List Item → List Answered → Option Halt → Exchange
run first transfer payload came waiting told stop = record {
  first = first ∷ [];
  came = with_entry (items.Declare 0 0) (replies.Declared id) ∷ with_entry (post transfer payload) (replies.Frames (record { given = []; window = None })) ∷ came;
  waiting = waiting;
  told = told;
  coming = [];
  cut = false;
  stop = stop;
  sure = false;
}

-- the discharge with its reply
abbrev discharge : Bool → Item
discharge rollback = items.Discharge 0 0 id rollback

-- its commit was accepted: it heard Committed, and its frame has the place 2
pub committed_row : (first : Entry) (transfer : Transfer) (payload : List ℕ) → heard (run first transfer payload (with_entry (discharge false) (replies.Accepted []) ∷ []) [] (answers (items.Declare 0 0) (replies.Declared id) ++ answers (discharge false) (replies.Accepted [])) None) 0 ≡ hearings.Committed
committed_row first transfer payload = refl

pub span_row : (first : Entry) (transfer : Transfer) (payload : List ℕ) (waiting : List Item) → span (run first transfer payload (with_entry (discharge false) (replies.Accepted []) ∷ []) waiting [] None) 0 id ≡ 2 ∷ []
unfolding txn
span_row first transfer payload waiting = refl

-- the answer didn't return
pub cut_row : (first : Entry) (transfer : Transfer) (payload : List ℕ) → heard (run first transfer payload (with_entry (discharge false) (replies.Accepted []) ∷ []) [] (answers (items.Declare 0 0) (replies.Declared id)) None) 0 ≡ hearings.Nothing
cut_row first transfer payload = refl

-- its rollback was accepted
pub rolled_back_row : (first : Entry) (transfer : Transfer) (payload : List ℕ) → heard (run first transfer payload (with_entry (discharge true) (replies.Accepted []) ∷ []) [] (answers (items.Declare 0 0) (replies.Declared id) ++ answers (discharge true) (replies.Accepted [])) None) 0 ≡ hearings.RolledBack
rolled_back_row first transfer payload = refl

-- its commit was vetoed
pub rejected_row : (first : Entry) (transfer : Transfer) (payload : List ℕ) → heard (run first transfer payload (with_entry (discharge false) (replies.Rejected transaction_errors.Rollback texts.Absent) ∷ []) [] (answers (items.Declare 0 0) (replies.Declared id) ++ answers (discharge false) (replies.Rejected transaction_errors.Rollback texts.Absent)) None) 0 ≡ hearings.Rejected
rejected_row first transfer payload = refl

-- the session stopped at its commit, for which the layer below ran out of memory
pub starved_row : (first : Entry) (transfer : Transfer) (payload : List ℕ) → heard (run first transfer payload [] (discharge false ∷ []) (answers (items.Declare 0 0) (replies.Declared id)) (Some (record { code = codes.BelowNoMemory; handed = 0 }))) 0 ≡ hearings.Nothing
starved_row first transfer payload = refl

-- there is one transaction, and no second
pub numbers_row : (first : Entry) (transfer : Transfer) (payload : List ℕ) → heard_at (run first transfer payload [] [] [] None) 1 ≡ None
numbers_row first transfer payload = refl
