-- The back wire, and what a transaction heard. The controller reads an answer by the delivery state
-- that stands for it (4.2, Declaring a Transaction; 4.3, Discharging a Transaction).
use Rattle.std.specs.Prelude.{ℕ, ◌==◌, Bool, true, false, cond, Option, Some, None, List, [], ◌∷◌}
use Rattle.amqp_txn_types.specs.declared.id.TransactionId.{TransactionId}
use Rattle.amqp_resource_record.specs.declared.reply.Reply.{Reply}
use Rattle.amqp_resource_record.specs.declared.reply.Reply.TheVariants as replies
use Rattle.txn_parties.specs.declared.event.Heard.{Heard}
use Rattle.txn_parties.specs.declared.event.Heard.TheVariants as hearings
use Rattle.txn_parties.specs.declared.item.Item.{Item}
use Rattle.txn_parties.specs.declared.item.Item.TheVariants as items
use Rattle.txn_parties.specs.declared.item.Asked.{Asked}
use Rattle.txn_parties.specs.declared.item.Asked.TheVariants as asked
use Rattle.txn_parties.specs.declared.item.ReplyState.{ReplyState}
use Rattle.txn_parties.specs.declared.item.ReplyState.TheVariants as states
use Rattle.txn_parties.specs.declared.item.Answered.{Answered}
use Rattle.txn_parties.specs.Items.{or_else}

-- the delivery state that stands for a reply (4.5.5, Declared; 4.5.8, Transaction Error)
abbrev pub state_of : Reply → ReplyState
state_of (replies.Declared id) = states.Declared id
state_of (replies.Accepted echoes) = states.Accepted
state_of (replies.Rejected error text) = states.Rejected error text
state_of _ = states.Closed

-- what a discharge asks for
abbrev pub asked_by : Bool → Asked
asked_by true = asked.Rollback
asked_by false = asked.Commit

-- what is put back for an item: the answer to a declare or a discharge, else nothing
abbrev pub answers : Item → Reply → List Answered
answers (items.Declare number link) reply =
    record { txn = number; asked = asked.Declare; state = state_of reply } ∷ []
answers (items.Discharge number link id rollback) reply =
    record { txn = number; asked = asked_by rollback; state = state_of reply } ∷ []
answers _ reply = []

-- the id that the answer to a declare gives
abbrev pub declared_id : Asked → ReplyState → Option TransactionId
declared_id asked.Declare (states.Declared id) = Some id
declared_id _ _ = None

-- what the answer to a discharge says
abbrev pub verdict : Asked → ReplyState → Option Heard
verdict asked.Commit states.Accepted = Some hearings.Committed
verdict asked.Rollback states.Accepted = Some hearings.RolledBack
verdict asked.Commit (states.Rejected error text) = Some hearings.Rejected
verdict asked.Rollback (states.Rejected error text) = Some hearings.Rejected
verdict _ _ = None

-- the id that the transaction was told among these answers
abbrev pub id_in : ℕ → List Answered → Option TransactionId
id_in number [] = None
id_in number (answered ∷ more) =
    or_else (cond (number == answered.txn) (declared_id answered.asked answered.state) None)
    (id_in number more)

-- what the answer to its discharge said, where there is one among these
abbrev pub verdict_in : ℕ → List Answered → Option Heard
verdict_in number [] = None
verdict_in number (answered ∷ more) =
    or_else (cond (number == answered.txn) (verdict answered.asked answered.state) None)
    (verdict_in number more)

-- what was heard, by the id that was told and by what its discharge was answered
abbrev pub heard_by : Option TransactionId → Option Heard → Heard
heard_by None answer = hearings.Undeclared
heard_by (Some id) None = hearings.Nothing
heard_by (Some id) (Some heard) = heard
