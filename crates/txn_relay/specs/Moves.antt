-- What a relay puts next: one transaction a message. The sections named here and in the files that
-- follow are those of the standard (OASIS AMQP 1.0).
use Rattle.std.specs.Prelude.{ℕ, zero, suc, true, cond, Option, Some, None, List, [], ◌∷◌, codes, drop, length, slice_get}
use Rattle.amqp_txn_types.specs.Plain.{plain_disposition}
use Rattle.amqp_txn_types.specs.declared.delivery.Outcome.TheVariants as outcomes
use Rattle.amqp_txn_types.specs.declared.performatives.Transfer.{Transfer}
use Rattle.amqp_txn_types.specs.declared.small.Role.TheVariants as roles
use Rattle.txn_broker_queues.specs.declared.message.Message.{Message}
use Rattle.txn_broker_queues.specs.Given.{transfer_back}
use Rattle.txn_parties.specs.declared.event.Event.{Event}
use Rattle.txn_parties.specs.declared.event.Event.TheVariants as events
use Rattle.txn_parties.specs.declared.event.Heard.{Heard}
use Rattle.txn_parties.specs.declared.event.Heard.TheVariants as hearings
use Rattle.txn_parties.specs.declared.item.Item.{Item}
use Rattle.txn_parties.specs.Exchange.{Exchange, forward, heard, made}
use Rattle.txn_parties.specs.Items.{is_declare}

-- ---- the queues

-- the queue that messages are moved from, and the handle of its link
abbrev pub from_name : List ℕ
from_name = codes "from"

abbrev pub from_handle : ℕ
from_handle = 1

-- the queue that they are moved to, and the handle of its link
abbrev pub to_name : List ℕ
to_name = codes "to"

abbrev pub to_handle : ℕ
to_handle = 2

-- ---- the work of one transaction

-- the transfer of a message on a link: that of a broker, but settled (part 2, 2.7.5, transfer)
abbrev pub transfer_on : ℕ → ℕ → Transfer
transfer_on handle number =
    record (transfer_back (record { 0 = handle }) number) { settled = Some true }

-- the post of a message: its transfer on the link of `to` (part 4, 4.4.1, transactional posting)
abbrev pub post_of : ℕ → Message → Event
post_of txn message = events.Post txn (transfer_on to_handle message.number) None message.payload

-- its retirement: its receiver accepts it (part 4, 4.4.2, transactional retirement)
abbrev pub retirement_of : ℕ → Message → Event
retirement_of txn message =
    events.Retire txn (plain_disposition roles.Receiver message.number) (Some outcomes.Accepted)

-- all that a transaction puts once it heard its id: the post of its message, then the retirement,
-- then the commit
abbrev pub work_of : ℕ → Message → List Event
work_of txn message =
    post_of txn message ∷ retirement_of txn message ∷ events.Commit txn ∷ []

-- ---- moves

-- the items after the declare of a transaction
abbrev pub after_declare : ℕ → List Item → List Item
after_declare txn [] = []
after_declare txn (item ∷ items) = cond (is_declare txn item) items (after_declare txn items)

-- how many of its three items a transaction has put
abbrev pub put_since : Exchange → ℕ → ℕ
put_since sides txn = length (after_declare txn (forward sides))

-- the declare of a transaction for a message, where there is one left
abbrev pub declare_for : Option Message → List Event
declare_for None = []
declare_for (Some message) = events.Declare 0 ∷ []

-- what is left of the work of a transaction that has put so many of its items
abbrev pub rest_of : ℕ → Option Message → ℕ → List Event
rest_of txn None put = []
rest_of txn (Some message) put = drop put (work_of txn message)

-- the next move after what the last transaction heard: the next one's declare once it heard
-- Committed, what is left of its own work once it heard Declared, and none before that or after any
-- other answer. So the last one alone may have heard Rejected, and then no move is left
abbrev pub moves_after : List Message → ℕ → ℕ → Heard → List Event
moves_after work txn put hearings.Committed = declare_for (slice_get work (suc txn))
moves_after work txn put hearings.Nothing = rest_of txn (slice_get work txn) put
moves_after work txn put _ = []

-- the same by how many transactions were made: message number i of the work is that of transaction i
abbrev pub moves_by : Exchange → List Message → ℕ → List Event
moves_by sides work zero = declare_for (slice_get work 0)
moves_by sides work (suc txn) = moves_after work txn (put_since sides txn) (heard sides txn)

-- the events of the next move, in order; none where no move is left
abbrev pub moves : Exchange → List Message → List Event
moves sides work = moves_by sides work (made sides)
