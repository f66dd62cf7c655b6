-- What the controllers know, and what each event makes of it.
use Rattle.std.specs.Prelude.{ℕ, ◌≡◌, Bool, true, false, not, Option, Some, None, [], ◌∷◌, ◌++◌, slice_get, slice_set}
use Rattle.amqp_txn_types.specs.declared.id.TransactionId.{TransactionId}
use Rattle.txn_parties.specs.declared.event.Heard.{Heard}
use Rattle.txn_parties.specs.declared.item.Answered.{Answered}
use Rattle.txn_parties.specs.declared.item.Asked.{Asked}
use Rattle.txn_parties.specs.declared.item.Asked.TheVariants as asked
use Rattle.txn_parties.specs.Items.{or_else}
use Rattle.txn_parties.specs.BackWire.{asked_by, declared_id, heard_by, verdict}
use Rattle.txn_world_wires.specs.declared.controllers.Controllers.{Controllers}
use Rattle.txn_world_wires.specs.declared.controllers.Transaction.{Transaction}

-- ---- of one transaction

-- a new one, whose declare was sent on the link
abbrev pub new_on : ℕ → Transaction
new_on link = record {
  link = link;
  id = None;
  verdict = None;
  sent = false;
  awaits = Some asked.Declare;
}

-- once its discharge was sent
abbrev pub discharging : Transaction → Bool → Transaction
discharging txn rollback = record txn { sent = true; awaits = Some (asked_by rollback) }

-- once it heard the answer
abbrev pub hearing : Transaction → Answered → Transaction
hearing txn answer = record txn {
  id = or_else txn.id (declared_id answer.asked answer.state);
  verdict = or_else txn.verdict (verdict answer.asked answer.state);
  awaits = None;
}

-- ---- of all

-- with a new transaction on the link
abbrev pub declaring : Controllers → ℕ → Controllers
declaring known link = record known { transactions = known.transactions ++ new_on link ∷ [] }

-- with another state of the transaction with this number
abbrev pub with_transaction : Controllers → ℕ → Transaction → Controllers
with_transaction known number txn =
    record known { transactions = slice_set known.transactions number txn }

-- with the end of the link sent
abbrev pub ending : Controllers → ℕ → Controllers
ending known link = record known { ended = slice_set known.ended link true }

-- the transaction heard the answer, or it awaits none to such a request and nothing changed
abbrev pub Hears : Controllers → Controllers → Transaction → Answered → Bool → Type 0
Hears old new txn answer true = new ≡ with_transaction old answer.txn (hearing txn answer)
Hears old new txn answer false = (new ≡ old) × (txn.awaits ≡ Some answer.asked → ⊥)

-- ---- what is read of them

-- a link's end wasn't sent, where there is such a link
abbrev pub is_unended : Option Bool → Bool
is_unended None = false
is_unended (Some ended) = not ended

-- there is a controller with this number, and it has sent no link end
abbrev pub is_open_at : Controllers → ℕ → Bool
is_open_at known link = is_unended (slice_get known.ended link)

-- the controller with this number has sent a link end
abbrev pub has_ended : Option Bool → Bool
has_ended None = false
has_ended (Some ended) = ended

-- the link of a transaction, where there is one
abbrev pub link_of : Option Transaction → Option ℕ
link_of None = None
link_of (Some txn) = Some txn.link

-- the id that it heard
abbrev pub id_of : Option Transaction → Option TransactionId
id_of None = None
id_of (Some txn) = txn.id

-- what its discharge was answered
abbrev pub verdict_of : Option Transaction → Option Heard
verdict_of None = None
verdict_of (Some txn) = txn.verdict

-- whether its discharge was sent
abbrev pub is_sent : Option Transaction → Bool
is_sent None = false
is_sent (Some txn) = txn.sent

-- what it asked and has heard no answer to
abbrev pub awaited_of : Option Transaction → Option Asked
awaited_of None = None
awaited_of (Some txn) = txn.awaits

-- what a transaction has heard, where there is one
abbrev pub heard_of : Option Transaction → Option Heard
heard_of None = None
heard_of (Some txn) = Some (heard_by txn.id txn.verdict)
