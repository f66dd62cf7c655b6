-- One call of a receiving end, and no other: what every link tells of it, and what this link says
-- beside.
use Rattle.std.specs.Prelude.{ℕ, Bool, Option, Result}
use Rattle.amqp_txn_types.specs.declared.delivery.DeliveryState.{DeliveryState}
use Rattle.amqp_txn_types.specs.declared.fields.Value.{Value}
use Rattle.amqp_txn_types.specs.declared.items.NoMemory.{NoMemory}
use Rattle.amqp_txn_types.specs.declared.text.Symbol.{Symbol}
use Rattle.amqp_links.specs.declared.delivery.Delivery.{Delivery}
use Rattle.amqp_links.specs.declared.delivery.DeliveryInfo.{DeliveryInfo}
use Rattle.amqp_links.specs.declared.errors.IllegalLinkStateError.{IllegalLinkStateError}
use Rattle.amqp_links.specs.declared.errors.RecvError.{RecvError}
use Rattle.amqp_links.specs.declared.poll.Poll.{Poll}
use Rattle.amqp_links.specs.Receiving.{ReceiverTold, Disposes, Receives, SetsCredit, SendsFlow, Inserts, Removes}

-- what one disposition answers and leaves of a link
abbrev pub DisposesOn : Type 0 → Type 1
DisposesOn R = R → R → DeliveryInfo → Option Bool → DeliveryState
    → Result Unit IllegalLinkStateError → Type 0

-- what one look for a delivery answers and leaves of a link
abbrev pub ReceivesOn : Type 0 → Type 1
ReceivesOn R = R → R → Poll (Result Delivery RecvError) → Type 0

-- what setting the credit once answers and leaves of a link
abbrev pub SetsCreditOn : Type 0 → Type 1
SetsCreditOn R = R → R → ℕ → Result Unit IllegalLinkStateError → Type 0

-- what one flow answers and leaves of a link
abbrev pub SendsFlowOn : Type 0 → Type 1
SendsFlowOn R = R → R → Option ℕ → Option Bool → Bool → Bool
    → Result Unit IllegalLinkStateError → Type 0

-- what inserting one property answers and leaves of a link
abbrev pub InsertsOn : Type 0 → Type 1
InsertsOn R = R → R → Symbol → Value → Result Unit NoMemory → Type 0

-- what removing one property leaves of a link
abbrev pub RemovesOn : Type 0 → Type 1
RemovesOn R = R → R → Symbol → Type 0

-- one disposition
abbrev pub OneDisposition : {R : Type 0} → DisposesOn R → (R → ReceiverTold) → DisposesOn R
OneDisposition gives told old new delivery settled state answer =
    Disposes (told old) (told new) delivery settled state answer
    × gives old new delivery settled state answer

-- one look for a delivery
abbrev pub OneReceipt : {R : Type 0} → ReceivesOn R → (R → ReceiverTold) → ReceivesOn R
OneReceipt gives told old new answer =
    Receives (told old) (told new) answer × gives old new answer

-- one setting of the credit
abbrev pub OneCredit : {R : Type 0} → SetsCreditOn R → (R → ReceiverTold) → SetsCreditOn R
OneCredit gives told old new credit answer =
    SetsCredit (told old) (told new) answer × gives old new credit answer

-- one flow
abbrev pub OneFlow : {R : Type 0} → SendsFlowOn R → (R → ReceiverTold) → SendsFlowOn R
OneFlow gives told old new credit drain echo include answer =
    SendsFlow (told old) (told new) credit drain echo include answer
    × gives old new credit drain echo include answer

-- one insertion of a property
abbrev pub OneInsertion : {R : Type 0} → InsertsOn R → (R → ReceiverTold) → InsertsOn R
OneInsertion gives told old new key value answer =
    Inserts (told old) (told new) key value answer × gives old new key value answer

-- one removal of a property
abbrev pub OneRemoval : {R : Type 0} → RemovesOn R → (R → ReceiverTold) → RemovesOn R
OneRemoval gives told old new key = Removes (told old) (told new) key × gives old new key
