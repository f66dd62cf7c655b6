-- Retirements under a transaction. Part 4 of the standard (OASIS AMQP 1.0), section 4.4.2
-- (Transactional Retirement).
use Rattle.std.specs.Prelude.{Some, None, Result, Ok, Err}
use Rattle.amqp_txn_types.specs.declared.delivery.Outcome.{Outcome}
use Rattle.amqp_txn_types.specs.declared.id.TransactionId.{TransactionId}
use Rattle.amqp_links.specs.declared.delivery.DeliveryInfo.{DeliveryInfo}
use Rattle.amqp_links.specs.declared.errors.IllegalLinkStateError.{IllegalLinkStateError}
use Rattle.amqp_links.specs.OneCall.{DisposesOn}
use Rattle.amqp_controller_posting.specs.Posts.{under}

-- the answer to a retirement is the link's, with its error as another
abbrev pub SameOr : {E : Type 0} → (IllegalLinkStateError → E → Type 0)
    → Result Unit IllegalLinkStateError → Result Unit E → Type 0
SameOr from (Ok done) (Ok answer) = Unit {0}
SameOr from (Err fault) (Err error) = from fault error
SameOr from answer result = ⊥

-- a retirement: one disposition of the delivery, with the outcome under the transaction, and which
-- doesn't say whether it is settled
abbrev pub Retires : {R E : Type 0} → (IllegalLinkStateError → E → Type 0) → DisposesOn R → R → R
    → TransactionId → DeliveryInfo → Outcome → Result Unit E → Type 0
Retires from disposes old new txn_id delivery outcome result =
    (answer : Result Unit IllegalLinkStateError)
    × disposes old new delivery None (under txn_id (Some outcome)) answer
    × SameOr from answer result
