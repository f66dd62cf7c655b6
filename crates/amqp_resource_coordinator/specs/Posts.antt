-- What a post is answered at once. Part 4 of the standard (OASIS AMQP 1.0), section 4.4.1
-- (transactional posting).
use Rattle.std.specs.Prelude.{Option}
use Rattle.amqp_txn_types.specs.declared.id.TransactionId.{TransactionId}
use Rattle.amqp_txn_types.specs.declared.performatives.Disposition.{Disposition}
use Rattle.amqp_txn_types.specs.declared.performatives.Transfer.{Transfer}
use Rattle.amqp_txn_types.specs.Presumptive.{presumed_disposition}

-- the presumptive disposition of a transfer under the id
abbrev pub presumed_of_post : TransactionId → Transfer → Option Disposition
presumed_of_post id transfer = presumed_disposition transfer.settled transfer.delivery_id id
