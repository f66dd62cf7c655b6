-- What a borrowed transaction shows.
use Rattle.std.specs.Prelude.{Result, Ok, Err}
use Rattle.std.specs.Borrow.{Bor}
use Rattle.amqp_links.specs.declared.sendable.Sent.{Sent}
use Rattle.amqp_controller_calls.specs.declared.errors.ControllerSendError.{ControllerSendError}
use Rattle.amqp_controller_transactions.specs.declared.begun.Begun.{Begun}
use Rattle.amqp_controller_transactions.specs.declared.controller.Controller.{Controller}
use Rattle.amqp_controller_transactions.specs.declared.transaction.Declaring.{Declaring}
use Rattle.amqp_controller_transactions.specs.declared.transaction.Transaction.{Transaction}

-- what its owner sees of a transaction
abbrev pub begun_of : {L : Type 0} → Transaction L → Begun
begun_of transaction = transaction.begun

-- the controller over which a transaction was declared
abbrev pub controller_of : {L : Type 0} → Transaction L → Bor (Controller L)
controller_of transaction = transaction.controller

-- the controller over which a declare was put
abbrev pub put_over : {L : Type 0} → Declaring L → Bor (Controller L)
put_over declaring = declaring.controller

-- how a declare was sent
abbrev pub sent_of : {L : Type 0} → Declaring L → Sent
sent_of declaring = declaring.declare

-- what the link answered to a declare
abbrev pub declare_sent : {L : Type 0} → Result (Declaring L) ControllerSendError
    → Result Sent ControllerSendError
declare_sent (Ok declaring) = Ok (sent_of declaring)
declare_sent (Err error) = Err error
