-- How the faults of a link are named where messages are posted.
use Rattle.amqp_links.specs.declared.errors.SendError.{SendError}
use Rattle.amqp_links.specs.declared.errors.SendError.TheVariants as refusals
use Rattle.amqp_controller_posting.specs.declared.errors.PostError.{PostError}
use Rattle.amqp_controller_posting.specs.declared.errors.PostError.TheVariants as errors

-- why a message isn't posted, by the link's name for it
abbrev pub unposted : SendError → PostError
unposted (refusals.LinkStateError fault) = errors.LinkStateError fault
unposted (refusals.Detached fault) = errors.Detached fault
unposted refusals.NonTerminalDeliveryState = errors.NonTerminalDeliveryState
unposted refusals.IllegalDeliveryState = errors.IllegalDeliveryState
unposted (refusals.MessageSizeExceeded size) = errors.MessageSizeExceeded size
unposted refusals.MessageEncodeError = errors.MessageEncodeError
unposted refusals.NoMemory = errors.NoMemory
