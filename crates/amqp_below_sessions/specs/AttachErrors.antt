-- How a refused allocation of a link is answered by an attach.
use Rattle.amqp_below_sessions.specs.declared.session_errors.AllocLinkError.{AllocLinkError}
use Rattle.amqp_below_sessions.specs.declared.session_errors.AllocLinkError.TheVariants as refusals
use Rattle.amqp_below_sessions.specs.declared.attach_errors.SenderAttachError.{SenderAttachError}
use Rattle.amqp_below_sessions.specs.declared.attach_errors.SenderAttachError.TheVariants as senders
use Rattle.amqp_below_sessions.specs.declared.attach_errors.ReceiverAttachError.{ReceiverAttachError}
use Rattle.amqp_below_sessions.specs.declared.attach_errors.ReceiverAttachError.TheVariants as receivers

-- of a sender: out of memory stays that, all else is the allocation's
abbrev pub sender_error : AllocLinkError → SenderAttachError
sender_error refusals.NoMemory = senders.NoMemory
sender_error error = senders.Alloc error

-- of a receiver: out of memory stays that, all else is the allocation's
abbrev pub receiver_error : AllocLinkError → ReceiverAttachError
receiver_error refusals.NoMemory = receivers.NoMemory
receiver_error error = receivers.Alloc error
