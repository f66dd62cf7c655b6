-- That a session had stopped: it is no refusal that a session counts, and is told where it is kept.
use Rattle.std.proofs.Common.{◌≡◌, Err, Option, Some, inl, inr}
use Rattle.amqp_txn_types.specs.declared.delivery.SessionStopReason.{SessionStopReason}
use Rattle.amqp_txn_types.specs.declared.small.Role.{Role}
use Rattle.amqp_txn_types.specs.declared.small.Role.TheVariants as roles
use Rattle.amqp_accept_links.specs.declared.endpoint.AcceptorAttachError.{AcceptorAttachError}
use Rattle.amqp_accept_links.specs.LinkAcceptors.{LinkToldStop, OnLinkRefusal, TellsStop, no_memory_for}

-- out of memory at a local end
no_memory-uncounted : (A : Type 0) (role : Role) (P : Type 0)
    → OnLinkRefusal {A = A} (Err (no_memory_for role)) P
no_memory-uncounted A roles.Sender P = tt
no_memory-uncounted A roles.Receiver P = tt

-- a stop that is told, or that memory lacks to tell
pub stop-uncounted : (A : Type 0) (reason : SessionStopReason) (role : Role)
    (error : AcceptorAttachError) (P : Type 0) → TellsStop reason role error
    → OnLinkRefusal {A = A} (Err error) P
stop-uncounted A reason role error P (inl told) = rw told tt
stop-uncounted A reason role error P (inr lacks) = rw lacks (no_memory-uncounted A role P)

-- out of memory at a local end tells no stop
no_memory-tells : (stop : Option SessionStopReason) (role : Role)
    → LinkToldStop stop (no_memory_for role)
no_memory-tells stop roles.Sender = tt
no_memory-tells stop roles.Receiver = tt

-- the stop that is kept is told, or memory lacks to tell it
pub stop-tells : (stop : Option SessionStopReason) (reason : SessionStopReason) (role : Role)
    (error : AcceptorAttachError) → stop ≡ Some reason → TellsStop reason role error
    → LinkToldStop stop error
stop-tells stop reason role error kept (inl told) = rw told kept
stop-tells stop reason role error kept (inr lacks) = rw lacks (no_memory-tells stop role)
