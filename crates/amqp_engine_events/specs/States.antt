-- The states of a session, as its engine sees them. Part 2 of the standard, section 2.5.5.
use Rattle.std.specs.Prelude.{Bool, true, false}
use Rattle.amqp_txn_types.specs.declared.small.SessionState.{SessionState}
use Rattle.amqp_txn_types.specs.declared.small.SessionState.TheVariants as states
use Rattle.amqp_engine_events.specs.declared.turn.Running.{Running}
use Rattle.amqp_engine_events.specs.declared.turn.Running.TheVariants.{Waiting, Stop}

-- frames pass
abbrev pub is_mapped : SessionState → Bool
is_mapped states.Mapped = true
is_mapped _ = false

-- an end was sent, and the peer's is awaited
abbrev pub awaits_end : SessionState → Bool
awaits_end states.EndSent = true
awaits_end states.Discarding = true
awaits_end _ = false

-- an end of the peer's may come
abbrev pub takes_end : SessionState → Bool
takes_end states.Mapped = true
takes_end states.EndSent = true
takes_end states.Discarding = true
takes_end _ = false

-- an end is still to be sent
abbrev pub owes_end : SessionState → Bool
owes_end states.Unmapped = false
owes_end states.EndSent = false
owes_end states.Discarding = false
owes_end _ = true

-- how it goes on once it was told to end: it is over where the peer's end has come, or no begin
-- was sent
abbrev pub running_once_ended : SessionState → Running
running_once_ended states.Unmapped = Stop
running_once_ended states.EndReceived = Stop
running_once_ended _ = Waiting
