-- The states of a session. Part 2 of the standard, section 2.5.5 (session states).
use Rattle.std.specs.Prelude.{Option, Some, None, Bool, true, false}
use Rattle.amqp_txn_types.specs.declared.small.SessionState.{SessionState}
use Rattle.amqp_txn_types.specs.declared.small.SessionState.TheVariants as states

-- a begin is sent
abbrev pub begin_sent : SessionState → Option SessionState
begin_sent states.Unmapped = Some states.BeginSent
begin_sent states.BeginReceived = Some states.Mapped
begin_sent _ = None

-- a begin comes
abbrev pub begin_received : SessionState → Option SessionState
begin_received states.Unmapped = Some states.BeginReceived
begin_received states.BeginSent = Some states.Mapped
begin_received _ = None

-- the state of a session that sent its end first, which with an error drops what comes
abbrev pub ending : Bool → SessionState
ending true = states.Discarding
ending false = states.EndSent

-- an end is sent, with an error or without
abbrev pub end_sent : Bool → SessionState → Option SessionState
end_sent with_error states.Mapped = Some (ending with_error)
end_sent with_error states.BeginSent = Some (ending with_error)
end_sent with_error states.BeginReceived = Some (ending with_error)
end_sent with_error states.EndReceived = Some states.Unmapped
end_sent with_error _ = None

-- an end comes
abbrev pub end_received : SessionState → Option SessionState
end_received states.Mapped = Some states.EndReceived
end_received states.EndSent = Some states.Unmapped
end_received states.Discarding = Some states.Unmapped
end_received _ = None
