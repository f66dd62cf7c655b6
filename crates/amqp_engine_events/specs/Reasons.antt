-- Why a session stops.
use Rattle.std.specs.Prelude.{◌≡◌, ◌||◌, Bool, false, Option, Some, None, Result, Err, is_some}
use Rattle.amqp_txn_types.specs.declared.delivery.Error.{Error}
use Rattle.amqp_txn_types.specs.declared.delivery.ConnectionStopReason.{ConnectionStopReason}
use Rattle.amqp_txn_types.specs.declared.delivery.ConnectionStopReason.TheVariants as cut_offs
use Rattle.amqp_txn_types.specs.declared.delivery.SessionStopReason.{SessionStopReason}
use Rattle.amqp_txn_types.specs.declared.delivery.SessionStopReason.TheVariants as reasons
use Rattle.amqp_below_layer.specs.declared.inner_error.SessionInnerError.{SessionInnerError}
use Rattle.amqp_below_layer.specs.declared.inner_error.SessionInnerError.TheVariants as faults
use Rattle.amqp_below_layer.specs.Told.{Told}
use Rattle.amqp_below_sessions.specs.Names.{Names, SameNames}
use Rattle.amqp_below_sessions.specs.Sessions.{Kept, stopped_for}
use Rattle.amqp_below_sessions.specs.declared.stop_reason.StopReason.{StopReason}

-- this side ends it: with its error, else since the connection stopped, else of its own accord
abbrev pub local_stop : Option Error → Option ConnectionStopReason → SessionStopReason
local_stop (Some error) connection = reasons.EndedWithError error
local_stop None (Some reason) = reasons.ConnectionStopped reason
local_stop None None = reasons.Ended

-- the peer ends it: with its error, else since the connection stopped, else of its own accord
abbrev pub remote_stop : Option Error → Option ConnectionStopReason → SessionStopReason
remote_stop (Some error) connection = reasons.RemoteEndedWithError error
remote_stop None (Some reason) = reasons.ConnectionStopped reason
remote_stop None None = reasons.RemoteEnded

-- what a reason of this side is copied from: its error, or the connection's reason
abbrev pub copies_local : Option Error → Option ConnectionStopReason → Bool
copies_local error connection = is_some error || is_some connection

-- what a reason of the peer is copied from: the connection's reason, where its end has no error
abbrev pub copies_remote : Option Error → Option ConnectionStopReason → Bool
copies_remote (Some error) connection = false
copies_remote None connection = is_some connection

-- why the connection stopped, where that is known
abbrev pub reason_or_closed : Option ConnectionStopReason → ConnectionStopReason
reason_or_closed None = cut_offs.Closed
reason_or_closed (Some reason) = reason

-- the outcome of a session says why it stopped
abbrev pub stop_of_outcome : Result Unit SessionInnerError → SessionStopReason
stop_of_outcome (Err (faults.ConnectionStopped reason)) = reasons.ConnectionStopped reason
stop_of_outcome (Err (faults.RemoteEndedWithError error)) = reasons.RemoteEndedWithError error
stop_of_outcome (Err faults.RemoteEnded) = reasons.RemoteEnded
stop_of_outcome _ = reasons.Ended

-- a reason why the session or its connection stopped is kept, the first one
pub record KeepsStop {S : Type 0} (told : S → Told) (kept : S → Kept) (names : S → Names)
    (Stops : S → S → StopReason → Type 0) (old new : S) (reason : StopReason) : Type 0 where
  pub steady : told new ≡ told old
  pub first : kept new ≡ stopped_for (kept old) reason
  pub same : SameNames (names old) (names new)
  pub gives : Stops old new reason
