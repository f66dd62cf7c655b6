-- The texts of controls. A debug form isn't told.
use Rattle.std.specs.Prelude.{ℕ, ◌++◌, Option, Some, None, List, codes}
use Rattle.std.specs.Fmt.{decimal}
use Rattle.amqp_engine_events.specs.declared.controls.ConnectionControl.{ConnectionControl}
use Rattle.amqp_engine_events.specs.declared.controls.ConnectionControl.TheVariants as connections
use Rattle.amqp_engine_events.specs.declared.controls.SessionControl.{SessionControl}
use Rattle.amqp_engine_events.specs.declared.controls.SessionControl.TheVariants as controls

-- what a connection is asked
abbrev pub text_of_connection_control : ConnectionControl → Option (List ℕ)
text_of_connection_control (connections.Close error) = None
text_of_connection_control connections.AllocateSession = Some (codes "AllocateSession")
text_of_connection_control (connections.DeallocateSession channel) =
    Some (codes "DeallocateSession(" ++ decimal channel.0 ++ codes ")")

-- what a session is asked, by its name
abbrev pub text_of_control : SessionControl → Option (List ℕ)
text_of_control (controls.End error) = None
text_of_control (controls.AllocateLink name relay) = Some (codes "AllocateLink")
text_of_control (controls.AllocateIncomingLink name relay input) =
    Some (codes "AllocateIncomingLink")
text_of_control (controls.DeallocateLink output) = None
text_of_control (controls.Disposition settled) = Some (codes "Disposition")
text_of_control (controls.CloseConnectionWithError condition text) =
    Some (codes "CloseConnectionWithError")
text_of_control controls.AllocateTransactionId = Some (codes "AllocateTransactionId")
text_of_control (controls.CommitTransaction id) = Some (codes "CommitTransaction")
text_of_control (controls.RollbackTransaction id) = Some (codes "RollbackTransaction")
text_of_control (controls.AbortTransaction id) = Some (codes "AbortTransaction")
