-- The code of each stop: its cause without the values.
use Rattle.amqp_below_layer.specs.declared.inner_error.SessionInnerError.{SessionInnerError}
use Rattle.amqp_below_layer.specs.declared.inner_error.SessionInnerError.TheVariants as faults
use Rattle.amqp_txn_types.specs.declared.delivery.SessionStopReason.{SessionStopReason}
use Rattle.amqp_txn_types.specs.declared.delivery.SessionStopReason.TheVariants as reasons
use Rattle.amqp_resource_record.specs.declared.stop.Stop.{Stop}
use Rattle.amqp_resource_record.specs.declared.stop.Stop.TheVariants as stops
use Rattle.amqp_resource_record.specs.declared.stop.StopCode.{StopCode}
use Rattle.amqp_resource_record.specs.declared.stop.StopCode.TheVariants as codes

-- the code of a refusal
abbrev pub fault_code : SessionInnerError → StopCode
fault_code faults.UnattachedHandle = codes.UnattachedHandle
fault_code faults.RemoteAttachingLinkNameNotFound = codes.LinkNameNotFound
fault_code faults.HandleInUse = codes.HandleInUse
fault_code faults.IllegalState = codes.IllegalState
fault_code (faults.ConnectionStopped reason) = codes.BelowConnectionStopped
fault_code faults.TransferFrameToSender = codes.TransferToSender
fault_code faults.RemoteEnded = codes.BelowRemoteEnded
fault_code (faults.RemoteEndedWithError error) = codes.BelowRemoteEndedWithError
fault_code faults.UnknownTxnId = codes.UnknownTxnId
fault_code faults.NoMemory = codes.BelowNoMemory

-- the code of a session's end
abbrev pub ended_code : SessionStopReason → StopCode
ended_code reasons.Ended = codes.Ended
ended_code (reasons.EndedWithError error) = codes.EndedWithError
ended_code reasons.RemoteEnded = codes.RemoteEnded
ended_code (reasons.RemoteEndedWithError error) = codes.RemoteEndedWithError
ended_code (reasons.ConnectionStopped reason) = codes.ConnectionStopped

-- the code of a stop
abbrev pub code_of : Stop → StopCode
code_of stops.Done = codes.Done
code_of (stops.Fault error) = fault_code error
code_of (stops.Ended reason) = ended_code reason
code_of stops.NoMemory = codes.NoMemory
