-- What is answered on a control link, and what the calls on it that await the answer hear.
use Rattle.std.specs.Prelude.{Option, Some, None, Result, Ok, Err}
use Rattle.amqp_txn_types.specs.declared.delivery.Declared.{Declared}
use Rattle.amqp_txn_types.specs.declared.delivery.DeliveryState.TheVariants as delivery_states
use Rattle.amqp_txn_types.specs.declared.delivery.ErrorCondition.TheVariants as conditions
use Rattle.amqp_txn_types.specs.declared.small.Accepted.{Accepted}
use Rattle.amqp_resource_record.specs.Texts.{text_of}
use Rattle.amqp_links.specs.Sending.{Answer}
use Rattle.amqp_links.specs.declared.errors.LinkStateError.TheVariants as link_errors
use Rattle.amqp_links.specs.declared.sendable.Sent.{Sent}
use Rattle.amqp_controller_calls.specs.Polls.{accepted_by, declared_by, outcome_of}
use Rattle.amqp_controller_calls.specs.declared.errors.ControllerSendError.{ControllerSendError}
use Rattle.amqp_controller_calls.specs.declared.errors.ControllerSendError.TheVariants as errors
use Rattle.txn_parties.specs.declared.event.Heard.{Heard}
use Rattle.txn_parties.specs.declared.event.Heard.TheVariants as hearings
use Rattle.txn_parties.specs.declared.item.Asked.{Asked}
use Rattle.txn_parties.specs.declared.item.Asked.TheVariants as asked
use Rattle.txn_parties.specs.declared.item.ReplyState.{ReplyState}
use Rattle.txn_parties.specs.declared.item.ReplyState.TheVariants as states
use Rattle.txn_parties.specs.BackWire.{declared_id, verdict}
use Rattle.txn_world_wires.specs.declared.control_call.ControlCall.{ControlCall}
use Rattle.txn_world_wires.specs.declared.control_call.ControlCall.TheVariants as calls
use Rattle.txn_world_wires.specs.declared.control_call.Hearing.{Hearing}

-- the answer that the resource's reply is on the link: the delivery state that stands for it, with
-- the error of a rejection as its condition and the text as its description; where the link isn't
-- open, that it was closed (4.5.5, Declared; 4.5.8, Transaction Error)
abbrev pub answer_of : ReplyState → Answer
answer_of (states.Declared id) =
    Ok (Some (delivery_states.Declared (record { txn_id = id })))
answer_of states.Accepted = Ok (Some delivery_states.Accepted)
answer_of (states.Rejected error text) =
    Ok (Some (delivery_states.Rejected (record {
      error = Some (record {
        condition = conditions.TransactionError error;
        description = text_of text;
        info = None;
      });
    })))
answer_of states.Closed = Err link_errors.RemoteClosed

-- how a call was sent
abbrev pub sent_of : ControlCall → Sent
sent_of (calls.Declare sent) = sent
sent_of (calls.Commit sent) = sent
sent_of (calls.Rollback sent) = sent

-- what it asked for
abbrev pub asked_in : ControlCall → Asked
asked_in (calls.Declare sent) = asked.Declare
asked_in (calls.Commit sent) = asked.Commit
asked_in (calls.Rollback sent) = asked.Rollback

-- what the outcome of a declare says: the id, where it is declared
abbrev pub heard_of_declare : Result Declared ControllerSendError → Hearing
heard_of_declare (Ok declared) = record { id = Some declared.txn_id; verdict = None }
heard_of_declare (Err error) = record { id = None; verdict = None }

-- what the outcome of a discharge says, where it is accepted and where it is rejected
abbrev pub verdict_by : Heard → Result Accepted ControllerSendError → Option Heard
verdict_by accepted (Ok done) = Some accepted
verdict_by accepted (Err (errors.Rejected rejected)) = Some hearings.Rejected
verdict_by accepted (Err error) = None

abbrev pub heard_of_discharge : Heard → Result Accepted ControllerSendError → Hearing
heard_of_discharge accepted outcome = record { id = None; verdict = verdict_by accepted outcome }

-- what a call hears of an answer, by its poll
abbrev pub heard_in : ControlCall → Answer → Hearing
heard_in (calls.Declare sent) answer = heard_of_declare (outcome_of declared_by answer)
heard_in (calls.Commit sent) answer =
    heard_of_discharge hearings.Committed (outcome_of accepted_by answer)
heard_in (calls.Rollback sent) answer =
    heard_of_discharge hearings.RolledBack (outcome_of accepted_by answer)

-- what the answer to a request says
abbrev pub hearing_by : Asked → ReplyState → Hearing
hearing_by request state =
    record { id = declared_id request state; verdict = verdict request state }
