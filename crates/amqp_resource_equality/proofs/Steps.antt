-- Faults, answers, steps, replies and codes of a stop: == is equality.
use Rattle.amqp_below_layer.specs.contracts.inner_error.SessionInnerErrorPartialEq.TheImpl as fault_same
use Rattle.amqp_below_layer.specs.contracts.inner_error.SessionInnerError as fault_type
use Rattle.amqp_below_layer.specs.contracts.answers.AnswersPartialEq.TheImpl as answers_same
use Rattle.amqp_below_layer.specs.contracts.answers.Answers as answers_type
use Rattle.amqp_resource_record.specs.contracts.step.StepPartialEq.TheImpl as step_same
use Rattle.amqp_resource_record.specs.contracts.step.Step as step_type
use Rattle.amqp_resource_record.specs.contracts.reply.RejectTextPartialEq.TheImpl as reject_text_same
use Rattle.amqp_resource_record.specs.contracts.reply.RejectText as reject_text_type
use Rattle.amqp_resource_record.specs.contracts.reply.ReplyPartialEq.TheImpl as reply_same
use Rattle.amqp_resource_record.specs.contracts.reply.Reply as reply_type
use Rattle.amqp_resource_record.specs.contracts.stop.StopCodePartialEq.TheImpl as stop_code_same
use Rattle.amqp_resource_record.specs.contracts.stop.StopCode as stop_code_type
use Rattle.amqp_below_ids.specs.declared.drawn.Drawn.{Drawn}
use Rattle.amqp_below_ids.specs.contracts.drawn.DrawnPartialEq.TheImpl as drawn_same
use Rattle.amqp_resource_record.specs.declared.entry.Entry.{Entry}
use Rattle.amqp_resource_record.specs.contracts.entry.EntryPartialEq.TheImpl as entry_same
use Rattle.std.proofs.Common.{◌≡◌}
use Rattle.std.specs.Bool.{Decides}
use Rattle.amqp_resource_equality.proofs.Deciding.{IsEquality, bare, both, decides, enumeration, joined, list, no_field, number, one_field, option, pair, structure}
use Rattle.amqp_resource_equality.proofs.Values.{amqp_error, octets, transaction_error}
use Rattle.amqp_resource_equality.proofs.States.{connection_stop, error}
use Rattle.amqp_resource_equality.proofs.Performatives.{flow, frame}

pub fault : IsEquality fault_same.eq-value.it
fault = enumeration fault_type.enum _ (no_field, (no_field, (no_field, (no_field, (one_field connection_stop, (no_field, (no_field, (one_field error, (no_field, (no_field, tt))))))))))

pub answers : IsEquality answers_same.eq-value.it
answers = structure answers_type.the_type (pair (list frame) (one_field (option flow)))

pub step : IsEquality step_same.eq-value.it
step = enumeration step_type.enum _ (one_field frame, (pair number (one_field octets), (one_field number, (one_field (option error), (one_field (option error), (one_field connection_stop, tt))))))

pub reject_text : IsEquality reject_text_same.eq-value.it
reject_text = bare reject_text_type.the_type tt

pub stop_code : IsEquality stop_code_same.eq-value.it
stop_code = bare stop_code_type.the_type tt

pub reply : IsEquality reply_same.eq-value.it
reply = enumeration reply_type.enum _ (one_field answers, (pair number (one_field (list frame)), (one_field fault, (no_field, (no_field, (one_field amqp_error, (one_field octets, (one_field (list answers), (pair transaction_error (one_field reject_text), tt)))))))))

-- lists of drawn ids, by their ids
pub drawn : (x y : Drawn) → Decides (drawn_same.eq-value.it x y) (x.ids ≡ y.ids)
drawn x y = decides (list octets) x.ids y.ids

pub entry : (x y : Entry) → Decides (entry_same.eq-value.it x y) ((x.step ≡ y.step) × (x.drawn.ids ≡ y.drawn.ids) × (x.reply ≡ y.reply))
entry x y = (
  λ h.
      let a = both _ _ h in
      let b = both _ _ a.1 in
      (step.one x.step y.step a.0, (drawn x.drawn y.drawn).0 b.0, reply.one x.reply y.reply b.1),
  λ p. joined ((decides step x.step y.step).1 p.0) (joined ((drawn x.drawn y.drawn).1 p.1) ((decides reply x.reply y.reply).1 p.2)),
)
