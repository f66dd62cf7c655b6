use Rattle.std.proofs.Common.{ap, rules}
use Rattle.amqp_below_layer.specs.Inner.{Took}
use Rattle.amqp_below_recorder.specs.Recording.{inner_of, own_of, plan_of, planned_for, starved_of}
use Rattle.amqp_below_recorder.proofs.Recorded.{recorded-after, recorded-before}
use Rattle.amqp_below_recorder.proofs.recorder.RecorderLayerBelow.on_incoming_frame.Goals as goal

-- it doesn't reach the layer
pub returns-in-Err-clause-gives : goal.returns-in-Err-clause-gives
returns-in-Err-clause-gives g c = record {
  recorded =
      recorded-before
      (Took g.S.Tells.told g.S.LayerBelow.incoming_gives (inner_of c.args.self.now) _ c.args.frame)
      _ (planned_for (plan_of c.args.self.now) (starved_of c.args.self.now) c.saturating_add-self-inside.result) c.planned_for-planned.result
      (own_of c.args.self.now) c.refuse.new.refusals _ c.before_call.new.refused.items c.args.frame
      c.in-Err.error c.refuse.result (search rules) (ap inner_of c.self.view_is) (search rules) c.refuse.ensures.answer c.in-Err.ensures.err;
  calls = search rules;
  plans = search rules;
  used = search rules;
}

-- the layer answered
pub returns-clause-gives : goal.returns-clause-gives
returns-clause-gives g c = record {
  recorded =
      recorded-after
      (Took g.S.Tells.told g.S.LayerBelow.incoming_gives (inner_of c.args.self.now) c.on_incoming_frame-answer.new.self c.args.frame)
      _ (planned_for (plan_of c.args.self.now) (starved_of c.args.self.now) c.saturating_add-self-inside.result) (own_of c.args.self.now) _
      c.after_call.new.refusals c.before_call.new.kept.items c.after_call.new.kept.items c.before_call.new.refused.items
      c.after_call.new.refused.items c.in-Ok.copy c.on_incoming_frame-answer.result c.after_call.result (search rules)
      (search rules) (search rules) c.after_call.ensures;
  calls = search rules;
  plans = search rules;
  used = search rules;
}
