use Rattle.std.proofs.Common.{rules, refl, true}
use Rattle.amqp_below_recorder.specs.Recording.{no_room, given_uncopied}
use Rattle.amqp_below_recorder.proofs.Recorded.{recorded-refusal}
use Rattle.amqp_below_recorder.proofs.recorder.RecorderLayerBelow.on_control_attach.Goals as goal

-- no room for the copy or for what is kept
pub returns-in_default-clause-gives : goal.returns-in_default-clause-gives
returns-in_default-clause-gives g c = record {
  recorded = (true, no_room (search rules), search rules);
  calls = search rules;
  plans = search rules;
  used = search rules;
}

-- what was given back couldn't be copied
pub returns-in-Err-keep_taken-clause-gives : goal.returns-in-Err-keep_taken-clause-gives
returns-in-Err-keep_taken-clause-gives g c = record {
  recorded = (true, given_uncopied c.in-Ok-on_control_attach.given (search rules) refl (search rules), search rules);
  calls = search rules;
  plans = search rules;
  used = search rules;
}

-- the layer refused
pub returns-in-Err-clause-gives : goal.returns-in-Err-clause-gives
returns-in-Err-clause-gives g c = record {
  recorded = recorded-refusal _ _ _ _ _ _ _ _ c.in-Err.error _ refl (search rules) (search rules) c.keep_refusal.ensures;
  calls = search rules;
  plans = search rules;
  used = search rules;
}
