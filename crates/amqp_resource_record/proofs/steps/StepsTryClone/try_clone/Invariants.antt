use Rattle.std.proofs.Common.{◌≡◌, take}
use Rattle.amqp_resource_record.specs.Entries.{steps_of}
use Rattle.amqp_resource_record.proofs.steps.StepsTryClone.try_clone.Given as goal

abbrev pub invariant-loop-entry : goal.invariant-loop-entry
invariant-loop-entry l = l.steps ≡ steps_of (take l.entry-index l.entry-items)
