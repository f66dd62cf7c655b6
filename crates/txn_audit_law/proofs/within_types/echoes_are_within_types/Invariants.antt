use Rattle.std.proofs.Common.{take}
use Rattle.std.specs.List.{All}
use Rattle.amqp_below_layer.specs.declared.answers.Answers.{Answers}
use Rattle.txn_program_report.specs.Report.{answer_frames}
use Rattle.txn_audit_law.specs.Shown.{IsWithinTypes}
use Rattle.txn_audit_law.proofs.within_types.echoes_are_within_types.Given as goal

abbrev pub invariant-loop-answers : goal.invariant-loop-answers
invariant-loop-answers l = All (λ (answers : Answers). All IsWithinTypes (answer_frames answers)) (take l.answers-index l.list)
