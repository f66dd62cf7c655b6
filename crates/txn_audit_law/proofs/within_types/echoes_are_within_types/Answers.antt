use Rattle.std.proofs.Common.{ap, sym}
use Rattle.std.specs.List.{All, flat_map}
use Rattle.std.proofs.lemmas.List.Elements.{All-same}
use Rattle.amqp_below_layer.specs.declared.answers.Answers.{Answers}
use Rattle.txn_program_report.specs.Report.{answer_frames}
use Rattle.txn_audit_law.specs.Shown.{IsWithinTypes}
use Rattle.txn_audit_law.proofs.Lists.{flat, more, whole}
use Rattle.txn_audit_law.proofs.within_types.echoes_are_within_types.Goals as goal

pub loop-answers-preserved : goal.loop-answers-preserved
loop-answers-preserved c =
    more (λ (answers : Answers). All IsWithinTypes (answer_frames answers)) c.as_slice-list.result.now c.loop-answers.answers-index c.answers-item.result c.loop-answers-test.true c.answers-item.is c.loop-answers.invariant c.answers_are_within_types.ensures

pub returns : goal.returns
returns c =
    let list = c.as_slice-list.result.now in
    All-same IsWithinTypes (flat_map answer_frames c.args.echoes.now) (flat_map answer_frames list) (ap (flat_map answer_frames) (sym c.as_slice-list.ensures))
    (flat IsWithinTypes answer_frames list
    (whole (λ (answers : Answers). All IsWithinTypes (answer_frames answers)) list c.loop-answers.answers-index c.loop-answers-test.false c.loop-answers.invariant))
