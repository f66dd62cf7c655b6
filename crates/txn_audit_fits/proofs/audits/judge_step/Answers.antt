use Rattle.std.proofs.Common.{refl}
use Rattle.amqp_resource_held.specs.declared.held.Held.{Held}
use Rattle.txn_program_lines.specs.Cutting.{lines_of}
use Rattle.txn_audit_fits.specs.Passing.{Passes}
use Rattle.txn_audit_fits.specs.Walking.{JudgesStep}
use Rattle.txn_audit_fits.proofs.Committed.{judges-to, ok_map}
use Rattle.txn_audit_fits.proofs.Going.{step-judged, step-none}
use Rattle.txn_audit_fits.proofs.Lines.{some_octets}
use Rattle.txn_audit_fits.proofs.audits.judge_step.Goals as goal

pub first_line-requires : goal.first_line-requires
first_line-requires g c = some_octets c.args.lines.now c.requires

pub returns-in_default-clause-judged : goal.returns-in_default-clause-judged
returns-in_default-clause-judged g c =
    let next = g.G.IdSource.next c.args.ids.now in
    let later = g.G.IdSource.next c.judge_reply.new.ids in
    let held : Held = record c.judge_reply.new.held { work = c.compact.new.self } in
    let judged = judges-to c.args.held.now c.judge_reply.new.held held c.args.work.now c.judge_reply.new.work next later c.args.step.now c.first_line.result.0.now c.in_ok-outs.outs
    (record { live = c.compact.ensures.same.kept; links = λ k. refl; opened = refl }) c.in_ok-outs.ensures.judged in
    step-none c.args.held.now held c.args.work.now c.judge_reply.new.work next later c.args.step.now (lines_of c.args.lines.now) (lines_of c.first_line.result.1.now) c.first_line.result.0.now
    c.first_line.ensures.lines c.requires c.args.lines refl (rw c.in_default.is at judged)

pub returns-clause-judged : goal.returns-clause-judged
returns-clause-judged g c =
    let next = g.G.IdSource.next c.args.ids.now in
    let later = g.G.IdSource.next c.judge_reply.new.ids in
    let held : Held = record c.judge_reply.new.held { work = c.compact.new.self } in
    let judged = judges-to c.args.held.now c.judge_reply.new.held held c.args.work.now c.judge_reply.new.work next later c.args.step.now c.first_line.result.0.now c.in_ok-outs.outs
    (record { live = c.compact.ensures.same.kept; links = λ k. refl; opened = refl }) c.in_ok-outs.ensures.judged in
    ok_map (Passes c.in-Some.outs (lines_of c.first_line.result.1.now)) (JudgesStep c.args.held.now held c.args.work.now c.judge_reply.new.work next later c.args.step.now (lines_of c.args.lines.now)) c.lines_after.result
    (step-judged c.args.held.now held c.args.work.now c.judge_reply.new.work next later c.args.step.now (lines_of c.args.lines.now) (lines_of c.first_line.result.1.now) c.first_line.result.0.now c.first_line.ensures.lines c.requires c.in-Some.outs (rw c.in-Some.is at judged))
    c.lines_after.ensures
