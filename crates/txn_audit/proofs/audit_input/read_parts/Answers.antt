use Rattle.std.proofs.Common.{List, length, ◌+◌, sym, ◌∙◌, ap, arith}
use Rattle.amqp_resource_record.specs.declared.step.Step.{Step}
use Rattle.txn_program_lines.specs.Cutting.{lines_of}
use Rattle.txn_audit.specs.AuditInput.{parts_from}
use Rattle.txn_audit.proofs.Parts.{parts-bad, parts-count, parts-end, parts-more, parts-none, parts-report}
use Rattle.txn_audit.proofs.audit_input.read_parts.Goals as goal

pub loop-rest-init : goal.loop-rest-init
loop-rest-init c = record {
  parts = parts-none c.new-steps.result (parts_from 1 (lines_of c.args.octets.now)) c.new-steps.ensures;
  count = ap (λ (steps : List Step). length steps + 1) (sym c.new-steps.ensures);
  few = omega arith;
}

pub returns-then-is_text : goal.returns-then-is_text
returns-then-is_text c =
    (parts-report c.loop-rest.steps c.loop-rest.number c.loop-rest.rest.now c.first_line.result.0.now c.first_line.result.1.now _ c.first_line.ensures.lines c.loop-rest.invariant.parts (sym c.is_text.ensures ∙ c.if-is_text.true), c.loop-rest.invariant.count)

pub returns-in-Err-OutsideTable : goal.returns-in-Err-OutsideTable
returns-in-Err-OutsideTable c =
    let unread = rw c.in-Err-OutsideTable.field-0-is at c.in-Err-OutsideTable.ensures in
    parts-bad c.loop-rest.steps c.loop-rest.number c.loop-rest.rest.now c.first_line.result.0.now c.first_line.result.1.now _ c.first_line.ensures.lines c.loop-rest.invariant.parts (sym c.is_text.ensures ∙ c.if-is_text.false) unread

pub loop-rest-preserved : goal.loop-rest-preserved
loop-rest-preserved c = record {
  parts = parts-more c.loop-rest.steps c.loop-rest.number c.loop-rest.rest.now c.first_line.result.0.now c.first_line.result.1.now _ c.first_line.ensures.lines c.loop-rest.invariant.parts c.read_line.new.self (sym c.is_text.ensures ∙ c.if-is_text.false) c.in-Ok.ensures;
  count = omega (arith, parts-count c.loop-rest.steps c.read_line.new.self c.first_line.result.0.now c.in-Ok.ensures, c.loop-rest.invariant.count);
  few = omega (arith, c.first_line.ensures.shorter, c.loop-rest.invariant.few);
}

pub returns : goal.returns
returns c = (parts-end c.loop-rest.steps c.loop-rest.number c.loop-rest.rest.now _ (sym c.is_empty.ensures ∙ c.loop-rest-test.false) c.loop-rest.invariant.parts, c.loop-rest.invariant.count)
