use Rattle.std.proofs.Common.{ℕ, List, ◌≡◌, ◌<◌, true, ◌&&◌, sym, ◌∙◌, ◌+◌, ap, subst, arith, drop, nat_lt, refl}
use Rattle.std.proofs.lemmas.Bool.{and_parts}
use Rattle.std.proofs.lemmas.Bool.Decides.{nat_tests}
use Rattle.amqp_resource_record.specs.declared.step.Step.{Step}
use Rattle.txn_program_lines.specs.Cutting.{lines_of}
use Rattle.txn_audit_fits.specs.Walking.{goes_on}
use Rattle.txn_audit_fits.proofs.Auditing.{Audited, audit-ended, audit-new, audit-none, audit-step, drop-step, has-step, not-answered}
use Rattle.txn_audit_fits.proofs.audits.judge_lines.Goals as goal

below : (i n : ℕ) → nat_lt i n ≡ true → i < n
below i n t = grind (arith, nat_tests)

pub loop-step-init : goal.loop-step-init
loop-step-init g c = record {
  start = refl;
  audited = audit-new c.new-held.result c.new-work.result c.args.steps.now (g.G.IdSource.next c.args.ids.now) (lines_of c.args.lines.now) c.new-held.ensures.stands c.new-work.ensures;
}

pub unreachable-requires : goal.unreachable-requires
unreachable-requires g c =
    let i = c.loop-step.answered in
    let both = and_parts (goes_on (lines_of c.loop-step.rest.now)) (nat_lt i c.len-count.result) (sym c.is_answered.ensures ∙ c.loop-step-test.true) in
    let l = below i c.len-count.result both.1 in
    has-step c.args.steps.now i (omega (arith, l, c.len-count.ensures)) (sym c.in_default.ensures)

pub overflow_add-answered : goal.overflow_add-answered
overflow_add-answered g c =
    let i = c.loop-step.answered in
    let both = and_parts (goes_on (lines_of c.loop-step.rest.now)) (nat_lt i c.len-count.result) (sym c.is_answered.ensures ∙ c.loop-step-test.true) in
    let l = below i c.len-count.result both.1 in
    omega (arith, l, c.len-count.type_inv)

pub loop-step-preserved : goal.loop-step-preserved
loop-step-preserved g c =
    let all = c.args.steps.now in
    let i = c.loop-step.answered in
    let P : List Step → Type 0 = λ left. Audited c.loop-step.held c.loop-step.work all (g.G.IdSource.next c.args.ids.now) (lines_of c.args.lines.now) left (g.G.IdSource.next c.loop-step.ids) (lines_of c.loop-step.rest.now) in
    record {
      start = c.judge_step.ensures.start ∙ c.loop-step.invariant.start;
      audited = audit-step all (g.G.IdSource.next c.args.ids.now) (lines_of c.args.lines.now) c.loop-step.held c.judge_step.new.held c.loop-step.work c.judge_step.new.work c.in-Some.step.now (drop (i + 1) all) (g.G.IdSource.next c.loop-step.ids) (g.G.IdSource.next c.judge_step.new.ids) (lines_of c.loop-step.rest.now)
          (subst P (drop-step all i c.in-Some.step.now (sym c.in-Some.ensures)) c.loop-step.invariant.audited) c.in-Explained.others (rw c.in-Explained.is at c.in_ok-others.ensures.judged);
    }

pub returns-in-Departs-clause-judged : goal.returns-in-Departs-clause-judged
returns-in-Departs-clause-judged g c =
    let all = c.args.steps.now in
    let i = c.loop-step.answered in
    let P : List Step → Type 0 = λ left. Audited c.loop-step.held c.loop-step.work all (g.G.IdSource.next c.args.ids.now) (lines_of c.args.lines.now) left (g.G.IdSource.next c.loop-step.ids) (lines_of c.loop-step.rest.now) in
    audit-none all (g.G.IdSource.next c.args.ids.now) (lines_of c.args.lines.now) c.loop-step.held c.judge_step.new.held c.loop-step.work c.judge_step.new.work c.in-Some.step.now (drop (i + 1) all) (g.G.IdSource.next c.loop-step.ids) (g.G.IdSource.next c.judge_step.new.ids) (lines_of c.loop-step.rest.now)
    (subst P (drop-step all i c.in-Some.step.now (sym c.in-Some.ensures)) c.loop-step.invariant.audited) c.in-Departs.others (rw c.in-Departs.is at c.in_ok-others.ensures.judged)

pub returns-clause-judged : goal.returns-clause-judged
returns-clause-judged g c =
    let all = c.args.steps.now in
    let i = c.loop-step.answered in
    audit-ended all (g.G.IdSource.next c.args.ids.now) (lines_of c.args.lines.now) c.loop-step.held c.loop-step.work (drop i all) (g.G.IdSource.next c.loop-step.ids) (lines_of c.loop-step.rest.now) c.loop-step.invariant.audited
    (not-answered (goes_on (lines_of c.loop-step.rest.now)) all i (ap (λ n. goes_on (lines_of c.loop-step.rest.now) && nat_lt i n) (sym c.len-count.ensures) ∙ sym c.is_answered.ensures ∙ c.loop-step-test.false)) c.judge_end.result c.judge_end.ensures
