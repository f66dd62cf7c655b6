use Rattle.std.proofs.Common.{refl, inl, inr, ap, ◌∙◌}
use Rattle.std.proofs.Math.Path.{fun_ext}
use Rattle.amqp_below_ids.specs.Listed.{listed}
use Rattle.txn_program_edges.specs.Unserved.{line_text}
use Rattle.txn_program_lines.specs.Cutting.{lines_of}
use Rattle.txn_audit.proofs.Ending.{fits-no, fits-yes, tells-why}
use Rattle.txn_audit.proofs.audit_runs.answer_of_parts.Goals as goal

pub returns-in_default : goal.returns-in_default
returns-in_default c = rw c.in_default.is (refl, ap line_text c.requires.next, refl)

pub returns-in-None : goal.returns-in-None
returns-in-None c =
    rw c.in-Some.is
    (inl (refl, refl, fits-yes c.args.parts.now.steps _ (listed c.args.ids.now) (lines_of c.in-Some.lines.now) (fun_ext c.in_ok-source.ensures.next ∙ ap listed c.as_slice.ensures) (rw c.in-None.is at c.in_ok-first_difference.ensures.differs), refl))

pub returns : goal.returns
returns c =
    let d = fits-no c.args.parts.now.steps _ (listed c.args.ids.now) (lines_of c.in-Some.lines.now) c.in-Some-2.difference (fun_ext c.in_ok-source.ensures.next ∙ ap listed c.as_slice.ensures) (rw c.in-Some-2.is at c.in_ok-first_difference.ensures.differs) in
    rw c.in-Some.is
    (inr (refl, refl, d.none, tells-why c.args.parts.now.steps (listed c.args.ids.now) (lines_of c.in-Some.lines.now) c.in-Some-2.difference c.line_that_tells.result d c.line_that_tells.ensures))
