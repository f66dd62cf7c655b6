use Rattle.std.proofs.Common.{refl}
use Rattle.amqp_resource_held.specs.Held.{SameHeld}
use Rattle.amqp_resource_session.proofs.Fitting.{fits-discharged}
use Rattle.amqp_resource_session.proofs.Moved.{committed_moved}
use Rattle.amqp_resource_session.proofs.discharge.commit_kept.Given.{Over}
use Rattle.amqp_resource_session.proofs.discharge.commit_kept.Goals as goal

-- what the commit left is as it was, the log closed up
compacted : (g : Over) (c : goal.After-drop-looks-inside-2 g) → SameHeld c.commit_id-committed.new.held (record c.commit_id-committed.new.held { work = c.compact.new.self })
compacted g c = record { live = c.compact.ensures.same.kept; links = λ k. refl; opened = refl }

pub returns-clause-answer : goal.returns-clause-answer
returns-clause-answer g c = committed_moved c.args.held.now _ _ _ _ c.args.id _ c.commit_id-committed.result (compacted g c) c.commit_id-committed.ensures.answer

pub returns-clause-fits : goal.returns-clause-fits
returns-clause-fits g c f =
    fits-discharged c.args.held.now _ _ _ c.args.id _ c.commit_id-committed.result
    (committed_moved c.args.held.now _ _ _ _ c.args.id _ c.commit_id-committed.result (compacted g c) c.commit_id-committed.ensures.answer) f
