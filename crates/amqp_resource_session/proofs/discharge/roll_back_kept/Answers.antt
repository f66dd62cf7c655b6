use Rattle.std.proofs.Common.{refl}
use Rattle.amqp_resource_held.specs.Held.{SameHeld}
use Rattle.amqp_resource_session.proofs.Fitting.{fits-rolled_back}
use Rattle.amqp_resource_session.proofs.Moved.{rolled_back_moved}
use Rattle.amqp_resource_session.proofs.discharge.roll_back_kept.Given.{Over}
use Rattle.amqp_resource_session.proofs.discharge.roll_back_kept.Goals as goal

-- what the rollback left is as it was, the log closed up
compacted : (g : Over) (c : goal.After-drop-looks-inside-2 g) → SameHeld c.roll_back_id-rolled_back.new.held (record c.roll_back_id-rolled_back.new.held { work = c.compact.new.self })
compacted g c = record { live = c.compact.ensures.same.kept; links = λ k. refl; opened = refl }

pub returns-clause-answer : goal.returns-clause-answer
returns-clause-answer g c = rolled_back_moved c.args.held.now _ _ c.args.id c.roll_back_id-rolled_back.result (compacted g c) c.roll_back_id-rolled_back.ensures

pub returns-clause-fits : goal.returns-clause-fits
returns-clause-fits g c f =
    fits-rolled_back c.args.held.now _ c.args.id c.roll_back_id-rolled_back.result
    (rolled_back_moved c.args.held.now _ _ c.args.id c.roll_back_id-rolled_back.result (compacted g c) c.roll_back_id-rolled_back.ensures) f
