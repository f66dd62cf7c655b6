use Rattle.amqp_below_layer.specs.Told.{Steady}
use Rattle.amqp_below_layer.specs.OneFrame.{ChecksAll}
use Rattle.std.proofs.Common.{take}
use Rattle.amqp_below_layer.proofs.take.check_given.Given as goal

abbrev pub invariant-loop-frame : goal.invariant-loop-frame
invariant-loop-frame g l =
    Steady (g.S.Tells.told l.initial.below) (g.S.Tells.told l.below)
    × ChecksAll g.S.LayerBelow.check_gives l.initial.below (take l.frame-index l.given) l.below
