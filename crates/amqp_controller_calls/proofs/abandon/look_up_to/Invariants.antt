use Rattle.std.proofs.Common.{◌≤◌}
use Rattle.amqp_controller_calls.specs.Abandoned.{PendingLooks}
use Rattle.amqp_controller_calls.specs.Polls.{OneLook}
use Rattle.amqp_controller_calls.proofs.abandon.look_up_to.Given as goal

-- each look so far found no answer, and the faults didn't fall
abbrev pub invariant-loop-look : goal.invariant-loop-look
invariant-loop-look g l =
    PendingLooks (OneLook g.L.SenderLink.outcome_gives g.L.SenderLink.told) l._look l.token
    l.initial.link l.link
    × ((g.L.SenderLink.told l.initial.link).faults ≤ (g.L.SenderLink.told l.link).faults)
