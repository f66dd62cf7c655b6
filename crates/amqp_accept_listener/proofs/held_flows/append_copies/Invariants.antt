use Rattle.std.proofs.Common.{◌≡◌, ◌++◌, take}
use Rattle.amqp_accept_listener.proofs.held_flows.append_copies.Given as goal

-- what was there, and the copies so far
abbrev pub invariant-loop-flow : goal.invariant-loop-flow
invariant-loop-flow l = l.flows ≡ l.initial.flows ++ take l.flow-index l.more
