use Rattle.std.proofs.Common.{rules, Some}
use Rattle.std.specs.BTreeMap.{get as entry_of}
use Rattle.amqp_below_sessions.specs.Links.{input_order}
use Rattle.amqp_accept_listener.proofs.Maps.{list_in-written}
use Rattle.amqp_accept_listener.proofs.held_flows.grow_list.Goals as goal

pub returns-in_err-reserve-clause-same : goal.returns-in_err-reserve-clause-same
returns-in_err-reserve-clause-same c =
    list_in-written (entry_of input_order c.args.flows.now) (entry_of input_order (c.get_mut.follows.lender c.reserve.new.self))
    c.args.input (Some c.reserve.new.self) (search rules) (search rules)

pub returns-in_ok-reserve-clause-same : goal.returns-in_ok-reserve-clause-same
returns-in_ok-reserve-clause-same c =
    list_in-written (entry_of input_order c.args.flows.now) (entry_of input_order (c.get_mut.follows.lender c.reserve.new.self))
    c.args.input (Some c.reserve.new.self) (search rules) (search rules)
