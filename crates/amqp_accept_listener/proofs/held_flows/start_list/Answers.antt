use Rattle.std.proofs.Common.{rules, Some}
use Rattle.std.specs.BTreeMap.{get as entry_of}
use Rattle.amqp_below_sessions.specs.Links.{input_order}
use Rattle.amqp_accept_listener.proofs.Maps.{list_in-written}
use Rattle.amqp_accept_listener.proofs.held_flows.start_list.Goals as goal

pub returns-clause-same : goal.returns-clause-same
returns-clause-same c =
    list_in-written (entry_of input_order c.args.flows.now) (entry_of input_order c.insert.new.self)
    c.args.input (Some c.in_ok-list.list) (search rules) (search rules)
