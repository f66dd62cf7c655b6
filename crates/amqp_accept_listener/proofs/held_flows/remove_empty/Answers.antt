use Rattle.std.proofs.Common.{◌≡◌, ◌∙◌, [], None, Some, arith, rules, sym}
use Rattle.std.proofs.lemmas.List.{nil_from_length}
use Rattle.std.specs.BTreeMap.{get as entry_of}
use Rattle.amqp_below_sessions.specs.Links.{input_order}
use Rattle.amqp_accept_listener.proofs.Maps.{list_in-written}
use Rattle.amqp_accept_listener.proofs.held_flows.remove_empty.Goals as goal

pub returns-in-empty : goal.returns-in-empty
returns-in-empty c =
    let entry : entry_of input_order c.args.flows.now c.args.input ≡ Some c.in-Some.list.now =
    search rules in
    let empty : c.as_slice.result.now ≡ [] =
    nil_from_length c.as_slice.result.now (omega (arith, c.in-empty.len_below)) in
    list_in-written (entry_of input_order c.args.flows.now) (entry_of input_order c.remove.new.self)
    c.args.input None (rw entry (sym empty ∙ c.as_slice.ensures.value)) (search rules)
