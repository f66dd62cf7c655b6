use Rattle.amqp_controller_calls.specs.Polls.{accepted_by}
use Rattle.txn_world_wires.proofs.Ends.{finds_answer, hears_answer}
use Rattle.txn_world_wires.proofs.control_call.answer_discharge.Goals as goal

pub returns-clause-outcome : goal.returns-clause-outcome
returns-clause-outcome c =
    finds_answer accepted_by c.args.end.now c.answer-awaited.new.self c.args.discharge c.in-Unsettled.token c.args.answer c.in-Ready.outcome c.requires.quiet c.requires.awaited c.in-Unsettled.ensures
    c.answer-awaited.ensures.filled c.in-Ready.ensures.answer

pub returns-clause-heard : goal.returns-clause-heard
returns-clause-heard c =
    hears_answer c.args.end.now c.answer-awaited.new.self c.poll.new.link c.args.discharge c.in-Unsettled.token c.args.answer c.requires.quiet c.requires.awaited c.in-Unsettled.ensures
    c.answer-awaited.ensures.filled c.in-Ready.ensures.looks
