use Rattle.std.proofs.Common.{rules}
use Rattle.amqp_below_sessions.specs.Links.{output_mapped}
use Rattle.amqp_below_sessions.specs.Plain.{input_of}
use Rattle.amqp_below_sessions.proofs.TakenAlike.{counted-alike}
use Rattle.amqp_below_sessions.proofs.link_frames.count_transfer.Goals as goal

pub returns-in-Receiver-clause-ends : goal.returns-in-Receiver-clause-ends
returns-in-Receiver-clause-ends c =
    counted-alike (output_mapped c.args.links.now.slots (input_of c.args.handle)) c.args.links.now c.count_transfer.new.self (search rules)
