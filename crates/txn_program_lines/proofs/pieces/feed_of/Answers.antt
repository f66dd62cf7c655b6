use Rattle.std.proofs.Common.{◌==◌}
use Rattle.txn_program_lines.proofs.Feeds.{first-position, first-within}
use Rattle.txn_program_lines.proofs.pieces.feed_of.Goals as goal

pub returns-clause-place : goal.returns-clause-place
returns-clause-place c = first-position (λ b. b == 10) c.args.octets.now c.memchr.result c.memchr.ensures

pub returns-clause-within : goal.returns-clause-within
returns-clause-within c = first-within (λ b. b == 10) c.args.octets.now c.memchr.result c.memchr.ensures
