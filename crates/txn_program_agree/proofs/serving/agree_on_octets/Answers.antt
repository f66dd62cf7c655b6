use Rattle.std.proofs.Common.{arith}
use Rattle.txn_program_agree.proofs.Counting.{events-few}
use Rattle.txn_program_agree.proofs.serving.agree_on_octets.Goals as goal

-- there are at most as many events as octets, and one
pub agree_on_events-requires-clause-count : goal.agree_on_events-requires-clause-count
agree_on_events-requires-clause-count g c =
    let few = events-few c.args.octets c.in-Ok.events (rw c.as_slice.ensures at c.in-Ok.ensures) in
    let within = c.requires.limit in
    omega (arith, few, within)
