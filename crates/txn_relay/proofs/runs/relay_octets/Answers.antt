use Rattle.txn_relay.proofs.Served.{messages_within}
use Rattle.txn_relay.proofs.runs.relay_octets.Goals as goal

-- there are at most as many messages as octets, and one
pub relay_script-requires-clause-few : goal.relay_script-requires-clause-few
relay_script-requires-clause-few g c = messages_within c.args.octets c.in-Ok.script (rw c.as_slice.ensures at c.in-Ok.ensures) c.requires.limit
