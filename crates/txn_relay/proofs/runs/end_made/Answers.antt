use Rattle.txn_relay.proofs.runs.end_made.Goals as goal

pub returns-clause-written : goal.returns-clause-written
returns-clause-written g c = c.write_text-status.ensures.written _ c.relay_string-text.ensures
