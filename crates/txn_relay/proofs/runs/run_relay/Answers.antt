use Rattle.std.proofs.Common.{sym, ◌∙◌}
use Rattle.txn_relay.proofs.Served.{served_no_memory, served_usage, served_words}
use Rattle.txn_relay.proofs.runs.run_relay.Goals as goal

-- whatever the words ask for, memory ran out before anything was done
pub returns-in-Err : goal.returns-in-Err
returns-in-Err g c = rw c.end_without_memory.ensures (served_no_memory _ _ _ _)

-- the words are outside the table
pub returns-in-Ok-None : goal.returns-in-Ok-None
returns-in-Ok-None g c = served_usage _ _ _ _ _ c.end_unmade.result (sym c.in-Ok-None.field-0-is ∙ c.in-Ok-None.ensures.ids) c.end_unmade.ensures

-- a relay for the ids
pub returns-in-Ok-Some : goal.returns-in-Ok-Some
returns-in-Ok-Some g c = served_words _ _ _ _ _ _ _ c.relay_input.result (sym c.in-Ok-Some.field-0-is ∙ c.in-Ok-Some.ensures.ids) c.relay_input.ensures
