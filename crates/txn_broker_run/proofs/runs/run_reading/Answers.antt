use Rattle.txn_broker_run.proofs.runs.run_reading.Goals as goal

pub returns-in-Fault : goal.returns-in-Fault
returns-in-Fault g c = rw c.in-Fault.is c.end_undriven.ensures

pub returns-in-TooLong : goal.returns-in-TooLong
returns-in-TooLong g c = rw c.in-TooLong.is c.end_undriven-in-TooLong.ensures
