use Rattle.std.proofs.Common.{None, Some}
use Rattle.amqp_txn_codec.proofs.Readings.{declare-reads, discharge-reads}
use Rattle.amqp_txn_codec.proofs.message.ControlMessageBody.encode_into.Goals as goal

pub returns-in-None-clause-read : goal.returns-in-None-clause-read
returns-in-None-clause-read c = declare-reads c.args.self.now _ None c.in-Declare.is c.in-None.is tt

pub returns-in-Some-clause-read : goal.returns-in-Some-clause-read
returns-in-Some-clause-read c = declare-reads c.args.self.now _ (Some c.in-Some.id) c.in-Declare.is c.in-Some.is c.put_id.ensures.fits

pub returns-in-None-fail-clause-read : goal.returns-in-None-fail-clause-read
returns-in-None-fail-clause-read c = discharge-reads c.args.self.now _ c.in-Discharge.is c.put_id-in-None-fail.ensures.fits

pub returns-in-Some-true-clause-read : goal.returns-in-Some-true-clause-read
returns-in-Some-true-clause-read c = discharge-reads c.args.self.now _ c.in-Discharge.is c.put_id-in-Some-true.ensures.fits

pub returns-in-Some-false-clause-read : goal.returns-in-Some-false-clause-read
returns-in-Some-false-clause-read c = discharge-reads c.args.self.now _ c.in-Discharge.is c.put_id-in-Some-false.ensures.fits
