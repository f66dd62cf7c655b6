use Rattle.amqp_resource_log.specs.Live.{kept}
use Rattle.txn_audit_fits.proofs.Committed.{held_home}
use Rattle.txn_audit_fits.proofs.discharges.hand_work.Goals as goal

pub take_work-more-requires-clause-home : goal.take_work-more-requires-clause-home
take_work-more-requires-clause-home g c = held_home c.args.link (kept c.args.held.now.work c.args.id) c.requires
