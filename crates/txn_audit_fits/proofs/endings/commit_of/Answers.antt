use Rattle.std.proofs.Common.{refl, sym, ◌∙◌, false}
use Rattle.amqp_txn_codec.specs.Reading.{message_of}
use Rattle.amqp_resource_record.proofs.Whole.{commits-at}
use Rattle.txn_audit_fits.proofs.Judged.{open_by}
use Rattle.txn_audit_fits.proofs.endings.commit_of.Goals as goal

pub returns-then-not-has_link : goal.returns-then-not-has_link
returns-then-not-has_link c = λ before s. commits-at before c.args.link c.args.payload.now false (message_of c.args.payload.now) (open_by c.args.held.now before c.args.link false s (sym c.has_link.ensures ∙ c.if-not-has_link.true)) refl
