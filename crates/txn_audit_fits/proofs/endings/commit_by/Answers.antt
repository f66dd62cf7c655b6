use Rattle.std.proofs.Common.{sym, ◌∙◌, false, true}
use Rattle.amqp_resource_record.proofs.Whole.{commits-discharge, commits-rollback, not_held_no_commit}
use Rattle.txn_audit_fits.proofs.Judged.{held_by, open_by}
use Rattle.txn_audit_fits.proofs.endings.commit_by.Goals as goal

pub returns-then-rolls_back : goal.returns-then-rolls_back
returns-then-rolls_back c = λ before s. commits-rollback before c.args.link c.args.payload.now c.args.discharge (open_by c.args.held.now before c.args.link true s c.requires.opened) c.requires.message (sym c.rolls_back.ensures ∙ c.if-rolls_back.true)

pub returns-then-not-is_declared_on : goal.returns-then-not-is_declared_on
returns-then-not-is_declared_on c = λ before s.
    not_held_no_commit before c.args.link c.args.payload.now c.args.discharge (open_by c.args.held.now before c.args.link true s c.requires.opened) c.requires.message (held_by c.args.held.now before c.args.link c.args.discharge.txn_id false s (sym c.is_declared_on.ensures ∙ c.if-not-is_declared_on.true))

pub returns : goal.returns
returns c =
    let held = sym c.is_declared_on.ensures ∙ c.if-not-is_declared_on.false in (
      held,
      λ before s.
          commits-discharge before c.args.link c.args.payload.now c.args.discharge (open_by c.args.held.now before c.args.link true s c.requires.opened) c.requires.message (sym c.rolls_back.ensures ∙ c.if-rolls_back.false)
          (held_by c.args.held.now before c.args.link c.args.discharge.txn_id true s held),
    )
