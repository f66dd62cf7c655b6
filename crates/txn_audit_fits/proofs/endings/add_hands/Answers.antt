use Rattle.std.proofs.Common.{refl}
use Rattle.txn_audit_fits.proofs.Judged.{none_handed}
use Rattle.txn_audit_fits.proofs.endings.add_hands.Goals as goal

pub returns-in-LinkEnd : goal.returns-in-LinkEnd
returns-in-LinkEnd g c = rw c.in-LinkEnd.is (λ before s. none_handed c.args.work.now _ refl)

pub returns-in-LocalEnd : goal.returns-in-LocalEnd
returns-in-LocalEnd g c = rw c.in-LocalEnd.is (λ before s. none_handed c.args.work.now _ refl)

pub returns-in-RemoteEnd : goal.returns-in-RemoteEnd
returns-in-RemoteEnd g c = rw c.in-RemoteEnd.is (λ before s. none_handed c.args.work.now _ refl)

pub returns-in-ConnectionStop : goal.returns-in-ConnectionStop
returns-in-ConnectionStop g c = rw c.in-ConnectionStop.is (λ before s. none_handed c.args.work.now _ refl)

pub returns-in-Control : goal.returns-in-Control
returns-in-Control g c = rw c.in-Control.is c.add_commit.ensures
