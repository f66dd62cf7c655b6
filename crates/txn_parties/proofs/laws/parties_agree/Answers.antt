use Rattle.txn_parties.specs.Exchange.{begun}
use Rattle.txn_parties.proofs.Turning.{keeps_start, keeps_turn, keeps_follows}
use Rattle.txn_parties.proofs.Agreed.{agreement}
use Rattle.txn_parties.proofs.laws.parties_agree.Goals as goal

pub returns-clause-begins : goal.returns-clause-begins
returns-clause-begins c sure first b = keeps_start sure first b

pub returns-clause-keeps : goal.returns-clause-keeps
returns-clause-keeps c w new e h d k t = keeps_turn w new e h d k t

pub returns-clause-agree : goal.returns-clause-agree
returns-clause-agree c w k = agreement w k

pub returns-clause-follows : goal.returns-clause-follows
returns-clause-follows c sure first past d w b f = agreement w (keeps_follows (begun sure first) w past d (keeps_start sure first b) f)
