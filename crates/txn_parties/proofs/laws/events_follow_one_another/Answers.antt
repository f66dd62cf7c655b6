use Rattle.txn_parties.proofs.Joining.{follows_more, turn_drew}
use Rattle.txn_parties.proofs.laws.events_follow_one_another.Goals as goal

pub returns-clause-more : goal.returns-clause-more
returns-clause-more c w mid new past e h d now f t = follows_more w mid new past e h d now f t

pub returns-clause-drew : goal.returns-clause-drew
returns-clause-drew c w new e h d t = turn_drew w new e h d t
