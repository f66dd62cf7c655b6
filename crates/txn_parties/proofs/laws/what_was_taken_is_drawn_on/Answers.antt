use Rattle.txn_parties.proofs.Taking.{grew_answered, grew_stopped}
use Rattle.txn_parties.proofs.Joining.{begun_took, grew_other, took_more}
use Rattle.txn_parties.proofs.laws.what_was_taken_is_drawn_on.Goals as goal

pub returns-clause-begins : goal.returns-clause-begins
returns-clause-begins c sure first taken b = begun_took sure first taken b

pub returns-clause-answered : goal.returns-clause-answered
returns-clause-answered c w i rest drawn reply old now k e n a t = grew_answered w i rest drawn reply old now k e n a t

pub returns-clause-stopped : goal.returns-clause-stopped
returns-clause-stopped c w i rest halt old now k e n t = grew_stopped w i rest halt old now k e n t

pub returns-clause-other : goal.returns-clause-other
returns-clause-other c w new e h d taken k t n = grew_other w new e h d taken k t n

pub returns-clause-joined : goal.returns-clause-joined
returns-clause-joined c w new e h d before mid now k t p g = took_more w new e h d before mid now k t p g
