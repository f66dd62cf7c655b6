use Rattle.amqp_resource_shared.proofs.Closing.{read-at, read-before}
use Rattle.amqp_resource_shared.proofs.close.take_two.Goals as goal

pub returns-clause-told : goal.returns-clause-told
returns-clause-told c = read-before c.args.receipts.items c.remove-again.new.self.items c.args.first c.args.second c.take_one-told.result c.remove-again.ensures.items c.requires.order c.requires.within c.take_one-told.ensures

pub returns-clause-again : goal.returns-clause-again
returns-clause-again c = read-at c.args.receipts.items c.args.second c.remove-again.result c.requires.within c.remove-again.ensures.value
