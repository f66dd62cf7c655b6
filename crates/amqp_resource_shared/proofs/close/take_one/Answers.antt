use Rattle.amqp_resource_shared.proofs.Closing.{read-at}
use Rattle.amqp_resource_shared.proofs.close.take_one.Goals as goal

pub returns : goal.returns
returns c = read-at c.args.receipts.items c.args.place c.remove-told.result c.requires c.remove-told.ensures.value
