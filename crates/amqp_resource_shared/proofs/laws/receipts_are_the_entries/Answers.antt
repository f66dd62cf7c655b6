use Rattle.amqp_resource_shared.proofs.ReceiptLaws.{kinds-agree}
use Rattle.amqp_resource_shared.proofs.laws.receipts_are_the_entries.Goals as goal

pub returns : goal.returns
returns c kind receipts entries distinct each count = kinds-agree kind receipts entries distinct each count
