use Rattle.amqp_resource_shared.proofs.ReceiptLaws.{entry-receipt}
use Rattle.amqp_resource_shared.proofs.laws.each_entry_has_its_receipt.Goals as goal

pub returns : goal.returns
returns c receipts entries distinct each count number entry at = entry-receipt receipts entries distinct each count number entry at
