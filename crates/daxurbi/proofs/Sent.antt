-- A session of a slot goes to any thread.
use denote.Param.Send.{IsSend}
use denote.Param.SendFields.{declared_send}
use Rattle.std.proofs.Crossing as heap
use Rattle.std.proofs.option.Option.TheSendSync as option
use Rattle.amqp_resource_session.proofs.session.TxnSession.TheSendSync as session
use Rattle.daxurbi_layer.specs.contracts.told_layer.ToldLayer as layer
use Rattle.daxurbi_layer.proofs.Sent.{layer_send}
use Rattle.daxurbi_session.specs.contracts.slot_session.SlotSession as slot
use Rattle.daxurbi_session.proofs.slot_ids.SlotIds.TheSendSync as ids
use Rattle.daxurbi_session.proofs.last_step.LastStep.TheSendSync as last

pub slot_send : IsSend slot.the_row
slot_send = declared_send slot.the_type (session.the_send layer.the_row layer_send, (ids.the_send, (option.the_send _ last.the_send, (heap.send, tt))))
