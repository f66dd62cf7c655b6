-- A layer goes to any thread: what it keeps for clauses alone owns nothing.
use denote.Enum.Declared.{shape}
use denote.Param.Send.{IsSend, enum_send, recorded_send, sendable}
use denote.Struct.Field.{row_field}
use denote.RattleType.{RattleType}
use denote.Struct.Tuple.{Tuple, tuple_type}
use mathlib.Core.List.{List, [], ◌∷◌}
use denote.Param.SendFields.{as_row_send, declared_send}
use Rattle.std.proofs.Crossing.{Vec-send, crosses}
use Rattle.std.proofs.Crossing as heap
use Rattle.std.proofs.option.Option.TheSendSync as option
use Rattle.std.specs.contracts.snapshot.Snapshot as snapshot
use Rattle.amqp_txn_types.specs.contracts.performatives.Attach as attach
use Rattle.amqp_txn_types.specs.contracts.performatives.Frame as frame
use Rattle.amqp_txn_types.proofs.performatives.Frame.TheSendSync as frame_sent
use Rattle.amqp_txn_types.specs.contracts.items.Items as items
use Rattle.amqp_txn_types.proofs.items.Items.TheSendSync as items_sent
use Rattle.daxurbi_layer.specs.contracts.refused.Refused as refused
use Rattle.daxurbi_layer.specs.contracts.told_layer.ToldLayer as layer
use Rattle.daxurbi_layer.proofs.below_answer.BelowAnswer.TheSendSync as answer

attach_send : IsSend (snapshot.the_row attach.the_row)
attach_send = search crosses

frame_send : IsSend (snapshot.the_row frame.the_row)
frame_send = search crosses

refused_send : IsSend refused.the_row
refused_send = recorded_send refused.the_field.row _ _ refused.the_type.to_one (enum_send (shape refused.the_type) ((frame_send, tt), ((attach_send, tt), tt)))

abbrev pair : List RattleType
pair = frame.the_row ∷ items.the_row frame.the_row ∷ []

pair_send : IsSend (Tuple pair)
pair_send = declared_send (tuple_type pair) (as_row_send (row_field frame.the_row) frame_sent.the_send, (as_row_send (row_field (items.the_row frame.the_row)) (items_sent.the_send frame.the_row frame_sent.the_send), tt))

pub layer_send : IsSend layer.the_row
layer_send = declared_send layer.the_type (answer.the_send, (Vec-send _ pair_send, (option.the_send _ attach_send, (option.the_send _ refused_send, (search sendable, (search sendable, (heap.send, tt)))))))
