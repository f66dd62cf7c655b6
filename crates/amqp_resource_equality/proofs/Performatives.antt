-- Performatives and frames: == is equality.
use Rattle.amqp_txn_types.specs.contracts.performatives.SourcePartialEq.TheImpl as source_same
use Rattle.amqp_txn_types.specs.contracts.performatives.Source as source_type
use Rattle.amqp_txn_types.specs.contracts.performatives.TargetPartialEq.TheImpl as target_same
use Rattle.amqp_txn_types.specs.contracts.performatives.Target as target_type
use Rattle.amqp_txn_types.specs.contracts.performatives.CoordinatorPartialEq.TheImpl as coordinator_same
use Rattle.amqp_txn_types.specs.contracts.performatives.Coordinator as coordinator_type
use Rattle.amqp_txn_types.specs.contracts.performatives.TargetArchetypePartialEq.TheImpl as target_or_coordinator_same
use Rattle.amqp_txn_types.specs.contracts.performatives.TargetArchetype as target_or_coordinator_type
use Rattle.amqp_txn_types.specs.contracts.performatives.AttachPartialEq.TheImpl as attach_same
use Rattle.amqp_txn_types.specs.contracts.performatives.Attach as attach_type
use Rattle.amqp_txn_types.specs.contracts.performatives.FlowPartialEq.TheImpl as flow_same
use Rattle.amqp_txn_types.specs.contracts.performatives.Flow as flow_type
use Rattle.amqp_txn_types.specs.contracts.performatives.TransferPartialEq.TheImpl as transfer_same
use Rattle.amqp_txn_types.specs.contracts.performatives.Transfer as transfer_type
use Rattle.amqp_txn_types.specs.contracts.performatives.DispositionPartialEq.TheImpl as disposition_same
use Rattle.amqp_txn_types.specs.contracts.performatives.Disposition as disposition_type
use Rattle.amqp_txn_types.specs.contracts.performatives.DetachPartialEq.TheImpl as detach_same
use Rattle.amqp_txn_types.specs.contracts.performatives.Detach as detach_type
use Rattle.amqp_txn_types.specs.contracts.performatives.FramePartialEq.TheImpl as frame_same
use Rattle.amqp_txn_types.specs.contracts.performatives.Frame as frame_type
use Rattle.amqp_resource_equality.proofs.Deciding.{IsEquality, boolean, enumeration, number, one_field, option, pair, structure}
use Rattle.amqp_resource_equality.proofs.Values.{fields, handle, octets, receiver_mode, role, sender_mode, symbols}
use Rattle.amqp_resource_equality.proofs.States.{error, state}

pub source : IsEquality source_same.eq-value.it
source = structure source_type.the_type (pair (option octets) (pair boolean (pair (option fields) (pair (option symbols) (one_field (option symbols))))))

pub target : IsEquality target_same.eq-value.it
target = structure target_type.the_type (pair (option octets) (pair boolean (pair (option fields) (one_field (option symbols)))))

pub coordinator : IsEquality coordinator_same.eq-value.it
coordinator = structure coordinator_type.the_type (one_field (option symbols))

pub target_or_coordinator : IsEquality target_or_coordinator_same.eq-value.it
target_or_coordinator = enumeration target_or_coordinator_type.enum _ (one_field target, (one_field coordinator, tt))

pub attach : IsEquality attach_same.eq-value.it
attach = structure attach_type.the_type (pair octets (pair handle (pair role (pair sender_mode (pair receiver_mode (pair (option source) (pair (option target_or_coordinator) (pair (option number) (pair (option number) (pair (option symbols) (pair (option symbols) (one_field (option fields)))))))))))))

pub flow : IsEquality flow_same.eq-value.it
flow = structure flow_type.the_type (pair (option number) (pair number (pair number (pair number (pair (option handle) (pair (option number) (pair (option number) (pair (option number) (pair boolean (pair boolean (one_field (option fields))))))))))))

pub transfer : IsEquality transfer_same.eq-value.it
transfer = structure transfer_type.the_type (pair handle (pair (option number) (pair (option octets) (pair (option number) (pair (option boolean) (pair boolean (pair (option receiver_mode) (pair boolean (pair boolean (pair boolean (one_field (option state))))))))))))

pub disposition : IsEquality disposition_same.eq-value.it
disposition = structure disposition_type.the_type (pair role (pair number (pair (option number) (pair boolean (pair (option state) (one_field boolean))))))

pub detach : IsEquality detach_same.eq-value.it
detach = structure detach_type.the_type (pair handle (pair boolean (one_field (option error))))

pub frame : IsEquality frame_same.eq-value.it
frame = enumeration frame_type.enum _ (one_field attach, (one_field flow, (pair transfer (one_field octets), (one_field disposition, (one_field detach, tt)))))
