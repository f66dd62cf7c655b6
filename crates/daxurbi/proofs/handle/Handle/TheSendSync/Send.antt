-- A handle may go to another thread: its session may, and a block is freed anywhere.
use mir.Raw.{raw}
use denote.Memory.{lone}
use denote.RawPtr.{Ptr}
use denote.Struct.Struct.{exits_of}
use denote.Struct.Owning.{shape, fields, to}
use base.Shift.{Keyless}
use denote.Param.Send.{IsSend, AllSend, owning_send, struct_send, sendable}
use Rattle.std.specs.Prelude.{Option, Some, None}
use Rattle.std.specs.Global.{Global}
use Rattle.std.proofs.Crossing as heap
use Rattle.std_alloc.proofs.SendSync.{quiet, lies}
use Rattle.std_heap.proofs.Global.TheSendSync as allocator
use Rattle.daxurbi.specs.Owning.{handle_owns}
use Rattle.daxurbi_session.specs.contracts.slot_session.SlotSession as session
use Rattle.daxurbi.proofs.Sent.{slot_send}
use Rattle.daxurbi.specs.contracts.handle.Handle.{the_row, the_type}

-- what a handle owns beside its fields has no thread's key
keyless : (alloc : Global) (at : Ptr) (value : Option session.the_row.Denot) → Keyless (handle_owns alloc at value)
keyless alloc at None = tt
keyless alloc at (Some found) = (lies session.the_row slot_send at found, heap.frees.frees alloc (raw (lone session.the_row.mir)) at)

pub send : IsSend the_row
send =
    let all : AllSend (fields the_type) = (search sendable, (allocator.the_field_send, tt)) in
    owning_send the_type all (λ d. keyless d.alloc d.at d.value)
    (λ k. quiet (to the_type) (exits_of k (fields the_type)) ((struct_send (shape the_type) all).leaving k))
