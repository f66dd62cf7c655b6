-- What a slot owns and shows names no key of a thread, where its value names none.
use mir.Raw.{raw}
use base.Shift.{Keyless}
use denote.RattleType.{RattleType}
use denote.Memory.{lone}
use denote.RawPtr.{Ptr, block_ptr, null_ptr}
use denote.Builtin.{RawPtr}
use denote.Struct.Struct.{exits_of}
use denote.Struct.Owning.{shape, fields, to}
use denote.Param.Send.{IsSend, IsSync, Common, AllSend, owning_send, struct_send, struct_sync, sendable}
use Rattle.std.specs.Prelude.{Option, None, Some}
use Rattle.std_alloc.proofs.SendSync.{lies, seen, quiet}
use Rattle.std.proofs.Crossing.{frees}
use Rattle.thin.specs.Slot.{held, shown}
use Rattle.thin.specs.contracts.slot.Slot.{the_row, the_type}

pointer_send : IsSend RawPtr
pointer_send = search sendable

pointer_sync : IsSync RawPtr
pointer_sync = search sendable

held_keyless : (T : RattleType) → IsSend T → (p : Ptr) (v : Option T.Denot) → Keyless (held T p v)
held_keyless T s null_ptr None = tt
held_keyless T s null_ptr (Some x) = tt
held_keyless T s (block_ptr b o) None = tt
held_keyless T s (block_ptr b o) (Some x) = ((λ _. tt), (lies T s (block_ptr b o) x, frees.frees (record { memory = record { seal = tt } }) (raw (lone T.mir)) (block_ptr b o)))

shown_common : (T : RattleType) → IsSync T → (p : Ptr) (v : Option T.Denot) → Common (shown T p v)
shown_common T s null_ptr None κ = tt
shown_common T s null_ptr (Some x) κ = tt
shown_common T s (block_ptr b o) None κ = tt
shown_common T s (block_ptr b o) (Some x) κ = ((λ _. tt), seen T s (block_ptr b o) x κ)

pub slot_send : (T : RattleType) → IsSend T → IsSend (the_row T)
slot_send T s =
    let O = the_type T in let all : AllSend (fields O) = (pointer_send, tt) in
    owning_send O all (λ d. held_keyless T s d.at d.value) (λ k. quiet (to O) (exits_of k (fields O)) ((struct_send (shape O) all).leaving k))

pub slot_sync : (T : RattleType) → IsSync T → IsSync (the_row T)
slot_sync T s = record { shared = λ d b o κ. ((struct_sync (shape (the_type T)) (pointer_sync, tt)).shared (to (the_type T) d) b o κ, shown_common T s d.at d.value κ) }
