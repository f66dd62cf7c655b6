-- Frames that a line of a report can show.
use Rattle.std.specs.Prelude.{ℕ, ◌≡◌, ◌≤◌, true, IfSome, length}
use Rattle.hex.specs.Hex.{IsBytes}
use Rattle.amqp_txn_types.specs.declared.id.TransactionId.{TransactionId}
use Rattle.amqp_txn_types.specs.declared.small.Handle.{Handle}
use Rattle.amqp_txn_types.specs.declared.delivery.DeliveryState.{DeliveryState}
use Rattle.amqp_txn_types.specs.declared.delivery.DeliveryState.TheVariants as states
use Rattle.amqp_txn_types.specs.declared.performatives.Frame.{Frame}
use Rattle.amqp_txn_types.specs.declared.performatives.Frame.TheVariants as frames
use Rattle.txn_program_lines.specs.LineWords.{is_name}

-- a number of 32 bits
abbrev pub IsShort : ℕ → Type 0
IsShort number = number ≤ 4294967295

-- an id of at most 32 octets
abbrev pub IsId : TransactionId → Type 0
IsId id = (length id ≤ 32) × IsBytes id

-- a state whose ids are ids
abbrev pub IsState : DeliveryState → Type 0
IsState (states.Declared declared) = IsId declared.txn_id
IsState (states.TransactionalState under) = IsId under.txn_id
IsState _ = Unit {0}

-- numbers, ids and octets are within their types, as those of each frame that a program holds are
abbrev pub IsWithinTypes : Frame → Type 0
IsWithinTypes (frames.Attach attach) = IsShort attach.handle.0
IsWithinTypes (frames.Flow flow) =
    IfSome flow.handle (λ (handle : Handle). IsShort handle.0) × IfSome flow.link_credit IsShort
IsWithinTypes (frames.Transfer transfer payload) =
    IsShort transfer.handle.0 × IfSome transfer.delivery_id IsShort
    × IfSome transfer.state IsState × IsBytes payload
IsWithinTypes (frames.Disposition disposition) =
    IsShort disposition.first × IfSome disposition.last IsShort × IfSome disposition.state IsState
IsWithinTypes (frames.Detach detach) = IsShort detach.handle.0

-- an attach has a name that a line can spell
abbrev pub IsSpellable : Frame → Type 0
IsSpellable (frames.Attach attach) = is_name attach.name ≡ true
IsSpellable _ = Unit {0}

-- a line can show the frame
abbrev pub CanBeShown : Frame → Type 0
CanBeShown frame = IsWithinTypes frame × IsSpellable frame
