-- Why a layer that was told its answer refuses a frame.
use Rattle.std.specs.Prelude.{ℕ, ◌≡◌, ◌≤◌, ◌<◌, ◌⊎◌, Option, Some, None, List, [], ◌∷◌, vec_len, vec_capacity}
use Rattle.std.specs.declared.vec.Vec.{Vec}
use Rattle.std.specs.declared.alloc.Global.{Global}
use Rattle.amqp_txn_types.specs.declared.performatives.Frame.{Frame}
use Rattle.amqp_below_layer.specs.declared.inner_error.SessionInnerError.{SessionInnerError}
use Rattle.amqp_below_layer.specs.declared.inner_error.SessionInnerError.TheVariants as faults

-- what a call is refused with that it has no room for, by what it took
abbrev pub no_room : List (Frame × List Frame) → SessionInnerError
no_room [] = faults.NoMemory
no_room (first ∷ rest) = faults.IllegalState

-- there was no room for a frame: one call was refused before, or memory ran out
abbrev pub LackedRoom : ℕ → Vec (Frame × List Frame) Global → SessionInnerError → Type 0
LackedRoom refusals old error =
    ((1 ≤ refusals) × (error ≡ faults.NoMemory))
    ⊎ ((refusals ≡ 0) × (vec_capacity old ≤ vec_len old) × (error ≡ no_room old.items))

-- what a frame is refused with, by the refusal that was told: that, or that there was no room
abbrev pub HindersFrame : Option SessionInnerError → ℕ → Vec (Frame × List Frame) Global
    → Vec (Frame × List Frame) Global → Option SessionInnerError → Type 0
HindersFrame (Some told) refusals old new result = result ≡ Some told
HindersFrame None refusals old new None =
    (refusals ≡ 0) × (vec_len new < vec_capacity new)
HindersFrame None refusals old new (Some error) = LackedRoom refusals old error
