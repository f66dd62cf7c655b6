-- The calls that an engine makes on its session: what each does to what is told and kept, and what
-- the session itself says of it.
use Rattle.std.specs.Prelude.{◌≡◌, ◌⊎◌, Bool, true, Option, Result, Ok, Err}
use Rattle.amqp_txn_types.specs.declared.small.SessionState.{SessionState}
use Rattle.amqp_below_layer.specs.declared.inner_error.SessionInnerError.{SessionInnerError}
use Rattle.amqp_below_layer.specs.declared.inner_error.SessionInnerError.TheVariants as faults
use Rattle.amqp_below_layer.specs.Told.{Checks, Told}
use Rattle.amqp_below_sessions.specs.Names.{Names}
use Rattle.amqp_below_sessions.specs.Sessions.{Kept, Leaves, Moves}
use Rattle.amqp_engine_events.specs.Turns.{Unasked}

-- a call that begins or ends a session
pub record Moved {S T E : Type 0} (told : S → Told) (kept : S → Kept) (names : S → Names)
    (state : Option SessionState) (Gives : Result T E → Type 0)
    (old new : S) (answer : Result T E) : Type 0 where
  pub moves : Moves state (told old) (told new) answer
  pub leaves : Leaves (kept old) (kept new) (names old) (names new)
  pub gives : Gives answer

-- a call that only checks
pub record Checked {S T E : Type 0} (told : S → Told) (kept : S → Kept) (names : S → Names)
    (Gives : Result T E → Type 0) (old new : S) (answer : Result T E) : Type 0 where
  pub checks : Checks (told old) (told new) answer
  pub leaves : Leaves (kept old) (kept new) (names old) (names new)
  pub gives : Gives answer

-- the session was asked: a refusal is the answer, and what follows an Ok gives the answer else
abbrev pub Then : {S T : Type 0} → (S → Result Unit SessionInnerError → Type 0)
    → (S → Result T SessionInnerError → Type 0) → S → Result T SessionInnerError → Type 0
Then {S} Asked Rest new (Ok answer) =
    (between : S) × Asked between (Ok tt) × Rest between (Ok answer)
Then {S} Asked Rest new (Err fault) =
    Asked new (Err fault)
    ⊎ ((between : S) × Asked between (Ok tt) × Rest between (Err fault))

-- the call was made, or there was no memory for it and the session wasn't asked
abbrev pub OrNoMemory :
    {S T : Type 0} → S → S → Type 0 → Result T SessionInnerError → Type 0
OrNoMemory old new Made result = Made ⊎ Unasked old new (Err faults.NoMemory) result

-- the call was made, or, where something is copied first, there was no memory for the copy
abbrev pub OrNoCopy :
    {S T : Type 0} → Bool → S → S → Type 0 → Result T SessionInnerError → Type 0
OrNoCopy copies old new Made result =
    Made ⊎ ((copies ≡ true) × Unasked old new (Err faults.NoMemory) result)
