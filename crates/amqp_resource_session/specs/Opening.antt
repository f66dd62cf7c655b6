-- What the attach of a control link does to what a session keeps.
use Rattle.std.specs.Prelude.{ℕ, ◌≡◌, ◌+◌, ◌==◌, cond, Some, Result, Ok, Err, List, []}
use Rattle.amqp_txn_types.specs.declared.performatives.Attach.{Attach}
use Rattle.amqp_txn_types.specs.declared.performatives.Frame.{Frame}
use Rattle.amqp_resource_held.specs.declared.held.Held.{Held}
use Rattle.amqp_below_layer.specs.declared.inner_error.SessionInnerError.{SessionInnerError}
use Rattle.amqp_below_layer.specs.Told.{Told}
use Rattle.amqp_below_layer.specs.Inner.{Opened}
use Rattle.amqp_resource_session.specs.declared.frame_steps.LinkOpening.{LinkOpening}
use Rattle.amqp_resource_session.specs.declared.frame_steps.LinkOpening.TheVariants as openings
use Rattle.amqp_resource_held.specs.Held.{SameHeld, ids_on}
use Rattle.amqp_resource_held.specs.Views.{SameLive, view_of_held}

-- the frames given back for a link that was opened
abbrev pub frames_of : {E : Type 0} → Result (ℕ × List Frame) E → Result (List Frame) E
frames_of (Ok link) = Ok link.1
frames_of (Err error) = Err error

-- one more link is open, of the next number and without ids; what is kept for each id stays
pub record AddsLink (old new : Held) (link : ℕ) : Type 0 where
  pub number : link ≡ old.opened
  pub live : SameLive (view_of_held old) (view_of_held new)
  pub links : (k : ℕ) → ids_on new.links.entries k ≡ cond (old.opened == k) (Some [])
      (ids_on old.links.entries k)
  pub opened : new.opened ≡ old.opened + 1

-- the layer below took the attach and a link was opened, or it refused and all that is kept stays
abbrev pub OpensLink : {S : Type 0} → (S → Told)
    → (S → S → Attach → Result (List Frame) SessionInnerError → Type 0)
    → Held → Held → S → S → Attach → Result (ℕ × List Frame) SessionInnerError → Type 0
OpensLink told opens old new old_below new_below attach (Ok link) =
    AddsLink old new link.0 × Opened told opens old_below new_below attach (Ok link.1)
OpensLink told opens old new old_below new_below attach (Err error) =
    SameHeld old new × Opened told opens old_below new_below attach (Err error)

-- the same, or there was no room for the link, and nothing changes
abbrev pub OpensBy : {S : Type 0} → (S → Told)
    → (S → S → Attach → Result (List Frame) SessionInnerError → Type 0)
    → Held → Held → S → S → Attach → LinkOpening → Type 0
OpensBy told opens old new old_below new_below attach (openings.Opened link given) =
    OpensLink told opens old new old_below new_below attach (Ok (link, given))
OpensBy told opens old new old_below new_below attach (openings.Refused error) =
    OpensLink told opens old new old_below new_below attach (Err error)
OpensBy told opens old new old_below new_below attach openings.NoMemory =
    SameHeld old new × (new_below ≡ old_below)
