-- The looks that a change makes.
use Rattle.std.proofs.Common.{Result, Ok, Err, refl, ◌≡◌, ◌≤◌, ◌<◌, ◌+◌, ℕ, Bool, true, false, cond, Option, Some, None, List, [], ◌∷◌, length, take, arith, sym, ap, ◌∙◌, add-zero}
use Rattle.std.specs.Prelude.{get_or, is_some}
use Rattle.std.specs.List.{sum_by}
use Rattle.std.proofs.lemmas.List.{take_more}
use Rattle.std.proofs.lemmas.List.Sums.{sum_by-append, sum_by-cons}
use Rattle.amqp_txn_codec.specs.declared.message.Discharge.{Discharge}
use Rattle.amqp_txn_types.specs.declared.performatives.Frame.{Frame}
use Rattle.amqp_resource_held.specs.declared.held.Held.{Held}
use Rattle.amqp_resource_log.specs.Live.{Live, frame_count, frames_kept, kept, owed, Kept}
use Rattle.amqp_resource_record.specs.declared.step.Step.{Step}
use Rattle.amqp_txn_types.specs.declared.id.TransactionId.{TransactionId}
use Rattle.amqp_txn_codec.specs.Reading.{message_of}
use Rattle.amqp_txn_types.specs.Frames.{txn}
use Rattle.amqp_txn_codec.specs.declared.message.ControlMessageBody.TheVariants as messages
use Rattle.amqp_resource_record.specs.declared.step.Step.TheVariants as steps
use Rattle.amqp_resource_record.specs.declared.stop.StepError.{StepError}
use Rattle.amqp_resource_record.specs.declared.stop.StepError.TheVariants as errors
use Rattle.std.specs.Map.{keys_of, lookup}
use Rattle.std.specs.Option.{option_map}
use Rattle.amqp_txn_types.specs.Ids.{same_id}
use Rattle.amqp_resource_log.specs.Cells.{frames_of}
use Rattle.amqp_resource_record.proofs.Ids.{same_id-refl}
use Rattle.amqp_resource_held.specs.Held.{is_in, is_kept_on}
use Rattle.amqp_resource_held.specs.Looks.{Adds, Pays, dues, frames_added, frames_ended, frames_on, message_ends, unless_no_memory}

-- what makes no look pays for anything
pub pays_none : (work : Live) (looks ended added : ℕ) → Pays work work looks looks ended added
pays_none work looks ended added = record { ended = omega arith; all = omega arith }

pub pays_adds : (old new : Live) (looks ended added : ℕ) → Adds old new added → Pays old new looks looks ended added
pays_adds old new looks ended added x = record { ended = omega (arith, x.owed); all = omega (arith, x.owed, x.frames) }

-- frames taken out, so many of an id
pub pays_taken : (old new : Live) (looks now n : ℕ) → now ≡ looks + n → owed new ≡ owed old + n → frame_count new + n ≡ frame_count old → Pays old new looks now n 0
pays_taken old new looks now n l o f = record { ended = omega (arith, l, o); all = omega (arith, l, o, f) }

-- the log compacted after
pub pays_compacted : (old mid new : Live) (looks then now ended added : ℕ) → Pays old mid looks then ended added → frame_count new ≡ frame_count mid → now + owed new ≤ then + owed mid → Pays old new looks now ended added
pays_compacted old mid new looks then now ended added x f l = record { ended = omega (arith, x.ended, l); all = omega (arith, x.all, l, f) }

pub adds_weaker : (old new : Live) (more : ℕ) → Adds old new 0 → Adds old new more
adds_weaker old new more x = record { owed = x.owed; kept = x.kept; frames = omega (arith, x.frames) }

-- ---- the ids of a link

pub fewer : (b : Bool) (o : Option Kept) → length (frames_kept (cond b None o)) ≤ length (frames_kept o)
fewer true o = omega arith
fewer false o = omega arith

pub summed_more : (f : TransactionId → ℕ) (ids : List TransactionId) (i : ℕ) (id : TransactionId) → i < length ids → id ≡ get_or ids i id → sum_by f (take (i + 1) ids) ≡ sum_by f (take i ids) + f id
summed_more f ids i id l e =
    ap (sum_by f) (take_more ids i id l) ∙ sum_by-append f (take i ids) (get_or ids i id ∷ [])
    ∙ ap (λ n. sum_by f (take i ids) + n) (sum_by-cons f (get_or ids i id) [] ∙ add-zero (f (get_or ids i id)) ∙ ap f (sym e))

-- ---- what a step ends

pub ends_discharged : (h : Held) (k : ℕ) (payload : List ℕ) (discharge : Discharge) → message_of payload ≡ Some (messages.Discharge discharge) → is_in h.links.entries k ≡ true → is_kept_on k (kept h.work discharge.txn_id) ≡ true → length (frames_kept (kept h.work discharge.txn_id)) ≡ frames_ended h (steps.Control k payload)
ends_discharged h k payload discharge m o on =
    sym (ap (λ b. cond b (message_ends h k (message_of payload)) 0) o ∙ ap (message_ends h k) m
    ∙ ap (λ b. cond b (length (frames_kept (kept h.work discharge.txn_id))) 0) on)

pub ends_closed : (h : Held) (k : ℕ) (payload : List ℕ) → message_of payload ≡ None → is_in h.links.entries k ≡ true → frames_on h k ≡ frames_ended h (steps.Control k payload)
ends_closed h k payload m o = sym (ap (λ b. cond b (message_ends h k (message_of payload)) 0) o ∙ ap (message_ends h k) m)

pub adds_post : (frame : Frame) (id : TransactionId) → txn frame ≡ Some id → 1 ≡ frames_added (steps.Frame frame)
adds_post frame id e = sym (ap (λ o. cond (is_some o) 1 0) e)

-- no more than that ended
pub at_most : {T : Type 0} (result : Result T StepError) (n : ℕ) → unless_no_memory result n ≤ n
at_most (Ok out) n = omega arith
at_most (Err (errors.Fault error handed)) n = omega arith
at_most (Err (errors.Ended reason)) n = omega arith
at_most (Err (errors.Stopped code)) n = omega arith
at_most (Err errors.NoMemory) n = omega arith

-- a step, whether or not its frame is among the entries: a frame ends none, and any other adds none
pub step_spends : {T : Type 0} (h : Held) (s : Step) (result : Result T StepError) (old new : Live) (looks now : ℕ) → Pays old new looks now (unless_no_memory result (frames_ended h s)) (frames_added s) → now ≤ looks + dues old
step_spends h (steps.Frame frame) result old new looks now x = omega (arith, x.ended, at_most result 0)
step_spends h (steps.Control k payload) result old new looks now x = omega (arith, x.all)
step_spends h (steps.LinkEnd k) result old new looks now x = omega (arith, x.all)
step_spends h (steps.LocalEnd error) result old new looks now x = omega (arith, x.all)
step_spends h (steps.RemoteEnd error) result old new looks now x = omega (arith, x.all)
step_spends h (steps.ConnectionStop reason) result old new looks now x = omega (arith, x.all)

-- ---- nothing kept

-- where no id is live no frame is kept
pub none_counted : (work : Live) → ((t : TransactionId) → kept work t ≡ None) → frame_count work ≡ 0
none_counted work none = by_homes work.homes refl
  where
    by_homes : (homes : List (TransactionId × Option ℕ)) → work.homes ≡ homes → frame_count work ≡ 0
    by_homes [] e = ap (λ hs. sum_by (λ t. length (frames_of work t)) (keys_of hs)) e
    by_homes (h ∷ hs) e =
        let here : lookup (same_id h.0) work.homes ≡ Some h.1 =
        ap (lookup (same_id h.0)) e ∙ ap (λ b. cond b (Some h.1) (lookup (same_id h.0) hs)) (same_id-refl h.0) in
        let kept_here : kept work h.0 ≡ Some (h.1, frames_of work h.0) = ap (option_map (λ home. (home, frames_of work h.0))) here in
        cc (none h.0, kept_here)
