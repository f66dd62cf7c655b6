-- The parts of a session that clauses speak of.
use Rattle.std.specs.Prelude.{ℕ, ◌≡◌, ◌≤◌, Bool, Option, Some, None, Result, Ok, Err, List, [], cond, map}
use Rattle.std.specs.Option.{option_map}
use Rattle.amqp_below_ids.specs.Drawn.{DrawnIds}
use Rattle.amqp_resource_record.specs.declared.entry.Entry.{Entry}
use Rattle.amqp_resource_held.specs.declared.held.Held.{Held}
use Rattle.amqp_resource_record.specs.declared.reply.Reply.{Reply}
use Rattle.amqp_resource_record.specs.declared.stop.StepError.{StepError}
use Rattle.amqp_resource_record.specs.declared.stop.StopCode.{StopCode}
use Rattle.amqp_below_layer.specs.Told.{Told}
use Rattle.amqp_txn_types.specs.declared.id.TransactionId.{TransactionId}
use Rattle.amqp_resource_session.specs.declared.session.TxnSession.{TxnSession}
use Rattle.amqp_resource_record.specs.Stops.{fault_code, ended_code}
use Rattle.amqp_resource_log.specs.Live.{Kept, frame_count, kept, owed}
use Rattle.amqp_resource_record.specs.Hands.{frames_of}
use Rattle.amqp_resource_record.specs.Live.{is_live}
use Rattle.amqp_txn_types.specs.Frames.{stripped}
use Rattle.amqp_txn_types.specs.declared.performatives.Frame.{Frame}
use Rattle.amqp_txn_types.specs.declared.small.SessionState.TheVariants.{Mapped}
use Rattle.amqp_resource_record.specs.declared.stop.StepError.TheVariants as errors
use Rattle.amqp_resource_held.specs.Held.{Stands, SameHeld}
use Rattle.amqp_resource_held.specs.Changes.{Fits}
use Rattle.amqp_resource_held.specs.Views.{View, view_of_held}
use Rattle.amqp_resource_held.specs.Draws.{is_kept}

-- what a session keeps
abbrev pub held_of : {S : Type 0} → TxnSession S → Held
held_of session = session.held

-- the view of what it keeps
abbrev pub view_of : {S : Type 0} → TxnSession S → View
view_of session = view_of_held (held_of session)

-- the layer below
abbrev pub below_of : {S : Type 0} → TxnSession S → S
below_of session = session.below

-- what the layer below tells
abbrev pub told_of : {S : Type 0} → (S → Told) → TxnSession S → Told
told_of told session = told session.below

-- the code of its stop, once it has stopped
abbrev pub stop_of : {S : Type 0} → TxnSession S → Option StopCode
stop_of session = session.stop

-- how often its own calls, those of its traits, refused
abbrev pub refusals_of : {S : Type 0} → TxnSession S → ℕ
refusals_of session = session.refusals

-- how often it vetoed a review
abbrev pub vetoes_of : {S : Type 0} → TxnSession S → ℕ
vetoes_of session = session.vetoes

-- what a session tells of itself: none of the lists, its own counts, and what its layer below never
-- changes
abbrev pub own_told : {S : Type 0} → (S → Told) → TxnSession S → Told
own_told told session = record {
  taken = None;
  opened = None;
  refused = None;
  refusals = refusals_of session;
  reviews = record { vetoes = vetoes_of session; vetoed = None };
  fixed = (told (below_of session)).fixed;
}

-- the looks that its log owes, for frames that were taken
abbrev pub owed_of : {S : Type 0} → TxnSession S → ℕ
owed_of session = owed session.held.work

-- how many frames it keeps for live ids
abbrev pub frame_count_of : {S : Type 0} → TxnSession S → ℕ
frame_count_of session = frame_count session.held.work

-- how many control links it has opened
abbrev pub opened_of : {S : Type 0} → TxnSession S → ℕ
opened_of session = session.held.opened

-- what the session keeps fits together, and its log owes no more looks than it keeps frames, as in
-- a new one; each call of its own leaves it so
abbrev pub FitsTogether : {S : Type 0} → TxnSession S → Type 0
FitsTogether session = Fits (held_of session) × (owed_of session ≤ frame_count_of session)

-- the id is live on the session
abbrev pub is_live_on : {S : Type 0} → TxnSession S → TransactionId → Bool
is_live_on session id = is_kept session.held.work id

-- the frames that are kept for an id on the session, each without its transactional state; none
-- where it isn't live
abbrev pub bare_frames_on : {S : Type 0} → TxnSession S → TransactionId → Option (List Frame)
bare_frames_on session id =
    option_map (λ (one : Kept). map stripped one.1) (kept session.held.work id)

-- pending: the frames that a commit of the id would hand, those that came under it since its last
-- declare, each without its transactional state; none where it isn't live (4.4, Transactional Work)
abbrev pub pending : List Entry → TransactionId → Option (List Frame)
pending entries id = cond (is_live entries id) (Some (map stripped (frames_of entries id))) None

-- a session stands for a record: the record is legal, and the session's live ids with their frames
-- and holders, and its links, are those of the record
abbrev pub StandsFor : {S : Type 0} → TxnSession S → List Entry → Type 0
StandsFor session entries = Stands (held_of session) entries

-- a session is as it was: its live ids with their links and frames, its open links, how many were
-- opened so far, the layer below and the stop
pub record SameSession {S : Type 0} (old new : TxnSession S) : Type 0 where
  pub held : SameHeld (held_of old) (held_of new)
  pub below : below_of new ≡ below_of old
  pub stop : stop_of new ≡ stop_of old

-- a fresh session: no live id, no link opened so far, no look owed, not stopped, and mapped below
pub record IsFresh {S : Type 0} (told : S → Told) (session : TxnSession S) : Type 0 where
  pub stands : StandsFor session []
  pub owed : owed_of session ≡ 0
  pub runs : stop_of session ≡ None
  pub mapped : (told (below_of session)).fixed.state ≡ Mapped

-- the code that is kept after an answer
abbrev pub StopAfter : Result (DrawnIds × Reply) StepError → Option StopCode → Type 0
StopAfter (Ok out) stop = stop ≡ None
StopAfter (Err (errors.Fault error handed)) stop = stop ≡ Some (fault_code error)
StopAfter (Err (errors.Ended reason)) stop = stop ≡ Some (ended_code reason)
StopAfter (Err (errors.Stopped code)) stop = stop ≡ Some code
StopAfter (Err errors.NoMemory) stop = stop ≡ None

-- a fact of each record that a session stands for which hasn't stopped
abbrev pub ForEachRecord : {S : Type 0} → TxnSession S → (List Entry → Type 0) → Type 0
ForEachRecord session P =
    stop_of session ≡ None → (entries : List Entry) → StandsFor session entries → P entries
