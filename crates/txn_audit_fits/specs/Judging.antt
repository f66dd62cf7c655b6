-- What the parts of an audit say of one line, or of some.
use Rattle.std.specs.Prelude.{ℕ, ◌≡◌, ◌==◌, ◌+◌, ◌++◌, ◌∷◌, true, false, cond, Option, Some, None, List, [], map, if◌then◌else◌}
use Rattle.std.specs.Str.{bytes_eq}
use Rattle.amqp_txn_types.specs.declared.id.TransactionId.{TransactionId}
use Rattle.amqp_txn_types.specs.declared.performatives.Frame.{Frame}
use Rattle.amqp_below_ids.specs.Drawn.{DrawnIds}
use Rattle.amqp_below_ids.specs.Ids.{AreNext, Drew}
use Rattle.amqp_resource_record.specs.declared.step.Step.{Step}
use Rattle.amqp_resource_record.specs.declared.reply.Reply.{Reply}
use Rattle.amqp_resource_record.specs.declared.entry.Entry.{Entry}
use Rattle.amqp_resource_record.specs.Answers.{Answer}
use Rattle.amqp_resource_record.specs.Work.{handed_by}
use Rattle.amqp_txn_types.specs.Frames.{stripped}
use Rattle.amqp_txn_codec.specs.Reading.{message_of}
use Rattle.amqp_txn_codec.specs.declared.message.ControlMessageBody.TheVariants as messages
use Rattle.amqp_txn_codec.specs.declared.message.Discharge.{Discharge}
use Rattle.amqp_resource_log.specs.Live.{frames_kept, kept}
use Rattle.amqp_resource_held.specs.declared.held.Held.{Held}
use Rattle.amqp_resource_held.specs.Changes.{Ended}
use Rattle.amqp_resource_held.specs.Held.{Stands, ids_on, is_in}
use Rattle.txn_program_report.specs.Report.{reply_frames, reply_text}
use Rattle.txn_audit_fits.specs.declared.outs.Outs.{Outs}
use Rattle.txn_audit_fits.specs.declared.outs.Outs.TheVariants as outs
use Rattle.txn_audit_fits.specs.Fits.{gives_back}

-- a step with its draws and reply
abbrev pub entry_of : Step → DrawnIds → Reply → Entry
entry_of step drawn reply = record { step = step; drawn = drawn; reply = reply }

-- the lines that may stand after that of a reply are these
abbrev pub OutsAre : Outs → Step → Reply → Type 0
OutsAre outs.Any step reply = gives_back step reply ≡ true
OutsAre outs.Nothing step reply = (gives_back step reply ≡ false) × (reply_frames reply ≡ [])
OutsAre (outs.One frame) step reply =
    (gives_back step reply ≡ false) × (reply_frames reply ≡ frame ∷ [])

-- after the record the step may be given the reply, having drawn the next ids, and the line is
-- that of the reply
pub record Tells (before : List Entry) (step : Step) (ids : ℕ → TransactionId) (text : List ℕ)
    (drawn : DrawnIds) (reply : Reply) : Type 0 where
  pub answer : Answer before step drawn.ids reply
  pub next : AreNext ids 0 drawn.ids
  pub line : reply_text reply ≡ text

-- what is kept stands for the record with this entry, and so has what was handed grown
pub record Follows (before : List Entry) (new : Held) (was now : List Frame)
    (next later : ℕ → TransactionId) (step : Step) (after : Outs) (drawn : DrawnIds) (reply : Reply)
    : Type 0 where
  pub stands : Stands new (before ++ entry_of step drawn reply ∷ [])
  pub drew : Drew next later drawn.ids
  pub outs : OutsAre after step reply
  pub work : now ≡ was ++ handed_by before step reply

-- by the record that is stood for: some reply has this line, and each that has it is followed
pub record Accepts (before : List Entry) (new : Held) (was now : List Frame)
    (next later : ℕ → TransactionId) (step : Step) (line : List ℕ) (outs : Outs) : Type 0 where
  pub drawn : DrawnIds
  pub reply : Reply
  pub tells : Tells before step next line drawn reply
  pub each : (drawn : DrawnIds) (reply : Reply) → Tells before step next line drawn reply →
      Follows before new was now next later step outs drawn reply

-- a line was judged as that of a reply to the step: it is one of a reply that the step may be given
-- after each record that what is kept stands for, or of none
abbrev pub Judges : Held → Held → List Frame → List Frame → (ℕ → TransactionId)
    → (ℕ → TransactionId) → Step → List ℕ → Option Outs → Type 0
Judges old new was now next later step line None =
    (before : List Entry) → Stands old before → (drawn : DrawnIds) (reply : Reply) →
    Tells before step next line drawn reply → ⊥
Judges old new was now next later step line (Some outs) =
    (before : List Entry) → Stands old before → Accepts before new was now next later step line outs

-- a line that was judged without a draw, and whose reply hands nothing
abbrev pub JudgesHere : Held → Held → Step → List ℕ → Option Outs → Type 0
JudgesHere old new step line outs =
    (work : List Frame) (next : ℕ → TransactionId) →
    Judges old new work work next next step line outs

-- a line that was judged without a draw
abbrev pub JudgesWork : Held → Held → List Frame → List Frame → Step → List ℕ → Option Outs
    → Type 0
JudgesWork old new was now step line outs =
    (next : ℕ → TransactionId) → Judges old new was now next next step line outs

-- the payload is the message of this discharge, and its link is open
pub record IsDischarge (held : Held) (link : ℕ) (payload : List ℕ) (discharge : Discharge)
    : Type 0 where
  pub message : message_of payload ≡ Some (messages.Discharge discharge)
  pub opened : is_in held.links.entries link ≡ true

-- no lines, where the line is this one
abbrev pub nothing_after : List ℕ → List ℕ → Option Outs
nothing_after line wanted = if bytes_eq line wanted then Some outs.Nothing else None

-- the lines are those of these frames, of which there is one or none
abbrev pub OutsTell : Outs → List Frame → Type 0
OutsTell outs.Any frames = ⊥
OutsTell outs.Nothing frames = frames ≡ []
OutsTell (outs.One frame) frames = frames ≡ frame ∷ []

-- the next link was opened, with nothing declared on it
pub record Opens (old new : Held) : Type 0 where
  pub work : new.work ≡ old.work
  pub links : (k : ℕ) → ids_on new.links.entries k
      ≡ cond (old.opened == k) (Some []) (ids_on old.links.entries k)
  pub opened : new.opened ≡ old.opened + 1

-- the id ended, and its frames, each stripped, were put at the end of what was handed
pub record Takes (old new : Held) (was now : List Frame) (id : TransactionId) : Type 0 where
  pub ended : Ended old new id
  pub work : now ≡ was ++ map stripped (frames_kept (kept old.work id))

-- the lines after an accepted commit of so many frames
abbrev pub outs_of_count : ℕ → Outs
outs_of_count count = if count == 0 then outs.Nothing else outs.Any
