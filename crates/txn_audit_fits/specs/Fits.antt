-- Which reports a legal run explains.
use Rattle.std.specs.Prelude.{ℕ, ◌≡◌, ◌≤◌, ◌++◌, ◌∷◌, Bool, true, false, Option, Some, None, List, [], length, map, take, codes, decimal, if◌then◌else◌}
use Rattle.std.specs.List.{list_all}
use Rattle.amqp_txn_types.specs.declared.id.TransactionId.{TransactionId}
use Rattle.amqp_txn_types.specs.declared.performatives.Frame.{Frame}
use Rattle.amqp_txn_types.specs.declared.delivery.Error.{Error}
use Rattle.amqp_txn_types.specs.Frames.{is_coordinator_attach, is_plain_frame, txn}
use Rattle.amqp_txn_types.specs.Presumptive.{answered_under}
use Rattle.amqp_below_ids.specs.Ids.{AreNext}
use Rattle.amqp_resource_record.specs.declared.step.Step.{Step}
use Rattle.amqp_resource_record.specs.declared.step.Step.TheVariants as steps
use Rattle.amqp_resource_record.specs.declared.reply.Reply.{Reply}
use Rattle.amqp_resource_record.specs.declared.reply.Reply.TheVariants as replies
use Rattle.amqp_resource_record.specs.declared.entry.Entry.{Entry}
use Rattle.amqp_resource_record.specs.declared.stop.StopCode.{StopCode}
use Rattle.amqp_resource_record.specs.declared.stop.StopCode.TheVariants as stop_codes
use Rattle.amqp_resource_record.specs.Entries.{drawn_of, steps_of}
use Rattle.amqp_resource_record.specs.Hands.{hands}
use Rattle.amqp_resource_record.specs.Legal.{IsLegal}
use Rattle.amqp_resource_record.specs.Live.{is_live}
use Rattle.amqp_resource_record.specs.Work.{work}
use Rattle.txn_program_report.specs.Report.{frame_text, reply_frames, reply_text, stop_word}
use Rattle.txn_audit_report.specs.OutLines.{is_out_line}
use Rattle.txn_audit_report.specs.Stopping.{is_refusal}

-- ---- lines

-- a line of a report, without its line feed: of a frame that was given back, of one that was taken,
-- of a stop, and of how many frames of the stopping step were taken
abbrev pub out_text : Frame → List ℕ
out_text frame = codes "out " ++ frame_text frame

abbrev pub taken_text : Frame → List ℕ
taken_text frame = codes "taken " ++ frame_text frame

abbrev pub stop_text : StopCode → List ℕ
stop_text code = codes "stop " ++ stop_word code

abbrev pub handed_text : ℕ → List ℕ
handed_text handed = codes "handed " ++ decimal handed

-- the reply tells what the layer below gave back: for a plain frame, for an attach, or for the
-- frames of a commit
abbrev pub gives_back : Step → Reply → Bool
gives_back (steps.Frame frame) (replies.Frames answers) = is_plain_frame frame
gives_back step (replies.Attached link frames) = true
gives_back step (replies.Accepted (echo ∷ echoes)) = true
gives_back step reply = false

-- the lines after that of a reply: any that show a frame, where it tells what was given back; else
-- exactly those of its frames, the presumptive disposition of a post or none
abbrev pub OutsFit : Bool → List Frame → List (List ℕ) → Type 0
OutsFit true frames outs = list_all is_out_line outs ≡ true
OutsFit false frames outs = outs ≡ map out_text frames

-- the lines are those of the entries, and then these: for each entry the line of its reply, and
-- lines that may stand after it
abbrev pub Shows : List Entry → List (List ℕ) → List (List ℕ) → Type 0
Shows [] ending lines = lines ≡ ending
Shows (entry ∷ entries) ending lines =
    (outs : List (List ℕ)) × (others : List (List ℕ))
    × (lines ≡ reply_text entry.reply ∷ (outs ++ others))
    × OutsFit (gives_back entry.step entry.reply) (reply_frames entry.reply) outs
    × Shows entries ending others

-- ---- the stop

-- the code of an end without or with an error
abbrev pub local_end : Option Error → StopCode
local_end None = stop_codes.Ended
local_end (Some error) = stop_codes.EndedWithError

abbrev pub remote_end : Option Error → StopCode
remote_end None = stop_codes.RemoteEnded
remote_end (Some error) = stop_codes.RemoteEndedWithError

-- a frame under an id stops a run where the id isn't live, or where the layer below refuses the
-- presumptive disposition of a post
abbrev pub StopsUnder : Bool → List Frame → StopCode → Type 0
StopsUnder false answered code = code ≡ stop_codes.UnknownTxnId
StopsUnder true answered code = (1 ≤ length answered) × (is_refusal code ≡ true)

-- a frame, by the id that it is under, if any: a plain one stops a run where it is refused
abbrev pub StopsFrame : List Entry → Frame → Option TransactionId → StopCode → Type 0
StopsFrame entries frame None code =
    (is_coordinator_attach frame ≡ false) × (is_refusal code ≡ true)
StopsFrame entries frame (Some id) code =
    StopsUnder (is_live entries id) (answered_under id frame) code

-- the step may stop a run after the record with this code: an end with its own, and a commit with a
-- frame where the layer below runs out of memory
abbrev pub Stops : List Entry → Step → StopCode → Type 0
Stops entries (steps.Frame frame) code = StopsFrame entries frame (txn frame) code
Stops entries (steps.Control link payload) code =
    (1 ≤ length (hands entries (steps.Control link payload)))
    × (code ≡ stop_codes.BelowNoMemory)
Stops entries (steps.LinkEnd link) code = ⊥
Stops entries (steps.LocalEnd error) code = code ≡ local_end error
Stops entries (steps.RemoteEnd error) code = code ≡ remote_end error
Stops entries (steps.ConnectionStop reason) code = code ≡ stop_codes.ConnectionStopped

-- the frames that may have been taken of the step at which a run stopped: those that it hands,
-- where the layer below refused
abbrev pub stopping_hands : List Entry → List Step → StopCode → List Frame
stopping_hands entries [] code = []
stopping_hands entries (step ∷ left) code = if is_refusal code then hands entries step else []

-- the run stops after the record with this code: it is done where no step is left, else the first
-- of those that are left stops it
abbrev pub StopFits : List Entry → List Step → StopCode → Type 0
StopFits entries [] code = code ≡ stop_codes.Done
StopFits entries (step ∷ left) code = Stops entries step code

-- ---- the report

-- the lines that end a report after a record: the stop, how many frames of the stopping step were
-- taken, and all frames that were taken, the first of that step's as the last ones
abbrev pub ending_lines : List Entry → List Step → StopCode → ℕ → List (List ℕ)
ending_lines entries left code handed =
    stop_text code ∷ handed_text handed
    ∷ map taken_text (work entries ++ take handed (stopping_hands entries left code))

-- fits: there is a legal record of the first of these steps that drew the next of these ids, and
-- the lines are a report of it
pub record Fits (all : List Step) (next : ℕ → TransactionId) (report : List (List ℕ)) : Type 0 where
  pub entries : List Entry
  pub left : List Step
  pub code : StopCode
  pub handed : ℕ
  -- each reply is one that its step may be given after the entries before it (4.1 to 4.4)
  pub legal : IsLegal entries
  pub steps : all ≡ steps_of entries ++ left
  pub drawn : AreNext next 0 (drawn_of entries)
  -- the run stopped at the first of the steps that are left, if there is one
  pub stop : StopFits entries left code
  pub taken : handed ≤ length (stopping_hands entries left code)
  pub lines : Shows entries (ending_lines entries left code handed) report
