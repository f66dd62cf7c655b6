-- A run of which a report is written.
use Rattle.std.specs.Prelude.{ℕ, ◌≡◌, ◌≤◌, ◌++◌, List, length, map, take}
use Rattle.std.specs.List.{All, flat_map}
use Rattle.amqp_txn_types.specs.declared.id.TransactionId.{TransactionId}
use Rattle.amqp_txn_types.specs.declared.performatives.Frame.{Frame}
use Rattle.amqp_below_ids.specs.Ids.{AreNext}
use Rattle.amqp_resource_record.specs.declared.entry.Entry.{Entry}
use Rattle.amqp_resource_record.specs.declared.step.Step.{Step}
use Rattle.amqp_resource_record.specs.declared.stop.Driven.{Driven}
use Rattle.amqp_resource_record.specs.Entries.{drawn_of, steps_of}
use Rattle.amqp_resource_record.specs.Legal.{IsLegal}
use Rattle.amqp_resource_record.specs.Stops.{code_of}
use Rattle.amqp_resource_record.specs.Work.{work}
use Rattle.txn_program_report.specs.Report.{reply_frames}
use Rattle.txn_audit_fits.specs.Fits.{StopFits, stopping_hands}
use Rattle.txn_audit_law.specs.Shown.{CanBeShown}

-- the frames that were taken, each with what was given back for it
abbrev pub frames_taken : List (Frame × List Frame) → List Frame
frames_taken taken = map (λ (exchange : Frame × List Frame). exchange.0) taken

-- the frames that the replies hold
abbrev pub frames_given : List Entry → List Frame
frames_given entries = flat_map (λ (entry : Entry). reply_frames entry.reply) entries

-- each frame that a report of the run shows can be shown
pub record AllShown (driven : Driven) (exchanges : List (Frame × List Frame)) : Type 0 where
  pub given : All CanBeShown (frames_given driven.entries)
  pub taken : All CanBeShown (frames_taken exchanges)

-- a run of the steps that drew the next ids: its record is a legal one of the first of the steps, it
-- is done or the next step stopped it, and the layer below took what the record hands and the first
-- frames of the step that it refused
pub record IsReported (all : List Step) (next : ℕ → TransactionId) (driven : Driven)
    (exchanges : List (Frame × List Frame)) : Type 0 where
  pub left : List Step
  pub legal : IsLegal driven.entries
  pub steps : all ≡ steps_of driven.entries ++ left
  pub drawn : AreNext next 0 (drawn_of driven.entries)
  pub stop : StopFits driven.entries left (code_of driven.stop)
  pub handed : driven.handed ≤ length (stopping_hands driven.entries left (code_of driven.stop))
  pub taken : frames_taken exchanges ≡ work driven.entries
      ++ take driven.handed (stopping_hands driven.entries left (code_of driven.stop))
