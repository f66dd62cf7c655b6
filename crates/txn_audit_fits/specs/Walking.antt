-- A report that is explained line by line, from a record on.
use Rattle.std.specs.Prelude.{ℕ, ◌≡◌, ◌+◌, ◌++◌, ◌∷◌, ◌⊎◌, Bool, false, not, List, [], length}
use Rattle.amqp_txn_types.specs.declared.id.TransactionId.{TransactionId}
use Rattle.amqp_txn_types.specs.declared.performatives.Frame.{Frame}
use Rattle.amqp_below_ids.specs.Drawn.{DrawnIds}
use Rattle.amqp_below_ids.specs.Ids.{AreNext}
use Rattle.amqp_resource_record.specs.declared.step.Step.{Step}
use Rattle.amqp_resource_record.specs.declared.reply.Reply.{Reply}
use Rattle.amqp_resource_record.specs.declared.entry.Entry.{Entry}
use Rattle.amqp_resource_record.specs.Answers.{Answer}
use Rattle.amqp_resource_record.specs.Work.{work}
use Rattle.amqp_resource_held.specs.declared.held.Held.{Held}
use Rattle.amqp_resource_held.specs.Held.{Stands}
use Rattle.txn_program_lines.specs.Cutting.{lines_of}
use Rattle.txn_program_report.specs.Report.{reply_frames, reply_text}
use Rattle.txn_audit_report.specs.OutLines.{is_stop_line}
use Rattle.txn_audit_fits.specs.declared.judged_lines.Judged.{Judged}
use Rattle.txn_audit_fits.specs.declared.judged_lines.Judged.TheVariants as judged
use Rattle.txn_audit_fits.specs.Fits.{Fits, OutsFit, gives_back}
use Rattle.txn_audit_fits.specs.Explaining.{DepartsAt, EndsHere}
use Rattle.txn_audit_fits.specs.Judging.{entry_of}
use Rattle.txn_audit_fits.specs.Passing.{shows_first}

-- the ids after some
abbrev pub ids_after : (ℕ → TransactionId) → List TransactionId → ℕ → TransactionId
ids_after next drawn n = next (length drawn + n)

-- the lines from here on are of a run that goes on after the record with these steps and ids: all
-- of them, or those so far
abbrev pub After : Bool → List Entry → List Step → (ℕ → TransactionId) → List (List ℕ) → Type 0
After all before [] next lines = EndsHere all before [] lines
After all before (step ∷ left) next lines =
    EndsHere all before (step ∷ left) lines
    ⊎ ((drawn : DrawnIds) × (reply : Reply) × (outs : List (List ℕ)) × (others : List (List ℕ))
    × Answer before step drawn.ids reply × AreNext next 0 drawn.ids
    × (lines ≡ reply_text reply ∷ (outs ++ others))
    × OutsFit (gives_back step reply) (reply_frames reply) outs
    × After all (before ++ entry_of step drawn reply ∷ []) left (ids_after next drawn.ids) others)

-- there is a line, and it isn't that of a stop
abbrev pub goes_on : List (List ℕ) → Bool
goes_on [] = false
goes_on (line ∷ lines) = not (is_stop_line line)

-- a record with an entry for which what is kept stands, with the frames that were handed
abbrev pub StandsWith : Held → List Frame → List Entry → Type 0
StandsWith held handed before = Stands held before × (handed ≡ work before)

-- others may stand in place of the rest: they show no frame first where it doesn't
abbrev pub MayStandFor : List (List ℕ) → List (List ℕ) → Type 0
MayStandFor rest others = shows_first rest ≡ false → shows_first others ≡ false

-- the first lines are of the step: what explains the lines after them, which may be others than the
-- rest, after the step's entry explains all, and what explains all does so with an entry after which
-- it explains those lines
pub record Explains (new : Held) (now : List Frame) (before : List Entry) (step : Step)
    (next later : ℕ → TransactionId) (first rest : List (List ℕ)) : Type 0 where
  pub some : (entry : Entry) × StandsWith new now (before ++ entry ∷ [])
      × ((all : Bool) (left : List Step) (others : List (List ℕ)) →
      After all (before ++ entry ∷ []) left later others →
      After all before (step ∷ left) next (first ++ others))
  pub each : (all : Bool) (left : List Step) (others : List (List ℕ)) → MayStandFor rest others →
      After all before (step ∷ left) next (first ++ others) →
      (entry : Entry) × StandsWith new now (before ++ entry ∷ [])
      × After all (before ++ entry ∷ []) left later others

-- the lines are some of the step, one at least, and the rest
pub record Walks (old new : Held) (was now : List Frame) (next later : ℕ → TransactionId)
    (step : Step) (lines rest : List (List ℕ)) : Type 0 where
  pub line : List ℕ
  pub outs : List (List ℕ)
  pub parts : lines ≡ (line ∷ outs) ++ rest
  pub explains : (before : List Entry) → StandsWith old was before →
      Explains new now before step next later (line ∷ outs) rest

-- the lines of a step were judged up to the rest, or up to what isn't explained
abbrev pub JudgesStep : Held → Held → List Frame → List Frame → (ℕ → TransactionId)
    → (ℕ → TransactionId) → Step → List (List ℕ) → Judged → Type 0
JudgesStep old new was now next later step lines (judged.Explained rest) =
    Walks old new was now next later step lines (lines_of rest.now)
JudgesStep old new was now next later step lines (judged.Departs rest) =
    (before : List Entry) → StandsWith old was before → (left : List Step) →
    DepartsAt (λ all said. After all before (step ∷ left) next said) lines (lines_of rest.now)

-- the lines are a report, or were judged up to what isn't explained
abbrev pub JudgesAll : List Step → (ℕ → TransactionId) → List (List ℕ) → Judged → Type 0
JudgesAll steps next lines (judged.Explained rest) = Fits steps next lines
JudgesAll steps next lines (judged.Departs rest) =
    DepartsAt (λ all said. After all [] steps next said) lines (lines_of rest.now)
