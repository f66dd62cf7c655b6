-- What the parts of an audit say of the lines that end a report.
use Rattle.std.specs.Prelude.{ℕ, ◌≡◌, ◌≤◌, ◌++◌, ◌∷◌, ◌↔◌, ◌+◌, Bool, true, false, Option, Some, None, List, length, map, take, IsTrue}
use Rattle.amqp_txn_types.specs.declared.performatives.Frame.{Frame}
use Rattle.amqp_resource_record.specs.declared.step.Step.{Step}
use Rattle.amqp_resource_record.specs.declared.entry.Entry.{Entry}
use Rattle.amqp_resource_record.specs.declared.stop.StopCode.{StopCode}
use Rattle.amqp_txn_types.specs.declared.id.TransactionId.{TransactionId}
use Rattle.amqp_resource_record.specs.declared.step.Step.TheVariants as steps
use Rattle.amqp_resource_record.specs.Hands.{commits, hands}
use Rattle.amqp_resource_log.specs.Live.{kept}
use Rattle.amqp_resource_record.specs.Work.{work}
use Rattle.amqp_resource_held.specs.declared.held.Held.{Held}
use Rattle.amqp_resource_held.specs.Held.{Stands, is_kept_on}
use Rattle.txn_audit_fits.specs.Fits.{StopFits, Stops, ending_lines, handed_text, stop_text, stopping_hands, taken_text}

-- the lines end a report after the record
pub record Ends (before : List Entry) (left : List Step) (report : List (List ℕ)) : Type 0 where
  pub code : StopCode
  pub handed : ℕ
  pub stop : StopFits before left code
  pub taken : handed ≤ length (stopping_hands before left code)
  pub lines : report ≡ ending_lines before left code handed

-- the line is that of a code with which the step may stop a run
abbrev pub ShowsStop : List Entry → Step → List ℕ → Type 0
ShowsStop before step line =
    (code : StopCode) × Stops before step code × (stop_text code ≡ line)

-- by the record that is stood for, the test is exactly whether the line shows a stop at the step
abbrev pub TellsStop : Held → Step → List ℕ → Bool → Type 0
TellsStop held step line shows =
    (before : List Entry) → Stands held before → (IsTrue shows ↔ ShowsStop before step line)

-- the line was judged as that of a stop after the record, at the first of the steps that are left:
-- it is of a code with which the run may stop there, and what was handed has grown by what may have
-- been taken of that step; or it is of none
abbrev pub StopJudged : List Entry → List Step → List ℕ → List Frame → Bool → Type 0
StopJudged before left line now true =
    ((code : StopCode) × StopFits before left code × (stop_text code ≡ line))
    × ((code : StopCode) → stop_text code ≡ line →
    now ≡ work before ++ stopping_hands before left code)
StopJudged before left line now false =
    (code : StopCode) → StopFits before left code → stop_text code ≡ line → ⊥

-- what was handed grew by what the step hands, by the record that is stood for
abbrev pub AddsHands : Held → List Frame → List Frame → Step → Type 0
AddsHands held was now step =
    (before : List Entry) → Stands held before → now ≡ was ++ hands before step

-- the line says how many frames of the stopping step were taken, or says no number up to the most
abbrev pub TellsHanded : ℕ → List ℕ → Option ℕ → Type 0
TellsHanded most line (Some handed) = (handed ≤ most) × (line ≡ handed_text handed)
TellsHanded most line None = (handed : ℕ) → handed ≤ most → line ≡ handed_text handed → ⊥

-- the lines tell how many more than so many of the frames were taken, and show them from the first
-- frame on
abbrev pub TellsTaken : List Frame → ℕ → List (List ℕ) → Type 0
TellsTaken frames count lines =
    (more : ℕ) × (count + more ≤ length frames)
    × (lines ≡ handed_text more ∷ map taken_text (take (count + more) frames))

-- by the record that is stood for, the commit is that of the message, of an id that the link holds
abbrev pub CommitOf : Held → ℕ → List ℕ → Option TransactionId → Type 0
CommitOf held link payload None =
    (before : List Entry) → Stands held before → commits before (steps.Control link payload) ≡ None
CommitOf held link payload (Some id) =
    (is_kept_on link (kept held.work id) ≡ true)
    × ((before : List Entry) → Stands held before →
    commits before (steps.Control link payload) ≡ Some id)

-- by the record that is stood for, the test is exactly whether the step hands a frame
abbrev pub TellsHands : Held → Step → Bool → Type 0
TellsHands held step some =
    (before : List Entry) → Stands held before → (IsTrue some ↔ (1 ≤ length (hands before step)))
