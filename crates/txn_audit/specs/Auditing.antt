-- What an audit answers and leaves: the contract of its top call.
use Rattle.std.specs.Prelude.{ℕ, ◌≡◌, ◌⊎◌, ◌+◌, Option, Some, None, Result, Ok, Err, List, length, codes, string_bytes}
use Rattle.std.specs.declared.string.String.{String}
use Rattle.amqp_txn_types.specs.declared.id.TransactionId.{TransactionId}
use Rattle.amqp_below_ids.specs.Listed.{listed}
use Rattle.amqp_below_streams.specs.Streams.{SinkTold, SourceTold}
use Rattle.txn_program_lines.specs.Cutting.{lines_of}
use Rattle.txn_program_edges.specs.declared.input.Reading.{Reading}
use Rattle.txn_program_edges.specs.declared.input.Reading.TheVariants as readings
use Rattle.txn_program_edges.specs.Reading.{Finds}
use Rattle.txn_program_edges.specs.Unserved.{line_text}
use Rattle.txn_program_edges.specs.Writing.{EndsWith, Wrote}
use Rattle.amqp_resource_record.specs.declared.step.Step.{Step}
use Rattle.txn_audit_fits.specs.declared.difference.Difference.{Difference}
use Rattle.txn_audit_fits.specs.Departing.{Departs}
use Rattle.txn_audit_fits.specs.Fits.{Fits}
use Rattle.txn_audit_fits.specs.Telling.{difference_text}
use Rattle.txn_audit.specs.declared.audit_runs.TheConstants.{INPUT_LIMIT}
use Rattle.txn_audit.specs.declared.audit_runs.Answer.{Answer}
use Rattle.txn_audit.specs.declared.audit_runs.Answer.TheVariants as answers
use Rattle.txn_audit.specs.AuditInput.{Parts, parts_from}

-- the line that is told, where there was memory for it
abbrev pub line_told : {Z : Type 0} → Option (String Z) → Option (List ℕ)
line_told None = None
line_told (Some line) = Some (string_bytes line)

-- what is told of lines that don't fit is the text of their first difference, if anything
abbrev pub TellsWhy : List Step → (ℕ → TransactionId) → List (List ℕ) → Option (List ℕ) → Type 0
TellsWhy steps next lines None = Unit {0}
TellsWhy steps next lines (Some line) =
    (difference : Difference) × Departs steps next lines difference.before
    × (line ≡ difference_text difference lines)

-- the status and the text of an audit of what the input spells, and the line that is told where the
-- lines don't fit, and nowhere else: 0 exactly where the lines are a
-- report of a legal run, 1 exactly where they aren't, 3 where a line before `report` isn't a step,
-- or there is no line `report`: it is wanted after the last line
abbrev pub AnswersParts : List TransactionId → Result Parts ℕ → ℕ → List ℕ → Option (List ℕ)
    → Type 0
AnswersParts ids (Err number) status text why =
    (status ≡ 3) × (text ≡ line_text number) × (why ≡ None)
AnswersParts ids (Ok (steps, None)) status text why =
    (status ≡ 3) × (text ≡ line_text (length steps + 1)) × (why ≡ None)
AnswersParts ids (Ok (steps, Some lines)) status text why =
    ((status ≡ 0) × (text ≡ codes "yes\n") × Fits steps (listed ids) lines × (why ≡ None))
    ⊎ ((status ≡ 1) × (text ≡ codes "no\n") × (Fits steps (listed ids) lines → ⊥)
    × TellsWhy steps (listed ids) lines why)

-- those of an audit of what was read: 4 where the input failed, 7 where it has more octets than the
-- limit
abbrev pub AnswersReading : List TransactionId → Reading → ℕ → List ℕ → Option (List ℕ) → Type 0
AnswersReading ids readings.Fault status text why =
    (status ≡ 4) × (text ≡ codes "read fault\n") × (why ≡ None)
AnswersReading ids readings.TooLong status text why =
    (status ≡ 7) × (text ≡ codes "input too long\n") × (why ≡ None)
AnswersReading ids (readings.Whole octets) status text why =
    AnswersParts ids (parts_from 1 (lines_of octets)) status text why

-- those of an audit with these ids, or of arguments that name none: 2
abbrev pub Answers : Option (List TransactionId) → Reading → ℕ → List ℕ → Option (List ℕ) → Type 0
Answers None reading status text why = (status ≡ 2) × (text ≡ codes "usage\n") × (why ≡ None)
Answers (Some ids) reading status text why = AnswersReading ids reading status text why

-- the status and the text of an answer
abbrev pub answer_status : Answer → ℕ
answer_status answers.Yes = 0
answer_status (answers.No why) = 1
answer_status (answers.Unread number) = 3

abbrev pub answer_text : Answer → List ℕ
answer_text answers.Yes = codes "yes\n"
answer_text (answers.No why) = codes "no\n"
answer_text (answers.Unread number) = line_text number

abbrev pub answer_why : Answer → Option (List ℕ)
answer_why answers.Yes = None
answer_why (answers.No why) = line_told why
answer_why (answers.Unread number) = None

-- the answer is that of the parts of an input
abbrev pub IsAnswerTo : List TransactionId → Result Parts ℕ → Answer → Type 0
IsAnswerTo ids parts answer =
    AnswersParts ids parts (answer_status answer) (answer_text answer) (answer_why answer)

-- the answer is that of these octets of an input
abbrev pub IsAnswer : List TransactionId → List ℕ → Answer → Type 0
IsAnswer ids octets answer = IsAnswerTo ids (parts_from 1 (lines_of octets)) answer

-- an audit of what was read, or out of memory, with what the sink tells before and after
pub record Ends (ids : List TransactionId) (reading : Reading) (output written : SinkTold)
    (ended : ℕ) (why : Option (List ℕ)) : Type 0 where
  pub wanted : ℕ
  pub text : List ℕ
  pub answers : ((ended ≡ 6) × (why ≡ None)) ⊎ AnswersReading ids reading wanted text why
  pub status : EndsWith output.faults written.faults wanted ended
  pub wrote : Wrote output.written written.written ended text

-- nothing is read where the arguments name no ids
abbrev pub Reads : Option (List TransactionId) → ℕ → SourceTold → SourceTold → Reading → Type 0
Reads None status input left reading = left ≡ input
Reads (Some ids) status input left reading = Finds INPUT_LIMIT input left reading ⊎ (status ≡ 6)

-- the audit that the arguments ask for: the status is that of the table, or in its place 6 where
-- memory runs out, or 5 where the sink failed; what is written is the text of the status, and what is
-- told of a report that doesn't fit is its first difference
pub record Audits (ids : Option (List TransactionId)) (input left : SourceTold)
    (output written : SinkTold) (ended : ℕ) (why : Option (List ℕ)) : Type 0 where
  pub reading : Reading
  pub wanted : ℕ
  pub text : List ℕ
  pub read : Reads ids ended input left reading
  pub answers : ((ended ≡ 6) × (why ≡ None)) ⊎ Answers ids reading wanted text why
  pub status : EndsWith output.faults written.faults wanted ended
  pub wrote : Wrote output.written written.written ended text
