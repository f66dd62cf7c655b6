-- The reports that runs of an input write fit.
use Rattle.std.proofs.Common.{◌≡◌, ℕ, Option, Some, None, Result, Ok, Err, List, [], ap, sym, subst}
use Rattle.std.specs.Prelude.{IfOk, IfSome, IsOkAnd, unwrap_or}
use Rattle.std.specs.List.{All}
use Rattle.amqp_txn_types.specs.declared.id.TransactionId.{TransactionId}
use Rattle.amqp_txn_types.specs.declared.performatives.Frame.{Frame}
use Rattle.amqp_below_layer.specs.Told.{Told}
use Rattle.amqp_resource_record.specs.declared.step.Step.{Step}
use Rattle.amqp_resource_record.specs.declared.stop.Driven.{Driven}
use Rattle.amqp_resource_record.specs.declared.stop.Stop.TheVariants as stops
use Rattle.txn_program_lines.specs.Cutting.{lines_of}
use Rattle.txn_program_lines.specs.Lines.{input_steps}
use Rattle.txn_program_edges.specs.declared.input.Reading.{Reading}
use Rattle.txn_program_edges.specs.declared.input.Reading.TheVariants as readings
use Rattle.txn_program_report.specs.Report.{report_text}
use Rattle.txn_program_runs.specs.Running.{IsRun, IsSpelledBy, input_text, spelled_text, taken_of}
use Rattle.txn_audit_fits.specs.Fits.{Fits}
use Rattle.txn_audit_law.specs.Reported.{frames_given, frames_taken}
use Rattle.txn_audit_law.specs.Shown.{IsSpellable, IsWithinTypes}
use Rattle.txn_audit_law.proofs.Fitting.{report-fits}
use Rattle.txn_audit_law.proofs.Handed.{run-shown}
use Rattle.txn_audit_law.proofs.Runs.{run-reported}
use Rattle.txn_audit_law.proofs.Spelled.{IsSpelled, lines-spelled}

-- what is known of a run of which a report was written
pub record Reports (below : Told) (driven : Driven) (exchanges : List (Frame × List Frame)) : Type 0 where
  pub taken : below.taken ≡ Some exchanges
  pub stop : driven.stop ≡ stops.NoMemory → ⊥
  pub given : All IsWithinTypes (frames_given driven.entries)
  pub named : All IsSpellable (frames_given driven.entries)
  pub handed : All IsWithinTypes (frames_taken exchanges)

run-fits : (ids : ℕ → TransactionId) (steps : List Step) (before : Option (List (List Frame))) (below : Told) (driven : Driven) (exchanges : List (Frame × List Frame)) → Reports below driven exchanges → All IsSpelled steps
    → IsRun ids steps before below driven → Fits steps ids (lines_of (report_text driven exchanges))
run-fits ids steps before below driven exchanges r a run =
    let reported = run-reported ids steps before below driven exchanges run r.taken r.stop in
    report-fits steps ids driven exchanges reported (run-shown steps ids driven exchanges reported a r.given r.named r.handed)

spelled-fits : (spelled : Result (List Step) ℕ) (ids : ℕ → TransactionId) (before : Option (List (List Frame))) (below : Told) (driven : Driven) (exchanges : List (Frame × List Frame)) → Reports below driven exchanges → IfOk spelled (All IsSpelled)
    → IsOkAnd spelled (λ steps. IsRun ids steps before below driven) → IsOkAnd spelled (λ steps. Fits steps ids (lines_of (report_text driven exchanges)))
spelled-fits (Err line) ids before below driven exchanges r a run = absurd run
spelled-fits (Ok steps) ids before below driven exchanges r a run = run-fits ids steps before below driven exchanges r a run

pub reading-fits : (reading : Reading) (ids : ℕ → TransactionId) (before : Option (List (List Frame))) (below : Told) (driven : Driven) (exchanges : List (Frame × List Frame)) → Reports below driven exchanges
    → IsSpelledBy reading (λ steps. IsRun ids steps before below driven) → IsSpelledBy reading (λ steps. Fits steps ids (lines_of (report_text driven exchanges)))
reading-fits readings.Fault ids before below driven exchanges r run = absurd run
reading-fits readings.TooLong ids before below driven exchanges r run = absurd run
reading-fits (readings.Whole octets) ids before below driven exchanges r run = spelled-fits (input_steps octets) ids before below driven exchanges r (lines-spelled 1 (lines_of octets)) run

-- that report is the text of the run
spelled-text : (spelled : Result (List Step) ℕ) (ids : ℕ → TransactionId) (below : Told) (driven : Driven) (exchanges : List (Frame × List Frame)) → below.taken ≡ Some exchanges → IsOkAnd spelled (λ steps. Fits steps ids (lines_of (report_text driven exchanges)))
    → IsOkAnd spelled (λ steps. Fits steps ids (lines_of (spelled_text spelled below (Some driven))))
spelled-text (Err line) ids below driven exchanges e f = absurd f
spelled-text (Ok steps) ids below driven exchanges e f =
    let same : exchanges ≡ taken_of below = sym (ap (λ taken. unwrap_or taken []) e) in
    subst (λ (taken : List (Frame × List Frame)). Fits steps ids (lines_of (report_text driven taken))) same f

pub text-fits : (reading : Reading) (ids : ℕ → TransactionId) (below : Told) (driven : Driven) (exchanges : List (Frame × List Frame)) → below.taken ≡ Some exchanges → IsSpelledBy reading (λ steps. Fits steps ids (lines_of (report_text driven exchanges)))
    → IsSpelledBy reading (λ steps. Fits steps ids (lines_of (input_text reading below (Some driven))))
text-fits readings.Fault ids below driven exchanges e f = absurd f
text-fits readings.TooLong ids below driven exchanges e f = absurd f
text-fits (readings.Whole octets) ids below driven exchanges e f = spelled-text (input_steps octets) ids below driven exchanges e f

-- the text of what was driven fits, where the report of each run does that was
pub driven-fits : (reading : Reading) (ids : ℕ → TransactionId) (before : Option (List (List Frame))) (below : Told) (kept : Option Driven) (driven : Driven) (exchanges : List (Frame × List Frame)) → kept ≡ Some driven → below.taken ≡ Some exchanges
    → (IsSpelledBy reading (λ steps. IsRun ids steps before below driven) → (driven.stop ≡ stops.NoMemory → ⊥) → All IsSpellable (frames_given driven.entries) → IsSpelledBy reading (λ steps. Fits steps ids (lines_of (report_text driven exchanges))))
    → IfSome kept (λ now. IsSpelledBy reading (λ steps. IsRun ids steps before below now))
    → IfSome kept (λ now. (now.stop ≡ stops.NoMemory → ⊥) → All IsSpellable (frames_given now.entries) → IsSpelledBy reading (λ steps. Fits steps ids (lines_of (input_text reading below kept))))
driven-fits reading ids before below None driven exchanges e t f r = tt
driven-fits reading ids before below (Some now) driven exchanges e t f r =
    let same : driven ≡ now = cc e in
    let P : Driven → Type 0 = λ d. IsSpelledBy reading (λ steps. IsRun ids steps before below d) → (d.stop ≡ stops.NoMemory → ⊥) → All IsSpellable (frames_given d.entries) → IsSpelledBy reading (λ steps. Fits steps ids (lines_of (report_text d exchanges))) in
    λ stop named. text-fits reading ids below now exchanges t (subst P same f r stop named)
