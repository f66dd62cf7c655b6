-- The lines of a report of a legal run fit.
use Rattle.std.proofs.Common.{◌≡◌, ℕ, ◌&&◌, true, List, [], ◌∷◌, map, refl, sym, ◌∙◌, ap}
use Rattle.std.specs.List.{All, flat_map, list_all}
use Rattle.std.proofs.lemmas.Bool.{and_parts}
use Rattle.std.proofs.lemmas.List.Elements.{All-head, All-tail}
use Rattle.std.proofs.lemmas.List.Folds.{list_all-append}
use Rattle.amqp_txn_types.specs.declared.id.TransactionId.{TransactionId}
use Rattle.amqp_txn_types.specs.declared.performatives.Frame.{Frame}
use Rattle.amqp_resource_record.specs.declared.step.Step.{Step}
use Rattle.amqp_resource_record.specs.declared.entry.Entry.{Entry}
use Rattle.amqp_resource_record.specs.declared.stop.Driven.{Driven}
use Rattle.amqp_resource_record.specs.Stops.{code_of}
use Rattle.txn_program_lines.specs.Cutting.{lines_of}
use Rattle.txn_program_report.specs.Report.{reply_frames, report_text}
use Rattle.txn_audit_report.specs.OutLines.{is_out_line}
use Rattle.txn_audit_fits.specs.Fits.{Fits, handed_text, out_text, stop_text, taken_text}
use Rattle.txn_audit_law.specs.Reported.{AllShown, IsReported, frames_taken}
use Rattle.txn_audit_law.specs.Shown.{CanBeShown}
use Rattle.txn_audit_law.proofs.Reading.{out_line-read}
use Rattle.txn_audit_law.proofs.Reports.{all_shown, end-lines, is_shown, shows-entries}
use Rattle.txn_audit_law.proofs.Words.{free_frame}

shown : (frame : Frame) → CanBeShown frame → is_shown frame ≡ true
shown frame s = ap (λ t. t && is_out_line (out_text frame)) (free_frame frame s) ∙ out_line-read frame s

frames-shown : (frames : List Frame) → All CanBeShown frames → list_all is_shown frames ≡ true
frames-shown [] a = refl
frames-shown (frame ∷ frames) a = ap (λ t. t && list_all is_shown frames) (shown frame (All-head CanBeShown frame frames a)) ∙ frames-shown frames (All-tail CanBeShown frame frames a)

entries-shown : (entries : List Entry) → list_all is_shown (flat_map (λ (entry : Entry). reply_frames entry.reply) entries) ≡ true → all_shown entries ≡ true
entries-shown [] a = refl
entries-shown (entry ∷ entries) a =
    let frames = flat_map (λ (e : Entry). reply_frames e.reply) entries in
    let both = and_parts (list_all is_shown (reply_frames entry.reply)) (list_all is_shown frames) (sym (list_all-append is_shown (reply_frames entry.reply) frames) ∙ a) in
    ap (λ t. t && all_shown entries) both.0 ∙ entries-shown entries both.1

pub report-fits : (steps : List Step) (next : ℕ → TransactionId) (driven : Driven) (taken : List (Frame × List Frame)) → IsReported steps next driven taken → AllShown driven taken → Fits steps next (lines_of (report_text driven taken))
unfolding report_text
report-fits steps next driven taken r s =
    let code = code_of driven.stop in
    let ends = end-lines code driven.handed taken (frames-shown (frames_taken taken) s.taken) ∙ ap (λ frames. stop_text code ∷ handed_text driven.handed ∷ map taken_text frames) r.taken in
    record {
      entries = driven.entries;
      left = r.left;
      code = code;
      handed = driven.handed;
      legal = r.legal;
      steps = r.steps;
      drawn = r.drawn;
      stop = r.stop;
      taken = r.handed;
      lines = shows-entries driven.entries _ _ (entries-shown driven.entries (frames-shown _ s.given)) ends;
    }
