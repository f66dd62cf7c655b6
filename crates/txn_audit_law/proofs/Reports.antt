-- The lines of a report, one after another.
use Rattle.std.proofs.Common.{◌≡◌, ℕ, ◌&&◌, Bool, true, false, List, [], ◌∷◌, ◌++◌, map, refl, ◌∙◌, ap, arith, append_assoc}
use Rattle.std.specs.Prelude.{codes, decimal}
use Rattle.std.specs.List.{flat_map, list_all}
use Rattle.std.proofs.lemmas.Bool.{and_parts}
use Rattle.hex.specs.Hex.{encode_lower}
use Rattle.amqp_txn_types.specs.declared.performatives.Frame.{Frame}
use Rattle.amqp_txn_types.specs.declared.small.TransactionError.{TransactionError}
use Rattle.amqp_txn_types.specs.declared.small.TransactionError.TheVariants as errors
use Rattle.amqp_resource_record.specs.declared.entry.Entry.{Entry}
use Rattle.amqp_resource_record.specs.declared.reply.Reply.{Reply}
use Rattle.amqp_resource_record.specs.declared.reply.Reply.TheVariants as replies
use Rattle.amqp_resource_record.specs.declared.reply.RejectText.{RejectText}
use Rattle.amqp_resource_record.specs.declared.reply.RejectText.TheVariants as texts
use Rattle.amqp_resource_record.specs.declared.stop.StopCode.{StopCode}
use Rattle.amqp_resource_record.specs.declared.stop.StopCode.TheVariants as stop_codes
use Rattle.amqp_resource_record.specs.Stops.{fault_code}
use Rattle.txn_program_lines.specs.Cutting.{lines_of}
use Rattle.txn_program_report.specs.Report.{entry_lines, error_word, frame_text, line, out_line, reject_words, reply_frames, reply_text, stop_word, taken_line}
use Rattle.txn_audit_report.specs.OutLines.{is_out_line}
use Rattle.txn_audit_fits.specs.Fits.{OutsFit, Shows, gives_back, handed_text, out_text, stop_text, taken_text}
use Rattle.txn_audit_law.specs.Reported.{frames_taken}
use Rattle.txn_audit_law.proofs.Texts.{free-append, free-decimal, free-encode, is_free, lines-first}

-- ---- no line of a report holds a line feed

free_stop : (code : StopCode) → is_free 10 (stop_word code) ≡ true
free_stop stop_codes.Done = refl
free_stop stop_codes.UnknownTxnId = refl
free_stop stop_codes.UnattachedHandle = refl
free_stop stop_codes.LinkNameNotFound = refl
free_stop stop_codes.HandleInUse = refl
free_stop stop_codes.IllegalState = refl
free_stop stop_codes.TransferToSender = refl
free_stop stop_codes.BelowConnectionStopped = refl
free_stop stop_codes.BelowRemoteEnded = refl
free_stop stop_codes.BelowRemoteEndedWithError = refl
free_stop stop_codes.BelowNoMemory = refl
free_stop stop_codes.Ended = refl
free_stop stop_codes.EndedWithError = refl
free_stop stop_codes.RemoteEnded = refl
free_stop stop_codes.RemoteEndedWithError = refl
free_stop stop_codes.ConnectionStopped = refl
free_stop stop_codes.NoMemory = refl

free_error : (error : TransactionError) → is_free 10 (error_word error) ≡ true
free_error errors.UnknownId = refl
free_error errors.Rollback = refl
free_error errors.Timeout = refl

free_reject : (text : RejectText) → is_free 10 (reject_words text) ≡ true
free_reject texts.Absent = refl
free_reject texts.GlobalId = refl
free_reject texts.IdsRepeat = refl

pub free_reply : (reply : Reply) → is_free 10 (reply_text reply) ≡ true
unfolding reply_text
free_reply (replies.Frames answers) = refl
free_reply (replies.Attached link frames) = free-append 10 (codes "attached ") (decimal link) refl (free-decimal 10 link (omega arith))
free_reply (replies.AttachRefused error) = free-append 10 (codes "attach-refused ") (stop_word (fault_code error)) refl (free_stop (fault_code error))
free_reply replies.LinkEnded = refl
free_reply replies.NoLink = refl
free_reply (replies.LinkClosed error) = refl
free_reply (replies.Declared id) = free-append 10 (codes "declared ") (encode_lower id) refl (free-encode 10 id refl refl)
free_reply (replies.Accepted echoes) = refl
free_reply (replies.Rejected error text) =
    free-append 10 (codes "rejected ") (error_word error ++ reject_words text) refl (free-append 10 (error_word error) (reject_words text) (free_error error) (free_reject text))

-- ---- lines

-- a line for each
pub lines-each : {X : Type 0} (text : X → List ℕ) (xs : List X) (b : List ℕ) → list_all (λ x. is_free 10 (text x)) xs ≡ true → lines_of (flat_map (λ x. line (text x)) xs ++ b) ≡ map text xs ++ lines_of b
lines-each text [] b f = refl
lines-each text (x ∷ xs) b f =
    let parts = and_parts (is_free 10 (text x)) (list_all (λ y. is_free 10 (text y)) xs) f in
    ap lines_of (append_assoc (line (text x)) (flat_map (λ y. line (text y)) xs) b)
    ∙ lines-first (text x) (flat_map (λ y. line (text y)) xs ++ b) parts.0
    ∙ ap (λ ls. text x ∷ ls) (lines-each text xs b parts.1)

-- the frame's text holds no line feed, and its line is one of a frame
abbrev pub is_shown : Frame → Bool
is_shown frame = is_free 10 (frame_text frame) && is_out_line (out_text frame)

free_front : (front : List ℕ) (frames : List Frame) → is_free 10 front ≡ true → list_all is_shown frames ≡ true → list_all (λ frame. is_free 10 (front ++ frame_text frame)) frames ≡ true
free_front front [] e f = refl
free_front front (frame ∷ frames) e f =
    let parts = and_parts (is_shown frame) (list_all is_shown frames) f in
    let here = free-append 10 front (frame_text frame) e (and_parts (is_free 10 (frame_text frame)) (is_out_line (out_text frame)) parts.0).0 in
    ap (λ t. t && list_all (λ x. is_free 10 (front ++ frame_text x)) frames) here ∙ free_front front frames e parts.1

all_out : (frames : List Frame) → list_all is_shown frames ≡ true → list_all is_out_line (map out_text frames) ≡ true
all_out [] f = refl
all_out (frame ∷ frames) f =
    let parts = and_parts (is_shown frame) (list_all is_shown frames) f in
    ap (λ t. t && list_all is_out_line (map out_text frames)) (and_parts (is_free 10 (frame_text frame)) (is_out_line (out_text frame)) parts.0).1 ∙ all_out frames parts.1

fit : (b : Bool) (frames : List Frame) → list_all is_shown frames ≡ true → OutsFit b frames (map out_text frames)
fit true frames f = all_out frames f
fit false frames f = refl

-- the lines of an entry, before others
entry-lines : (entry : Entry) (b : List ℕ) → list_all is_shown (reply_frames entry.reply) ≡ true → lines_of (entry_lines entry ++ b) ≡ reply_text entry.reply ∷ (map out_text (reply_frames entry.reply) ++ lines_of b)
entry-lines entry b f =
    let given = flat_map out_line (reply_frames entry.reply) in
    ap lines_of (append_assoc (line (reply_text entry.reply)) given b)
    ∙ lines-first (reply_text entry.reply) (given ++ b) (free_reply entry.reply)
    ∙ ap (λ ls. reply_text entry.reply ∷ ls) (lines-each out_text (reply_frames entry.reply) b (free_front (codes "out ") (reply_frames entry.reply) refl f))

-- each frame of the replies is shown
abbrev pub all_shown : List Entry → Bool
all_shown [] = true
all_shown (entry ∷ entries) = list_all is_shown (reply_frames entry.reply) && all_shown entries

pub shows-entries : (entries : List Entry) (b : List ℕ) (ending : List (List ℕ)) → all_shown entries ≡ true → lines_of b ≡ ending → Shows entries ending (lines_of (flat_map entry_lines entries ++ b))
shows-entries [] b ending f e = e
shows-entries (entry ∷ entries) b ending f e =
    let parts = and_parts (list_all is_shown (reply_frames entry.reply)) (all_shown entries) f in (
      map out_text (reply_frames entry.reply),
      lines_of (flat_map entry_lines entries ++ b),
      ap lines_of (append_assoc (entry_lines entry) (flat_map entry_lines entries) b) ∙ entry-lines entry (flat_map entry_lines entries ++ b) parts.0,
      fit (gives_back entry.step entry.reply) (reply_frames entry.reply) parts.0,
      shows-entries entries b ending parts.1 e,
    )

-- the lines after those of the entries
taken-lines : (taken : List (Frame × List Frame)) → list_all is_shown (frames_taken taken) ≡ true → lines_of (flat_map taken_line taken) ≡ map taken_text (frames_taken taken)
taken-lines [] f = refl
taken-lines (pair ∷ taken) f =
    let parts = and_parts (is_shown pair.0) (list_all is_shown (frames_taken taken)) f in
    let here = free-append 10 (codes "taken ") (frame_text pair.0) refl (and_parts (is_free 10 (frame_text pair.0)) (is_out_line (out_text pair.0)) parts.0).0 in
    lines-first (taken_text pair.0) (flat_map taken_line taken) here ∙ ap (λ ls. taken_text pair.0 ∷ ls) (taken-lines taken parts.1)

pub end-lines : (code : StopCode) (handed : ℕ) (taken : List (Frame × List Frame)) → list_all is_shown (frames_taken taken) ≡ true → lines_of (line (codes "stop " ++ stop_word code) ++ (line (codes "handed " ++ decimal handed) ++ flat_map taken_line taken)) ≡ stop_text code ∷ handed_text handed ∷ map taken_text (frames_taken taken)
end-lines code handed taken f =
    lines-first (stop_text code) (line (handed_text handed) ++ flat_map taken_line taken) (free-append 10 (codes "stop ") (stop_word code) refl (free_stop code))
    ∙ ap (λ ls. stop_text code ∷ ls) (lines-first (handed_text handed) (flat_map taken_line taken) (free-append 10 (codes "handed ") (decimal handed) refl (free-decimal 10 handed (omega arith)))
    ∙ ap (λ ls. handed_text handed ∷ ls) (taken-lines taken f))
