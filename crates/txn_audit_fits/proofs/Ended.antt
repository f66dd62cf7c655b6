-- The lines that end a report.
use Rattle.std.proofs.Common.{◌≡◌, ℕ, zero, suc, ◌+◌, ◌<◌, ◌≤◌, Bool, true, false, cond, Option, Some, None, List, [], ◌∷◌, ◌++◌, length, map, take, drop, get_or, refl, sym, ◌∙◌, ap, subst, arith, IsTrue, append_assoc, append-nil, inl, inr}
use Rattle.std.specs.Prelude.{◌↔◌, ◌-◌, ◌^◌, codes, decimal, is_some}
use Rattle.std.specs.Str.Parse.{digits_value}
use Rattle.std.specs.Str.{bytes_eq}
use Rattle.std.proofs.lemmas.Slice.Eq.{bytes_eq-Decides}
use Rattle.std.proofs.lemmas.Fmt.{decimal_is_IsNumeral}
use Rattle.std.proofs.lemmas.List.{length-append, map-append, take-append-drop, take_more}
use Rattle.amqp_txn_types.specs.declared.id.TransactionId.{TransactionId}
use Rattle.amqp_txn_types.specs.declared.delivery.ConnectionStopReason.{ConnectionStopReason}
use Rattle.amqp_txn_types.specs.declared.performatives.Disposition.{Disposition}
use Rattle.amqp_txn_types.specs.declared.performatives.Frame.{Frame}
use Rattle.amqp_txn_types.specs.declared.performatives.Frame.TheVariants as frames
use Rattle.amqp_txn_types.specs.Frames.{is_coordinator_attach, stripped, txn}
use Rattle.amqp_txn_types.specs.Presumptive.{answered_under, frames_telling}
use Rattle.amqp_resource_record.specs.declared.step.Step.{Step}
use Rattle.amqp_resource_record.specs.declared.step.Step.TheVariants as steps
use Rattle.amqp_resource_record.specs.declared.entry.Entry.{Entry}
use Rattle.amqp_resource_record.specs.declared.stop.StopCode.{StopCode}
use Rattle.amqp_resource_record.specs.declared.stop.StopCode.TheVariants as stop_codes
use Rattle.amqp_resource_record.specs.Hands.{hands}
use Rattle.amqp_resource_record.specs.Work.{work}
use Rattle.amqp_resource_record.proofs.Whole.{hands-commit, hands-no_commit}
use Rattle.amqp_resource_log.specs.Live.{frames_kept, kept}
use Rattle.amqp_resource_held.specs.declared.held.Held.{Held}
use Rattle.amqp_resource_held.specs.Held.{Stands}
use Rattle.amqp_resource_held.proofs.Views.{live-record}
use Rattle.txn_audit_report.specs.Stopping.{is_refusal, refusal_of_stop}
use Rattle.txn_audit_report.proofs.RefusalCodes.{stop-found, stop-told}
use Rattle.txn_audit_fits.specs.Fits.{Stops, StopsFrame, StopsUnder, ending_lines, handed_text, stop_text, stopping_hands, taken_text}
use Rattle.txn_program_lines.specs.Cutting.{lines_of}
use Rattle.txn_audit_fits.specs.declared.judged_lines.Judged.{Judged}
use Rattle.txn_audit_fits.specs.declared.judged_lines.Judged.TheVariants as judged
use Rattle.txn_audit_fits.specs.Ending.{CommitOf, Ends, ShowsStop, StopJudged, TellsHands, TellsStop, TellsTaken}
use Rattle.txn_audit_fits.specs.Explaining.{DepartsAt, EndsHere, JudgesCounts, JudgesEnd, JudgesTaken}
use Rattle.txn_audit_fits.proofs.Departing.{departs-behind, departs-here}
use Rattle.txn_audit_fits.proofs.Judged.{same_text, other_text}
use Rattle.txn_audit_fits.proofs.Committed.{frames_by}

-- ---- stops

-- a code that alone may be, by its word
pub shows-word : (P : StopCode → Type 0) (line : List ℕ) (code : StopCode) → P code → ((c : StopCode) → P c → c ≡ code) → (IsTrue (bytes_eq line (stop_text code)) ↔ ((c : StopCode) × P c × (stop_text c ≡ line)))
shows-word P line code p only = (
  (λ e. (code, p, sym (same_text line (stop_text code) e))),
  (λ x. (bytes_eq-Decides line (stop_text code)).1 (sym x.2 ∙ ap stop_text (only x.0 x.1))),
)

-- any refusal, by its word
pub shows-refusal : (P : StopCode → Type 0) (line : List ℕ) → ((c : StopCode) → is_refusal c ≡ true → P c) → ((c : StopCode) → P c → is_refusal c ≡ true) → (IsTrue (is_some (refusal_of_stop line)) ↔ ((c : StopCode) × P c × (stop_text c ≡ line)))
shows-refusal P line may only = (there (refusal_of_stop line) refl, back)
  where
    there : (o : Option StopCode) → refusal_of_stop line ≡ o → IsTrue (is_some (refusal_of_stop line)) → (c : StopCode) × P c × (stop_text c ≡ line)
    there None e t = absurd (cc (ap is_some e, t))
    there (Some code) e t = let f = stop-found line code e in (code, may code f.0, f.1)

    back : ((c : StopCode) × P c × (stop_text c ≡ line)) → IsTrue (is_some (refusal_of_stop line))
    back x = ap (λ l. is_some (refusal_of_stop l)) (sym x.2) ∙ ap is_some (stop-told x.0 ∙ ap (λ b. cond b (Some x.0) None) (only x.0 x.1))

-- none at all
pub shows-none : (P : StopCode → Type 0) (line : List ℕ) → ((c : StopCode) → P c → ⊥) → (IsTrue false ↔ ((c : StopCode) × P c × (stop_text c ≡ line)))
shows-none P line none = ((λ e. absurd (cc e)), (λ x. absurd (none x.0 x.1)))

-- a frame under an id
pub stops-under : (h : Held) (before : List Entry) (frame : Frame) (id : TransactionId) (b : Bool) → Stands h before → txn frame ≡ Some id → is_some (kept h.work id) ≡ b → (code : StopCode) → StopsUnder b (answered_under id frame) code → Stops before (steps.Frame frame) code
stops-under h before frame id b s e l code x =
    let P : Option TransactionId → Type 0 = λ o. StopsFrame before frame o code in
    let Q : Bool → Type 0 = λ c. StopsUnder c (answered_under id frame) code in
    subst P (sym e) (subst Q (sym (sym (live-record before id) ∙ ap is_some (sym (s.live id)) ∙ l)) x)

pub under-stops : (h : Held) (before : List Entry) (frame : Frame) (id : TransactionId) (b : Bool) → Stands h before → txn frame ≡ Some id → is_some (kept h.work id) ≡ b → (code : StopCode) → Stops before (steps.Frame frame) code → StopsUnder b (answered_under id frame) code
under-stops h before frame id b s e l code x =
    let P : Option TransactionId → Type 0 = λ o. StopsFrame before frame o code in
    let Q : Bool → Type 0 = λ c. StopsUnder c (answered_under id frame) code in
    subst Q (sym (live-record before id) ∙ ap is_some (sym (s.live id)) ∙ l) (subst P e x)

pub stop-dead : (h : Held) (frame : Frame) (id : TransactionId) (line : List ℕ) → txn frame ≡ Some id → is_some (kept h.work id) ≡ false → TellsStop h (steps.Frame frame) line (bytes_eq line (codes "stop unknown-txn-id"))
stop-dead h frame id line e l before s =
    shows-word (Stops before (steps.Frame frame)) line stop_codes.UnknownTxnId
    (stops-under h before frame id false s e l stop_codes.UnknownTxnId refl)
    (λ c x. under-stops h before frame id false s e l c x)

pub stop-answered : (h : Held) (frame one : Frame) (id : TransactionId) (line : List ℕ) → txn frame ≡ Some id → is_some (kept h.work id) ≡ true → answered_under id frame ≡ one ∷ [] → TellsStop h (steps.Frame frame) line (is_some (refusal_of_stop line))
stop-answered h frame one id line e l a before s =
    let some : 1 ≤ length (answered_under id frame) = omega (arith, ap length a) in
    shows-refusal (Stops before (steps.Frame frame)) line
    (λ c r. stops-under h before frame id true s e l c (some, r))
    (λ c x. (under-stops h before frame id true s e l c x).1)

pub stop-silent : (h : Held) (frame : Frame) (id : TransactionId) (line : List ℕ) → txn frame ≡ Some id → is_some (kept h.work id) ≡ true → answered_under id frame ≡ [] → TellsStop h (steps.Frame frame) line false
stop-silent h frame id line e l a before s =
    shows-none (Stops before (steps.Frame frame)) line
    (λ c x. let t = (under-stops h before frame id true s e l c x).0 in absurd (omega (arith, ap length a, t)))

-- a frame under none
pub stop-plain : (h : Held) (frame : Frame) (line : List ℕ) → txn frame ≡ None → is_coordinator_attach frame ≡ false → TellsStop h (steps.Frame frame) line (is_some (refusal_of_stop line))
stop-plain h frame line e c before s =
    let P : StopCode → Option TransactionId → Type 0 = λ code o. StopsFrame before frame o code in
    shows-refusal (Stops before (steps.Frame frame)) line (λ code r. subst (P code) (sym e) (c, r)) (λ code x. (subst (P code) e x).1)

pub stop-attach : (h : Held) (frame : Frame) (line : List ℕ) → txn frame ≡ None → is_coordinator_attach frame ≡ true → TellsStop h (steps.Frame frame) line false
stop-attach h frame line e c before s =
    let P : StopCode → Option TransactionId → Type 0 = λ code o. StopsFrame before frame o code in
    shows-none (Stops before (steps.Frame frame)) line (λ code x. let t = (subst (P code) e x).0 in cc (t, c))

-- a commit
pub stop-message : (h : Held) (link : ℕ) (payload line : List ℕ) → TellsHands h (steps.Control link payload) true → TellsStop h (steps.Control link payload) line (bytes_eq line (codes "stop below-no-memory"))
stop-message h link payload line t before s =
    shows-word (Stops before (steps.Control link payload)) line stop_codes.BelowNoMemory ((t before s).0 refl, refl) (λ c x. x.1)

pub stop-no_message : (h : Held) (link : ℕ) (payload line : List ℕ) → TellsHands h (steps.Control link payload) false → TellsStop h (steps.Control link payload) line false
stop-no_message h link payload line t before s =
    shows-none (Stops before (steps.Control link payload)) line (λ c x. let z : false ≡ true = (t before s).1 x.0 in cc z)

-- ---- what a message hands

pub hands-none : (h : Held) (link : ℕ) (payload : List ℕ) → CommitOf h link payload None → (before : List Entry) → Stands h before → hands before (steps.Control link payload) ≡ []
hands-none h link payload x before s = hands-no_commit before link payload (x before s)

pub hands-some : (h : Held) (link : ℕ) (payload : List ℕ) (id : TransactionId) → CommitOf h link payload (Some id) → (before : List Entry) → Stands h before → hands before (steps.Control link payload) ≡ map stripped (frames_kept (kept h.work id))
hands-some h link payload id x before s = hands-commit before link payload id (x.1 before s) ∙ ap (map stripped) (sym (frames_by h before link id s x.0))

-- ---- the stop of a run

-- a stop at a step, whose hands were added where it is a refusal
pub judged-at : (before : List Entry) (step : Step) (left : List Step) (line : List ℕ) (was now : List Frame) → was ≡ work before → ShowsStop before step line → now ≡ was ++ cond (is_some (refusal_of_stop line)) (hands before step) [] → StopJudged before (step ∷ left) line now true
judged-at before step left line was now w x g = (x, λ code e. g ∙ ap (λ fs. fs ++ cond (is_some (refusal_of_stop line)) (hands before step) []) w ∙ ap (λ b. work before ++ cond b (hands before step) []) (ap (λ l. is_some (refusal_of_stop l)) (sym e) ∙ ap is_some (stop-told code) ∙ told (is_refusal code) code))
  where
    told : (b : Bool) (code : StopCode) → is_some (cond b (Some code) None) ≡ b
    told true code = refl
    told false code = refl

pub judged-done : (before : List Entry) (line : List ℕ) (now : List Frame) → now ≡ work before → StopJudged before [] line now (bytes_eq line (codes "stop done"))
judged-done before line now w = by_case (bytes_eq line (codes "stop done")) refl
  where
    by_case : (b : Bool) → bytes_eq line (codes "stop done") ≡ b → StopJudged before [] line now b
    by_case true e = ((stop_codes.Done, refl, sym (same_text line (codes "stop done") e)), λ code x. w ∙ sym (append-nil (work before)))
    by_case false e = λ code f x. other_text line (codes "stop done") e (sym x ∙ ap stop_text f)

-- ---- what was taken

-- one line more of one frame more
pub taken-next : (frames : List Frame) (i : ℕ) (frame : Frame) (lines rest after : List (List ℕ)) → i < length frames → frame ≡ get_or frames i frame → lines ≡ map taken_text (take i frames) ++ rest → rest ≡ taken_text frame ∷ after → lines ≡ map taken_text (take (i + 1) frames) ++ after
taken-next frames i frame lines rest after l at e r =
    e ∙ ap (λ ls. map taken_text (take i frames) ++ ls) r
    ∙ sym (append_assoc (map taken_text (take i frames)) (taken_text frame ∷ []) after)
    ∙ ap (λ ls. ls ++ after) (sym (ap (map taken_text) (take_more frames i frame l ∙ ap (λ f. take i frames ++ f ∷ []) (sym at)) ∙ map-append taken_text (take i frames) (frame ∷ [])))

-- the lines of the first frames and of those after them
taken_parts : (frames : List Frame) (i : ℕ) → map taken_text (take i frames) ++ map taken_text (drop i frames) ≡ map taken_text frames
taken_parts frames i = sym (map-append taken_text (take i frames) (drop i frames)) ∙ ap (map taken_text) (take-append-drop i frames)

-- a line at the place of a frame is that of the frame
taken_at : (frames : List Frame) (i : ℕ) (frame : Frame) (line : List ℕ) (more : List (List ℕ)) → i < length frames → frame ≡ get_or frames i frame → map taken_text (take i frames) ++ (line ∷ more) ≡ map taken_text frames → line ≡ taken_text frame
taken_at [] i frame line more l at e = absurd (omega arith)
taken_at (x ∷ frames) zero frame line more l at e = let g : line ≡ taken_text x = cc e in g ∙ ap taken_text (sym at)
taken_at (x ∷ frames) (suc i) frame line more l at e = taken_at frames i frame line more (omega arith) at (let g : map taken_text (take i frames) ++ (line ∷ more) ≡ map taken_text frames = cc e in g)

-- fewer lines than frames
taken_short : (frames : List Frame) (i : ℕ) → i < length frames → map taken_text (take i frames) ++ [] ≡ map taken_text frames → ⊥
taken_short [] i l e = absurd (omega arith)
taken_short (x ∷ frames) zero l e = cc e
taken_short (x ∷ frames) (suc i) l e = taken_short frames i (omega arith) (let g : map taken_text (take i frames) ++ [] ≡ map taken_text frames = cc e in g)

-- after the lines of the first frames that of the next isn't first
pub taken-other : (frames : List Frame) (i : ℕ) (frame : Frame) (lines rest : List (List ℕ)) → i < length frames → frame ≡ get_or frames i frame → lines ≡ map taken_text (take i frames) ++ rest → ((after : List (List ℕ)) → rest ≡ taken_text frame ∷ after → ⊥) → DepartsAt (λ all said. said ≡ map taken_text frames) lines rest
taken-other frames i frame lines rest l at e other = record {
  passed = map taken_text (take i frames);
  parts = e;
  begins = (map taken_text (drop i frames), taken_parts frames i);
  first = λ line others more f g. other others (f ∙ ap (λ (t : List ℕ). t ∷ others) (taken_at frames i frame line more l at g));
  none = λ g. by_rest rest refl (sym e ∙ g);
}
  where
    by_rest : (r : List (List ℕ)) → rest ≡ r → map taken_text (take i frames) ++ rest ≡ map taken_text frames → ⊥
    by_rest [] f g = taken_short frames i l (sym (ap (λ ls. map taken_text (take i frames) ++ ls) f) ∙ g)
    by_rest (line ∷ others) f g = other others (f ∙ ap (λ (t : List ℕ). t ∷ others) (taken_at frames i frame line others l at (sym (ap (λ ls. map taken_text (take i frames) ++ ls) f) ∙ g)))

-- lines are left after those of all the frames
pub taken-more : (frames : List Frame) (lines rest : List (List ℕ)) (line : List ℕ) (others : List (List ℕ)) → lines ≡ map taken_text frames ++ rest → rest ≡ line ∷ others → DepartsAt (λ all said. said ≡ map taken_text frames) lines rest
taken-more frames lines rest line others e r = record {
  passed = map taken_text frames;
  parts = e;
  begins = ([], append-nil (map taken_text frames));
  first = λ l o more f g. too_long l more g;
  none = λ g. too_long line others (sym (ap (λ ls. map taken_text frames ++ ls) r) ∙ sym e ∙ g);
}
  where
    too_long : (l : List ℕ) (more : List (List ℕ)) → map taken_text frames ++ (l ∷ more) ≡ map taken_text frames → ⊥
    too_long l more g = let n = sym (length-append (map taken_text frames) (l ∷ more)) ∙ ap length g in absurd (omega (arith, n))

-- the first frames of two lists joined
pub take-joined : (xs ys : List Frame) (n : ℕ) → take (length xs + n) (xs ++ ys) ≡ xs ++ take n ys
take-joined [] ys n = let e : length {A = Frame} [] + n ≡ n = omega arith in ap (λ k. take k ys) e
take-joined (x ∷ xs) ys n =
    let e : length (x ∷ xs) + n ≡ suc (length xs + n) = omega arith in
    ap (λ k. take k (x ∷ (xs ++ ys))) e ∙ ap (λ fs. x ∷ fs) (take-joined xs ys n)

-- ---- how many were taken

-- the lines of two numbers differ
pub handed-one : (n m : ℕ) → n < 2 ^ 64 → m < 2 ^ 64 → handed_text n ≡ handed_text m → n ≡ m
handed-one n m a b e =
    let d : decimal n ≡ decimal m = cc e in
    sym (decimal_is_IsNumeral n a).1 ∙ ap (digits_value 10) d ∙ (decimal_is_IsNumeral m b).1

-- no line, or that of no number
pub counts-here : (frames : List Frame) (count : ℕ) (lines rest : List (List ℕ)) → lines ≡ rest → ((more : ℕ) (others : List (List ℕ)) → count + more ≤ length frames → rest ≡ handed_text more ∷ others → ⊥) → count ≤ length frames → DepartsAt (λ all said. TellsTaken frames count said) lines rest
counts-here frames count lines rest e none few =
    departs-here (λ all said. TellsTaken frames count said) lines rest (handed_text 0 ∷ map taken_text (take (count + 0) frames)) e (0, omega (arith, few), refl)
    (λ line others more f t. none t.0 others t.1 (f ∙ ap (λ (l : List ℕ). l ∷ others) (let g : line ≡ handed_text t.0 = let h = t.2 in cc h in g)))
    (λ t. none t.0 (map taken_text (take (count + t.0) frames)) t.1 (sym e ∙ t.2))

-- what was taken, behind the line of their number
counts-behind : (frames : List Frame) (count handed : ℕ) (line : List ℕ) (lines after rest : List (List ℕ)) → length frames - count < 2 ^ 64 → line ≡ handed_text handed → lines ≡ line ∷ after → count + handed ≤ length frames → DepartsAt (λ all said. said ≡ map taken_text (take (count + handed) frames)) after rest → DepartsAt (λ all said. TellsTaken frames count said) lines rest
counts-behind frames count handed line lines after rest short h e few d =
    subst (λ (ls : List (List ℕ)). DepartsAt (λ all said. TellsTaken frames count said) ls rest) (sym e)
    (departs-behind (λ before. Unit {0}) (λ before all said. said ≡ map taken_text (take (count + handed) frames)) (λ all said. TellsTaken frames count said) (line ∷ []) after rest (λ before u. d) [] tt
    (λ said p. (handed, few, ap (λ l. l ∷ said) h ∙ ap (λ ls. handed_text handed ∷ ls) p))
    (λ all said same t.
    let w : line ∷ said ≡ handed_text t.0 ∷ map taken_text (take (count + t.0) frames) = t.2 in
    let l : handed_text handed ≡ handed_text t.0 = let g : line ≡ handed_text t.0 = cc w in sym h ∙ g in
    let n : handed ≡ t.0 = handed-one handed t.0 (omega (arith, few, short)) (omega (arith, t.1, short)) l in
    let g : said ≡ map taken_text (take (count + t.0) frames) = cc w in
    ([], tt, g ∙ ap (λ k. map taken_text (take (count + k) frames)) (sym n))))

pub counts-judged : (frames : List Frame) (count handed : ℕ) (line : List ℕ) (lines after : List (List ℕ)) → length frames - count < 2 ^ 64 → line ≡ handed_text handed → lines ≡ line ∷ after → handed ≤ length frames - count → (o : Judged) → JudgesTaken (take (count + handed) frames) after o → JudgesCounts frames count lines o
counts-judged frames count handed line lines after short h e few (judged.Explained rest) t = λ less. (handed, omega (arith, few, less), e ∙ ap (λ l. l ∷ after) h ∙ ap (λ ls. handed_text handed ∷ ls) t)
counts-judged frames count handed line lines after short h e few (judged.Departs rest) t = λ less. counts-behind frames count handed line lines after (lines_of rest.now) short h e (omega (arith, few, less)) t

-- ---- the end

-- the lines after that of the stop
ends-tell : (before : List Entry) (left : List Step) (now : List Frame) (count : ℕ) (stop : List ℕ) (after : List (List ℕ)) → count ≡ length (work before) → StopJudged before left stop now true → (TellsTaken now count after ↔ Ends before left (stop ∷ after))
ends-tell before left now count stop after c j = (there, back)
  where
    there : TellsTaken now count after → Ends before left (stop ∷ after)
    there t =
        let code = j.0.0 in
        let g : now ≡ work before ++ stopping_hands before left code = j.1 code j.0.2 in
        let n : length now ≡ length (work before) + length (stopping_hands before left code) = ap length g ∙ length-append (work before) (stopping_hands before left code) in
        let same : take (count + t.0) now ≡ work before ++ take t.0 (stopping_hands before left code) = ap (λ k. take (k + t.0) now) c ∙ ap (take (length (work before) + t.0)) g ∙ take-joined (work before) (stopping_hands before left code) t.0 in
        record {
          code = code;
          handed = t.0;
          stop = j.0.1;
          taken = omega (arith, t.1, n, c);
          lines = ap (λ l. l ∷ after) (sym j.0.2) ∙ ap (λ ls. stop_text code ∷ ls) (t.2 ∙ ap (λ fs. handed_text t.0 ∷ map taken_text fs) same);
        }

    back : Ends before left (stop ∷ after) → TellsTaken now count after
    back x =
        let h : stop ∷ after ≡ ending_lines before left x.code x.handed = x.lines in
        let s : stop ≡ stop_text x.code = cc h in
        let t : after ≡ handed_text x.handed ∷ map taken_text (work before ++ take x.handed (stopping_hands before left x.code)) = cc h in
        let g : now ≡ work before ++ stopping_hands before left x.code = j.1 x.code (sym s) in
        let n : length now ≡ length (work before) + length (stopping_hands before left x.code) = ap length g ∙ length-append (work before) (stopping_hands before left x.code) in
        let m = x.taken in
        let same : take (count + x.handed) now ≡ work before ++ take x.handed (stopping_hands before left x.code) = ap (λ k. take (k + x.handed) now) c ∙ ap (take (length (work before) + x.handed)) g ∙ take-joined (work before) (stopping_hands before left x.code) x.handed in
        (x.handed, omega (arith, n, c, m), t ∙ ap (λ fs. handed_text x.handed ∷ map taken_text fs) (sym same))

-- what was handed is no less
ends-less : (before : List Entry) (left : List Step) (now : List Frame) (count : ℕ) (stop : List ℕ) → count ≡ length (work before) → StopJudged before left stop now true → count ≤ length now
ends-less before left now count stop c j =
    let code = j.0.0 in
    let n = ap length (j.1 code j.0.2) ∙ length-append (work before) (stopping_hands before left code) in
    omega (arith, n, c)

pub ends-judged : (before : List Entry) (left : List Step) (now : List Frame) (count : ℕ) (stop : List ℕ) (lines after : List (List ℕ)) → lines ≡ stop ∷ after → count ≡ length (work before) → StopJudged before left stop now true → (o : Judged) → JudgesCounts now count after o → JudgesEnd before left lines o
ends-judged before left now count stop lines after e c j (judged.Explained rest) t = subst (λ (ls : List (List ℕ)). Ends before left ls) (sym e) ((ends-tell before left now count stop after c j).0 (t (ends-less before left now count stop c j)))
ends-judged before left now count stop lines after e c j (judged.Departs rest) t =
    subst (λ (ls : List (List ℕ)). DepartsAt (λ all said. EndsHere all before left said) ls (lines_of rest.now)) (sym e)
    (departs-behind (λ es. Unit {0}) (λ es all said. TellsTaken now count said) (λ all said. EndsHere all before left said) (stop ∷ []) after (lines_of rest.now) (λ es u. t (ends-less before left now count stop c j)) [] tt
    (λ said p. inr ((ends-tell before left now count stop said c j).0 p))
    (λ all said same q. ([], tt, back all said q)))
  where
    back : (all : Bool) (said : List (List ℕ)) → EndsHere all before left (stop ∷ said) → TellsTaken now count said
    back true said x = (ends-tell before left now count stop said c j).1 x
    back false said (inl x) = absurd (cc x)
    back false said (inr x) = (ends-tell before left now count stop said c j).1 x

-- the line of no stop that is allowed
pub ends-false : (before : List Entry) (left : List Step) (now : List Frame) (stop : List ℕ) (after lines : List (List ℕ)) → lines ≡ stop ∷ after → StopJudged before left stop now false → DepartsAt (λ all said. EndsHere all before left said) lines lines
ends-false before left now stop after lines e j =
    departs-here (λ all said. EndsHere all before left said) lines lines [] refl (inl refl)
    (λ line others more g x. let h : line ∷ others ≡ stop ∷ after = sym g ∙ e in none false line more (let k : line ≡ stop = cc h in k) x)
    (λ x. none true stop after refl (subst (λ (ls : List (List ℕ)). Ends before left ls) e x))
  where
    other : (line : List ℕ) (more : List (List ℕ)) → line ≡ stop → Ends before left (line ∷ more) → ⊥
    other line more s x = let l = x.lines in let h : line ≡ stop_text x.code = cc l in j x.code x.stop (sym h ∙ s)

    none : (all : Bool) (line : List ℕ) (more : List (List ℕ)) → line ≡ stop → EndsHere all before left (line ∷ more) → ⊥
    none true line more s x = other line more s x
    none false line more s (inl x) = cc x
    none false line more s (inr x) = other line more s x

-- no stop
pub ends-empty : (before : List Entry) (left : List Step) (lines : List (List ℕ)) → lines ≡ [] → DepartsAt (λ all said. EndsHere all before left said) lines lines
ends-empty before left lines e =
    departs-here (λ all said. EndsHere all before left said) lines lines [] refl (inl refl)
    (λ line others more g x. let h : [] ≡ line ∷ others = sym e ∙ g in cc h)
    (λ x. let l = x.lines in cc (e, l))

-- a link's end stops no run, and a connection's stop stops it with its word
pub no-link_stop : {link : ℕ} (before : List Entry) (step : Step) (line : List ℕ) → step ≡ steps.LinkEnd link → IsTrue false ↔ ShowsStop before step line
no-link_stop {link} before step line e = let P : Step → Type 0 = λ t. IsTrue false ↔ ShowsStop before t line in subst P (sym e) (shows-none (Stops before (steps.LinkEnd link)) line (λ code x. x))

pub connection_stop : {reason : ConnectionStopReason} (before : List Entry) (step : Step) (line : List ℕ) (b : Bool) → step ≡ steps.ConnectionStop reason → b ≡ bytes_eq line (codes "stop connection-stopped") → IsTrue b ↔ ShowsStop before step line
connection_stop {reason} before step line b e f =
    let P : Step → Type 0 = λ t. IsTrue b ↔ ShowsStop before t line in
    let Q : Bool → Type 0 = λ d. IsTrue d ↔ ShowsStop before (steps.ConnectionStop reason) line in
    subst P (sym e) (subst Q (sym f) (shows-word (Stops before (steps.ConnectionStop reason)) line stop_codes.ConnectionStopped refl (λ code x. x)))

-- a post that is answered with no disposition, or with one
pub told-none : (o : Option Disposition) → is_some o ≡ false → frames_telling o ≡ []
told-none None e = refl
told-none (Some disposition) e = cc e

pub told-some : (o : Option Disposition) → is_some o ≡ true → (one : Frame) × (frames_telling o ≡ one ∷ [])
told-some None e = cc e
told-some (Some disposition) e = (frames.Disposition disposition, refl)
