-- A run of the program is one of which a report is written.
use Rattle.std.proofs.Common.{◌≡◌, ℕ, ◌≤◌, Bool, true, false, cond, Option, Some, None, List, [], ◌∷◌, ◌++◌, length, map, take, refl, sym, ◌∙◌, ap, subst, arith, append-nil}
use Rattle.std.specs.Prelude.{MatchBool}
use Rattle.std.specs.List.{zip}
use Rattle.std.proofs.lemmas.List.{append_cancel_left, map-append}
use Rattle.std.proofs.lemmas.Slice.Zip.{firsts-zip}
use Rattle.amqp_txn_types.specs.declared.id.TransactionId.{TransactionId}
use Rattle.amqp_txn_types.specs.declared.delivery.SessionStopReason.{SessionStopReason}
use Rattle.amqp_txn_types.specs.declared.delivery.SessionStopReason.TheVariants as reasons
use Rattle.amqp_txn_types.specs.declared.performatives.Frame.{Frame}
use Rattle.amqp_txn_types.specs.Frames.{txn}
use Rattle.amqp_txn_types.specs.Growing.{grown}
use Rattle.amqp_txn_types.specs.Presumptive.{answered_under}
use Rattle.amqp_below_layer.specs.OneFrame.{TookFrames}
use Rattle.amqp_below_layer.specs.Told.{Told}
use Rattle.amqp_below_layer.specs.declared.inner_error.SessionInnerError.{SessionInnerError}
use Rattle.amqp_below_layer.specs.declared.inner_error.SessionInnerError.TheVariants as faults
use Rattle.amqp_resource_record.specs.declared.entry.Entry.{Entry}
use Rattle.amqp_resource_record.specs.declared.step.Step.{Step}
use Rattle.amqp_resource_record.specs.declared.step.Step.TheVariants as steps
use Rattle.amqp_resource_record.specs.declared.stop.Driven.{Driven}
use Rattle.amqp_resource_record.specs.declared.stop.Stop.{Stop}
use Rattle.amqp_resource_record.specs.declared.stop.Stop.TheVariants as stops
use Rattle.amqp_resource_record.specs.declared.stop.StopCode.{StopCode}
use Rattle.amqp_resource_record.specs.declared.stop.StopCode.TheVariants as stop_codes
use Rattle.amqp_resource_record.specs.Entries.{steps_of}
use Rattle.amqp_resource_record.specs.Hands.{hands}
use Rattle.amqp_resource_record.specs.Legal.{IsLegal}
use Rattle.amqp_resource_record.specs.Stops.{code_of, ended_code, fault_code}
use Rattle.amqp_resource_record.specs.Work.{pairs, work}
use Rattle.amqp_resource_record.proofs.Origins.{firsts_of_pairs}
use Rattle.amqp_resource_held.specs.Views.{view_of_record}
use Rattle.amqp_resource_held.proofs.Views.{live-record}
use Rattle.amqp_resource_session.specs.Drive.{NextStep, RunTook, StopCause}
use Rattle.amqp_resource_session.specs.Steps.{FrameMayFault, IsDead, MayFault, UnderDead, ended_by, is_unknown}
use Rattle.txn_program_runs.specs.Running.{IsRun}
use Rattle.txn_audit_report.specs.Stopping.{is_refusal}
use Rattle.txn_audit_fits.specs.Fits.{StopFits, Stops, StopsFrame, StopsUnder, stopping_hands}
use Rattle.txn_audit_law.specs.Reported.{IsReported, frames_taken}

-- ---- codes

refusal-code : (error : SessionInnerError) → is_unknown error ≡ false → is_refusal (fault_code error) ≡ true
refusal-code faults.UnattachedHandle e = refl
refusal-code faults.RemoteAttachingLinkNameNotFound e = refl
refusal-code faults.HandleInUse e = refl
refusal-code faults.IllegalState e = refl
refusal-code (faults.ConnectionStopped reason) e = refl
refusal-code faults.TransferFrameToSender e = refl
refusal-code faults.RemoteEnded e = refl
refusal-code (faults.RemoteEndedWithError error) e = refl
refusal-code faults.UnknownTxnId e = cc e
refusal-code faults.NoMemory e = refl

unknown-code : (error : SessionInnerError) → is_unknown error ≡ true → fault_code error ≡ stop_codes.UnknownTxnId
unknown-code faults.UnknownTxnId e = refl
unknown-code faults.UnattachedHandle e = cc e
unknown-code faults.RemoteAttachingLinkNameNotFound e = cc e
unknown-code faults.HandleInUse e = cc e
unknown-code faults.IllegalState e = cc e
unknown-code (faults.ConnectionStopped reason) e = cc e
unknown-code faults.TransferFrameToSender e = cc e
unknown-code faults.RemoteEnded e = cc e
unknown-code (faults.RemoteEndedWithError error) e = cc e
unknown-code faults.NoMemory e = cc e

ended-other : (reason : SessionStopReason) → is_refusal (ended_code reason) ≡ false
ended-other reasons.Ended = refl
ended-other (reasons.EndedWithError error) = refl
ended-other reasons.RemoteEnded = refl
ended-other (reasons.RemoteEndedWithError error) = refl
ended-other (reasons.ConnectionStopped reason) = refl

-- ---- why a step stops

dead-frame : (entries : List Entry) (frame : Frame) (id : Option TransactionId) (code : StopCode) → IsDead (view_of_record entries) id → code ≡ stop_codes.UnknownTxnId → StopsFrame entries frame id code
dead-frame entries frame None code d e = absurd d
dead-frame entries frame (Some id) code d e =
    let P : Bool → Type 0 = λ b. StopsUnder b (answered_under id frame) code in
    subst P (sym (sym (live-record entries id) ∙ d)) e

dead : (entries : List Entry) (step : Step) (code : StopCode) → UnderDead (view_of_record entries) step → code ≡ stop_codes.UnknownTxnId → Stops entries step code
dead entries (steps.Frame frame) code d e = dead-frame entries frame (txn frame) code d e
dead entries (steps.Control link payload) code d e = absurd d
dead entries (steps.LinkEnd link) code d e = absurd d
dead entries (steps.LocalEnd error) code d e = absurd d
dead entries (steps.RemoteEnd error) code d e = absurd d
dead entries (steps.ConnectionStop reason) code d e = absurd d

fault-frame : (entries : List Entry) (frame : Frame) (id : Option TransactionId) (code : StopCode) → FrameMayFault (view_of_record entries) frame id → is_refusal code ≡ true → StopsFrame entries frame id code
fault-frame entries frame None code f r = (f, r)
fault-frame entries frame (Some id) code f r =
    let P : Bool → Type 0 = λ b. StopsUnder b (answered_under id frame) code in
    subst P (sym (sym (live-record entries id) ∙ f.0)) (f.1, r)

faulted : (entries : List Entry) (step : Step) (error : SessionInnerError) → MayFault (view_of_record entries) step (hands entries step) error → is_refusal (fault_code error) ≡ true → Stops entries step (fault_code error)
faulted entries (steps.Frame frame) error f r = fault-frame entries frame (txn frame) (fault_code error) f r
faulted entries (steps.Control link payload) error f r = (f.0, ap fault_code f.1)
faulted entries (steps.LinkEnd link) error f r = absurd f
faulted entries (steps.LocalEnd other) error f r = absurd f
faulted entries (steps.RemoteEnd other) error f r = absurd f
faulted entries (steps.ConnectionStop reason) error f r = absurd f

ended : (entries : List Entry) (step : Step) (reason : SessionStopReason) → ended_by step ≡ Some reason → Stops entries step (ended_code reason)
ended entries (steps.Frame frame) reason e = cc e
ended entries (steps.Control link payload) reason e = cc e
ended entries (steps.LinkEnd link) reason e = cc e
ended entries (steps.LocalEnd None) reason e = let f : reasons.Ended ≡ reason = cc e in sym (ap ended_code f)
ended entries (steps.LocalEnd (Some error)) reason e = let f : reasons.EndedWithError error ≡ reason = cc e in sym (ap ended_code f)
ended entries (steps.RemoteEnd None) reason e = let f : reasons.RemoteEnded ≡ reason = cc e in sym (ap ended_code f)
ended entries (steps.RemoteEnd (Some error)) reason e = let f : reasons.RemoteEndedWithError error ≡ reason = cc e in sym (ap ended_code f)
ended entries (steps.ConnectionStop stop) reason e = let f : reasons.ConnectionStopped stop ≡ reason = cc e in sym (ap ended_code f)

-- ---- the whole run

-- how the run ended
record Ended (all : List Step) (entries : List Entry) (end : Stop) (count : ℕ) (exchanges : List (Frame × List Frame)) : Type 0 where
  left : List Step
  steps : all ≡ steps_of entries ++ left
  stop : StopFits entries left (code_of end)
  handed : count ≤ length (stopping_hands entries left (code_of end))
  taken : frames_taken exchanges ≡ work entries ++ take count (stopping_hands entries left (code_of end))

-- nothing of the stopping step was taken
taken-none : (entries : List Entry) (taken : List (Frame × List Frame)) (handed : ℕ) (frames : List Frame) → IsLegal entries → Some taken ≡ grown (Some []) (pairs entries) → handed ≡ 0 → frames ≡ [] → frames_taken taken ≡ work entries ++ take handed frames
taken-none entries taken handed frames l e h f =
    let same : taken ≡ pairs entries = cc e in
    ap frames_taken same ∙ firsts_of_pairs entries l ∙ sym (append-nil (work entries)) ∙ ap (λ fs. work entries ++ fs) (sym (ap (λ n. take n frames) h))

-- the first frames of the refused step were taken
taken-some : (entries : List Entry) (taken : List (Frame × List Frame)) (given : List (List Frame)) (first : List Frame) → IsLegal entries → length given ≡ length first → Some taken ≡ grown (grown (Some []) (pairs entries)) (zip first given) → frames_taken taken ≡ work entries ++ first
taken-some entries taken given first l g e =
    let same : taken ≡ pairs entries ++ zip first given = cc e in
    ap frames_taken same ∙ map-append (λ (x : Frame × List Frame). x.0) (pairs entries) (zip first given)
    ∙ ap (λ fs. fs ++ map (λ (x : Frame × List Frame). x.0) (zip first given)) (firsts_of_pairs entries l)
    ∙ ap (λ fs. work entries ++ fs) (firsts-zip first given g)

no_hands : (entries : List Entry) (step : Step) (rest : List Step) (code : StopCode) → is_refusal code ≡ false → stopping_hands entries (step ∷ rest) code ≡ []
no_hands entries step rest code e = ap (λ b. cond b (hands entries step) []) e

its_hands : (entries : List Entry) (step : Step) (rest : List Step) (code : StopCode) → is_refusal code ≡ true → stopping_hands entries (step ∷ rest) code ≡ hands entries step
its_hands entries step rest code e = ap (λ b. cond b (hands entries step) []) e

none_handed : (n : ℕ) (frames : List Frame) → n ≡ 0 → n ≤ length frames
none_handed n frames e = omega arith

at_unknown : (all : List Step) (entries : List Entry) (error : SessionInnerError) (handed : ℕ) (taken : List (Frame × List Frame)) → IsLegal entries → is_unknown error ≡ true → NextStep all entries (λ s. UnderDead (view_of_record entries) s) → (Some taken ≡ grown (Some []) (pairs entries)) × (handed ≡ 0) → Ended all entries (stops.Fault error) handed taken
at_unknown all entries error handed taken l u n t =
    let c = unknown-code error u in
    let none : stopping_hands entries (n.0 ∷ n.1) (fault_code error) ≡ [] = no_hands entries n.0 n.1 (fault_code error) (ap is_refusal c) in
    record {
      left = n.0 ∷ n.1;
      steps = n.2;
      stop = dead entries n.0 (fault_code error) n.3 c;
      handed = none_handed handed (stopping_hands entries (n.0 ∷ n.1) (fault_code error)) t.1;
      taken = taken-none entries taken handed (stopping_hands entries (n.0 ∷ n.1) (fault_code error)) l t.0 t.1 none;
    }

at_fault : (all : List Step) (entries : List Entry) (error : SessionInnerError) (handed : ℕ) (taken : List (Frame × List Frame)) → IsLegal entries → is_unknown error ≡ false → (step : Step) (rest : List Step) → all ≡ steps_of entries ++ (step ∷ rest) → MayFault (view_of_record entries) step (hands entries step) error → handed ≤ length (hands entries step) → (given : List (List Frame)) → length given ≡ length (take handed (hands entries step)) → Some taken ≡ grown (grown (Some []) (pairs entries)) (zip (take handed (hands entries step)) given) → Ended all entries (stops.Fault error) handed taken
at_fault all entries error handed taken l k step rest e m few given g t =
    let r = refusal-code error k in
    let h = its_hands entries step rest (fault_code error) r in
    record {
      left = step ∷ rest;
      steps = e;
      stop = faulted entries step error m r;
      handed = subst (λ (frames : List Frame). handed ≤ length frames) (sym h) few;
      taken = taken-some entries taken given (take handed (hands entries step)) l g t ∙ ap (λ frames. work entries ++ take handed frames) (sym h);
    }

one_step : (all : List Step) (entries : List Entry) (a b : Step) (x y : List Step) → all ≡ steps_of entries ++ (a ∷ x) → all ≡ steps_of entries ++ (b ∷ y) → b ≡ a
one_step all entries a b x y e f = let g = append_cancel_left (steps_of entries) (b ∷ y) (a ∷ x) (sym f ∙ e) in cc g

by_unknown : (all : List Step) (entries : List Entry) (error : SessionInnerError) (handed : ℕ) (taken : List (Frame × List Frame)) (b : Bool) → is_unknown error ≡ b → IsLegal entries → NextStep all entries (λ s. MatchBool b (UnderDead (view_of_record entries) s) (MayFault (view_of_record entries) s (hands entries s) error))
    → MatchBool b ((Some taken ≡ grown (Some []) (pairs entries)) × (handed ≡ 0)) (NextStep all entries (λ s. (handed ≤ length (hands entries s)) × TookFrames (grown (Some []) (pairs entries)) (Some taken) (take handed (hands entries s))))
    → Ended all entries (stops.Fault error) handed taken
by_unknown all entries error handed taken true u l n t = at_unknown all entries error handed taken l u n t
by_unknown all entries error handed taken false u l n t =
    let same = one_step all entries n.0 t.0 n.1 t.1 n.2 t.2 in
    let few = t.3.0 in
    let P : Step → Type 0 = λ s. (handed ≤ length (hands entries s)) × TookFrames (grown (Some []) (pairs entries)) (Some taken) (take handed (hands entries s)) in
    let x = subst P same t.3 in
    at_fault all entries error handed taken l u n.0 n.1 n.2 n.3 x.0 x.1.0 x.1.1 x.1.2

by_stop : (all : List Step) (entries : List Entry) (stop : Stop) (handed : ℕ) (taken : List (Frame × List Frame)) → IsLegal entries → (stop ≡ stops.NoMemory → ⊥) → StopCause all entries stop → RunTook (Some []) (Some taken) all entries stop handed → Ended all entries stop handed taken
by_stop all entries stops.Done handed taken l n c t = record {
  left = [];
  steps = sym c ∙ sym (append-nil (steps_of entries));
  stop = refl;
  handed = none_handed handed [] t.1;
  taken = taken-none entries taken handed [] l t.0 t.1 refl;
}
by_stop all entries (stops.Fault error) handed taken l n c t = by_unknown all entries error handed taken (is_unknown error) refl l c t
by_stop all entries (stops.Ended reason) handed taken l n c t =
    let none = no_hands entries c.0 c.1 (ended_code reason) (ended-other reason) in
    record {
      left = c.0 ∷ c.1;
      steps = c.2;
      stop = ended entries c.0 reason c.3;
      handed = none_handed handed (stopping_hands entries (c.0 ∷ c.1) (ended_code reason)) t.1;
      taken = taken-none entries taken handed (stopping_hands entries (c.0 ∷ c.1) (ended_code reason)) l t.0 t.1 none;
    }
by_stop all entries stops.NoMemory handed taken l n c t = absurd (n refl)

pub run-reported : (ids : ℕ → TransactionId) (steps : List Step) (before : Option (List (List Frame))) (below : Told) (driven : Driven) (taken : List (Frame × List Frame)) → IsRun ids steps before below driven → below.taken ≡ Some taken → (driven.stop ≡ stops.NoMemory → ⊥) → IsReported steps ids driven taken
run-reported ids steps before below driven taken r e n =
    let P : Option (List (Frame × List Frame)) → Type 0 = λ now. RunTook (Some []) now steps driven.entries driven.stop driven.handed in
    let x = by_stop steps driven.entries driven.stop driven.handed taken r.legal n r.cause (subst P e r.taken) in
    record { left = x.left; legal = r.legal; steps = x.steps; drawn = r.drawn; stop = x.stop; handed = x.handed; taken = x.taken }
