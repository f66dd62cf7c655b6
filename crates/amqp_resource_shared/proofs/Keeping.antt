-- What a step leaves of what lies under the lock.
use Rattle.std.proofs.Common.{◌≡◌, ℕ, ◌+◌, ◌-◌, ◌^◌, ◌≤◌, min, Bool, true, false, cond, Option, Some, None, Result, Ok, Err, List, [], ◌∷◌, ◌++◌, length, take, IfSome, refl, sym, ◌∙◌, ap, subst, arith, append-nil, length-take-le, inl, inr}
use Rattle.std.specs.Prelude.{⊤, MatchBool}
use Rattle.std.specs.List.{zip}
use Rattle.std.proofs.lemmas.List.Concat.{flat_map-append}
use Rattle.std.proofs.lemmas.List.Sums.{sum_by_push}
use Rattle.amqp_txn_types.specs.Counts.{Rose}
use Rattle.amqp_txn_types.specs.Growing.{grown}
use Rattle.amqp_txn_types.specs.declared.delivery.SessionStopReason.{SessionStopReason}
use Rattle.amqp_txn_types.specs.declared.delivery.SessionStopReason.TheVariants as reasons
use Rattle.amqp_txn_types.specs.declared.id.TransactionId.{TransactionId}
use Rattle.amqp_txn_types.specs.declared.items.NoMemory.{NoMemory}
use Rattle.amqp_txn_types.specs.declared.performatives.Disposition.{Disposition}
use Rattle.amqp_txn_types.specs.declared.small.TransactionError.TheVariants as transaction_errors
use Rattle.amqp_txn_types.specs.declared.performatives.Frame.{Frame}
use Rattle.amqp_below_layer.specs.Told.{Told}
use Rattle.amqp_below_layer.specs.OneFrame.{TookFrames}
use Rattle.amqp_below_layer.specs.declared.inner_error.SessionInnerError.{SessionInnerError}
use Rattle.amqp_below_layer.specs.declared.inner_error.SessionInnerError.TheVariants as faults
use Rattle.amqp_below_layer.specs.declared.verdict.Verdict.{Verdict}
use Rattle.amqp_below_ids.specs.Drawn.{DrawnIds}
use Rattle.amqp_below_ids.specs.Ids.{Drew}
use Rattle.amqp_below_ids.proofs.Draws.{Drew-append, Drew-none}
use Rattle.amqp_resource_record.specs.declared.entry.Entry.{Entry}
use Rattle.amqp_resource_record.specs.declared.step.Step.{Step}
use Rattle.amqp_resource_record.specs.declared.reply.Reply.{Reply}
use Rattle.amqp_resource_record.specs.declared.reply.Reply.TheVariants as replies
use Rattle.amqp_resource_record.specs.declared.stop.StepError.{StepError}
use Rattle.amqp_resource_record.specs.declared.stop.StepError.TheVariants as errors
use Rattle.amqp_resource_record.specs.declared.stop.StopCode.{StopCode}
use Rattle.amqp_resource_record.specs.Entries.{drawn_of}
use Rattle.amqp_resource_record.specs.Hands.{hands}
use Rattle.amqp_resource_record.specs.Legal.{IsLegal}
use Rattle.amqp_resource_record.specs.Opened.{attach_refused_count, is_attach_refused}
use Rattle.amqp_resource_record.specs.Stops.{ended_code, fault_code}
use Rattle.amqp_resource_record.specs.Work.{given_back, given_by, handed_by, pairs, work}
use Rattle.amqp_resource_record.proofs.Whole.{pairs-snoc}
use Rattle.amqp_resource_held.specs.declared.held.Held.{Held}
use Rattle.amqp_resource_held.specs.Held.{Stands}
use Rattle.amqp_resource_held.specs.Views.{view_of_record}
use Rattle.amqp_resource_session.specs.declared.session.TxnSession.{TxnSession}
use Rattle.amqp_resource_session.specs.Session.{StopAfter, below_of, held_of, stop_of, told_of}
use Rattle.amqp_resource_session.specs.StepClauses.{StepSays}
use Rattle.amqp_resource_session.specs.Steps.{AnswersEnd, IfAttachRefused, IfVeto, IsControlAttach, MayFault, StopsSurely, TookFirst, UnderDead, ended_by, entry_of, is_unknown}
use Rattle.amqp_resource_shared.specs.declared.receipt.Receipt.{Receipt}
use Rattle.amqp_resource_shared.specs.declared.receipt.StoppedAt.{StoppedAt}
use Rattle.amqp_resource_shared.specs.declared.reply_code.ReplyCode.{ReplyCode}
use Rattle.amqp_resource_shared.specs.Kept.{Kept, StopFits, Standing, TakenOf, refused_stop}
use Rattle.amqp_resource_shared.specs.OneStep.{AnswersOr, CauseOf, Causes, DidSo, IfRefusedAttach, IfVetoTold, stop_by, stopped_by}
use Rattle.amqp_resource_shared.specs.Receipts.{code_told}
use Rattle.amqp_resource_shared.specs.ReplyCodes.{code_of_reply}

abbrev Taken : Type 0
Taken = Option (List (Frame × List Frame))

abbrev Source : Type 0
Source = Option (ℕ → TransactionId)

-- ---- by a truth value

decided : {P Q X Y : Type 0} (b : Bool) → (Y → P) → (X → Q) → MatchBool b Y ⊤ → MatchBool b ⊤ X → MatchBool b P Q
decided true f g y x = f y
decided false f g y x = g x

joined : {X Y Z : Type 0} (f : X → Y → Z) (b : Bool) → MatchBool b X ⊤ → MatchBool b Y ⊤ → MatchBool b Z ⊤
joined f true x y = f x y
joined f false x y = tt

paired : (X Y : Type 0) (b : Bool) → MatchBool b ⊤ X → MatchBool b ⊤ Y → MatchBool b ⊤ (X × Y)
paired X Y true x y = tt
paired X Y false x y = (x, y)

whichever : {Z : Type 0} (b : Bool) → MatchBool b Z Z → Z
whichever true z = z
whichever false z = z

-- ---- what was taken below

taken-more : (old new : Taken) (r : List Entry) (e : Entry) → IsLegal r → IfSome old (λ t. TakenOf r None t) → new ≡ grown old (zip (handed_by r e.step e.reply) (given_by e.step e.reply)) → IfSome new (λ t. TakenOf (r ++ e ∷ []) None t)
taken-more None new r e legal is g = let P : Taken → Type 0 = λ o. IfSome o (λ t. TakenOf (r ++ e ∷ []) None t) in subst P (sym g) tt
taken-more (Some t) new r e legal is g =
    let P : Taken → Type 0 = λ o. IfSome o (λ t. TakenOf (r ++ e ∷ []) None t) in
    subst P (sym g) (ap (λ x. x ++ zip (handed_by r e.step e.reply) (given_by e.step e.reply)) is ∙ sym (pairs-snoc r e legal))

taken-first : (old new : Taken) (r : List Entry) (s : Step) (handed : ℕ) → IfSome old (λ t. TakenOf r None t) → handed ≤ length (hands r s) → TookFrames old new (take handed (hands r s)) → IfSome new (λ t. TakenOf r (Some (record { step = s; handed = handed })) t)
taken-first None new r s handed is within took =
    let P : Taken → Type 0 = λ o. IfSome o (λ t. TakenOf r (Some (record { step = s; handed = handed })) t) in
    subst P (sym took.2) tt
taken-first (Some t) new r s handed is within took =
    let P : Taken → Type 0 = λ o. IfSome o (λ t. TakenOf r (Some (record { step = s; handed = handed })) t) in
    subst P (sym took.2) (took.0, within, took.1 ∙ length-take-le handed (hands r s) within, ap (λ x. x ++ zip (take handed (hands r s)) took.0) is)

taken-nothing : (old new : Taken) (r : List Entry) (s : Step) → IfSome old (λ t. TakenOf r None t) → new ≡ old → IfSome new (λ t. TakenOf r (Some (record { step = s; handed = 0 })) t)
taken-nothing None new r s is e =
    let P : Taken → Type 0 = λ o. IfSome o (λ t. TakenOf r (Some (record { step = s; handed = 0 })) t) in
    subst P (sym e) tt
taken-nothing (Some t) new r s is e =
    let P : Taken → Type 0 = λ o. IfSome o (λ t. TakenOf r (Some (record { step = s; handed = 0 })) t) in
    subst P (sym e) ([], omega arith, refl, is ∙ sym (append-nil (pairs r)))

taken-none : (old new : Taken) (r : List Entry) (s : Step) (handed : ℕ) → IfSome old (λ t. TakenOf r None t) → new ≡ old → handed ≡ 0 → IfSome new (λ t. TakenOf r (Some (record { step = s; handed = handed })) t)
taken-none old new r s handed is e zero_handed =
    let P : ℕ → Type 0 = λ h. IfSome new (λ t. TakenOf r (Some (record { step = s; handed = h })) t) in
    subst P (sym zero_handed) (taken-nothing old new r s is e)

-- ---- refusals

refusals-more : (before now : ℕ) (r : List Entry) (s : Step) (d : DrawnIds) (reply : Reply) → IfAttachRefused reply (Rose before now × IsControlAttach s) → before ≤ now → min (attach_refused_count r + 0) (2 ^ 64 - 1) ≤ before → min (attach_refused_count (r ++ entry_of s d reply ∷ []) + 0) (2 ^ 64 - 1) ≤ now
refusals-more before now r s d (replies.AttachRefused error) cause later least =
    let rose = cause.0 in
    omega (arith, sum_by_push (λ (e : Entry). cond (is_attach_refused e.reply) 1 0) r (entry_of s d (replies.AttachRefused error)), rose, least)
refusals-more before now r s d reply cause later least =
    omega (arith, sum_by_push (λ (e : Entry). cond (is_attach_refused e.reply) 1 0) r (entry_of s d reply), later, least)

refusals-fault : (before now count : ℕ) (error : SessionInnerError) → MatchBool (is_unknown error) ⊤ (Rose before now) → before ≤ now → min (count + 0) (2 ^ 64 - 1) ≤ before → min (count + refused_stop (Some (fault_code error))) (2 ^ 64 - 1) ≤ now
refusals-fault before now count faults.UnattachedHandle rose later least = omega (arith, rose, least)
refusals-fault before now count faults.RemoteAttachingLinkNameNotFound rose later least = omega (arith, rose, least)
refusals-fault before now count faults.HandleInUse rose later least = omega (arith, rose, least)
refusals-fault before now count faults.IllegalState rose later least = omega (arith, rose, least)
refusals-fault before now count (faults.ConnectionStopped reason) rose later least = omega (arith, rose, least)
refusals-fault before now count faults.TransferFrameToSender rose later least = omega (arith, rose, least)
refusals-fault before now count faults.RemoteEnded rose later least = omega (arith, rose, least)
refusals-fault before now count (faults.RemoteEndedWithError error) rose later least = omega (arith, rose, least)
refusals-fault before now count faults.UnknownTxnId rose later least = omega (arith, later, least)
refusals-fault before now count faults.NoMemory rose later least = omega (arith, rose, least)

refusals-ended : (before now count : ℕ) (reason : SessionStopReason) → before ≤ now → min (count + 0) (2 ^ 64 - 1) ≤ before → min (count + refused_stop (Some (ended_code reason))) (2 ^ 64 - 1) ≤ now
refusals-ended before now count reasons.Ended later least = omega (arith, later, least)
refusals-ended before now count (reasons.EndedWithError error) later least = omega (arith, later, least)
refusals-ended before now count reasons.RemoteEnded later least = omega (arith, later, least)
refusals-ended before now count (reasons.RemoteEndedWithError error) later least = omega (arith, later, least)
refusals-ended before now count (reasons.ConnectionStopped reason) later least = omega (arith, later, least)

-- ---- ids

ids-more : (start start2 : Source) (next next2 : ℕ → TransactionId) (r : List Entry) (e : Entry) → start2 ≡ start → IfSome start (λ ids. Drew ids next (drawn_of r)) → Drew next next2 e.drawn.ids → IfSome start2 (λ ids. Drew ids next2 (drawn_of (r ++ e ∷ [])))
ids-more None start2 next next2 r e same is drew = let P : Source → Type 0 = λ o. IfSome o (λ ids. Drew ids next2 (drawn_of (r ++ e ∷ []))) in subst P (sym same) tt
ids-more (Some ids) start2 next next2 r e same is drew =
    let P : Source → Type 0 = λ o. IfSome o (λ ids. Drew ids next2 (drawn_of (r ++ e ∷ []))) in
    let Q : List TransactionId → Type 0 = λ ds. Drew ids next2 ds in
    let all : drawn_of (r ++ e ∷ []) ≡ drawn_of r ++ e.drawn.ids = flat_map-append (λ (x : Entry). x.drawn.ids) r (e ∷ []) ∙ ap (λ l. drawn_of r ++ l) (append-nil e.drawn.ids) in
    subst P (sym same) (subst Q (sym all) (Drew-append ids next next2 (drawn_of r) e.drawn.ids is drew))

ids-same : {G : Type 0} (starts : G → Source) (next : G → ℕ → TransactionId) (old new : G) (ds : List TransactionId) → new ≡ old → IfSome (starts old) (λ ids. Drew ids (next old) ds) → IfSome (starts new) (λ ids. Drew ids (next new) ds)
ids-same {G} starts next old new ds same is = let P : G → Type 0 = λ g. IfSome (starts g) (λ ids. Drew ids (next g) ds) in subst P (sym same) is

-- ---- what stands

pub standing-runs : (h : Held) (stop : Option StopCode) (r : List Entry) (stopped : Option StoppedAt) → Standing h stop r stopped → stop ≡ None → (stopped ≡ None) × Stands h r
standing-runs h None r None is e = (refl, is)
standing-runs h None r (Some at) is e = absurd is
standing-runs h (Some code) r stopped is e = absurd (cc e)

standing-stands : (h : Held) (stop : Option StopCode) (r : List Entry) (stopped : Option StoppedAt) → stop ≡ None → stopped ≡ None → Stands h r → Standing h stop r stopped
standing-stands h None r None e f stands = stands
standing-stands h None r (Some at) e f stands = absurd (cc f)
standing-stands h (Some code) r stopped e f stands = absurd (cc e)

standing-fits : (h : Held) (stop : Option StopCode) (code : StopCode) (r : List Entry) (at : StoppedAt) → stop ≡ Some code → StopFits r code at.step → at.handed ≤ length (hands r at.step) → Standing h stop r (Some at)
standing-fits h stop code r at e fits within = let P : Option StopCode → Type 0 = λ x. Standing h x r (Some at) in subst P (sym e) (fits, within)

within-hands : (D : Type 0) (old new : Told) (frames : List Frame) (handed : ℕ) (b : Bool) → MatchBool b (D × (handed ≡ 0)) ⊤ → MatchBool b ⊤ (TookFirst old new frames handed) → handed ≤ length frames
within-hands D old new frames handed true x y = let none = x.1 in omega (arith, none)
within-hands D old new frames handed false x y = y.0

fits-fault : (r : List Entry) (s : Step) (error : SessionInnerError) (handed : ℕ) → MatchBool (is_unknown error) (UnderDead (view_of_record r) s × (handed ≡ 0)) ⊤ → StopFits r (fault_code error) s
fits-fault r s faults.UnattachedHandle handed is = tt
fits-fault r s faults.RemoteAttachingLinkNameNotFound handed is = tt
fits-fault r s faults.HandleInUse handed is = tt
fits-fault r s faults.IllegalState handed is = tt
fits-fault r s (faults.ConnectionStopped reason) handed is = tt
fits-fault r s faults.TransferFrameToSender handed is = tt
fits-fault r s faults.RemoteEnded handed is = tt
fits-fault r s (faults.RemoteEndedWithError error) handed is = tt
fits-fault r s faults.UnknownTxnId handed is = is.0
fits-fault r s faults.NoMemory handed is = tt

fits-ended : (r : List Entry) (s : Step) (reason : SessionStopReason) → ended_by s ≡ Some reason → StopFits r (ended_code reason) s
fits-ended r s reasons.Ended e = (reasons.Ended, e, refl)
fits-ended r s (reasons.EndedWithError error) e = (reasons.EndedWithError error, e, refl)
fits-ended r s reasons.RemoteEnded e = (reasons.RemoteEnded, e, refl)
fits-ended r s (reasons.RemoteEndedWithError error) e = (reasons.RemoteEndedWithError error, e, refl)
fits-ended r s (reasons.ConnectionStopped reason) e = (reasons.ConnectionStopped reason, e, refl)

-- ---- a step of a session that runs

abbrev pub KeptBy : {S G : Type 0} → (S → Told) → (G → ℕ → TransactionId) → (G → Option (ℕ → TransactionId)) → TxnSession S → G → List Entry → Option StoppedAt → Type 0
KeptBy told next starts session source r stopped = Kept (held_of session) (stop_of session) (told_of told session) (starts source) (next source) r stopped

taken-runs : (told : Told) (r : List Entry) (stopped : Option StoppedAt) → stopped ≡ None → IfSome told.taken (λ t. TakenOf r stopped t) → IfSome told.taken (λ t. TakenOf r None t)
taken-runs told r stopped e is = let P : Option StoppedAt → Type 0 = λ x. IfSome told.taken (λ t. TakenOf r x t) in subst P e is

taken-back : (told : Told) (r : List Entry) (stopped : Option StoppedAt) → stopped ≡ None → IfSome told.taken (λ t. TakenOf r None t) → IfSome told.taken (λ t. TakenOf r stopped t)
taken-back told r stopped e is = let P : Option StoppedAt → Type 0 = λ x. IfSome told.taken (λ t. TakenOf r x t) in subst P (sym e) is

least-at : (count told : ℕ) (stop stop2 : Option StopCode) → stop ≡ stop2 → min (count + refused_stop stop) (2 ^ 64 - 1) ≤ told → min (count + refused_stop stop2) (2 ^ 64 - 1) ≤ told
least-at count told stop stop2 e is = let P : Option StopCode → Type 0 = λ x. min (count + refused_stop x) (2 ^ 64 - 1) ≤ told in subst P e is

module _ {S G : Type 0} (told : S → Told) (sure : Bool) (reviews : S → S → List Frame → Result Verdict NoMemory → Type 0) (checks : S → S → Disposition → Result Unit SessionInnerError → Type 0) (next : G → ℕ → TransactionId) (starts : G → Option (ℕ → TransactionId)) (old new : TxnSession S) (src src2 : G) (r : List Entry) (stopped : Option StoppedAt) (s : Step) where
  abbrev pub Says : Result (DrawnIds × Reply) StepError → Type 0
  Says result = StepSays told sure reviews checks next starts old new src src2 s result

  pub kept-ok : (d : DrawnIds) (reply : Reply) → Says (Ok (d, reply)) → stop_of old ≡ None → KeptBy told next starts old src r stopped → KeptBy told next starts new src2 (r ++ entry_of s d reply ∷ []) stopped
  kept-ok d reply says runs kept =
      let quiet = standing-runs (held_of old) (stop_of old) r stopped kept.standing runs in
      let by = says.by_record runs r quiet.1 in
      let least = least-at (attach_refused_count r) (told_of told old).refusals (stop_of old) None runs kept.refusals in
      record {
        legal = by.stands.legal;
        drew = ids-more (starts src) (starts src2) (next src) (next src2) r (entry_of s d reply) says.start kept.drew says.drew;
        standing = standing-stands (held_of new) (stop_of new) (r ++ entry_of s d reply ∷ []) stopped (says.stops runs) quiet.0 by.stands;
        taken = taken-back (told_of told new) (r ++ entry_of s d reply ∷ []) stopped quiet.0 (taken-more (told_of told old).taken (told_of told new).taken r (entry_of s d reply) kept.legal (taken-runs (told_of told old) r stopped quiet.0 kept.taken) by.taken);
        refusals = least-at (attach_refused_count (r ++ entry_of s d reply ∷ [])) (told_of told new).refusals None (stop_of new) (sym (says.stops runs)) (refusals-more (told_of told old).refusals (told_of told new).refusals r s d reply by.attach_refused says.later least);
      }

  kept-fault : (error : SessionInnerError) (handed : ℕ) → Says (Err (errors.Fault error handed)) → stop_of old ≡ None → KeptBy told next starts old src r stopped → KeptBy told next starts new src2 r (Some (record { step = s; handed = handed }))
  kept-fault error handed says runs kept =
      let quiet = standing-runs (held_of old) (stop_of old) r stopped kept.standing runs in
      let by = says.by_record runs r quiet.1 in
      let least = least-at (attach_refused_count r) (told_of told old).refusals (stop_of old) None runs kept.refusals in
      let before = taken-runs (told_of told old) r stopped quiet.0 kept.taken in
      let T : Type 0 = IfSome (told_of told new).taken (λ t. TakenOf r (Some (record { step = s; handed = handed })) t) in
      let still : MatchBool (is_unknown error) ((below_of new ≡ below_of old) × (handed ≡ 0)) ⊤ = joined (λ (x : below_of new ≡ below_of old) (y : UnderDead (view_of_record r) s × (handed ≡ 0)). (x, y.1)) (is_unknown error) says.untouched by.unknown_only in
      let took : MatchBool (is_unknown error) T T = decided (is_unknown error) (λ (x : (below_of new ≡ below_of old) × (handed ≡ 0)). taken-none (told_of told old).taken (told_of told new).taken r s handed before (ap (λ b. (told b).taken) x.0) x.1) (λ (x : TookFirst (told_of told old) (told_of told new) (hands r s) handed). taken-first (told_of told old).taken (told_of told new).taken r s handed before x.0 x.1) still by.handed in
      record {
        legal = kept.legal;
        drew = ids-same starts next src src2 (drawn_of r) says.source kept.drew;
        standing = standing-fits (held_of new) (stop_of new) (fault_code error) r (record { step = s; handed = handed }) (says.stops runs) (fits-fault r s error handed by.unknown_only) (within-hands (UnderDead (view_of_record r) s) (told_of told old) (told_of told new) (hands r s) handed (is_unknown error) by.unknown_only by.handed);
        taken = whichever (is_unknown error) took;
        refusals = least-at (attach_refused_count r) (told_of told new).refusals (Some (fault_code error)) (stop_of new) (sym (says.stops runs)) (refusals-fault (told_of told old).refusals (told_of told new).refusals (attach_refused_count r) error says.refusal_rose says.later least);
      }

  kept-ended : (reason : SessionStopReason) → Says (Err (errors.Ended reason)) → stop_of old ≡ None → KeptBy told next starts old src r stopped → KeptBy told next starts new src2 r (Some (record { step = s; handed = 0 }))
  kept-ended reason says runs kept =
      let quiet = standing-runs (held_of old) (stop_of old) r stopped kept.standing runs in
      let least = least-at (attach_refused_count r) (told_of told old).refusals (stop_of old) None runs kept.refusals in
      let before = taken-runs (told_of told old) r stopped quiet.0 kept.taken in
      record {
        legal = kept.legal;
        drew = ids-same starts next src src2 (drawn_of r) says.source kept.drew;
        standing = standing-fits (held_of new) (stop_of new) (ended_code reason) r (record { step = s; handed = 0 }) (says.stops runs) (fits-ended r s reason says.ended_only) (omega arith);
        taken = taken-nothing (told_of told old).taken (told_of told new).taken r s before (ap (λ b. (told b).taken) says.untouched);
        refusals = least-at (attach_refused_count r) (told_of told new).refusals (Some (ended_code reason)) (stop_of new) (sym (says.stops runs)) (refusals-ended (told_of told old).refusals (told_of told new).refusals (attach_refused_count r) reason says.later least);
      }

  kept-no_memory : Says (Err errors.NoMemory) → stop_of old ≡ None → KeptBy told next starts old src r stopped → KeptBy told next starts new src2 r stopped
  kept-no_memory says runs kept =
      let quiet = standing-runs (held_of old) (stop_of old) r stopped kept.standing runs in
      let by = says.by_record runs r quiet.1 in
      let least = least-at (attach_refused_count r) (told_of told old).refusals (stop_of old) None runs kept.refusals in
      let P : S → Type 0 = λ b. IfSome (told b).taken (λ t. TakenOf r stopped t) in
      let Q : S → Type 0 = λ b. min (attach_refused_count r + 0) (2 ^ 64 - 1) ≤ (told b).refusals in
      record {
        legal = kept.legal;
        drew = ids-same starts next src src2 (drawn_of r) says.source kept.drew;
        standing = standing-stands (held_of new) (stop_of new) r stopped (says.stops runs) quiet.0 by.memory.0;
        taken = subst P (sym says.untouched) kept.taken;
        refusals = least-at (attach_refused_count r) (told_of told new).refusals None (stop_of new) (sym (says.stops runs)) (subst Q (sym says.untouched) least);
      }

  pub kept-err : (error : StepError) → Says (Err error) → stop_of old ≡ None → KeptBy told next starts old src r stopped → KeptBy told next starts new src2 r (stopped_by stopped s error)
  kept-err (errors.Fault error handed) says runs kept = kept-fault error handed says runs kept
  kept-err (errors.Ended reason) says runs kept = kept-ended reason says runs kept
  kept-err (errors.Stopped code) says runs kept = absurd (says.runs runs)
  kept-err errors.NoMemory says runs kept = kept-no_memory says runs kept

  -- ---- causes

  at-reply : (P : Type 0) (reply : Reply) → IfAttachRefused reply P → IfRefusedAttach (code_of_reply reply) P
  at-reply P (replies.Frames answers) is = tt
  at-reply P (replies.Attached link frames) is = tt
  at-reply P (replies.AttachRefused error) is = is
  at-reply P replies.LinkEnded is = tt
  at-reply P replies.NoLink is = tt
  at-reply P (replies.LinkClosed error) is = tt
  at-reply P (replies.Declared id) is = tt
  at-reply P (replies.Accepted echoes) is = tt
  at-reply P (replies.Rejected error text) is = tt

  at-veto : (P : Type 0) (reply : Reply) → IfVeto reply P → IfVetoTold (code_of_reply reply) P
  at-veto P (replies.Frames answers) is = tt
  at-veto P (replies.Attached link frames) is = tt
  at-veto P (replies.AttachRefused error) is = tt
  at-veto P replies.LinkEnded is = tt
  at-veto P replies.NoLink is = tt
  at-veto P (replies.LinkClosed error) is = tt
  at-veto P (replies.Declared id) is = tt
  at-veto P (replies.Accepted echoes) is = tt
  at-veto P (replies.Rejected transaction_errors.UnknownId text) is = tt
  at-veto P (replies.Rejected transaction_errors.Rollback text) is = is
  at-veto P (replies.Rejected transaction_errors.Timeout text) is = tt

  pub did-ok : (d : DrawnIds) (reply : Reply) → Says (Ok (d, reply)) → stop_of old ≡ None → KeptBy told next starts old src r stopped → DidSo r (r ++ entry_of s d reply ∷ []) (told_of told old) (told_of told new)
  did-ok d reply says runs kept =
      let quiet = standing-runs (held_of old) (stop_of old) r stopped kept.standing runs in
      let by = says.by_record runs r quiet.1 in
      (entry_of s d reply, record { entries = refl; taken = by.taken; opened = by.opened; refused = by.refused; vetoed = by.vetoed })

  pub causes-ok : (d : DrawnIds) (reply : Reply) (receipt : Receipt) → Says (Ok (d, reply)) → stop_of old ≡ None → KeptBy told next starts old src r stopped → code_told receipt ≡ code_of_reply reply → Causes sure r (told_of told old) (told_of told new) (stop_of new) s (Ok receipt)
  causes-ok d reply receipt says runs kept code =
      let quiet = standing-runs (held_of old) (stop_of old) r stopped kept.standing runs in
      let by = says.by_record runs r quiet.1 in
      let E : Option SessionStopReason → Type 0 = λ x. AnswersEnd x (Ok (d, reply)) in
      let C : ReplyCode → Type 0 = λ x. IfRefusedAttach x (Rose (told_of told old).refusals (told_of told new).refusals × IsControlAttach s) in
      let V : ReplyCode → Type 0 = λ x. IfVetoTold x (Rose (told_of told old).reviews.vetoes (told_of told new).reviews.vetoes) in
      record {
        error = tt;
        dead = λ dead. absurd (cc (by.unknown dead));
        ended = λ reason e. absurd (subst E e (says.ended runs));
        attach_refused = subst C (sym code) (at-reply (Rose (told_of told old).refusals (told_of told new).refusals × IsControlAttach s) reply by.attach_refused);
        later = says.later;
        vetoed = subst V (sym code) (at-veto (Rose (told_of told old).reviews.vetoes (told_of told new).reviews.vetoes) reply says.veto_rose);
        counted = says.counted;
        stop = says.stops runs;
      }

  cause-of : (error : StepError) → Says (Err error) → stop_of old ≡ None → Stands (held_of old) r → CauseOf sure r (told_of told old) (told_of told new) s error
  cause-of (errors.Fault error handed) says runs stands =
      let by = says.by_record runs r stands in
      let unknown = is_unknown error in
      let Dead : Type 0 = UnderDead (view_of_record r) s × (handed ≡ 0) in
      let Fits : Type 0 = MayFault (view_of_record r) s (hands r s) error in
      let Rises : Type 0 = Rose (told_of told old).refusals (told_of told new).refusals in
      let Sure : Type 0 = StopsSurely sure s handed in
      let Took : Type 0 = TookFirst (told_of told old) (told_of told new) (hands r s) handed in
      let both : MatchBool unknown ⊤ ((Fits × Rises) × (Sure × Took)) = paired (Fits × Rises) (Sure × Took) unknown (paired Fits Rises unknown by.refusal says.refusal_rose) (paired Sure Took unknown says.surely by.handed) in
      let dead : Dead → Dead = λ x. x in
      let fault : (Fits × Rises) × (Sure × Took) → Fits × Rises × Sure × (handed ≤ length (hands r s)) = λ x. (x.0.0, x.0.1, x.1.0, x.1.1.0) in
      decided unknown dead fault by.unknown_only both
  cause-of (errors.Ended reason) says runs stands = says.ended_only
  cause-of (errors.Stopped code) says runs stands = says.runs runs
  cause-of errors.NoMemory says runs stands = ap told says.untouched

  end-answers : (error : StepError) (reason : SessionStopReason) → AnswersEnd (Some reason) (Err error) → AnswersOr (errors.Ended reason) (Err error)
  end-answers (errors.Fault error handed) reason is = absurd is
  end-answers (errors.Ended got) reason is = inl (ap (λ x. Err (errors.Ended x)) is)
  end-answers (errors.Stopped code) reason is = absurd is
  end-answers errors.NoMemory reason is = inr refl

  stop-is : (error : StepError) (stop : Option StopCode) → StopAfter (Err error) stop → stop ≡ stop_by error
  stop-is (errors.Fault error handed) stop is = is
  stop-is (errors.Ended reason) stop is = is
  stop-is (errors.Stopped code) stop is = is
  stop-is errors.NoMemory stop is = is

  pub causes-err : (error : StepError) → Says (Err error) → stop_of old ≡ None → KeptBy told next starts old src r stopped → Causes sure r (told_of told old) (told_of told new) (stop_of new) s (Err error)
  causes-err error says runs kept =
      let quiet = standing-runs (held_of old) (stop_of old) r stopped kept.standing runs in
      let by = says.by_record runs r quiet.1 in
      let E : Option SessionStopReason → Type 0 = λ x. AnswersEnd x (Err error) in
      record {
        error = cause-of error says runs quiet.1;
        dead = λ dead. let same : error ≡ errors.Fault faults.UnknownTxnId 0 = cc (by.unknown dead) in inl (ap (λ x. Err x) same);
        ended = λ reason e. end-answers error reason (subst E e (says.ended runs));
        attach_refused = tt;
        later = says.later;
        vetoed = tt;
        counted = says.counted;
        stop = stop-is error (stop_of new) (says.stops runs);
      }

-- out of memory before the session was asked
pub causes-no_memory : (sure : Bool) (r : List Entry) (told : Told) (stop : Option StopCode) (s : Step) → stop ≡ None → Causes sure r told told stop s (Err errors.NoMemory)
causes-no_memory sure r told stop s runs = record {
  error = refl;
  dead = λ dead. inr refl;
  ended = λ reason e. inr refl;
  attach_refused = tt;
  later = omega arith;
  vetoed = tt;
  counted = omega arith;
  stop = runs;
}

-- ---- a fresh session

pairs-nil : pairs [] ≡ []
unfolding pairs work given_back
pairs-nil = refl

taken-nil : (taken : Taken) → IfSome taken (λ t. t ≡ []) → IfSome taken (λ t. TakenOf [] None t)
taken-nil None is = tt
taken-nil (Some t) is = is ∙ sym pairs-nil

ids-nil : (start : Source) (next : ℕ → TransactionId) → IfSome start (λ s. (n : ℕ) → next n ≡ s n) → IfSome start (λ ids. Drew ids next (drawn_of []))
ids-nil None next is = tt
ids-nil (Some s) next is = Drew-none s next is

pub kept-new : (h : Held) (stop : Option StopCode) (told : Told) (start : Source) (next : ℕ → TransactionId) → Stands h [] → stop ≡ None → IfSome told.taken (λ t. t ≡ []) → IfSome start (λ s. (n : ℕ) → next n ≡ s n) → Kept h stop told start next [] None
kept-new h stop told start next stands runs taken ids =
    let P : Option StopCode → Type 0 = λ x. Kept h x told start next [] None in
    subst P (sym runs) (record { legal = stands.legal; drew = ids-nil start next ids; standing = stands; taken = taken-nil told.taken taken; refusals = omega arith })
