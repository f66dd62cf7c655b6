-- What a layer that was told its answer refused and opened, as a step says of it.
use Rattle.std.proofs.Common.{Bool, List, None, Option, Some, [], ap, arith, false, inl, inr, length, map, refl, subst, sym, true, ℕ, ◌∙◌, ◌++◌, ◌∷◌, ◌≡◌, ◌≤◌, ◌⊎◌}
use Rattle.std.specs.Prelude.{MatchBool, cond, is_some, slice_get}
use Rattle.std.specs.List.{zip}
use Rattle.std.proofs.lemmas.List.{length-map, length-take-le}
use Rattle.std.proofs.lemmas.Option.{same_Some, slice_get_within}
use Rattle.std.specs.declared.snapshot.Snapshot.{Snapshot}
use Rattle.amqp_below_layer.specs.Faults.{is_no_memory}
use Rattle.amqp_below_layer.specs.Told.{Told, refusal_of}
use Rattle.amqp_below_layer.specs.declared.inner_error.SessionInnerError.{SessionInnerError}
use Rattle.amqp_below_layer.specs.declared.inner_error.SessionInnerError.TheVariants as faults
use Rattle.amqp_below_layer.specs.declared.refusal.Refusal.{Refusal}
use Rattle.amqp_resource_held.specs.Views.{View}
use Rattle.amqp_resource_record.specs.Answers.{Answer, AnswerControl, AnswerDeclare, AnswerFrame, AnswerLinkEnd}
use Rattle.amqp_resource_record.specs.Entries.{steps_of}
use Rattle.amqp_resource_record.specs.Hands.{frame_of_step, frames_at, hands}
use Rattle.amqp_resource_record.specs.Opened.{opened_by, opened_with, refused_by, refused_with}
use Rattle.amqp_resource_record.specs.Links.{is_open}
use Rattle.amqp_resource_record.specs.Work.{given_by, handed_by}
use Rattle.amqp_resource_record.specs.declared.entry.Entry.{Entry}
use Rattle.amqp_resource_record.specs.declared.reply.Reply.{Reply}
use Rattle.amqp_resource_record.specs.declared.reply.Reply.TheVariants as replies
use Rattle.amqp_resource_record.specs.declared.step.Step.{Step}
use Rattle.amqp_resource_record.specs.declared.step.Step.TheVariants as steps
use Rattle.amqp_resource_session.proofs.Handing.{only-no_memory}
use Rattle.amqp_resource_session.specs.Steps.{AddsRefusal, FrameMayFault, IfAttachRefused, IsControlAttach, IsUnder, MayFault, RefusedAdds, fault_of}
use Rattle.amqp_txn_types.specs.Frames.{is_coordinator_attach, is_plain_frame, stripped, txn}
use Rattle.amqp_txn_types.specs.Presumptive.{answered_under, frames_telling, presumed_disposition}
use Rattle.amqp_txn_codec.specs.Reading.{message_of}
use Rattle.amqp_txn_codec.specs.declared.message.ControlMessageBody.{ControlMessageBody}
use Rattle.amqp_txn_codec.specs.declared.message.ControlMessageBody.TheVariants as messages
use Rattle.amqp_txn_types.specs.Growing.{grown}
use Rattle.amqp_txn_types.specs.declared.id.TransactionId.{TransactionId}
use Rattle.amqp_txn_types.specs.declared.performatives.Attach.{Attach}
use Rattle.amqp_txn_types.specs.declared.performatives.Disposition.{Disposition}
use Rattle.amqp_txn_types.specs.declared.performatives.Frame.{Frame}
use Rattle.amqp_txn_types.specs.declared.performatives.Frame.TheVariants as frames
use Rattle.daxurbi_layer.specs.Answering.{answer_of, error_of, named, number_told, refusal_told, unless_take, unlisted}
use Rattle.daxurbi_layer.specs.Refusing.{opened_list, refused_list}
use Rattle.daxurbi_layer.specs.declared.below_answer.BelowAnswer.{BelowAnswer}
use Rattle.daxurbi_layer.specs.declared.below_answer.BelowAnswer.TheVariants as answers
use Rattle.daxurbi_layer.specs.declared.below_answer.NamedError.{NamedError}
use Rattle.daxurbi_layer.specs.declared.below_answer.NamedError.TheVariants as names
use Rattle.daxurbi_layer.specs.declared.refused.Refused.{Refused}
use Rattle.daxurbi_session.specs.ToldSteps.{AsTold, IfChecked, RefusedAsTold, RepliesAsTold, TookOnly, answered_for, answered_with}

-- ---- what was told, by its number

number_back : (told : BelowAnswer) → answer_of (number_told told) ≡ Some told
number_back answers.Take = refl
number_back answers.Veto = refl
number_back (answers.Refuse names.UnattachedHandle) = refl
number_back (answers.Refuse names.LinkNameNotFound) = refl
number_back (answers.Refuse names.HandleInUse) = refl
number_back (answers.Refuse names.IllegalState) = refl
number_back (answers.Refuse names.TransferToSender) = refl
number_back (answers.Refuse names.ConnectionStopped) = refl
number_back (answers.Refuse names.RemoteEnded) = refl
number_back (answers.Refuse names.NoMemory) = refl

first_or_none : List ℕ → ℕ
first_or_none [] = 0
first_or_none (n ∷ rest) = n

pub same_told : (a b : BelowAnswer) → number_told a ∷ [] ≡ number_told b ∷ [] → a ≡ b
unfolding first_or_none
same_told a b same = same_Some a b (sym (number_back a) ∙ ap (λ (list : List ℕ). answer_of (first_or_none list)) same ∙ number_back b)

-- ---- errors

-- what was told is a fault as it is
named_fault : (name : NamedError) → fault_of (named name) ≡ named name
named_fault names.UnattachedHandle = refl
named_fault names.LinkNameNotFound = refl
named_fault names.HandleInUse = refl
named_fault names.IllegalState = refl
named_fault names.TransferToSender = refl
named_fault names.ConnectionStopped = refl
named_fault names.RemoteEnded = refl
named_fault names.NoMemory = refl

told_fault : (told : BelowAnswer) (own : SessionInnerError) → refusal_told told ≡ Some own → own ≡ fault_of own
told_fault answers.Take own is = absurd (cc is)
told_fault answers.Veto own is = subst (λ (e : SessionInnerError). e ≡ fault_of e) (same_Some faults.IllegalState own is) refl
told_fault (answers.Refuse name) own is = subst (λ (e : SessionInnerError). e ≡ fault_of e) (same_Some (named name) own is) (sym (named_fault name))

as_fault : (told : BelowAnswer) (own error : SessionInnerError) → error ≡ fault_of own → AsTold told own → AsTold told error
as_fault told own error gives (inl is) = inl (is ∙ ap Some (told_fault told own is ∙ sym gives))
as_fault told own error gives (inr is) = inr (gives ∙ ap fault_of is)

-- ---- what is listed as refused

first_error : List Refusal → SessionInnerError
first_error [] = faults.NoMemory
first_error (refusal ∷ rest) = refusal.error

-- the error that is listed, or that something was taken where it was told to take
listed_as : (told : BelowAnswer) (taken : List (Frame × List Frame)) (refusals : ℕ) (own : SessionInnerError)
    → unlisted told taken true refusals ≡ 0 → error_of (refusal_told told) ≡ own
    → AsTold told own ⊎ ((1 ≤ length taken) × (told ≡ answers.Take))
listed_as answers.Take [] refusals own none is = absurd (cc none)
listed_as answers.Take (first ∷ rest) refusals own none is = inr (omega arith, refl)
listed_as answers.Veto taken refusals own none is = inl (inl (ap Some is))
listed_as (answers.Refuse name) taken refusals own none is = inl (inl (ap Some is))

by_list : (b : Bool) (told : BelowAnswer) (taken : List (Frame × List Frame)) (refused : Option Refused) (refusals : ℕ) (frame : Frame) (own : SessionInnerError)
    → is_no_memory own ≡ b → unlisted told taken (is_some refused) refusals ≡ 0
    → refused_list (error_of (refusal_told told)) refused ≡ cond b [] (record { frame = frame; error = own } ∷ [])
    → AsTold told own ⊎ ((1 ≤ length taken) × (told ≡ answers.Take))
unfolding first_error
by_list true told taken refused refusals frame own is none list = inl (inr (only-no_memory own is))
by_list false told taken None refusals frame own is none list = absurd (cc list)
by_list false told taken (Some call) refusals frame own is none list = listed_as told taken refusals own none (ap first_error list)

-- ---- attaches

zip_none : (handed : List Frame) → zip {K = Frame} {X = List Frame} handed [] ≡ []
zip_none [] = refl
zip_none (frame ∷ rest) = refl

settled : (told : BelowAnswer) (taken : List (Frame × List Frame)) (error : SessionInnerError) → length taken ≡ 0 → AsTold told error ⊎ ((1 ≤ length taken) × (told ≡ answers.Take)) → AsTold told error
settled told taken error none (inl is) = is
settled told taken error none (inr some) = absurd (omega (arith, some.0, none))

-- an attach alone is answered as one
not_declared : (entries : List Entry) (o : Option TransactionId) (ids : List TransactionId) (link : ℕ) (given : List Frame) → AnswerDeclare entries o ids (replies.Attached link given) → ⊥
not_declared entries None ids link given answer = answer
not_declared entries (Some id) ids link given answer = answer

not_control : (entries : List Entry) (on : ℕ) (b : Bool) (o : Option ControlMessageBody) (ids : List TransactionId) (link : ℕ) (given : List Frame) → AnswerControl entries on b o ids (replies.Attached link given) → ⊥
not_control entries on false o ids link given answer = answer
not_control entries on true None ids link given answer = answer
not_control entries on true (Some (messages.Declare declare)) ids link given answer = not_declared entries declare.global_id ids link given answer
not_control entries on true (Some (messages.Discharge discharge)) ids link given answer = answer

not_end : (b : Bool) (link : ℕ) (given : List Frame) → AnswerLinkEnd b (replies.Attached link given) → ⊥
not_end true link given answer = answer
not_end false link given answer = answer

-- an opened link
some_opened : (told : BelowAnswer) (opened : Option (Snapshot Attach)) (more : List (Attach × List Frame)) → unless_take told (length (opened_list opened)) ≡ 0 → opened_list opened ≡ more → 1 ≤ length more → refusal_told told ≡ None
some_opened answers.Take opened more none list some = refl
some_opened answers.Veto opened more none list some = absurd (omega (arith, none, some, ap (λ (l : List (Attach × List Frame)). length l) list))
some_opened (answers.Refuse name) opened more none list some = absurd (omega (arith, none, some, ap (λ (l : List (Attach × List Frame)). length l) list))

one_opened : (frame : Frame) (given : List Frame) → is_coordinator_attach frame ≡ true → 1 ≤ length (opened_with (steps.Frame frame) given)
unfolding is_coordinator_attach
one_opened (frames.Attach attach) given is = let some : 1 ≤ 1 = omega arith in some
one_opened (frames.Flow flow) given is = absurd (cc is)
one_opened (frames.Transfer transfer payload) given is = absurd (cc is)
one_opened (frames.Disposition disposition) given is = absurd (cc is)
one_opened (frames.Detach detach) given is = absurd (cc is)

is_attach : (entries : List Entry) (frame : Frame) (o : Option TransactionId) (link : ℕ) (given : List Frame) → AnswerFrame entries frame o (replies.Attached link given) → is_coordinator_attach frame ≡ true
is_attach entries frame None link given answer = answer.0
is_attach entries frame (Some id) link given answer = absurd answer

attach_opened : (told : BelowAnswer) (opened : Option (Snapshot Attach)) (entries : List Entry) (step : Step) (ids : List TransactionId) (link : ℕ) (given : List Frame)
    → unless_take told (length (opened_list opened)) ≡ 0 → Answer entries step ids (replies.Attached link given) → opened_list opened ≡ opened_with step given → refusal_told told ≡ None
attach_opened told opened entries (steps.Frame frame) ids link given none answer list =
    some_opened told opened (opened_with (steps.Frame frame) given) none list (one_opened frame given (is_attach entries frame (txn frame) link given answer.1))
attach_opened told opened entries (steps.Control on payload) ids link given none answer list = absurd (not_control entries on (is_open entries on) (message_of payload) ids link given answer)
attach_opened told opened entries (steps.LinkEnd on) ids link given none answer list = absurd (not_end (is_open entries on) link given answer.1)
attach_opened told opened entries (steps.LocalEnd error) ids link given none answer list = absurd answer
attach_opened told opened entries (steps.RemoteEnd error) ids link given none answer list = absurd answer
attach_opened told opened entries (steps.ConnectionStop reason) ids link given none answer list = absurd answer

-- a refused attach
attach_refused : (told : BelowAnswer) (taken : List (Frame × List Frame)) (refused : Option Refused) (refusals : ℕ) (step : Step) (error : SessionInnerError)
    → unlisted told taken (is_some refused) refusals ≡ 0 → length taken ≡ 0 → IsControlAttach step
    → refused_list (error_of (refusal_told told)) refused ≡ refused_with step error → AsTold told error
attach_refused told taken refused refusals (steps.Frame frame) error none nothing is list =
    settled told taken error nothing (by_list (is_no_memory error) told taken refused refusals frame error refl none list)
attach_refused told taken refused refusals (steps.Control on payload) error none nothing is list = absurd is
attach_refused told taken refused refusals (steps.LinkEnd on) error none nothing is list = absurd is
attach_refused told taken refused refusals (steps.LocalEnd own) error none nothing is list = absurd is
attach_refused told taken refused refusals (steps.RemoteEnd own) error none nothing is list = absurd is
attach_refused told taken refused refusals (steps.ConnectionStop reason) error none nothing is list = absurd is

-- nothing is given back for what isn't taken
given_none : (step : Step) (error : SessionInnerError) → given_by step (replies.AttachRefused error) ≡ []
given_none (steps.Frame frame) error = refl
given_none (steps.Control on payload) error = refl
given_none (steps.LinkEnd on) error = refl
given_none (steps.LocalEnd own) error = refl
given_none (steps.RemoteEnd own) error = refl
given_none (steps.ConnectionStop reason) error = refl

-- a reply
pub reply_told : (A : Type 0) (told : BelowAnswer) (opened : Option (Snapshot Attach)) (taken : List (Frame × List Frame)) (refused : Option Refused) (refusals : ℕ)
    (entries : List Entry) (step : Step) (ids : List TransactionId) (reply : Reply)
    → unless_take told (length (opened_list opened)) ≡ 0 → unlisted told taken (is_some refused) refusals ≡ 0
    → Answer entries step ids reply → taken ≡ zip (handed_by entries step reply) (given_by step reply) → IfAttachRefused reply (A × IsControlAttach step)
    → opened_list opened ≡ opened_by step reply → refused_list (error_of (refusal_told told)) refused ≡ refused_by step reply
    → RepliesAsTold told reply
reply_told A told opened taken refused refusals entries step ids (replies.Attached link given) unopened none answer took is opens refuses =
    attach_opened told opened entries step ids link given unopened answer opens
reply_told A told opened taken refused refusals entries step ids (replies.AttachRefused error) unopened none answer took is opens refuses =
    let nothing : taken ≡ [] =
    took ∙ ap (λ (given : List (List Frame)). zip (handed_by entries step (replies.AttachRefused error)) given) (given_none step error) ∙ zip_none (handed_by entries step (replies.AttachRefused error)) in
    attach_refused told taken refused refusals step error none (ap (λ (l : List (Frame × List Frame)). length l) nothing) is.1 refuses
reply_told A told opened taken refused refusals entries step ids (replies.Frames answers) unopened none answer took is opens refuses = tt
reply_told A told opened taken refused refusals entries step ids replies.LinkEnded unopened none answer took is opens refuses = tt
reply_told A told opened taken refused refusals entries step ids replies.NoLink unopened none answer took is opens refuses = tt
reply_told A told opened taken refused refusals entries step ids (replies.LinkClosed error) unopened none answer took is opens refuses = tt
reply_told A told opened taken refused refusals entries step ids (replies.Declared id) unopened none answer took is opens refuses = tt
reply_told A told opened taken refused refusals entries step ids (replies.Rejected error text) unopened none answer took is opens refuses = tt
reply_told A told opened taken refused refusals entries step ids (replies.Accepted echoes) unopened none answer took is opens refuses = tt

-- ---- faults

-- a frame hands itself alone
of_step : (o : Option Step) → length (map stripped (frame_of_step o ++ [])) ≤ 1
of_step None = let none : 0 ≤ 1 = omega arith in none
of_step (Some (steps.Frame frame)) = let one : 1 ≤ 1 = omega arith in one
of_step (Some (steps.Control on payload)) = let none : 0 ≤ 1 = omega arith in none
of_step (Some (steps.LinkEnd on)) = let none : 0 ≤ 1 = omega arith in none
of_step (Some (steps.LocalEnd own)) = let none : 0 ≤ 1 = omega arith in none
of_step (Some (steps.RemoteEnd own)) = let none : 0 ≤ 1 = omega arith in none
of_step (Some (steps.ConnectionStop reason)) = let none : 0 ≤ 1 = omega arith in none

at_most_one : (b : Bool) (all : List Step) (n : ℕ) → length (map stripped (frames_at all (cond b (n ∷ []) []))) ≤ 1
at_most_one true all n = of_step (slice_get all n)
at_most_one false all n = let none : 0 ≤ 1 = omega arith in none

frame_hands : (entries : List Entry) (frame : Frame) → length (hands entries (steps.Frame frame)) ≤ 1
frame_hands entries frame = at_most_one (is_plain_frame frame) (steps_of entries ++ steps.Frame frame ∷ []) (length entries)

-- a layer that took a frame refused nothing that it doesn't list
took_and_refused : (told : BelowAnswer) (taken : List (Frame × List Frame)) (refusals : ℕ) → unlisted told taken false refusals ≡ 0 → unless_take told (length taken) ≡ 0
    → 1 ≤ refusals → 1 ≤ length taken → ⊥
took_and_refused answers.Take [] refusals none untaken rose some = omega (arith, some)
took_and_refused answers.Take (first ∷ rest) refusals none untaken rose some = omega (arith, none, rose)
took_and_refused answers.Veto taken refusals none untaken rose some = omega (arith, untaken, some)
took_and_refused (answers.Refuse name) taken refusals none untaken rose some = omega (arith, untaken, some)

unlisted_call : (told : BelowAnswer) (taken : List (Frame × List Frame)) (refused : Option Refused) (refusals : ℕ) → unlisted told taken (is_some refused) refusals ≡ 0
    → unless_take told (length taken) ≡ 0 → 1 ≤ refusals → 1 ≤ length taken → refused_list (error_of (refusal_told told)) refused ≡ [] → ⊥
unlisted_call told taken None refusals none untaken rose some list = took_and_refused told taken refusals none untaken rose some
unlisted_call told taken (Some call) refusals none untaken rose some list = absurd (cc list)

plain_own : (told : BelowAnswer) (taken : List (Frame × List Frame)) (refused : Option Refused) (refusals : ℕ) (handing : List Frame) (handed : ℕ) (own : SessionInnerError) (more : List Refusal)
    → length handing ≤ 1 → length taken ≡ handed → unlisted told taken (is_some refused) refusals ≡ 0 → unless_take told (length taken) ≡ 0 → 1 ≤ refusals
    → refused_list (error_of (refusal_told told)) refused ≡ more
    → ((frame : Frame) × (slice_get handing handed ≡ Some frame) × (more ≡ refusal_of frame own)) ⊎ ((more ≡ []) × (1 ≤ handed)) → AsTold told own
plain_own told taken refused refusals handing handed own more one count none untaken rose list (inl (frame, at, adds)) =
    settled told taken own (omega (arith, count, slice_get_within handing handed frame at, one))
    (by_list (is_no_memory own) told taken refused refusals frame own refl none (list ∙ adds))
plain_own told taken refused refusals handing handed own more one count none untaken rose list (inr (nothing, some)) =
    absurd (unlisted_call told taken refused refusals none untaken rose (omega (arith, count, some)) (list ∙ nothing))

-- a frame that isn't a post
not_post : (frame : Frame) (own : SessionInnerError) (handing : List Frame) (handed : ℕ) (more : List Refusal) → txn frame ≡ None
    → ((f : Frame) × (slice_get handing handed ≡ Some f) × (more ≡ refusal_of f own)) ⊎ ((more ≡ []) × (IsUnder (txn frame) ⊎ (1 ≤ handed)))
    → ((f : Frame) × (slice_get handing handed ≡ Some f) × (more ≡ refusal_of f own)) ⊎ ((more ≡ []) × (1 ≤ handed))
not_post frame own handing handed more plain (inl listed) = inl listed
not_post frame own handing handed more plain (inr (nothing, inl post)) = absurd (subst (λ (o : Option TransactionId). IsUnder o) plain post)
not_post frame own handing handed more plain (inr (nothing, inr some)) = inr (nothing, some)

-- what a post is answered with is a disposition
told_checked : (o : Option Disposition) {P : Type 0} → 1 ≤ length (frames_telling o) → IfChecked (frames_telling o) P → P
told_checked None some is = absurd (omega (arith, some))
told_checked (Some disposition) some is = is

post_checked : (id : TransactionId) (frame : Frame) {P : Type 0} → 1 ≤ length (answered_under id frame) → IfChecked (answered_under id frame) P → P
post_checked id (frames.Transfer transfer payload) some is = told_checked (presumed_disposition transfer.settled transfer.delivery_id id) some is
post_checked id (frames.Attach attach) some is = absurd (omega (arith, some))
post_checked id (frames.Flow flow) some is = absurd (omega (arith, some))
post_checked id (frames.Disposition disposition) some is = absurd (omega (arith, some))
post_checked id (frames.Detach detach) some is = absurd (omega (arith, some))

check_told : (told : BelowAnswer) (error : SessionInnerError) → RefusedAsTold told error → AsTold told error
check_told told error (own, gives, is) = as_fault told own error gives (inl is)

frame_fault : (told : BelowAnswer) (taken : List (Frame × List Frame)) (refused : Option Refused) (refusals : ℕ) (view : View) (entries : List Entry) (frame : Frame) (o : Option TransactionId)
    (error : SessionInnerError) (handed : ℕ) (more : List Refusal) → txn frame ≡ o
    → unlisted told taken (is_some refused) refusals ≡ 0 → unless_take told (length taken) ≡ 0 → 1 ≤ refusals
    → TookOnly entries (steps.Frame frame) taken handed → FrameMayFault view frame o → IfChecked (answered_for o frame) (RefusedAsTold told error)
    → refused_list (error_of (refusal_told told)) refused ≡ more → AddsRefusal (steps.Frame frame) (hands entries (steps.Frame frame)) handed error more → AsTold told error
frame_fault told taken refused refusals view entries frame None error handed more plain none untaken rose took may checked list (own, gives, adds) =
    let handing : List Frame = hands entries (steps.Frame frame) in
    let count : length taken ≡ handed = sym (length-map taken (λ (pair : Frame × List Frame). pair.0)) ∙ ap (λ (l : List Frame). length l) took.1 ∙ length-take-le handed handing took.0 in
    as_fault told own error gives (plain_own told taken refused refusals handing handed own more (frame_hands entries frame) count none untaken rose list (not_post frame own handing handed more plain adds))
frame_fault told taken refused refusals view entries frame (Some id) error handed more under none untaken rose took may checked list adds =
    check_told told error (post_checked id frame may.1 checked)

fault_told : (told : BelowAnswer) (taken : List (Frame × List Frame)) (refused : Option Refused) (refusals : ℕ) (view : View) (entries : List Entry) (step : Step) (error : SessionInnerError) (handed : ℕ) (more : List Refusal)
    → unlisted told taken (is_some refused) refusals ≡ 0 → unless_take told (length taken) ≡ 0 → 1 ≤ refusals
    → TookOnly entries step taken handed → MayFault view step (hands entries step) error → IfChecked (answered_with step) (RefusedAsTold told error)
    → refused_list (error_of (refusal_told told)) refused ≡ more → AddsRefusal step (hands entries step) handed error more → AsTold told error
fault_told told taken refused refusals view entries (steps.Frame frame) error handed more none untaken rose took may checked list adds =
    frame_fault told taken refused refusals view entries frame (txn frame) error handed more refl none untaken rose took may checked list adds
fault_told told taken refused refusals view entries (steps.Control on payload) error handed more none untaken rose took may checked list adds = inr may.1
fault_told told taken refused refusals view entries (steps.LinkEnd on) error handed more none untaken rose took may checked list adds = absurd may
fault_told told taken refused refusals view entries (steps.LocalEnd own) error handed more none untaken rose took may checked list adds = absurd may
fault_told told taken refused refusals view entries (steps.RemoteEnd own) error handed more none untaken rose took may checked list adds = absurd may
fault_told told taken refused refusals view entries (steps.ConnectionStop reason) error handed more none untaken rose took may checked list adds = absurd may

-- a refusal
pub refusal_as_told : (b : Bool) (told : BelowAnswer) (taken : List (Frame × List Frame)) (refused : Option Refused) (refusals : ℕ) (view : View) (entries : List Entry) (step : Step) (error : SessionInnerError) (handed : ℕ)
    (old new : Told) → unlisted told taken (is_some refused) refusals ≡ 0 → unless_take told (length taken) ≡ 0 → TookOnly entries step taken handed
    → old.refused ≡ Some [] → new.refused ≡ Some (refused_list (error_of (refusal_told told)) refused)
    → MatchBool b (Unit {0}) (1 ≤ refusals) → MatchBool b (Unit {0}) (MayFault view step (hands entries step) error)
    → MatchBool b (Unit {0}) (IfChecked (answered_with step) (RefusedAsTold told error)) → MatchBool b (Unit {0}) (RefusedAdds old new step (hands entries step) error handed)
    → MatchBool b (Unit {0}) (AsTold told error)
refusal_as_told true told taken refused refusals view entries step error handed old new none untaken took before now rose may checked adds = tt
refusal_as_told false told taken refused refusals view entries step error handed old new none untaken took before now rose may checked (more, adds, is) =
    let same : Some (refused_list (error_of (refusal_told told)) refused) ≡ Some more = sym now ∙ is ∙ ap (λ o. grown o more) before in
    fault_told told taken refused refusals view entries step error handed more none untaken rose took may checked (same_Some (refused_list (error_of (refusal_told told)) refused) more same) adds
