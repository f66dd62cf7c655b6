-- The answer of a recorder, by that of the layer in it.
use Rattle.std.proofs.Common.{◌≡◌, ℕ, true, false, Result, Ok, Err, List, sym, ◌∙◌, ap, subst, inl, inr}
use Rattle.amqp_txn_types.specs.Counts.{one_more}
use Rattle.amqp_txn_types.specs.declared.performatives.Frame.{Frame}
use Rattle.amqp_below_layer.specs.declared.inner_error.SessionInnerError.{SessionInnerError}
use Rattle.amqp_below_layer.specs.declared.refusal.Refusal.{Refusal}
use Rattle.amqp_below_recorder.specs.declared.call_numbers.Planned.{Planned}
use Rattle.amqp_below_recorder.specs.declared.call_numbers.Planned.TheVariants as fates
use Rattle.amqp_below_recorder.specs.Recording.{KeepsAnswer, KeepsRefusal, Recorded, RefusedBefore, WhyErr, error_uncopied, given_uncopied, no_room, passed, planned_so}

-- a refusal of the layer in it
pub recorded-refusal : (Inner : Result (List Frame) SessionInnerError → Type 0) (Untouched : Type 0) (planned : Planned) (own own_after : ℕ)
    (before after : List Refusal) (frame : Frame) (error answer : SessionInnerError)
    → planned ≡ fates.Made → Inner (Err error) → own_after ≡ own → KeepsRefusal before after frame error answer
    → Recorded Inner Untouched planned own own_after (Err answer)
recorded-refusal Inner Untouched planned own own_after before after frame error answer p inner same kept =
    let Why : SessionInnerError → Type 0 = λ e. WhyErr Inner Untouched planned e false in
    elim kept [
      | inl k ↦ (false, subst Why (sym k.0) (passed error p inner), same)
      | inr k ↦ (false, subst Why (sym k.0) (error_uncopied error p inner), same)
    ]

-- a call that didn't reach the layer
pub recorded-before : (Inner : Result (List Frame) SessionInnerError → Type 0) (Untouched : Type 0) (planned was_planned : Planned) (own own_after : ℕ)
    (before after : List Refusal) (frame : Frame) (error : SessionInnerError) (result : Result (List Frame) SessionInnerError)
    → was_planned ≡ planned → Untouched → own_after ≡ one_more own → result ≡ Err error → RefusedBefore was_planned before after frame error
    → Recorded Inner Untouched planned own own_after result
recorded-before Inner Untouched planned was_planned own own_after before after frame error result plan same more is why =
    let Why : SessionInnerError → Type 0 = λ e. WhyErr Inner Untouched planned e true in
    let Answer : Result (List Frame) SessionInnerError → Type 0 = Recorded Inner Untouched planned own own_after in
    subst Answer (sym is) (elim why as (λ _. Answer (Err error)) [
      | inl w ↦ (true, subst Why (sym w.1) (planned_so (sym plan ∙ w.0) same), more)
      | inr w ↦ (true, subst Why (sym w.0) (no_room same), more)
    ])

-- a call that the layer answered
pub recorded-after : (Inner : Result (List Frame) SessionInnerError → Type 0) (Untouched : Type 0) (planned : Planned) (own own_was own_after : ℕ)
    (kept kept_after : List (Frame × List Frame)) (before after : List Refusal) (frame : Frame)
    (answer result : Result (List Frame) SessionInnerError)
    → planned ≡ fates.Made → own_was ≡ own → Inner answer → KeepsAnswer kept kept_after before after own_was own_after frame answer result
    → Recorded Inner Untouched planned own own_after result
recorded-after Inner Untouched planned own was own_after kept kept_after before after frame (Ok given) (Ok out) p is inner keeps =
    let Gave : List Frame → Type 0 = λ frames. Inner (Ok frames) in (p, subst Gave (sym keeps.out_is) inner, keeps.own_is ∙ is)
recorded-after Inner Untouched planned own was own_after kept kept_after before after frame (Ok given) (Err error) p is inner keeps =
    let Why : SessionInnerError → Type 0 = λ e. WhyErr Inner Untouched planned e true in
    (true, subst Why (sym keeps.error_is) (given_uncopied given keeps.some p inner), keeps.own_is ∙ ap one_more is)
recorded-after Inner Untouched planned own was own_after kept kept_after before after frame (Err error) (Ok out) p is inner keeps = absurd keeps
recorded-after Inner Untouched planned own was own_after kept kept_after before after frame (Err error) (Err answer) p is inner keeps =
    recorded-refusal Inner Untouched planned own own_after before after frame error answer p inner (keeps.own_is ∙ is) keeps.keeps
