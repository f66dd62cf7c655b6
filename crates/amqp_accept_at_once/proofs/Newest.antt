-- The attach that was queued last.
use Rattle.std.proofs.Common.{◌≡◌, List, [], ◌∷◌, ◌++◌, Some, None, Bool, refl, ap, sym, ◌∙◌, Result}
use Rattle.amqp_txn_types.specs.declared.performatives.Attach.{Attach}
use Rattle.amqp_txn_types.specs.declared.performatives.Frame.{Frame}
use Rattle.amqp_below_layer.specs.declared.inner_error.SessionInnerError.{SessionInnerError}
use Rattle.amqp_below_sessions.specs.declared.relay.NameState.{NameState}
use Rattle.amqp_below_sessions.specs.declared.relay.NameState.TheVariants.{Unknown, Waiting, Taken}
use Rattle.amqp_below_sessions.specs.Queues.{Queue, with_last}
use Rattle.amqp_accept_listener.specs.Hearing.{HearsAttach, Queues}
use Rattle.amqp_accept_listener.specs.Listening.{TakesNewest}

-- a list with a last one isn't empty
not-empty : {A : Type 0} (xs : List A) (a : A) → xs ++ a ∷ [] ≡ [] → ⊥
not-empty [] a same = cc
not-empty (x ∷ xs) a same = cc

-- lists that are the same with a last one
last-same : {A : Type 0} (xs ys : List A) (a b : A) → xs ++ a ∷ [] ≡ ys ++ b ∷ []
    → (xs ≡ ys) × (a ≡ b)
last-same [] [] a b same = (refl, cc)
last-same [] (y ∷ ys) a b same = let rest : ys ++ b ∷ [] ≡ [] = cc in absurd (not-empty ys b rest)
last-same (x ∷ xs) [] a b same = let rest : xs ++ a ∷ [] ≡ [] = cc in absurd (not-empty xs a rest)
last-same (x ∷ xs) (y ∷ ys) a b same =
    let rest : xs ++ a ∷ [] ≡ ys ++ b ∷ [] = cc in
    let head : x ≡ y = cc in
    let parts = last-same xs ys a b rest in
    (let tail = parts.0 in cc, parts.1)

-- an attach whose name doesn't wait is queued
pub unwaited : {S : Type 0} (Inner : Result (List Frame) SessionInnerError → Type 0)
    (known : NameState) (old new : S) (before after : Queue) (attach : Attach)
    (result : Result (List Frame) SessionInnerError) → (known ≡ Waiting → ⊥)
    → HearsAttach Inner known old new before after attach result
    → (new ≡ old) × Queues known before after attach result
unwaited Inner Unknown old new before after attach result differs hears = hears
unwaited Inner Waiting old new before after attach result differs hears = absurd (differs refl)
unwaited Inner Taken old new before after attach result differs hears = hears

-- an attach was queued, so one waits
pub some-waits : (before heard after : Queue) (attach : Attach) → heard ≡ with_last before attach
    → TakesNewest heard after None → ⊥
some-waits before heard after attach queued takes =
    not-empty before.waiting attach (ap (λ q. q.waiting) (sym queued) ∙ takes.0)

-- queues that are the same in both
queue-same : (a b : Queue) → a.waiting ≡ b.waiting → a.closed ≡ b.closed → a ≡ b
queue-same a b waiting closed =
    ap (λ (w : List Attach). let q : Queue = record { waiting = w; closed = a.closed } in q) waiting
    ∙ ap (λ (c : Bool). let q : Queue = record { waiting = b.waiting; closed = c } in q) closed

-- the attach that was queued is the one that is taken, and the queue is as it was
pub takes-queued : (before heard after : Queue) (attach taken : Attach)
    → heard ≡ with_last before attach → TakesNewest heard after (Some taken)
    → (after ≡ before) × (taken ≡ attach)
takes-queued before heard after attach taken queued takes =
    let both : with_last after taken ≡ with_last before attach = sym takes ∙ queued in
    let parts = last-same after.waiting before.waiting taken attach (ap (λ q. q.waiting) both) in
    (queue-same after before parts.0 (ap (λ q. q.closed) both), parts.1)
