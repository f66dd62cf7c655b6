-- What is counted of a history, by the codes of its replies.
use Rattle.std.proofs.Common.{◌≡◌, ℕ, ◌+◌, ◌<◌, ◌≤◌, ◌⊎◌, ◌||◌, Bool, true, false, cond, List, [], ◌∷◌, count_by, inl, inr, refl, sym, ◌∙◌, ap, arith}
use Rattle.std.proofs.Math.Path.{fun_ext}
use Rattle.std.specs.List.{list_any}
use Rattle.std.proofs.lemmas.List.Sums.{sum_by-cons}
use Rattle.amqp_txn_types.specs.declared.id.TransactionId.{TransactionId}
use Rattle.amqp_resource_record.specs.Opened.{attach_refused_count, is_attach_refused}
use Rattle.amqp_resource_record.specs.declared.entry.Entry.{Entry}
use Rattle.amqp_resource_record.specs.declared.reply.Reply.{Reply}
use Rattle.amqp_resource_record.specs.declared.reply.Reply.TheVariants as replies
use Rattle.amqp_resource_record.specs.declared.step.Step.{Step}
use Rattle.amqp_resource_record.specs.declared.step.Step.TheVariants as steps
use Rattle.amqp_resource_shared.specs.Receipts.{is_recorded}
use Rattle.amqp_resource_shared.specs.ReplyCodes.{code_of_reply}
use Rattle.txn_program_runs.specs.Made.{ends_count, step_ends_by}
use Rattle.txn_program_threads.specs.Histories.{is_rejection}
use Rattle.txn_program_threads.specs.Statuses.{is_refused_reply, refused_count}
use Rattle.txn_program_threads.specs.Tallies.{closed, ended, refused}

count-same : {X : Type 0} (p q : X → Bool) (xs : List X) → ((x : X) → p x ≡ q x) → count_by p xs ≡ count_by q xs
count-same p q xs same = ap (λ test. count_by test xs) (fun_ext same)

refused-same : (s : Step) (d : List TransactionId) (reply : Reply) → refused s d (code_of_reply reply) ≡ is_refused_reply reply
unfolding is_refused_reply
refused-same s d (replies.Frames answers) = refl
refused-same s d (replies.Attached link given) = refl
refused-same s d (replies.Declared id) = refl
refused-same s d (replies.Accepted echoes) = refl
refused-same s d _ = refl

pub refused-counted : (es : List Entry) → count_by (is_recorded refused) es ≡ refused_count es
refused-counted es = count-same (is_recorded refused) (λ (e : Entry). is_refused_reply e.reply) es (λ e. refused-same e.step e.drawn.ids e.reply)

control-ended : (b : Bool) (k : ℕ) (p : List ℕ) (d : List TransactionId) (reply : Reply) → ended b (steps.Control k p) d (code_of_reply reply) ≡ step_ends_by b (steps.Control k p) reply
control-ended b k p d (replies.Accepted echoes) = refl
control-ended b k p d _ = refl

ended-same : (b : Bool) (s : Step) (d : List TransactionId) (reply : Reply) → ended b s d (code_of_reply reply) ≡ step_ends_by b s reply
ended-same b (steps.Control k p) d reply = control-ended b k p d reply
ended-same b _ d reply = refl

pub ends-counted : (b : Bool) (es : List Entry) → count_by (is_recorded (ended b)) es ≡ ends_count b es
ends-counted b es = count-same (is_recorded (ended b)) (λ (e : Entry). step_ends_by b e.step e.reply) es (λ e. ended-same b e.step e.drawn.ids e.reply)

-- ---- why a reply is a refusal

or-more : (x y : Bool) → y ≡ true → (x || y) ≡ true
or-more true y e = refl
or-more false y e = e

abbrev rejects : Entry → Bool
rejects e = is_rejection e.reply

-- the first reply is no refusal
later : (refusals attaches closings : ℕ) (others : Bool) → (0 < refusals → closings ≡ 0 → (1 ≤ attaches) ⊎ (others ≡ true)) → 0 < 0 + refusals → 0 + closings ≡ 0 → (1 ≤ 0 + attaches) ⊎ ((false || others) ≡ true)
later refusals attaches closings others rest some none =
    elim (rest (omega (arith, some)) (omega (arith, none))) as (λ _. (1 ≤ 0 + attaches) ⊎ ((false || others) ≡ true)) [
      | inl h ↦ inl (omega (arith, h))
      | inr h ↦ inr h
    ]

-- a refusal among the first entry and the others
either : (s : Step) (d : List TransactionId) (reply : Reply) (refusals attaches closings : ℕ) (others : Bool)
    → (0 < refusals → closings ≡ 0 → (1 ≤ attaches) ⊎ (others ≡ true))
    → 0 < cond (is_refused_reply reply) 1 0 + refusals → cond (closed s d (code_of_reply reply)) 1 0 + closings ≡ 0
    → (1 ≤ cond (is_attach_refused reply) 1 0 + attaches) ⊎ ((is_rejection reply || others) ≡ true)
unfolding is_refused_reply
either s d (replies.AttachRefused error) refusals attaches closings others rest some none = inl (omega arith)
either s d replies.NoLink refusals attaches closings others rest some none = inr refl
either s d (replies.Rejected error text) refusals attaches closings others rest some none = inr refl
either s d replies.LinkEnded refusals attaches closings others rest some none = absurd (omega (arith, none))
either s d (replies.LinkClosed error) refusals attaches closings others rest some none = absurd (omega (arith, none))
either s d (replies.Frames answers) refusals attaches closings others rest some none = later refusals attaches closings others rest some none
either s d (replies.Attached link given) refusals attaches closings others rest some none = later refusals attaches closings others rest some none
either s d (replies.Declared id) refusals attaches closings others rest some none = later refusals attaches closings others rest some none
either s d (replies.Accepted echoes) refusals attaches closings others rest some none = later refusals attaches closings others rest some none

pub refusal-cause : (es : List Entry) → count_by (is_recorded closed) es ≡ 0 → 0 < refused_count es → (1 ≤ attach_refused_count es) ⊎ (list_any rejects es ≡ true)
refusal-cause [] none some = absurd (omega (arith, some))
refusal-cause (e ∷ es) none some =
    let refusals : 0 < cond (is_refused_reply e.reply) 1 0 + refused_count es = omega (arith, sum_by-cons (λ (x : Entry). cond (is_refused_reply x.reply) 1 0) e es, some) in
    let closings : cond (closed e.step e.drawn.ids (code_of_reply e.reply)) 1 0 + count_by (is_recorded closed) es ≡ 0 = sym (sum_by-cons (λ (x : Entry). cond (is_recorded closed x) 1 0) e es) ∙ none in
    let attaches = sum_by-cons (λ (x : Entry). cond (is_attach_refused x.reply) 1 0) e es in
    elim (either e.step e.drawn.ids e.reply (refused_count es) (attach_refused_count es) (count_by (is_recorded closed) es) (list_any rejects es) (λ some none. refusal-cause es none some) refusals closings)
    as (λ _. (1 ≤ attach_refused_count (e ∷ es)) ⊎ (list_any rejects (e ∷ es) ≡ true)) [
      | inl h ↦ inl (omega (arith, attaches, h))
      | inr h ↦ inr h
    ]
