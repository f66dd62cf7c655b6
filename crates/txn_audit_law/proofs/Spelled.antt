-- The steps that lines spell name attaches by words that a line can spell.
use Rattle.std.proofs.Common.{◌≡◌, ℕ, ◌+◌, Bool, true, false, Option, Some, None, Result, Ok, Err, List, [], ◌∷◌, refl}
use Rattle.std.specs.Prelude.{IfOk, IfSome, if◌then◌else◌, codes}
use Rattle.std.specs.List.{All}
use Rattle.std.specs.Str.{bytes_eq}
use Rattle.std.proofs.lemmas.List.Elements.{All-cons, All-nil}
use Rattle.amqp_txn_types.specs.declared.delivery.ConnectionStopReason.TheVariants as reasons
use Rattle.amqp_txn_types.specs.declared.performatives.Frame.{Frame}
use Rattle.amqp_resource_record.specs.declared.step.Step.{Step}
use Rattle.amqp_resource_record.specs.declared.step.Step.TheVariants as steps
use Rattle.txn_program_lines.specs.Cutting.{words_of}
use Rattle.txn_program_lines.specs.LineWords.{◌>>=◌, bool_of, is_name, name_of, optional, outcome_of, payload_of, role_of, txn_id_of, u32_of, u64_of}
use Rattle.txn_program_lines.specs.Lines.{alone, attach_line, control_line, deliveries_at, delivery_at, detach_line, disposition_line, flow_line, frame_of_words, frame_step, link_end_line, link_flow_line, link_line, next, post_line, retire_line, step_of_line, step_of_words, transfer_line, word_at}
use Rattle.txn_program_lines.specs.Numbered.{item_then, items_from}
use Rattle.txn_audit_law.specs.Shown.{IsSpellable}

-- a step names no attach, or one by such a word
abbrev pub IsSpelled : Step → Type 0
IsSpelled (steps.Frame frame) = IsSpellable frame
IsSpelled _ = Unit {0}

-- ---- readings, one after another

if-then : {A B : Type 0} (Q : A → Type 0) (P : B → Type 0) (read : Option A) (further : A → Option B) → IfSome read Q → ((found : A) → Q found → IfSome (further found) P) → IfSome (read >>= further) P
if-then Q P None further q h = tt
if-then Q P (Some found) further q h = h found q

if-read : {A B : Type 0} (P : B → Type 0) (read : Option A) (further : A → Option B) → ((found : A) → IfSome (further found) P) → IfSome (read >>= further) P
if-read P None further h = tt
if-read P (Some found) further h = h found

if-alone : {A : Type 0} (P : A → Type 0) (words : List (List ℕ)) (spelled : A) → P spelled → IfSome (alone words spelled) P
if-alone P [] spelled p = p
if-alone P (word ∷ words) spelled p = tt

if-either : {A : Type 0} (P : A → Type 0) (b : Bool) (some other : Option A) → IfSome some P → IfSome other P → IfSome (if b then some else other) P
if-either P true some other p q = p
if-either P false some other p q = q

name-read : (word : List ℕ) → IfSome (name_of word) (λ name. is_name name ≡ true)
name-read word = by_test (is_name word) refl
  where
    by_test : (b : Bool) → is_name word ≡ b → IfSome (if b then Some word else None) (λ name. is_name name ≡ true)
    by_test true e = e
    by_test false e = tt

next-name : (words : List (List ℕ)) → IfSome (next name_of words) (λ found. is_name found.0 ≡ true)
next-name [] = tt
next-name (word ∷ words) = if-then (λ name. is_name name ≡ true) (λ (found : List ℕ × List (List ℕ)). is_name found.0 ≡ true) (name_of word) _ (name-read word) (λ name e. e)

-- ---- frames

attach-spelled : (words : List (List ℕ)) → IfSome (attach_line words) IsSpellable
unfolding attach_line
attach-spelled words =
    if-then (λ found. is_name found.0 ≡ true) IsSpellable (next name_of words) _ (next-name words) (λ name e.
    if-read IsSpellable (next u32_of name.1) _ (λ handle. if-alone IsSpellable handle.1 _ e))

link-spelled : (words : List (List ℕ)) → IfSome (link_line words) IsSpellable
unfolding link_line
link-spelled words =
    if-then (λ found. is_name found.0 ≡ true) IsSpellable (next name_of words) _ (next-name words) (λ name e.
    if-read IsSpellable (next u32_of name.1) _ (λ handle.
    if-read IsSpellable (next role_of handle.1) _ (λ role. if-alone IsSpellable role.1 _ e)))

link_flow-spelled : (words : List (List ℕ)) → IfSome (link_flow_line words) IsSpellable
unfolding link_flow_line
link_flow-spelled words =
    if-read IsSpellable (next u32_of words) _ (λ handle.
    if-read IsSpellable (next u32_of handle.1) _ (λ credit. if-alone IsSpellable credit.1 _ tt))

flow-spelled : (words : List (List ℕ)) → IfSome (flow_line words) IsSpellable
unfolding flow_line
flow-spelled words =
    if-read IsSpellable (word_at words) _ (λ first.
    if-either IsSpellable (bytes_eq first.0 (codes "-")) _ (link_flow_line words) (if-alone IsSpellable first.1 _ tt) (link_flow-spelled words))

transfer-spelled : (words : List (List ℕ)) → IfSome (transfer_line words) IsSpellable
unfolding transfer_line
transfer-spelled words =
    if-read IsSpellable (delivery_at words) _ (λ delivery.
    if-read IsSpellable (next payload_of delivery.1) _ (λ payload. if-alone IsSpellable payload.1 _ tt))

post-spelled : (words : List (List ℕ)) → IfSome (post_line words) IsSpellable
unfolding post_line
post-spelled words =
    if-read IsSpellable (next txn_id_of words) _ (λ txn_id.
    if-read IsSpellable (delivery_at txn_id.1) _ (λ delivery.
    if-read IsSpellable (next (optional outcome_of) delivery.1) _ (λ outcome.
    if-read IsSpellable (next payload_of outcome.1) _ (λ payload. if-alone IsSpellable payload.1 _ tt))))

disposition-spelled : (words : List (List ℕ)) → IfSome (disposition_line words) IsSpellable
unfolding disposition_line
disposition-spelled words =
    if-read IsSpellable (deliveries_at words) _ (λ deliveries.
    if-read IsSpellable (next (optional outcome_of) deliveries.1) _ (λ outcome. if-alone IsSpellable outcome.1 _ tt))

retire-spelled : (words : List (List ℕ)) → IfSome (retire_line words) IsSpellable
unfolding retire_line
retire-spelled words =
    if-read IsSpellable (next txn_id_of words) _ (λ txn_id.
    if-read IsSpellable (deliveries_at txn_id.1) _ (λ deliveries.
    if-read IsSpellable (next (optional outcome_of) deliveries.1) _ (λ outcome. if-alone IsSpellable outcome.1 _ tt)))

detach-spelled : (words : List (List ℕ)) → IfSome (detach_line words) IsSpellable
unfolding detach_line
detach-spelled words =
    if-read IsSpellable (next u32_of words) _ (λ handle.
    if-read IsSpellable (next bool_of handle.1) _ (λ closed. if-alone IsSpellable closed.1 _ tt))

frame-spelled : (kind : List ℕ) (words : List (List ℕ)) → IfSome (frame_of_words kind words) IsSpellable
unfolding frame_of_words
frame-spelled kind words =
    if-either IsSpellable (bytes_eq kind (codes "attach")) (attach_line words) _ (attach-spelled words)
    (if-either IsSpellable (bytes_eq kind (codes "link")) (link_line words) _ (link-spelled words)
    (if-either IsSpellable (bytes_eq kind (codes "flow")) (flow_line words) _ (flow-spelled words)
    (if-either IsSpellable (bytes_eq kind (codes "transfer")) (transfer_line words) _ (transfer-spelled words)
    (if-either IsSpellable (bytes_eq kind (codes "post")) (post_line words) _ (post-spelled words)
    (if-either IsSpellable (bytes_eq kind (codes "disposition")) (disposition_line words) _ (disposition-spelled words)
    (if-either IsSpellable (bytes_eq kind (codes "retire")) (retire_line words) _ (retire-spelled words)
    (if-either IsSpellable (bytes_eq kind (codes "detach")) (detach_line words) None (detach-spelled words) tt)))))))

-- ---- steps

as-step : (frame : Option Frame) → IfSome frame IsSpellable → IfSome (frame_step frame) IsSpelled
as-step None s = tt
as-step (Some frame) s = s

control-spelled : (words : List (List ℕ)) → IfSome (control_line words) IsSpelled
unfolding control_line
control-spelled words =
    if-read IsSpelled (next u64_of words) _ (λ link.
    if-read IsSpelled (next payload_of link.1) _ (λ payload. if-alone IsSpelled payload.1 _ tt))

link_end-spelled : (words : List (List ℕ)) → IfSome (link_end_line words) IsSpelled
unfolding link_end_line
link_end-spelled words = if-read IsSpelled (next u64_of words) _ (λ link. if-alone IsSpelled link.1 _ tt)

words-spelled : (kind : List ℕ) (words : List (List ℕ)) → IfSome (step_of_words kind words) IsSpelled
unfolding step_of_words
words-spelled kind words =
    if-either IsSpelled (bytes_eq kind (codes "control")) (control_line words) _ (control-spelled words)
    (if-either IsSpelled (bytes_eq kind (codes "link-end")) (link_end_line words) _ (link_end-spelled words)
    (if-either IsSpelled (bytes_eq kind (codes "end")) (alone words (steps.LocalEnd None)) _ (if-alone IsSpelled words _ tt)
    (if-either IsSpelled (bytes_eq kind (codes "remote-end")) (alone words (steps.RemoteEnd None)) _ (if-alone IsSpelled words _ tt)
    (if-either IsSpelled (bytes_eq kind (codes "connection-stop")) (alone words (steps.ConnectionStop reasons.RemoteClosed)) (frame_step (frame_of_words kind words)) (if-alone IsSpelled words _ tt)
    (as-step (frame_of_words kind words) (frame-spelled kind words))))))

line-spelled : (line : List ℕ) → IfSome (step_of_line line) IsSpelled
unfolding step_of_line
line-spelled line = if-read IsSpelled (word_at (words_of line)) _ (λ kind. words-spelled kind.0 kind.1)

-- ---- all lines

then-spelled : (step : Option Step) (number : ℕ) (others : Result (List Step) ℕ) → IfSome step IsSpelled → IfOk others (All IsSpelled) → IfOk (item_then step number others) (All IsSpelled)
then-spelled None number others s o = tt
then-spelled (Some step) number (Ok more) s o = All-cons IsSpelled step more s o
then-spelled (Some step) number (Err bad) s o = tt

pub lines-spelled : (number : ℕ) (lines : List (List ℕ)) → IfOk (items_from step_of_line number lines) (All IsSpelled)
unfolding items_from
lines-spelled number [] = All-nil IsSpelled
lines-spelled number (line ∷ lines) = then-spelled (step_of_line line) number (items_from step_of_line (number + 1) lines) (line-spelled line) (lines-spelled (number + 1) lines)
