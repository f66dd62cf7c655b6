-- What the broker takes of an item that arrives, and what the record counts of it.
use Rattle.std.proofs.Common.{◌≡◌, ℕ, ◌+◌, ◌≤◌, true, false, cond, Some, List, [], ◌∷◌, ◌++◌, length, refl, sym, ◌∙◌, ap, arith}
use Rattle.std.specs.List.{zip}
use Rattle.std.proofs.lemmas.List.{map-append}
use Rattle.std.proofs.lemmas.List.Sums.{sum_by_push}
use Rattle.std.proofs.lemmas.Option.{same_Some}
use Rattle.amqp_txn_types.specs.declared.id.TransactionId.{TransactionId}
use Rattle.amqp_txn_types.specs.declared.performatives.Frame.{Frame}
use Rattle.amqp_txn_codec.specs.Canon.{canon}
use Rattle.amqp_txn_codec.specs.Reading.{message_of}
use Rattle.amqp_below_layer.specs.OneFrame.{TookFrames}
use Rattle.amqp_resource_record.specs.declared.entry.Entry.{Entry}
use Rattle.amqp_resource_record.specs.declared.reply.Reply.{Reply}
use Rattle.amqp_resource_record.specs.declared.reply.Reply.TheVariants as replies
use Rattle.amqp_resource_record.specs.declared.step.Step.{Step}
use Rattle.amqp_resource_record.specs.declared.step.Step.TheVariants as steps
use Rattle.amqp_resource_record.specs.Answers.{Answer}
use Rattle.amqp_resource_record.specs.Work.{given_by, handed_by}
use Rattle.amqp_resource_record.proofs.Whole.{given_lengths}
use Rattle.amqp_txn_types.specs.Growing.{grown}
use Rattle.txn_broker_queues.specs.Taking.{Board, frames_of, taken_of, told_by}
use Rattle.txn_parties.specs.Items.{declare_message, discharge_message}
use Rattle.txn_parties.proofs.Living.{declare_read, discharge_read}
use Rattle.txn_relay.specs.Once.{accepted_commits, accepts_commit, is_commit_message}

-- ---- what was taken

firsts : (fs : List Frame) (given : List (List Frame)) → length given ≡ length fs → frames_of (zip fs given) ≡ fs
firsts [] given e = refl
firsts (f ∷ fs) [] e = absurd (omega (arith, e))
firsts (f ∷ fs) (g ∷ given) e = ap (λ l. f ∷ l) (firsts fs given (omega (arith, e)))

pub took_frames : (old new : List (Frame × List Frame)) (fs : List Frame) → TookFrames (Some old) (Some new) fs → frames_of new ≡ frames_of old ++ fs
took_frames old new fs t =
    ap frames_of (same_Some new (old ++ zip fs t.0) t.2)
    ∙ map-append (λ (p : Frame × List Frame). p.0) old (zip fs t.0)
    ∙ ap (λ l. frames_of old ++ l) (firsts fs t.0 t.1)

-- of an item that is answered the broker took what its entry says was handed
pub took_answered : (old new : Board) (r : List Entry) (s : Step) (d : List TransactionId) (reply : Reply) → Answer r s d reply → (told_by new).taken ≡ grown (told_by old).taken (zip (handed_by r s reply) (given_by s reply)) → taken_of new ≡ taken_of old ++ handed_by r s reply
took_answered old new r s d reply a t =
    took_frames old.journal new.journal (handed_by r s reply) (given_by s reply, sym (given_lengths r s d reply a), t)

-- ---- what is counted

pub count_more : (r : List Entry) (e : Entry) → accepted_commits (r ++ e ∷ []) ≡ accepted_commits r + cond (accepts_commit e.step e.reply) 1 0
count_more r e = sum_by_push (λ (x : Entry). cond (accepts_commit x.step x.reply) 1 0) r e

pub count_same : (r : List Entry) (e : Entry) → accepts_commit e.step e.reply ≡ false → accepted_commits (r ++ e ∷ []) ≡ accepted_commits r
count_same r e isnt =
    let more = count_more r e in
    let none : cond {A = ℕ} (accepts_commit e.step e.reply) 1 0 ≡ 0 = ap (λ b. cond b 1 0) isnt in
    omega (arith, more, none)

pub declare_not_counted : (reply : Reply) → accepts_commit (steps.Control 0 (canon declare_message)) reply ≡ false
declare_not_counted (replies.Accepted echoes) = ap is_commit_message declare_read
declare_not_counted _ = refl

pub commit_counted : (id : TransactionId) → length id ≤ 32 → is_commit_message (message_of (canon (discharge_message id false))) ≡ true
commit_counted id short = ap is_commit_message (discharge_read id false short)
