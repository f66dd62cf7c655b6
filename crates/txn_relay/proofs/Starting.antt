-- A relay before its first event.
use Rattle.std.proofs.Common.{◌≡◌, ℕ, ◌≤◌, true, false, cond, List, [], ◌∷◌, ◌++◌, length, refl, sym, ◌∙◌, ap, arith, subst, append-nil}
use Rattle.std.specs.List.{list_any, AllByRecursion}
use Rattle.std.proofs.lemmas.List.Sums.{sum_by-cons}
use Rattle.std.proofs.lemmas.Option.{none-some}
use Rattle.amqp_txn_types.specs.declared.performatives.Frame.{Frame}
use Rattle.amqp_below_ids.specs.declared.list_ids.ListIds.{ListIds}
use Rattle.amqp_resource_record.specs.declared.entry.Entry.{Entry}
use Rattle.amqp_resource_record.specs.declared.reply.Reply.{Reply}
use Rattle.amqp_resource_record.specs.declared.reply.Reply.TheVariants as replies
use Rattle.amqp_resource_record.specs.declared.step.Step.{Step}
use Rattle.amqp_resource_record.specs.declared.step.Step.TheVariants as steps
use Rattle.amqp_resource_record.specs.Entries.{is_attached}
use Rattle.txn_broker_queues.specs.declared.message.Message.{Message}
use Rattle.txn_broker_queues.specs.Queues.{attaches, messages, queue}
use Rattle.txn_broker_queues.specs.Taking.{Board, taken_of}
use Rattle.txn_broker_queues.proofs.Listing.{queue_within}
use Rattle.txn_parties.specs.Exchange.{Begins, Exchange, begun}
use Rattle.txn_parties.proofs.Turning.{keeps_start}
use Rattle.txn_world.specs.Happening.{TwoParties}
use Rattle.txn_relay.specs.Moves.{from_name, to_name}
use Rattle.txn_relay.specs.Once.{accepted_commits, accepts_commit, payloads}
use Rattle.txn_relay.specs.Relaying.{IsReady}
use Rattle.txn_relay.specs.Stages.{Idle, Queues, Stands}
use Rattle.txn_relay.proofs.Queues.{found_parts}

attach_not_commit : (s : Step) (r : Reply) → is_attached r ≡ true → accepts_commit s r ≡ false
attach_not_commit (steps.Control k payload) (replies.Accepted echoes) h = absurd (cc h)
attach_not_commit _ _ h = refl

no_commits : (first : List Entry) → AllByRecursion (λ (e : Entry). is_attached e.reply ≡ true) first → accepted_commits first ≡ 0
no_commits [] all = refl
no_commits (e ∷ first) all =
    let one : cond {A = ℕ} (accepts_commit e.step e.reply) 1 0 ≡ 0 = ap (λ b. cond b 1 0) (attach_not_commit e.step e.reply all.0) in
    let rest = no_commits first all.1 in
    sum_by-cons (λ (x : Entry). cond (accepts_commit x.step x.reply) 1 0) e first ∙ omega (arith, one, rest)

stands_begun : (first : List Entry) (taken : List Frame) (work : List Message) → Begins first → length first ≡ 1 → length work ≤ 4294967295 → Queues taken work 0 → Stands (begun true first) taken work 0 0
stands_begun first taken work begins one few q = record {
  sure = refl;
  link = one;
  keeps = keeps_start true first begins;
  stops = λ halt h. absurd (none-some halt h);
  few = few;
  made_is = refl;
  put_few = omega arith;
  put_is = λ x h. absurd (omega (arith, h));
  stage = Idle (record { below = tt; made = refl; accepted = count; heard = λ x less. absurd (omega (arith, less)) }) refl refl refl count;
  queues = subst (λ (n : ℕ). Queues taken work n) (sym count) q;
}
  where
    count : accepted_commits (first ++ []) ≡ 0
    count = ap accepted_commits (append-nil first) ∙ no_commits first begins.attached

-- there are no more messages than the broker below was sent
pub ready_within : (world : TwoParties Board ListIds) (work : List Message) (below : Board) (count : ℕ) → IsReady world work → below ≡ world.below → count ≡ length (messages (taken_of below)) → length work ≤ count
ready_within world work below count ready is sent =
    let from = found_parts (list_any (attaches from_name) (taken_of world.below)) (queue (taken_of world.below) from_name) work ready.from_is in
    let within = queue_within (taken_of world.below) from_name in
    let same = ap length from.1 in
    let all = ap (λ (b : Board). length (messages (taken_of b))) is in
    omega (arith, within, same, all, sent)

-- a relay that is ready stands
pub stands_ready : (world : TwoParties Board ListIds) (work : List Message) → IsReady world work → length work ≤ 4294967295 → Stands world.sides (taken_of world.below) work 0 0
stands_ready world work ready few =
    let from = found_parts (list_any (attaches from_name) (taken_of world.below)) (queue (taken_of world.below) from_name) work ready.from_is in
    let to = found_parts (list_any (attaches to_name) (taken_of world.below)) (queue (taken_of world.below) to_name) [] ready.to_is in
    subst (λ (w : Exchange). Stands w (taken_of world.below) work 0 0) (sym ready.sides)
    (stands_begun world.sides.first (taken_of world.below) work ready.begins ready.one few (record {
      from_there = from.0;
      to_there = to.0;
      to_link = ready.to_link;
      within = omega arith;
      from_is = from.1;
      to_is = ap payloads to.1;
    }))
