-- The end of a run of workers.
use Rattle.std.proofs.Common.{◌≡◌, ℕ, ◌+◌, ◌-◌, ◌*◌, ◌^◌, ◌<◌, ◌≤◌, ◌⊎◌, min, ◌==◌, ◌&&◌, Bool, true, false, Option, Some, None, List, length, count_by, is_none, inl, inr, refl, sym, ◌∙◌, ap, subst, arith, if◌then◌else◌}
use Rattle.std.specs.List.{list_any}
use Rattle.std.proofs.lemmas.List.{length-map}
use Rattle.amqp_txn_types.specs.Counts.{Rose}
use Rattle.amqp_txn_types.specs.declared.id.TransactionId.{TransactionId}
use Rattle.amqp_txn_types.specs.declared.performatives.Frame.{Frame}
use Rattle.amqp_below_ids.specs.Counted.{ids_from}
use Rattle.amqp_below_ids.specs.Ids.{AreNext}
use Rattle.amqp_below_layer.specs.Told.{Told}
use Rattle.amqp_below_recorder.specs.declared.recorder.Recorder.{Recorder}
use Rattle.amqp_resource_record.specs.Entries.{drawn_of}
use Rattle.amqp_resource_session.specs.Session.{below_of, held_of, stop_of}
use Rattle.amqp_resource_session.specs.declared.session.TxnSession.{TxnSession}
use Rattle.amqp_resource_held.specs.declared.held.Held.{Held}
use Rattle.amqp_resource_record.proofs.Origins.{firsts_of_pairs}
use Rattle.amqp_resource_record.specs.Legal.{IsLegal}
use Rattle.amqp_resource_record.specs.Opened.{attach_refused_count}
use Rattle.amqp_resource_record.specs.Work.{pairs, work}
use Rattle.amqp_resource_record.specs.declared.entry.Entry.{Entry}
use Rattle.amqp_resource_record.specs.declared.stop.StopCode.{StopCode}
use Rattle.amqp_resource_record.specs.declared.stop.StopCode.TheVariants as codes
use Rattle.amqp_resource_shared.specs.Close.{ClosedBy, NotMissing}
use Rattle.amqp_resource_shared.specs.Kept.{Kept, Standing, TakenOf, refused_stop}
use Rattle.amqp_resource_shared.specs.declared.close.CloseWhy.{CloseWhy}
use Rattle.amqp_resource_shared.specs.declared.close.CloseWhy.TheVariants as causes
use Rattle.amqp_resource_shared.specs.declared.receipt.Receipt.{Receipt}
use Rattle.amqp_resource_shared.specs.declared.receipt.StoppedAt.{StoppedAt}
use Rattle.txn_program_runs.specs.Running.{taken_of}
use Rattle.txn_program_threads.specs.Gathered.{IsGathered}
use Rattle.txn_program_threads.specs.Histories.{RefusedBy, StopsAt, is_rejection}
use Rattle.txn_program_threads.specs.Runs.{EndsCounted, IsCounted, Leaves, RanOut, RunsThreads}
use Rattle.txn_program_threads.specs.Statuses.{refused_count, starved_by, threads_status}
use Rattle.txn_program_threads.specs.declared.threads_ran.ThreadsRan.{ThreadsRan}
use Rattle.txn_program_threads.proofs.Histories.{are-of_workers, none-closed, whole-tally}
use Rattle.txn_program_threads.proofs.Statuses.{ends-counted, refusal-cause}
use Rattle.txn_program_threads.specs.Works.{attach_told}

-- ---- the stop

rose-one : (count refusals : ℕ) → 1 ≤ count → min count (2 ^ 64 - 1) ≤ refusals → Rose 0 refusals
rose-one count refusals some least = omega (arith, some, least)

refused-stop : (attaches refusals : ℕ) → min (attaches + 1) (2 ^ 64 - 1) ≤ refusals → Rose 0 refusals
refused-stop attaches refusals least = rose-one (attaches + 1) refusals (omega arith) least

-- why it stopped, by the code
pub stops-by : (held : Held) (refusals attaches : ℕ) (history : List Entry) (stop : Option StopCode) (stopped : Option StoppedAt) → Standing held stop history stopped → min (attaches + refused_stop stop) (2 ^ 64 - 1) ≤ refusals → StopsAt refusals history stop stopped
stops-by held refusals attaches history None None is least = tt
stops-by held refusals attaches history None (Some at) is least = absurd is
stops-by held refusals attaches history (Some code) None is least = absurd is
stops-by held refusals attaches history (Some codes.Done) (Some at) is least = absurd is.0
stops-by held refusals attaches history (Some codes.NoMemory) (Some at) is least = absurd is.0
stops-by held refusals attaches history (Some codes.UnknownTxnId) (Some at) is least = inr (inr is.0)
stops-by held refusals attaches history (Some codes.Ended) (Some at) is least = inr (inl (is.0.0, is.0.1))
stops-by held refusals attaches history (Some codes.EndedWithError) (Some at) is least = inr (inl (is.0.0, is.0.1))
stops-by held refusals attaches history (Some codes.RemoteEnded) (Some at) is least = inr (inl (is.0.0, is.0.1))
stops-by held refusals attaches history (Some codes.RemoteEndedWithError) (Some at) is least = inr (inl (is.0.0, is.0.1))
stops-by held refusals attaches history (Some codes.ConnectionStopped) (Some at) is least = inr (inl (is.0.0, is.0.1))
stops-by held refusals attaches history (Some _) (Some at) is least = inl (refused-stop attaches refusals least)

-- ---- what was counted

-- with no cause: as many entries as receipts, each of its own
clean : (held : ℕ) (es : List Entry) (rs : List Receipt) (why : Option CloseWhy) → ClosedBy held es rs why → why ≡ None → ClosedBy held es rs None
clean held es rs why by none = let P : Option CloseWhy → Type 0 = λ x. ClosedBy held es rs x in subst P none by

-- status 0: nothing stopped, no cause, nothing refused
status-clean : (b : Bool) (s : Bool) → ◌≡◌ {A = ℕ} (if b then 0 else if s then 8 else 1) 0 → b ≡ true
status-clean true s e = refl
status-clean false true e = absurd (omega (arith, e))
status-clean false false e = absurd (omega (arith, e))

none-is : {A : Type 0} (x : Option A) → is_none x ≡ true → x ≡ None
none-is None e = refl
none-is (Some a) e = absurd (cc e)

both-true : (a b : Bool) → (a && b) ≡ true → (a ≡ true) × (b ≡ true)
both-true true b e = (refl, e)
both-true false b e = absurd (cc e)

pub whole-clean : (stop : Option StopCode) (why : Option CloseWhy) (refused : ℕ) (es : List Entry) → threads_status stop why refused es ≡ 0 → (stop ≡ None) × (why ≡ None)
whole-clean stop why refused es e =
    let all = both-true (is_none stop && is_none why) (refused == 0) (status-clean (is_none stop && is_none why && (refused == 0)) (starved_by stop es) e) in
    let two = both-true (is_none stop) (is_none why) all.0 in
    (none-is stop two.0, none-is why two.1)

runs-on : (held : Held) (stop : Option StopCode) (es : List Entry) (stopped : Option StoppedAt) → Standing held stop es stopped → stop ≡ None → stopped ≡ None
runs-on held None es None is e = refl
runs-on held None es (Some at) is e = absurd is
runs-on held (Some code) es stopped is e = absurd (cc e)

took-work : (es : List Entry) (taken : List (Frame × List Frame)) → IsLegal es → taken ≡ pairs es → length taken ≡ length (work es)
took-work es taken legal e = ap length e ∙ (sym (length-map (pairs es) (λ (p : Frame × List Frame). p.0)) ∙ ap length (firsts_of_pairs es legal))

-- all that is known at the end
pub record AtEnd (held : ℕ) (workers rounds : ℕ) (es : List Entry) (rs : List Receipt) (why : Option CloseWhy) (done : Bool) : Type 0 where
  pub closed : ClosedBy held es rs why
  pub counts : held ≡ length rs
  pub whole : NotMissing why
  pub gathered : IsGathered workers rounds workers rs done
  pub once : (i : ℕ) → count_by (attach_told i) rs ≤ 1

-- what the lock kept, of a run
pub record KeptRun {S : Type 0} (held : Held) (told : Told) (ran : ThreadsRan S) : Type 0 where
  pub legal : IsLegal ran.history
  pub standing : Standing held ran.stop ran.history ran.stopped
  pub took : TakenOf ran.history ran.stopped (taken_of told)
  pub least : min (attach_refused_count ran.history + refused_stop ran.stop) (2 ^ 64 - 1) ≤ told.refusals

refused-by : (attaches stops refusals : ℕ) (history : List Entry) → min (attaches + stops) (2 ^ 64 - 1) ≤ refusals → (1 ≤ attaches) ⊎ (list_any (λ (e : Entry). is_rejection e.reply) history ≡ true) → RefusedBy refusals history
refused-by attaches stops refusals history least (inl some) = inl (rose-one (attaches + stops) refusals (omega (arith, some)) least)
refused-by attaches stops refusals history least (inr some) = inr some

pub counted-run : {S : Type 0} (kept : Held) (told : Told) (held workers rounds : ℕ) (rs : List Receipt) (why : Option CloseWhy) (done : Bool) (ran : ThreadsRan S)
    → KeptRun kept told ran → AtEnd held workers rounds ran.history rs ran.why done → EndsCounted told why done ran → IsCounted told workers rounds ran
counted-run kept told held workers rounds rs why done ran keeps end ends =
    let es = ran.history in
    record {
      counts = ends.counts;
      whole = λ zero.
          let calm = whole-clean ran.stop ran.why ran.refused es (sym ends.counts.status ∙ zero) in
          let by = clean held es rs ran.why end.closed calm.1 in
          let count : length rs ≡ length es = sym end.counts ∙ by.0 in
          let all = whole-tally workers rounds es rs done by.1 by.2 count end.gathered (ends.done zero) in
          let on = runs-on kept ran.stop es ran.stopped keeps.standing calm.0 in
          let took = subst (λ (at : Option StoppedAt). TakenOf es at (taken_of told)) on keeps.took in
          record {
            entries = ends.counts.entries ∙ all.all;
            commits = ends.counts.commits ∙ (sym (ends-counted false es) ∙ all.commits);
            rollbacks = ends.counts.rollbacks ∙ (sym (ends-counted true es) ∙ all.rollbacks);
            history = all;
            taken = ends.counts.taken ∙ took-work es (taken_of told) keeps.legal took;
          };
      workers = λ none.
          let by = clean held es rs ran.why end.closed none in
          let count : length rs ≡ length es = sym end.counts ∙ by.0 in
          are-of_workers workers rounds es rs done by.1 by.2 count end.gathered end.once;
      refused = λ none some.
          let by = clean held es rs ran.why end.closed none in
          let count : length rs ≡ length es = sym end.counts ∙ by.0 in
          let shut = none-closed workers rounds es rs done by.1 by.2 count end.gathered in
          let here : 0 < refused_count es = subst (λ (n : ℕ). 0 < n) ends.counts.refused some in
          refused-by (attach_refused_count es) (refused_stop ran.stop) told.refusals es keeps.least (refusal-cause es shut here);
      counted = end.whole;
    }

-- ---- as many entries as fit

few-at : (held : ℕ) (es : List Entry) (rs : List Receipt) (why : Option CloseWhy) → ClosedBy held es rs why → NotMissing why → held ≡ length es
few-at held es rs None by whole = by.0
few-at held es rs (Some (causes.Missing count told)) by whole = absurd whole
few-at held es rs (Some (causes.Repeated told again)) by whole = by.0
few-at held es rs (Some (causes.Differs number told)) by whole = by.0
few-at held es rs (Some causes.NoMemory) by whole = by

rounds-few : (workers rounds n : ℕ) → workers ≤ 8 → rounds ≤ 1000 → n ≤ workers * (1 + 4 * rounds) → n ≤ 8 * 4001
rounds-few workers rounds n w r l = grind (arith, w, r, l)

pub few-entries : (held workers rounds : ℕ) (es : List Entry) (rs : List Receipt) (why : Option CloseWhy) (done : Bool) → workers ≤ 8 → rounds ≤ 1000 → AtEnd held workers rounds es rs why done → length es < 2 ^ 32
few-entries held workers rounds es rs why done w r end =
    let all = few-at held es rs why end.closed end.whole in
    let few = rounds-few workers rounds (length rs) w r end.gathered.few in
    omega (arith, all, end.counts, few)

-- ---- the run whole

pub kept-run : {S : Type 0} (tells : Recorder S → Told) (session : TxnSession (Recorder S)) (next : ℕ → TransactionId) (entries : List Entry) (at : Option StoppedAt) (ran : ThreadsRan S)
    → Kept (held_of session) (stop_of session) (tells (below_of session)) (Some (ids_from 1)) next entries at → TakenOf entries at (taken_of (tells (below_of session))) → Leaves session entries at ran → KeptRun (held_of session) (tells ran.below) ran
kept-run tells session next entries at ran kept took leaves = record {
  legal = rw leaves.history kept.legal;
  standing = rw (leaves.history, leaves.stopped, leaves.stop) kept.standing;
  took = rw (leaves.history, leaves.stopped, leaves.below) took;
  least = rw (leaves.history, leaves.stop, leaves.below) kept.refusals;
}

pub drew-run : {S : Type 0} (tells : Recorder S → Told) (session : TxnSession (Recorder S)) (next : ℕ → TransactionId) (entries : List Entry) (at : Option StoppedAt) (ran : ThreadsRan S)
    → Kept (held_of session) (stop_of session) (tells (below_of session)) (Some (ids_from 1)) next entries at → Leaves session entries at ran → AreNext (ids_from 1) 0 (drawn_of ran.history)
drew-run tells session next entries at ran kept leaves = rw leaves.history kept.drew.these

pub runs-threads : {S : Type 0} (tells : Recorder S → Told) (held : Held) (workers rounds : ℕ) (ran : ThreadsRan S) → KeptRun held (tells ran.below) ran → AreNext (ids_from 1) 0 (drawn_of ran.history) → RanOut ran ⊎ IsCounted (tells ran.below) workers rounds ran → RunsThreads tells workers rounds ran
runs-threads tells held workers rounds ran keeps drew numbers = record {
  legal = keeps.legal;
  drew = drew;
  took = keeps.took;
  stop = stops-by held (tells ran.below).refusals (attach_refused_count ran.history) ran.history ran.stop ran.stopped keeps.standing keeps.least;
  numbers = numbers;
}

pub numbers-run : {S : Type 0} (tells : Recorder S → Told) (session : TxnSession (Recorder S)) (held workers rounds : ℕ) (entries : List Entry) (at : Option StoppedAt) (rs : List Receipt) (why : Option CloseWhy) (done : Bool) (ran : ThreadsRan S)
    → KeptRun (held_of session) (tells ran.below) ran → AtEnd held workers rounds entries rs why done → Leaves session entries at ran → RanOut ran ⊎ EndsCounted (tells ran.below) why done ran → RanOut ran ⊎ IsCounted (tells ran.below) workers rounds ran
numbers-run tells session held workers rounds entries at rs why done ran keeps end leaves (inl out) = inl out
numbers-run tells session held workers rounds entries at rs why done ran keeps end leaves (inr ends) =
    inr (counted-run (held_of session) (tells ran.below) held workers rounds rs why done ran keeps (rw (leaves.history, ends.why) end) ends)

-- where memory ran out
pub out-run : {S : Type 0} (tells : Recorder S → Told) (session : TxnSession (Recorder S)) (next : ℕ → TransactionId) (entries : List Entry) (at : Option StoppedAt) (workers rounds : ℕ) (ran : ThreadsRan S)
    → Kept (held_of session) (stop_of session) (tells (below_of session)) (Some (ids_from 1)) next entries at → TakenOf entries at (taken_of (tells (below_of session))) → Leaves session entries at ran → RanOut ran → RunsThreads tells workers rounds ran
out-run tells session next entries at workers rounds ran kept took leaves out =
    runs-threads tells (held_of session) workers rounds ran (kept-run tells session next entries at ran kept took leaves) (drew-run tells session next entries at ran kept leaves) (inl out)

-- where it didn't, or did for a worker
pub whole-run : {S : Type 0} (tells : Recorder S → Told) (session : TxnSession (Recorder S)) (next : ℕ → TransactionId) (entries : List Entry) (at : Option StoppedAt) (held workers rounds : ℕ) (rs : List Receipt) (why : Option CloseWhy) (done : Bool) (ran : ThreadsRan S)
    → Kept (held_of session) (stop_of session) (tells (below_of session)) (Some (ids_from 1)) next entries at → TakenOf entries at (taken_of (tells (below_of session))) → Leaves session entries at ran → AtEnd held workers rounds entries rs why done → RanOut ran ⊎ EndsCounted (tells ran.below) why done ran → RunsThreads tells workers rounds ran
whole-run tells session next entries at held workers rounds rs why done ran kept took leaves end numbers =
    let keeps = kept-run tells session next entries at ran kept took leaves in
    runs-threads tells (held_of session) workers rounds ran keeps (drew-run tells session next entries at ran kept leaves)
    (numbers-run tells session held workers rounds entries at rs why done ran keeps end leaves numbers)
