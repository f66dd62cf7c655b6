-- A run, step by step, from the first session on.
use Rattle.std.proofs.Common.{◌≡◌, ℕ, zero, suc, ◌<◌, ◌≤◌, ◌+◌, Bool, true, false, true≢false, Option, Some, None, Result, Ok, Err, List, [], ◌∷◌, ◌++◌, length, take, refl, sym, ap, ◌∙◌, subst, arith, append-nil, append_assoc, length-append}
use Rattle.std.specs.Prelude.{is_some, unwrap_or, IfOk}
use Rattle.std.proofs.lemmas.List.{map-append, length-map, length-take, length-take-le, take-append-le}
use Rattle.std.proofs.lemmas.List.Elements.{All-head, All-tail}
use Rattle.std.proofs.Math.Seq.{take-length, take-nil}
use Rattle.std.specs.List.{All}
use Rattle.amqp_txn_types.specs.declared.id.TransactionId.{TransactionId}
use Rattle.amqp_txn_types.specs.declared.items.NoMemory.{NoMemory}
use Rattle.amqp_txn_types.specs.declared.performatives.Disposition.{Disposition}
use Rattle.amqp_txn_types.specs.declared.performatives.Frame.{Frame}
use Rattle.amqp_below_ids.specs.Drawn.{DrawnIds}
use Rattle.amqp_below_ids.specs.Ids.{Drew}
use Rattle.amqp_below_layer.specs.Told.{Told}
use Rattle.amqp_below_layer.specs.declared.inner_error.SessionInnerError.{SessionInnerError}
use Rattle.amqp_below_layer.specs.declared.verdict.Verdict.{Verdict}
use Rattle.amqp_resource_record.specs.declared.entry.Entry.{Entry}
use Rattle.amqp_resource_record.specs.declared.reply.Reply.{Reply}
use Rattle.amqp_resource_record.specs.declared.step.Step.{Step}
use Rattle.amqp_resource_record.specs.declared.stop.Stop.{Stop}
use Rattle.amqp_resource_record.specs.declared.stop.Stop.TheVariants as stops
use Rattle.amqp_resource_record.specs.declared.stop.StepError.{StepError}
use Rattle.amqp_resource_record.specs.Entries.{drawn_of, steps_of}
use Rattle.amqp_resource_held.proofs.Fitting.{fits-stands}
use Rattle.amqp_resource_session.specs.declared.session.TxnSession.{TxnSession}
use Rattle.amqp_resource_session.specs.Drive.{Left, RunLeaves}
use Rattle.amqp_resource_session.specs.DriveClauses.{DriveSays}
use Rattle.amqp_resource_session.specs.Ran.{Broke, failed, handed_of, stop_by}
use Rattle.amqp_resource_session.specs.Session.{IsFresh, below_of, held_of, stop_of}
use Rattle.amqp_resource_session.specs.StepClauses.{StepSays}
use Rattle.amqp_resource_session.specs.Steps.{entry_of}
use Rattle.amqp_resource_session.proofs.Parts.{end_is, no_call_weaker}
use Rattle.amqp_resource_session.proofs.Running.{broke_cause, broke_done, broke_ended, broke_leaves, broke_refused, broke_rose, broke_surely, broke_took, broke_unknown, broke_vetoed, done_rose, none_next, ran-more, ran-nil, steps-first}
use Rattle.txn_mailbox_serving.specs.declared.server.Server.{Server}
use Rattle.txn_mailbox_serving.specs.Steps.{Came, first_attach, list_of, marked, second_attach}
use Rattle.txn_mailbox_serving.specs.Serving.{HasStopped, KeepsLists, RunSoFar, RunsOn, Serves, SoFar, driven}
use Rattle.txn_mailbox_serving.proofs.Coming.{marked-front}

-- a step that was answered
pub runs-more : {S G : Type 0} {told : S → Told} {sure : Bool} {reviews : S → S → List Frame → Result Verdict NoMemory → Type 0} {checks : S → S → Disposition → Result Unit SessionInnerError → Type 0} {next : G → ℕ → TransactionId} {starts : G → Option (ℕ → TransactionId)}
    (old mid new : TxnSession S) (old_source mid_source new_source : G) (steps : List Step) (entries : List Entry) (s : Step) (d : DrawnIds) (reply : Reply)
    → RunsOn told next starts old mid old_source mid_source steps entries
    → StepSays told sure reviews checks next starts mid new mid_source new_source s (Ok (d, reply))
    → RunsOn told next starts old new old_source new_source (steps ++ s ∷ []) (entries ++ entry_of s d reply ∷ [])
runs-more old mid new old_source mid_source new_source steps entries s d reply r said = record {
  runs = said.stops r.runs;
  fits = said.fits r.fits;
  ran = ran-more _ _ _ _ _ _ (held_of mid) (held_of new) entries s d reply r.ran
      (record {
        by = said.by_record r.runs entries r.ran.stands;
        veto = said.veto_rose;
        later = said.later;
        counted = said.counted;
        fixed = said.fixed;
      })
      said.drew;
  start = said.start ∙ r.start;
  these = map-append (λ (e : Entry). e.step) entries (entry_of s d reply ∷ []) ∙ ap (λ l. l ++ s ∷ []) r.these;
}

-- a step that stopped the run, whatever steps come after it
pub says-stop : {S G : Type 0} {told : S → Told} {sure : Bool} {reviews : S → S → List Frame → Result Verdict NoMemory → Type 0} {checks : S → S → Disposition → Result Unit SessionInnerError → Type 0} {next : G → ℕ → TransactionId} {starts : G → Option (ℕ → TransactionId)}
    (old mid new : TxnSession S) (old_source mid_source new_source : G) (steps : List Step) (entries : List Entry) (s : Step) (error : StepError)
    → RunsOn told next starts old mid old_source mid_source steps entries
    → StepSays told sure reviews checks next starts mid new mid_source new_source s (Err error)
    → (more : List Step) → DriveSays told sure next starts old new old_source new_source ((steps ++ s ∷ []) ++ more) (driven entries (stop_by error) (handed_of error))
says-stop {S} {G} {told} {sure} {reviews} {checks} {next} {starts} old mid new old_source mid_source new_source steps entries s error r said more =
    let all : List Step = (steps ++ s ∷ []) ++ more in
    let left : Left all entries (s ∷ more) = append_assoc steps (s ∷ []) more ∙ ap (λ l. l ++ s ∷ more) (sym r.these) in
    let b : Broke (next mid_source) sure (held_of new) (told (below_of mid)) (told (below_of new)) entries s error (stop_of new) = record {
      by = said.by_record r.runs entries r.ran.stands;
      first = said.runs r.runs;
      surely = said.surely;
      counted = said.counted;
      rose = said.refusal_rose;
      ended = λ reason is. end_is _ _ reason (said.ended r.runs) is;
      ended_only = said.ended_only;
      own = no_call_weaker s (failed error) (below_of new ≡ below_of mid) _ (ap told) said.untouched;
      later = said.later;
      fixed = said.fixed;
      stops = said.stops r.runs;
    } in
    record {
      legal = r.ran.stands.legal;
      at = refl;
      steps = steps-first all (s ∷ more) entries left;
      drew = subst (λ (x : G). Drew (next old_source) (next x) (drawn_of entries)) (sym said.source) r.ran.drew;
      start = said.start ∙ r.start;
      done = broke_done _ _ _ _ entries s error _ all more left b;
      cause = broke_cause _ _ _ _ entries s error _ all more left b;
      unknown = broke_unknown _ _ _ _ entries s error _ all more left b;
      ended = broke_ended _ _ _ _ entries s error _ all more left b;
      taken = broke_took _ _ _ _ _ _ _ _ entries s error _ all more left r.ran b;
      opened = b.by.opened_none ∙ r.ran.opened;
      refused = broke_refused _ _ _ _ _ _ _ _ entries s error _ all more left r.ran b;
      vetoed = broke_vetoed _ _ _ _ _ _ _ _ entries s error _ r.ran b;
      surely = broke_surely _ _ _ _ entries s error _ all more left b;
      rose = broke_rose _ _ _ _ _ _ _ _ entries s error _ r.ran b;
      vetoes_rose = omega (arith, r.ran.vetoes_rose, said.counted);
      later = omega (arith, r.ran.later, said.later);
      counted = omega (arith, r.ran.counted, said.counted);
      fixed = said.fixed ∙ r.ran.fixed;
      leaves = broke_leaves _ new _ _ entries s error b;
      fits = said.fits r.fits;
    }

-- a run that came to its end
pub says-done : {S G : Type 0} {told : S → Told} {next : G → ℕ → TransactionId} {starts : G → Option (ℕ → TransactionId)}
    (sure : Bool) (old new : TxnSession S) (old_source new_source : G) (steps : List Step) (entries : List Entry)
    → RunsOn told next starts old new old_source new_source steps entries
    → DriveSays told sure next starts old new old_source new_source steps (driven entries stops.Done 0)
says-done sure old new old_source new_source steps entries r = record {
  legal = r.ran.stands.legal;
  at = refl;
  steps = steps-first steps [] entries (sym r.these ∙ sym (append-nil (steps_of entries)));
  drew = r.ran.drew;
  start = r.start;
  done = (λ _. r.these, λ _. refl);
  cause = r.these;
  unknown = λ n. absurd (none_next steps entries _ r.these n);
  ended = λ reason n. absurd (none_next steps entries _ r.these n);
  taken = (r.ran.taken, refl);
  opened = r.ran.opened;
  refused = r.ran.refused;
  vetoed = r.ran.vetoed;
  surely = tt;
  rose = done_rose _ _ _ _ _ entries r.ran;
  vetoes_rose = r.ran.vetoes_rose;
  later = r.ran.later;
  counted = r.ran.counted;
  fixed = r.ran.fixed;
  leaves = (r.ran.stands, r.runs);
  fits = r.fits;
}

pub none_of : (o : Option Stop) → is_some o ≡ false → o ≡ None
none_of None e = refl
none_of (Some stop) e = absurd (true≢false e)

-- ---- the server

-- a fresh server
pub so_far-nil : {S G : Type 0} {told : S → Told} {next : G → ℕ → TransactionId} {starts : G → Option (ℕ → TransactionId)}
    (sure : Bool) (server : Server S G) → IsFresh told server.session → server.stop ≡ None → server.entries.items ≡ [] → server.marks.items ≡ []
    → SoFar told sure next starts server.session server.ids [] [] server
so_far-nil {S} {G} {told} {next} {starts} sure server fresh runs entries marks = record {
  run = subst (λ (o : Option Stop). RunSoFar told sure next starts server.session server.session server.ids server.ids [] server.entries.items o) (sym runs)
      (subst (λ (es : List Entry). RunsOn told next starts server.session server.session server.ids server.ids [] es) (sym entries) (record {
        runs = fresh.runs;
        fits = (fits-stands (held_of server.session) [] fresh.stands, omega (arith, fresh.owed));
        ran = ran-nil (told (below_of server.session)) (next server.ids) (held_of server.session) fresh.stands;
        start = refl;
        these = refl;
      }));
  written = marks ∙ sym (take-nil (length server.entries.items));
  each = refl;
  within = omega (arith, ap length entries);
}

-- while it runs
pub run_of : {S G : Type 0} {told : S → Told} {sure : Bool} {next : G → ℕ → TransactionId} {starts : G → Option (ℕ → TransactionId)}
    (old : TxnSession S) (old_source : G) (marks : List ℕ) (steps : List Step) (server : Server S G)
    → SoFar told sure next starts old old_source marks steps server → server.stop ≡ None
    → RunsOn told next starts old server.session old_source server.ids steps server.entries.items
run_of {S} {G} {told} {sure} {next} {starts} old old_source marks steps server h none =
    subst (λ (o : Option Stop). RunSoFar told sure next starts old server.session old_source server.ids steps server.entries.items o) none h.run

-- a step that was answered
pub so_far-more : {S G : Type 0} {told : S → Told} {sure : Bool} {reviews : S → S → List Frame → Result Verdict NoMemory → Type 0} {checks : S → S → Disposition → Result Unit SessionInnerError → Type 0} {next : G → ℕ → TransactionId} {starts : G → Option (ℕ → TransactionId)}
    (old : TxnSession S) (old_source : G) (marks : List ℕ) (steps : List Step) (server new : Server S G) (m : ℕ) (s : Step) (d : DrawnIds) (reply : Reply)
    → server.stop ≡ None → new.stop ≡ None
    → new.entries.items ≡ server.entries.items ++ entry_of s d reply ∷ [] → new.marks.items ≡ server.marks.items ++ m ∷ []
    → StepSays told sure reviews checks next starts server.session new.session server.ids new.ids s (Ok (d, reply))
    → SoFar told sure next starts old old_source marks steps server
    → SoFar told sure next starts old old_source (marks ++ m ∷ []) (steps ++ s ∷ []) new
so_far-more {S} {G} {told} {sure} {reviews} {checks} {next} {starts} old old_source marks steps server new m s d reply was is entries written said h =
    let r = run_of old old_source marks steps server h was in
    let more = runs-more old server.session new.session old_source server.ids new.ids steps server.entries.items s d reply r said in
    let all : length server.entries.items ≡ length marks = sym (length-map server.entries.items (λ (e : Entry). e.step)) ∙ ap length r.these ∙ sym h.each in
    let longer : length new.entries.items ≡ length (marks ++ m ∷ []) = ap length entries ∙ length-append server.entries.items (entry_of s d reply ∷ []) ∙ ap (λ n. n + 1) all ∙ sym (length-append marks (m ∷ [])) in
    record {
      run = subst (λ (o : Option Stop). RunSoFar told sure next starts old new.session old_source new.ids (steps ++ s ∷ []) new.entries.items o) (sym is)
          (subst (λ (es : List Entry). RunsOn told next starts old new.session old_source new.ids (steps ++ s ∷ []) es) (sym entries) more);
      written =
          written ∙ ap (λ l. l ++ m ∷ []) (h.written ∙ ap (λ n. take n marks) all ∙ take-length marks)
          ∙ sym (ap (λ n. take n (marks ++ m ∷ [])) longer ∙ take-length (marks ++ m ∷ []));
      each = length-append marks (m ∷ []) ∙ ap (λ n. n + 1) h.each ∙ sym (length-append steps (s ∷ []));
      within = omega (arith, longer, length-append marks (m ∷ []), h.each, length-append steps (s ∷ []));
    }

-- a step that stopped it
pub so_far-stop : {S G : Type 0} {told : S → Told} {sure : Bool} {reviews : S → S → List Frame → Result Verdict NoMemory → Type 0} {checks : S → S → Disposition → Result Unit SessionInnerError → Type 0} {next : G → ℕ → TransactionId} {starts : G → Option (ℕ → TransactionId)}
    (old : TxnSession S) (old_source : G) (marks : List ℕ) (steps : List Step) (server new : Server S G) (m : ℕ) (s : Step) (error : StepError)
    → server.stop ≡ None → new.stop ≡ Some (stop_by error)
    → new.entries.items ≡ server.entries.items → new.marks.items ≡ server.marks.items
    → StepSays told sure reviews checks next starts server.session new.session server.ids new.ids s (Err error)
    → SoFar told sure next starts old old_source marks steps server
    → SoFar told sure next starts old old_source (marks ++ m ∷ []) (steps ++ s ∷ []) new
so_far-stop {S} {G} {told} {sure} {reviews} {checks} {next} {starts} old old_source marks steps server new m s error was is entries written said h =
    let r = run_of old old_source marks steps server h was in
    let longer = length-append steps (s ∷ []) in
    let same : length new.entries.items ≡ length server.entries.items = ap length entries in
    record {
      run = subst (λ (o : Option Stop). RunSoFar told sure next starts old new.session old_source new.ids (steps ++ s ∷ []) new.entries.items o) (sym is)
          (subst (λ (es : List Entry). HasStopped told sure next starts old new.session old_source new.ids (steps ++ s ∷ []) es (stop_by error)) (sym entries) (record {
            handed = handed_of error;
            says = says-stop old server.session new.session old_source server.ids new.ids steps server.entries.items s error r said;
            short = omega (arith, longer, h.within);
          }));
      written =
          written ∙ h.written ∙ ap (λ n. take n marks) (sym same)
          ∙ sym (take-append-le (length new.entries.items) marks (m ∷ []) (omega (arith, same, h.within, h.each)));
      each = length-append marks (m ∷ []) ∙ ap (λ n. n + 1) h.each ∙ sym (length-append steps (s ∷ []));
      within = omega (arith, same, h.within, longer);
    }

-- a step after the stop
pub so_far-still : {S G : Type 0} {told : S → Told} {sure : Bool} {next : G → ℕ → TransactionId} {starts : G → Option (ℕ → TransactionId)}
    (old : TxnSession S) (old_source : G) (marks : List ℕ) (steps : List Step) (server : Server S G) (m : ℕ) (s : Step)
    → is_some server.stop ≡ true
    → SoFar told sure next starts old old_source marks steps server
    → SoFar told sure next starts old old_source (marks ++ m ∷ []) (steps ++ s ∷ []) server
so_far-still {S} {G} {told} {sure} {next} {starts} old old_source marks steps server m s some h =
    let longer = length-append steps (s ∷ []) in
    record {
      run = still server.stop some h.run;
      written = h.written ∙ sym (take-append-le (length server.entries.items) marks (m ∷ []) (omega (arith, h.within, h.each)));
      each = length-append marks (m ∷ []) ∙ ap (λ n. n + 1) h.each ∙ sym (length-append steps (s ∷ []));
      within = omega (arith, h.within, longer);
    }
  where
    still : (stop : Option Stop) → is_some stop ≡ true → RunSoFar told sure next starts old server.session old_source server.ids steps server.entries.items stop
        → RunSoFar told sure next starts old server.session old_source server.ids (steps ++ s ∷ []) server.entries.items stop
    still None e r = absurd (true≢false (sym e))
    still (Some stop) e r = record {
      handed = r.handed;
      says = λ more. subst (λ (all : List Step). DriveSays told sure next starts old server.session old_source server.ids all (driven server.entries.items stop r.handed))
          (sym (append_assoc steps (s ∷ []) more)) (r.says (s ∷ more));
      short = let longer = length-append steps (s ∷ []) in omega (arith, r.short, longer);
    }

-- ---- what was served

take-first : (n : ℕ) (a b : Step) (l : List Step) → take 2 (take n (a ∷ b ∷ l)) ≡ take n (a ∷ b ∷ [])
take-first zero a b l = refl
take-first (suc zero) a b l = refl
take-first (suc (suc n)) a b l = ap (λ t. a ∷ b ∷ t) (sym (take-nil n))

front_of : (k : ℕ) (first second : List Step) (senders : List ℕ) (steps : List Step) → k < 2 → Came first second senders steps
    → marked k (2 ∷ 2 ∷ senders) (first_attach ∷ second_attach ∷ steps) ≡ list_of first second k
front_of zero first second senders steps low came = came.of_first
front_of (suc zero) first second senders steps low came = came.of_second
front_of (suc (suc k)) first second senders steps low came = absurd (omega arith)

-- of two senders each step is of the one or of the other
both_count : (senders : List ℕ) (steps : List Step) → length senders ≡ length steps → All (λ k. k < 2) senders → length steps ≡ length (marked 0 senders steps) + length (marked 1 senders steps)
both_count [] [] same known = refl
both_count [] (s ∷ steps) same known = absurd (omega arith)
both_count (k ∷ senders) [] same known = absurd (omega arith)
both_count (zero ∷ senders) (s ∷ steps) same known = let more = both_count senders steps (omega arith) (All-tail (λ k. k < 2) zero senders known) in omega (arith, more)
both_count (suc zero ∷ senders) (s ∷ steps) same known = let more = both_count senders steps (omega arith) (All-tail (λ k. k < 2) (suc zero) senders known) in omega (arith, more)
both_count (suc (suc k) ∷ senders) (s ∷ steps) same known = let low = All-head (λ j. j < 2) (suc (suc k)) senders known in absurd (omega arith)

-- what the run says of both lists
pub keeps-lists : {S G : Type 0} {told : S → Told} {sure : Bool} {next : G → ℕ → TransactionId} {starts : G → Option (ℕ → TransactionId)} {old : TxnSession S} (new : TxnSession S) {old_source new_source : G} (first second : List Step) (entries : List Entry) (marks : List ℕ) (stop : Stop)
    → Serves told sure next starts old new old_source new_source first second entries marks stop
    → KeepsLists first second new entries marks stop
keeps-lists new first second entries marks stop s =
    let n : ℕ = length entries in
    let all : List Step = first_attach ∷ second_attach ∷ s.steps in
    let senders : List ℕ = 2 ∷ 2 ∷ s.senders in
    let same : length senders ≡ length all = ap (λ k. suc (suc k)) s.came.each in
    let served : steps_of entries ≡ take n all = s.run.steps in
    let count : length (steps_of entries) ≡ n = length-map entries (λ (e : Entry). e.step) in
    let within : n ≤ length all = omega (arith, ap length served, length-take n all, count) in
    let both = both_count s.senders s.steps s.came.each s.came.known in
    let total : length all ≡ length first + length second + 2 = omega (arith, both, ap length s.came.of_first, ap length s.came.of_second) in
    let lists : (k : ℕ) → k < 2 → marked k senders all ≡ list_of first second k = λ k low. front_of k first second s.senders s.steps low s.came in
    let every : stop ≡ stops.Done → (marks ≡ senders) × (steps_of entries ≡ all) = λ done.
    let e : steps_of entries ≡ all = s.run.done.0 done in
    let m : n ≡ length senders = sym count ∙ ap length e ∙ sym same in
    (s.written ∙ ap (λ k. take k senders) m ∙ take-length senders, e) in
    record {
      legal = s.run.legal;
      attaches = ap (take 2) served ∙ take-first n first_attach second_attach s.steps;
      stands = λ done. (let h : RunLeaves new entries stops.Done = subst (λ (x : Stop). RunLeaves new entries x) done s.run.leaves in h.0);
      each = ap length s.written ∙ length-take-le n senders (omega (arith, within, same));
      whole = λ done. let e = every done in (
        ap (λ m. marked 0 m (steps_of entries)) e.0 ∙ ap (marked 0 senders) e.1 ∙ lists 0 (omega arith),
        ap (λ m. marked 1 m (steps_of entries)) e.0 ∙ ap (marked 1 senders) e.1 ∙ lists 1 (omega arith),
      );
      fronts = λ k low. let f = marked-front k n senders all same in
          (f.0, ap (λ m. marked k m (steps_of entries)) s.written ∙ ap (marked k (take n senders)) served ∙ f.1 ∙ ap (take f.0) (lists k low));
      done = (
        λ done. sym count ∙ ap length (every done).1 ∙ total,
        λ many. s.run.done.1 (served ∙ ap (λ k. take k all) (many ∙ sym total) ∙ take-length all),
      );
    }

-- a run to its end, or to its stop, with the number of frames handed of the step at which it stopped
ended : {S G : Type 0} {told : S → Told} {sure : Bool} {next : G → ℕ → TransactionId} {starts : G → Option (ℕ → TransactionId)} (old new : TxnSession S) (old_source new_source : G) (steps : List Step) (entries : List Entry) (stop : Option Stop)
    → RunSoFar told sure next starts old new old_source new_source steps entries stop
    → (handed : ℕ) × DriveSays told sure next starts old new old_source new_source steps (driven entries (unwrap_or stop stops.Done) handed)
ended {sure} old new old_source new_source steps entries None r = (0, says-done sure old new old_source new_source steps entries r)
ended {S} {G} {told} {sure} {next} {starts} old new old_source new_source steps entries (Some stop) r =
    (r.handed, subst (λ (all : List Step). DriveSays told sure next starts old new old_source new_source all (driven entries stop r.handed)) (append-nil steps) (r.says []))

-- what a server served once all came
pub serves-all : {S G : Type 0} {told : S → Told} {sure : Bool} {next : G → ℕ → TransactionId} {starts : G → Option (ℕ → TransactionId)} (old : TxnSession S) (old_source : G) (first second : List Step) (senders : List ℕ) (steps : List Step) (server : Server S G)
    → Came first second senders steps
    → SoFar told sure next starts old old_source (2 ∷ 2 ∷ senders) (first_attach ∷ second_attach ∷ steps) server
    → Serves told sure next starts old server.session old_source server.ids first second server.entries.items server.marks.items (unwrap_or server.stop stops.Done)
serves-all old old_source first second senders steps server came h =
    let end = ended old server.session old_source server.ids (first_attach ∷ second_attach ∷ steps) server.entries.items server.stop h.run in
    record { senders = senders; steps = steps; handed = end.0; came = came; written = h.written; run = end.1 }

pub if_ok : {A B : Type 0} (r : Result A B) (P Q : A → Type 0) → ((a : A) → P a → Q a) → IfOk r P → IfOk r Q
if_ok (Ok a) P Q f p = f a p
if_ok (Err b) P Q f p = tt
