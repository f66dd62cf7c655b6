-- What a broker took in a run, by what the drive says that the layer below took.
use Rattle.std.proofs.Common.{Bool, List, None, Option, Some, [], ap, cond, false, length, refl, subst, sym, take, true, ℕ, ◌+◌, ◌++◌, ◌∙◌, ◌∷◌, ◌≡◌, ◌≤◌, ◌↔◌}
use Rattle.std.specs.Prelude.{MatchBool, slice_get}
use Rattle.std.proofs.lemmas.Cmp.{nat_list_eq_equiv}
use Rattle.std.proofs.lemmas.Map.Keys.{any_passes_from_place}
use Rattle.std.specs.List.{zip}
use Rattle.std.proofs.lemmas.List.{append_cancel_left, map-append}
use Rattle.std.proofs.lemmas.Option.{same_Some}
use Rattle.std.proofs.lemmas.Slice.Zip.{firsts-zip}
use Rattle.amqp_below_layer.specs.OneFrame.{TookFrames}
use Rattle.amqp_below_layer.specs.declared.inner_error.SessionInnerError.{SessionInnerError}
use Rattle.amqp_resource_record.proofs.Origins.{firsts_of_pairs}
use Rattle.amqp_below_ids.specs.Ids.{AreNext}
use Rattle.amqp_resource_record.specs.Entries.{drawn_of, steps_of}
use Rattle.amqp_resource_record.specs.Hands.{hands}
use Rattle.amqp_resource_record.specs.Legal.{IsLegal}
use Rattle.amqp_resource_record.specs.Work.{pairs, work}
use Rattle.amqp_resource_record.specs.declared.entry.Entry.{Entry}
use Rattle.amqp_resource_record.specs.declared.step.Step.{Step}
use Rattle.amqp_resource_record.specs.declared.step.Step.TheVariants as steps
use Rattle.amqp_resource_record.specs.declared.stop.Driven.{Driven}
use Rattle.amqp_resource_record.specs.declared.stop.Stop.{Stop}
use Rattle.amqp_resource_record.specs.declared.stop.Stop.TheVariants as stops
use Rattle.amqp_resource_session.specs.Drive.{IfRefusal, NextStep, RunRose, RunStopsSurely, RunTook, RunVetoed, StopCause}
use Rattle.amqp_resource_session.specs.Steps.{StopsSurely, is_unknown}
use Rattle.amqp_txn_types.specs.declared.performatives.Frame.{Frame}
use Rattle.amqp_txn_types.specs.declared.id.TransactionId.{TransactionId}
use Rattle.txn_broker_queues.proofs.Naming.{any_named, same_name}
use Rattle.txn_broker_queues.specs.Given.{answered}
use Rattle.txn_broker_queues.specs.Keeping.{queue_names}
use Rattle.txn_broker_queues.specs.Queues.{queue, queue_found}
use Rattle.txn_broker_queues.specs.Taking.{Board, frames_of, taken_of}
use Rattle.txn_broker_run.specs.Running.{HoldsRun, IsBrokerRun, NoneOfCommit, TookExactly, TookFront}

-- of two facts of a refusal a third follows
both_refused : (stop : Stop) {P P' P'' : Type 0} {Q Q' Q'' : SessionInnerError → Type 0} → (P → P' → P'') → ((e : SessionInnerError) → Q e → Q' e → Q'' e)
    → IfRefusal stop P Q → IfRefusal stop P' Q' → IfRefusal stop P'' Q''
both_refused stops.Done f g p q = f p q
both_refused (stops.Ended reason) f g p q = f p q
both_refused stops.NoMemory f g p q = f p q
both_refused (stops.Fault error) {P} {P'} {P''} {Q} {Q'} {Q''} f g p q = by_case (is_unknown error) p q
  where
    by_case : (b : Bool) → MatchBool b P (Q error) → MatchBool b P' (Q' error) → MatchBool b P'' (Q'' error)
    by_case true p q = f p q
    by_case false p q = g error p q

-- the frames of what was taken
some_pairs : (journal more : List (Frame × List Frame)) (r : List Entry) → Some journal ≡ Some (pairs r ++ more) → IsLegal r → frames_of journal ≡ work r ++ frames_of more
some_pairs journal more r same legal =
    ap frames_of (same_Some journal (pairs r ++ more) same)
    ∙ map-append (λ (pair : Frame × List Frame). pair.0) (pairs r) more
    ∙ ap (λ w. w ++ frames_of more) (firsts_of_pairs r legal)

-- of a commit a sure layer took none
none_taken : (s : Step) (handed : ℕ) → StopsSurely true s handed → NoneOfCommit s handed
none_taken (steps.Control link payload) handed sure = sure refl
none_taken _ handed sure = tt

-- the step after those of the entries is one
next_same : (all : List Step) (r : List Entry) (s t : Step) (rest other : List Step) → all ≡ steps_of r ++ s ∷ rest → all ≡ steps_of r ++ t ∷ other → t ≡ s
next_same all r s t rest other left right =
    let same = append_cancel_left (steps_of r) (s ∷ rest) (t ∷ other) (sym left ∙ right) in cc same

-- each queue is that of the frames
took_exactly : (broker : Board) (list : List Frame) → taken_of broker ≡ list → TookExactly broker list
took_exactly broker list same = record { taken = same; queues = λ name. ap (λ w. queue_found w name) same }

-- after a refusal
took_front : (all : List Step) (r : List Entry) (handed : ℕ) (broker : Board) → IsLegal r
    → NextStep all r (λ s. (handed ≤ length (hands r s)) × TookFrames (Some (pairs r)) (Some broker.journal) (take handed (hands r s)))
    → NextStep all r (λ s. StopsSurely true s handed) → NextStep all r (TookFront r handed broker)
took_front all r handed broker legal (s, rest, left, (within, (given, long, same))) (t, other, right, sure) = (
  s,
  rest,
  left,
  record {
    within = within;
    holds =
        took_exactly broker (work r ++ take handed (hands r s))
        (some_pairs broker.journal (zip (take handed (hands r s)) given) r same legal
        ∙ ap (λ fs. work r ++ fs) (firsts-zip (take handed (hands r s)) given long));
    none = none_taken s handed (subst (λ x. StopsSurely true x handed) (next_same all r s t rest other left right) sure);
  },
)

-- what a drive over a new broker says was taken
pub broker_holds : (all : List Step) (driven : Driven) (broker : Board) → IsLegal driven.entries
    → RunTook (Some []) (Some broker.journal) all driven.entries driven.stop driven.handed
    → RunStopsSurely true all driven.entries driven.stop driven.handed → HoldsRun all driven broker
broker_holds all driven broker legal took surely =
    both_refused driven.stop
    (λ (p : (Some broker.journal ≡ Some (pairs driven.entries)) × (driven.handed ≡ 0)) (q : Unit {0}).
    (took_exactly broker (work driven.entries) (ap frames_of (same_Some broker.journal (pairs driven.entries) p.0) ∙ firsts_of_pairs driven.entries legal), p.1))
    (λ e p q. took_front all driven.entries driven.handed broker legal p q) took surely

-- the ids of a stream are those of another that gives the same at each place
next_along : (f g : ℕ → TransactionId) (n : ℕ) (ds : List TransactionId) → ((m : ℕ) → f m ≡ g m) → AreNext f n ds → AreNext g n ds
next_along f g n [] same a = tt
next_along f g n (d ∷ ds) same a = (a.0 ∙ same n, next_along f g (n + 1) ds same a.1)

-- a drive over a new broker
pub is_broker_run : (f ids : ℕ → TransactionId) (all : List Step) (broker : Board) (driven : Driven) (before : Option (List (Frame × List Frame))) (refusals vetoes : ℕ)
    → ((n : ℕ) → f n ≡ ids n) → before ≡ Some [] → refusals ≡ 0 → vetoes ≡ 0
    → IsLegal driven.entries → AreNext f 0 (drawn_of driven.entries) → driven.at ≡ length driven.entries → steps_of driven.entries ≡ take driven.at all
    → ((driven.stop ≡ stops.Done) ↔ (steps_of driven.entries ≡ all)) → StopCause all driven.entries driven.stop
    → RunTook before (Some broker.journal) all driven.entries driven.stop driven.handed → RunStopsSurely true all driven.entries driven.stop driven.handed
    → broker.journal ≡ answered (taken_of broker)
    → RunRose refusals broker.refusals driven.entries driven.stop → RunVetoed vetoes broker.vetoes driven.entries
    → IsBrokerRun ids all broker driven
is_broker_run f ids all broker driven before refusals vetoes same none no_refusals no_vetoes legal drew at front done cause took surely answers rose vetoes_rose =
    let given = subst (λ o. RunTook o (Some broker.journal) all driven.entries driven.stop driven.handed) none took in
    record {
      legal = legal;
      drawn = next_along f ids 0 (drawn_of driven.entries) same drew;
      at = at;
      front = front;
      done = done;
      cause = cause;
      holds = broker_holds all driven broker legal given surely;
      given = given;
      answers = answers;
      rose = subst (λ n. RunRose n broker.refusals driven.entries driven.stop) no_refusals rose;
      vetoes_rose = subst (λ n. RunVetoed n broker.vetoes driven.entries) no_vetoes vetoes_rose;
    }

-- the queue of a name is found
pub named_found : (taken : List Frame) (i : ℕ) (name : List ℕ) → slice_get (queue_names taken) i ≡ Some name → queue_found taken name ≡ Some (queue taken name)
named_found taken i name at =
    ap (λ b. cond b (Some (queue taken name)) None)
    (sym (any_named name taken) ∙ any_passes_from_place (same_name name) (queue_names taken) i name at (nat_list_eq_equiv.refl name))
