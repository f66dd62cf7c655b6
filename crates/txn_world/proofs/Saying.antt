-- What the step of an item that arrives makes of the two parties.
use Rattle.std.proofs.Common.{◌≡◌, ℕ, ◌≤◌, Bool, true, false, Option, Some, None, Result, Ok, Err, List, [], ◌∷◌, ◌++◌, length, take, drop, refl, sym, ◌∙◌, ap, arith, subst}
use Rattle.std.specs.Prelude.{MatchBool}
use Rattle.std.specs.List.{zip}
use Rattle.std.proofs.lemmas.List.{length-append, same_from_push}
use Rattle.amqp_txn_types.specs.Growing.{grown}
use Rattle.amqp_txn_types.specs.declared.id.TransactionId.{TransactionId}
use Rattle.amqp_txn_types.specs.declared.items.NoMemory.{NoMemory}
use Rattle.amqp_txn_types.specs.declared.performatives.Disposition.{Disposition}
use Rattle.amqp_txn_types.specs.declared.performatives.Frame.{Frame}
use Rattle.amqp_below_layer.specs.OneFrame.{TookFrames}
use Rattle.amqp_below_layer.specs.Told.{Told}
use Rattle.amqp_below_layer.specs.declared.inner_error.SessionInnerError.{SessionInnerError}
use Rattle.amqp_below_layer.specs.declared.verdict.Verdict.{Verdict}
use Rattle.amqp_below_ids.specs.Drawn.{DrawnIds}
use Rattle.amqp_below_ids.proofs.Draws.{Drew-none}
use Rattle.amqp_resource_record.specs.declared.entry.Entry.{Entry}
use Rattle.amqp_resource_record.specs.declared.reply.Reply.{Reply}
use Rattle.amqp_resource_record.specs.declared.step.Step.{Step}
use Rattle.amqp_resource_record.specs.declared.stop.StepError.TheVariants as errors
use Rattle.amqp_resource_record.specs.Answers.{Answer}
use Rattle.amqp_resource_record.specs.Entries.{is_veto}
use Rattle.amqp_resource_record.specs.Hands.{hands}
use Rattle.amqp_resource_record.specs.Stops.{fault_code}
use Rattle.amqp_resource_record.specs.Vetoed.{vetoed_by}
use Rattle.amqp_resource_record.specs.Work.{given_by, handed_by}
use Rattle.amqp_resource_session.specs.declared.session.TxnSession.{TxnSession}
use Rattle.amqp_resource_session.specs.Session.{StandsFor, below_of, held_of, stop_of, told_of}
use Rattle.amqp_resource_session.specs.Steps.{RefusedAdds, is_unknown}
use Rattle.amqp_resource_session.specs.StepClauses.{StepRecords, StepSays}
use Rattle.txn_parties.specs.declared.event.Event.{Event}
use Rattle.txn_parties.specs.declared.event.Event.TheVariants as events
use Rattle.txn_parties.specs.declared.event.Happened.{Happened}
use Rattle.txn_parties.specs.declared.event.Happened.TheVariants as happenings
use Rattle.txn_parties.specs.declared.item.Item.{Item}
use Rattle.txn_parties.specs.declared.item.Halt.{Halt}
use Rattle.txn_parties.specs.Items.{step_of}
use Rattle.txn_parties.specs.Exchange.{Exchange, record_of}
use Rattle.txn_parties.specs.Taken.{Grew}
use Rattle.txn_parties.specs.Turns.{IsShort, MayStop, entry_by}
use Rattle.txn_parties.proofs.Agreed.{agreement}
use Rattle.txn_parties.proofs.Joining.{grew_other, grew_quiet, took_none}
use Rattle.txn_parties.proofs.Taking.{grew_answered, grew_stopped}
use Rattle.txn_world_wires.specs.declared.parties.Parties.{Parties}
use Rattle.txn_world_wires.specs.declared.tag.Tag.{Tag}
use Rattle.txn_world.specs.Happening.{DidBelow, EventSays, Refused, StopCause, Unknown}
use Rattle.txn_world_wires.specs.Moves.{Moves}
use Rattle.txn_world_wires.specs.Parties.{Sound, exchange_of}
use Rattle.txn_world.specs.Serving.{Serves, two_parties}
use Rattle.txn_world_wires.specs.Tags.{came_of, item_of}
use Rattle.txn_world_wires.proofs.Recording.{answering, halted, halting, record_is, recorded}
use Rattle.txn_world.proofs.Stopping.{may_stop_dead, may_stop_refused, unknown_code, veto_rose}

-- an event, with what is so of the two parties after it
pub record Serving {S G : Type 0} (told : S → Told) (next : G → ℕ → TransactionId) (starts : G → Option (ℕ → TransactionId)) (sure : Bool) (session new : TxnSession S) (ids later : G) (p q : Parties) (event : Event) (result : Result Happened NoMemory) : Type 0 where
  pub says : EventSays told next starts (two_parties sure session ids p) (two_parties sure new later q) event result
  pub sound : Sound sure q
  pub serves : Serves new q

no_stop : {A : Type 0} (o : Option A) (a : A) → o ≡ None → o ≡ Some a → ⊥
no_stop o a e f = cc (e, f)

longer : {A : Type 0} (xs : List A) (x : A) → xs ≡ xs ++ x ∷ [] → ⊥
longer {A} xs x e = let l = ap (λ (ys : List A). length ys) e in let m = length-append xs (x ∷ []) in omega (arith, l, m)

came_same : (sure : Bool) (p q : Parties) → q.entries ≡ p.entries → q.tags ≡ p.tags → q.attached ≡ p.attached → (exchange_of sure q).came ≡ (exchange_of sure p).came
came_same sure p q a b c = ap (λ (t : List Tag). came_of t (drop q.attached q.entries)) b ∙ ap (λ (r : List Entry). came_of p.tags (drop q.attached r)) a ∙ ap (λ (n : ℕ). came_of p.tags (drop n p.entries)) c

-- ---- where nothing is called below

pub quiet_says : {S G : Type 0} (told : S → Told) (next : G → ℕ → TransactionId) (starts : G → Option (ℕ → TransactionId)) (sure : Bool) (session : TxnSession S) (ids : G) (p q : Parties) (event : Event) (happened : Happened) → Sound sure p → Serves session p → (happened ≡ happenings.Arrived → ⊥) → Moves sure p event happened q → Serving told next starts sure session session ids ids p q event (Ok happened)
quiet_says told next starts sure session ids p q event happened s v n m = record {
  says = record {
    turn = ([], m.turn, Drew-none (next ids) (next ids) (λ k. refl));
    err = tt;
    grew = grew_other (exchange_of sure p) (exchange_of sure q) event happened [] (told (below_of session)).taken s.keeps m.turn n;
    start = refl;
    stopped = λ halt item rest a b c. absurd (no_stop q.stop halt (m.stop ∙ a) b);
    vetoed = λ item entry e i. absurd (longer (exchange_of sure p).came (item, entry) (sym (came_same sure p q m.entries m.tags m.attached) ∙ e));
    later = omega arith;
    counted = omega arith;
    fixed = refl;
    answered = λ item entry e. absurd (longer (exchange_of sure p).came (item, entry) (sym (came_same sure p q m.entries m.tags m.attached) ∙ e));
    halted = λ halt a b. absurd (no_stop q.stop halt (m.stop ∙ a) b);
    quiet = λ e. (refl, refl);
    keeps = m.sound.keeps;
    agree = agreement (exchange_of sure q) m.sound.keeps;
  };
  sound = m.sound;
  serves = record {
    runs = λ e. v.runs (sym m.stop ∙ e);
    stands = λ e. subst (λ (r : List Entry). StandsFor session r) (sym m.entries) (v.stands (sym m.stop ∙ e));
    code = λ halt e. v.code halt (sym m.stop ∙ e);
  };
}

pub unchanged_says : {S G : Type 0} (told : S → Told) (next : G → ℕ → TransactionId) (starts : G → Option (ℕ → TransactionId)) (sure : Bool) (session new : TxnSession S) (ids : G) (p : Parties) (event : Event) → Sound sure p → Serves session p → below_of new ≡ below_of session → stop_of new ≡ stop_of session → (p.stop ≡ None → StandsFor new p.entries) → Serving told next starts sure session new ids ids p p event (Err (record {}))
unchanged_says told next starts sure session new ids p event s v b o stands = record {
  says = record {
    turn = tt;
    err = ap (λ x. record { sides = exchange_of sure p; below = x; ids = ids }) b;
    grew = subst (λ x. Grew (exchange_of sure p) (exchange_of sure p) (told (below_of session)).taken (told x).taken) (sym b) (grew_quiet (exchange_of sure p) (exchange_of sure p) (told (below_of session)).taken refl);
    start = refl;
    stopped = λ halt item rest a e c. absurd (no_stop p.stop halt a e);
    vetoed = λ item entry e i. absurd (longer (exchange_of sure p).came (item, entry) e);
    later = let l : (told (below_of new)).refusals ≡ (told (below_of session)).refusals = ap (λ x. (told x).refusals) b in omega (arith, l);
    counted = let l : (told (below_of new)).reviews.vetoes ≡ (told (below_of session)).reviews.vetoes = ap (λ x. (told x).reviews.vetoes) b in omega (arith, l);
    fixed = ap (λ x. (told x).fixed) b;
    answered = λ item entry e. absurd (longer (exchange_of sure p).came (item, entry) e);
    halted = λ halt a e. absurd (no_stop p.stop halt a e);
    quiet = λ e. (b, refl);
    keeps = s.keeps;
    agree = agreement (exchange_of sure p) s.keeps;
  };
  sound = s;
  serves = record {
    runs = λ e. o ∙ v.runs e;
    stands = stands;
    code = λ halt e. o ∙ v.code halt e;
  };
}

-- ---- an item that is answered

pub answered_says : {S G : Type 0} (told : S → Told) (sure : Bool) (reviews : S → S → List Frame → Result Verdict NoMemory → Type 0) (checks : S → S → Disposition → Result Unit SessionInnerError → Type 0) (next : G → ℕ → TransactionId) (starts : G → Option (ℕ → TransactionId)) (session new : TxnSession S) (ids later : G) (p : Parties) (item : Item) (rest : List Item) (tag : Tag) (drawn : DrawnIds) (reply : Reply) → Sound sure p → Serves session p → p.cut ≡ false → p.stop ≡ None → p.waiting ≡ item ∷ rest → item_of tag (step_of item) ≡ item → IsShort reply → StepSays told sure reviews checks next starts session new ids later (step_of item) (Ok (drawn, reply)) → Serving told next starts sure session new ids later p (recorded p item rest tag drawn reply) events.Arrive (Ok happenings.Arrived)
answered_says told sure reviews checks next starts session new ids later p item rest tag drawn reply s v c n e is short said =
    let w = exchange_of sure p in
    let q = recorded p item rest tag drawn reply in
    let by = said.by_record (v.runs n) p.entries (v.stands n) in
    let a = answering sure p item rest tag drawn reply s c n e is short by.answer in
    let r = sym (record_is sure p s.counted) in
    let took = subst (λ (x : List Entry). (told (below_of new)).taken ≡ grown (told (below_of session)).taken (zip (handed_by x (step_of item) reply) (given_by (step_of item) reply))) r by.taken in
    let allowed = subst (λ (x : List Entry). Answer x (step_of item) drawn.ids reply) r by.answer in
    let did : DidBelow (told (below_of session)) (told (below_of new)) (record_of w) (entry_by (step_of item) drawn reply) = record {
      took = took;
      opened = by.opened;
      refused = by.refused;
      vetoed = subst (λ (x : List Entry). (told (below_of new)).reviews.vetoed ≡ grown (told (below_of session)).reviews.vetoed (vetoed_by x (step_of item) reply)) r by.vetoed;
    } in
    record {
      says = record {
        turn = (drawn.ids, a.turn, said.drew);
        err = tt;
        grew = subst (λ (x : Exchange). Grew w x (told (below_of session)).taken (told (below_of new)).taken) (sym a.is) (grew_answered w item rest drawn reply (told (below_of session)).taken (told (below_of new)).taken s.keeps e n allowed took);
        start = said.start;
        stopped = λ halt i more f g h. absurd (no_stop p.stop halt n g);
        vetoed = λ i entry f g.
            let same : w.came ++ (item, entry_by (step_of item) drawn reply) ∷ [] ≡ w.came ++ (i, entry) ∷ [] = sym (ap (λ (x : Exchange). x.came) a.is) ∙ f in
            let pair = (same_from_push w.came w.came (item, entry_by (step_of item) drawn reply) (i, entry) same).1 in
            let one : entry_by (step_of item) drawn reply ≡ entry = ap (λ (x : Item × Entry). x.1) pair in
            veto_rose reply _ said.veto_rose (ap (λ (x : Entry). is_veto x.reply) one ∙ g);
        later = said.later;
        counted = said.counted;
        fixed = said.fixed;
        answered = λ i entry f.
            let same : w.came ++ (item, entry_by (step_of item) drawn reply) ∷ [] ≡ w.came ++ (i, entry) ∷ [] = sym (ap (λ (x : Exchange). x.came) a.is) ∙ f in
            let pair = (same_from_push w.came w.came (item, entry_by (step_of item) drawn reply) (i, entry) same).1 in
            let one : entry_by (step_of item) drawn reply ≡ entry = ap (λ (x : Item × Entry). x.1) pair in
            subst (λ (x : Entry). DidBelow (told (below_of session)) (told (below_of new)) (record_of w) x) one did;
        halted = λ halt f g. absurd (no_stop p.stop halt n g);
        quiet = λ f. absurd (f refl);
        keeps = a.sound.keeps;
        agree = agreement (exchange_of sure q) a.sound.keeps;
      };
      sound = a.sound;
      serves = record {
        runs = λ f. said.stops (v.runs n);
        stands = λ f. by.stands;
        code = λ halt f. absurd (no_stop p.stop halt n f);
      };
    }

-- ---- an item that stops the session

-- what is so of a stop, of either cause
record Stopping {S : Type 0} (told : S → Told) (sure : Bool) (session new : TxnSession S) (r : List Entry) (s : Step) (w : Exchange) (item : Item) (halt : Halt) : Type 0 where
  cause : MayStop sure r s halt
  within : halt.handed ≤ length (hands r s)
  took : TookFrames (told (below_of session)).taken (told (below_of new)).taken (take halt.handed (hands r s))
  why : StopCause (told (below_of session)) (told (below_of new)) w item halt

when : (A B : Type 0) (b c : Bool) → b ≡ c → MatchBool b A B → MatchBool c A B
when A B b c e m = subst (λ (x : Bool). MatchBool x A B) e m

stopping : {S G : Type 0} (told : S → Told) (sure : Bool) (reviews : S → S → List Frame → Result Verdict NoMemory → Type 0) (checks : S → S → Disposition → Result Unit SessionInnerError → Type 0) (next : G → ℕ → TransactionId) (starts : G → Option (ℕ → TransactionId)) (session new : TxnSession S) (ids later : G) (p : Parties) (item : Item) (error : SessionInnerError) (handed : ℕ) → Sound sure p → StepRecords (told_of told session) (told_of told new) (next ids) (held_of new) p.entries (step_of item) (Err (errors.Fault error handed)) → StepSays told sure reviews checks next starts session new ids later (step_of item) (Err (errors.Fault error handed)) → (b : Bool) → is_unknown error ≡ b → Stopping told sure session new p.entries (step_of item) (exchange_of sure p) item (record { code = fault_code error; handed = handed })
stopping told sure reviews checks next starts session new ids later p item error handed s by said true u =
    let dead = when _ _ (is_unknown error) true u by.unknown_only in
    let same : below_of new ≡ below_of session = when _ _ (is_unknown error) true u said.untouched in
    record {
      cause = may_stop_dead sure p.entries (step_of item) error handed u dead.0;
      within = let z = dead.1 in omega (arith, z);
      took = subst (λ (h : ℕ). TookFrames (told (below_of session)).taken (told (below_of new)).taken (take h (hands p.entries (step_of item)))) (sym dead.1)
          (subst (λ x. TookFrames (told (below_of session)).taken (told x).taken []) (sym same) (took_none (told (below_of session)).taken));
      why = Unknown (unknown_code error u);
    }
stopping told sure reviews checks next starts session new ids later p item error handed s by said false u =
    let took = when _ _ (is_unknown error) false u by.handed in
    record {
      cause = may_stop_refused sure p.entries (step_of item) error handed u (when _ _ (is_unknown error) false u by.refusal) (when _ _ (is_unknown error) false u said.surely);
      within = took.0;
      took = took.1;
      why = Refused error refl (when _ _ (is_unknown error) false u said.refusal_rose)
          (subst (λ (x : List Entry). RefusedAdds (told_of told session) (told_of told new) (step_of item) (hands x (step_of item)) error handed) (sym (record_is sure p s.counted)) (when _ _ (is_unknown error) false u by.refused_last));
    }

pub stopped_says : {S G : Type 0} (told : S → Told) (sure : Bool) (reviews : S → S → List Frame → Result Verdict NoMemory → Type 0) (checks : S → S → Disposition → Result Unit SessionInnerError → Type 0) (next : G → ℕ → TransactionId) (starts : G → Option (ℕ → TransactionId)) (session new : TxnSession S) (ids later : G) (p : Parties) (item : Item) (rest : List Item) (error : SessionInnerError) (handed : ℕ) → Sound sure p → Serves session p → p.cut ≡ false → p.stop ≡ None → p.waiting ≡ item ∷ rest → StepSays told sure reviews checks next starts session new ids later (step_of item) (Err (errors.Fault error handed)) → Serving told next starts sure session new ids later p (halted p (record { code = fault_code error; handed = handed })) events.Arrive (Ok happenings.Arrived)
stopped_says told sure reviews checks next starts session new ids later p item rest error handed s v c n e said =
    let w = exchange_of sure p in
    let halt : Halt = record { code = fault_code error; handed = handed } in
    let q = halted p halt in
    let by = said.by_record (v.runs n) p.entries (v.stands n) in
    let x = stopping told sure reviews checks next starts session new ids later p item error handed s by said (is_unknown error) refl in
    let a = halting sure p item rest halt s c n e x.cause x.within in
    let r = sym (record_is sure p s.counted) in
    let took = subst (λ (y : List Entry). TookFrames (told (below_of session)).taken (told (below_of new)).taken (take handed (hands y (step_of item)))) r x.took in
    record {
      says = record {
        turn = ([], a.turn, Drew-none (next ids) (next later) (λ k. ap (λ i. next i k) said.source));
        err = tt;
        grew = grew_stopped w item rest halt (told (below_of session)).taken (told (below_of new)).taken s.keeps e n took;
        start = said.start;
        stopped = λ h i more f g k.
            let same : halt ≡ h = cc g in
            let first : item ≡ i = let m = sym e ∙ k in cc m in
            subst (λ (y : Halt). StopCause (told (below_of session)) (told (below_of new)) w i y) same (subst (λ (y : Item). StopCause (told (below_of session)) (told (below_of new)) w y halt) first x.why);
        vetoed = λ i entry f g. absurd (longer w.came (i, entry) f);
        later = said.later;
        counted = said.counted;
        fixed = said.fixed;
        answered = λ i entry f. absurd (longer w.came (i, entry) f);
        halted = λ h f g. record { opened = by.opened_none; vetoed = by.vetoed_none };
        quiet = λ f. absurd (f refl);
        keeps = a.sound.keeps;
        agree = agreement (exchange_of sure q) a.sound.keeps;
      };
      sound = a.sound;
      serves = record {
        runs = λ f. cc f;
        stands = λ f. cc f;
        code = λ h f. let same : halt ≡ h = cc f in said.stops (v.runs n) ∙ ap (λ (y : Halt). Some y.code) same;
      };
    }
