-- While no attach is refused, a run of made steps goes on to its end.
use Rattle.std.proofs.Common.{◌≡◌, ℕ, zero, suc, ◌+◌, ◌<◌, ◌≤◌, ◌^◌, ◌%◌, Bool, true, false, Option, Some, None, List, [], ◌∷◌, ◌++◌, cond, not, ◌&&◌, refl, sym, ◌∙◌, ap, subst, arith, append_assoc, append-nil}
use Rattle.std.proofs.Math.Nat.{mod-eq_of_lt}
use Rattle.std.specs.Prelude.{sum_by}
use Rattle.std.proofs.lemmas.List.Sums.{sum_by-cons}
use Rattle.amqp_txn_types.specs.declared.id.TransactionId.{TransactionId}
use Rattle.amqp_txn_types.specs.declared.performatives.Frame.{Frame}
use Rattle.amqp_txn_types.specs.Frames.{is_coordinator_attach, txn}
use Rattle.amqp_txn_codec.specs.declared.message.ControlMessageBody.TheVariants as messages
use Rattle.amqp_txn_codec.specs.Canon.{canon}
use Rattle.amqp_below_ids.specs.Ids.{AreNext}
use Rattle.amqp_resource_record.specs.declared.step.Step.{Step}
use Rattle.amqp_resource_record.specs.declared.step.Step.TheVariants as steps
use Rattle.amqp_resource_record.specs.declared.reply.Reply.{Reply}
use Rattle.amqp_resource_record.specs.declared.reply.Reply.TheVariants as replies
use Rattle.amqp_resource_record.specs.declared.entry.Entry.{Entry}
use Rattle.amqp_resource_record.specs.Entries.{declares, discharges, drawn_of, reply_declares, steps_of}
use Rattle.amqp_resource_record.specs.Links.{is_open}
use Rattle.amqp_resource_record.specs.Live.{is_live, since, undischarged}
use Rattle.amqp_resource_record.specs.Answers.{Answer, AnswerDeclare, AnswerDischarge, AnswerFrame}
use Rattle.amqp_resource_record.specs.Legal.{IsLegal, LegalAfter}
use Rattle.amqp_resource_record.specs.Opened.{attach_refused_count, is_attach_refused}
use Rattle.amqp_resource_record.proofs.Living.{ended_dead}
use Rattle.amqp_resource_record.proofs.Looking.{undischarged-other}
use Rattle.amqp_resource_record.proofs.Whole.{IsLegal-nil, is_open-attached}
use Rattle.amqp_resource_session.specs.Steps.{IsDead, UnderDead, ended_by}
use Rattle.amqp_resource_held.specs.Views.{view_of_record}
use Rattle.amqp_resource_held.proofs.Views.{live-record}
use Rattle.amqp_below_ids.specs.Counted.{id_of_number, ids_from}
use Rattle.txn_program_runs.specs.Made.{made, made_attach, made_declare, made_discharge, made_fail, made_from, made_post}
use Rattle.txn_program_runs.proofs.Midway.{Midway, canon-read, declare-reply, discharge-reply, held_live, midway-declare, midway-discharge, midway-post, on_link, short_number}

-- ---- steps that go on

-- steps of made transactions, where the ids of the numbers from `low` on and below `high` are live
pub data GoOn : ℕ → ℕ → List Step → Type 0 where
  none_left : (low high : ℕ) → GoOn low high []
  one_declared : (low high next : ℕ) (others : List Step) → next ≡ high + 1 → high < 2 ^ 64
      → GoOn low next others → GoOn low high (made_declare ∷ others)
  one_posted : (low high number delivery : ℕ) (others : List Step) → low ≤ number → number < high → number < 2 ^ 64
      → GoOn low high others → GoOn low high (made_post number delivery ∷ others)
  lowest_discharged : (low high next : ℕ) (others : List Step) → next ≡ low + 1 → low < high → low < 2 ^ 64
      → GoOn next high others → GoOn low high (made_discharge low ∷ others)

-- the steps of made transactions are such steps
pub made_from-goes : (count number delivery : ℕ) → count + number < 2 ^ 64 → GoOn number number (made_from count number delivery)
made_from-goes zero number delivery few = none_left number number
made_from-goes (suc zero) number delivery few =
    let a : ℕ = number + 1 in
    one_declared number number a _ refl (omega (arith, few))
    (one_posted number a number delivery _ (omega arith) (omega arith) (omega (arith, few))
    (one_posted number a number (delivery + 1) _ (omega arith) (omega arith) (omega (arith, few))
    (one_posted number a number (delivery + 2) _ (omega arith) (omega arith) (omega (arith, few))
    (lowest_discharged number a a _ refl (omega arith) (omega (arith, few)) (none_left a a)))))
made_from-goes (suc (suc count)) number delivery few =
    let a : ℕ = number + 1 in
    let b : ℕ = number + 2 in
    one_declared number number a _ refl (omega (arith, few))
    (one_declared number a b _ (omega arith) (omega (arith, few))
    (one_posted number b number delivery _ (omega arith) (omega arith) (omega (arith, few))
    (one_posted number b a (delivery + 1) _ (omega arith) (omega arith) (omega (arith, few))
    (one_posted number b number (delivery + 2) _ (omega arith) (omega arith) (omega (arith, few))
    (one_posted number b a (delivery + 2 + 1) _ (omega arith) (omega arith) (omega (arith, few))
    (one_posted number b number (delivery + 4) _ (omega arith) (omega arith) (omega (arith, few))
    (one_posted number b a (delivery + 4 + 1) _ (omega arith) (omega arith) (omega (arith, few))
    (lowest_discharged number b a _ refl (omega arith) (omega (arith, few))
    (lowest_discharged a b b _ (omega arith) (omega arith) (omega (arith, few))
    (made_from-goes count b (delivery + 6) (omega (arith, few))))))))))))

-- ---- draws

AreNext-front : (f : ℕ → TransactionId) (n : ℕ) (xs ys : List TransactionId) → AreNext f n (xs ++ ys) → AreNext f n xs
AreNext-front f n [] ys next = tt
AreNext-front f n (x ∷ xs) ys next = (next.0, AreNext-front f (n + 1) xs ys next.1)

next-none : (f : ℕ → TransactionId) (n : ℕ) (xs ys : List TransactionId) → xs ≡ [] → AreNext f n (xs ++ ys) → AreNext f n ys
next-none f n xs ys none next = subst (λ (l : List TransactionId). AreNext f n (l ++ ys)) none next

next-one : (f : ℕ → TransactionId) (n : ℕ) (xs ys : List TransactionId) (x : TransactionId) → xs ≡ x ∷ [] → AreNext f n (xs ++ ys) → AreNext f (n + 1) ys
next-one f n xs ys x one next =
    let drawn : AreNext f n (x ∷ ys) = subst (λ (l : List TransactionId). AreNext f n (l ++ ys)) one next in drawn.1

-- the id of that place is that of the next number
id_at : (n high : ℕ) → high ≡ n + 1 → high < 2 ^ 64 → ids_from 1 n ≡ id_of_number high
id_at n high is few =
    let same : 1 + n ≡ high = omega (arith, is) in
    ap id_of_number (ap (λ (k : ℕ). k % 2 ^ 64) same ∙ mod-eq_of_lt few)

-- ---- the next step

-- a step that stops nothing
abbrev pub GoesOn : List Entry → Step → Type 0
GoesOn r s = (UnderDead (view_of_record r) s → ⊥) × (ended_by s ≡ None)

control-goes : (r : List Entry) (s : Step) (link : ℕ) (payload : List ℕ) → s ≡ steps.Control link payload → GoesOn r s
control-goes r s link payload is = subst (GoesOn r) (sym is) (λ dead. dead, refl)

frame-goes : (r : List Entry) (s : Step) (frame : Frame) (t : TransactionId) → s ≡ steps.Frame frame → txn frame ≡ Some t → is_live r t ≡ true → GoesOn r s
frame-goes r s frame t is under live =
    let goes : UnderDead (view_of_record r) (steps.Frame frame) → ⊥ = λ dead. not_dead (txn frame) under dead in
    subst (GoesOn r) (sym is) (goes, refl)
  where
    not_dead : (o : Option TransactionId) → o ≡ Some t → IsDead (view_of_record r) o → ⊥
    not_dead None e dead = absurd dead
    not_dead (Some u) e dead = let alive : is_live r u ≡ true = ap (is_live r) (cc e) ∙ live in cc (alive, dead, live-record r u)

no_step : (xs ys : List Step) (s : Step) → [] ≡ xs ++ s ∷ ys → ⊥
no_step [] ys s e = cc e
no_step (x ∷ xs) ys s e = cc e

heads : (x y : Step) (xs ys : List Step) → x ∷ xs ≡ y ∷ ys → (y ≡ x) × (xs ≡ ys)
heads x y xs ys e = (cc e, cc e)

declare-goes : (r : List Entry) (s : Step) → s ≡ made_declare → GoesOn r s
unfolding made_declare
declare-goes r s is = control-goes r s 0 _ is

discharge-goes : (r : List Entry) (s : Step) (number : ℕ) → s ≡ made_discharge number → GoesOn r s
unfolding made_discharge
discharge-goes r s number is = control-goes r s 0 _ is

post-goes : (r : List Entry) (s : Step) (number delivery : ℕ) → s ≡ made_post number delivery → is_live r (id_of_number number) ≡ true → GoesOn r s
unfolding made_post txn
post-goes r s number delivery is live = frame-goes r s _ (id_of_number number) is refl live

attach-goes : (r : List Entry) (s : Step) → s ≡ made_attach → GoesOn r s
unfolding made_attach txn
attach-goes r s is = subst (GoesOn r) (sym is) (λ dead. dead, refl)

-- ---- the entry of a made step

-- a declare is answered with the next number's id
declared-entry : (r : List Entry) (e : Entry) (low high next n : ℕ) → e.step ≡ made_declare → Answer r e.step e.drawn.ids e.reply
    → AreNext (ids_from 1) n e.drawn.ids → high ≡ n + 1 → next ≡ high + 1 → high < 2 ^ 64
    → Midway r low high → Midway (r ++ e ∷ []) low next × (e.drawn.ids ≡ ids_from 1 n ∷ [])
unfolding made_declare
declared-entry r e low high next n es answer drawn at more few mid =
    let m = messages.Declare (record { global_id = None }) in
    let given : Answer r (steps.Control 0 (canon m)) e.drawn.ids e.reply = subst (λ (s : Step). Answer r s e.drawn.ids e.reply) es answer in
    let said : AnswerDeclare r None e.drawn.ids e.reply = on_link r (canon m) m e.drawn.ids e.reply mid.link (canon-read m tt) given in
    let id : ids_from 1 n ≡ id_of_number high = id_at n high at few in
    let dead : is_live r (ids_from 1 n) ≡ false = ap (is_live r) id ∙ mid.later high (omega arith) few in
    let replied = declare-reply r (ids_from 1) n e.drawn.ids e.reply dead drawn said in
    (midway-declare r e low high next (canon m) es (replied.0 ∙ ap (λ (u : TransactionId). replies.Declared u) id) more few mid, replied.1)

-- a post of a live number's transaction leaves what is live
posted-entry : (r : List Entry) (e : Entry) (low high number delivery : ℕ) → e.step ≡ made_post number delivery
    → Answer r e.step e.drawn.ids e.reply → Midway r low high → Midway (r ++ e ∷ []) low high × (e.drawn.ids ≡ [])
unfolding made_post txn
posted-entry r e low high number delivery es answer mid =
    let given = subst (λ (s : Step). Answer r s e.drawn.ids e.reply) es answer in
    (midway-post r e low high _ (id_of_number number) es given.1 mid, given.0)

-- the discharge of the lowest number's id ends it
discharged-entry : (r : List Entry) (e : Entry) (low high next : ℕ) → e.step ≡ made_discharge low
    → Answer r e.step e.drawn.ids e.reply → next ≡ low + 1 → low < high → low < 2 ^ 64
    → Midway r low high → Midway (r ++ e ∷ []) next high × (e.drawn.ids ≡ [])
unfolding made_discharge
discharged-entry r e low high next es answer more below few mid =
    let m = messages.Discharge (record { txn_id = id_of_number low; fail = made_fail low }) in
    let read = canon-read m (short_number low) in
    let given : Answer r (steps.Control 0 (canon m)) e.drawn.ids e.reply = subst (λ (s : Step). Answer r s e.drawn.ids e.reply) es answer in
    let said : AnswerDischarge r 0 (id_of_number low) (made_fail low) e.drawn.ids e.reply = on_link r (canon m) m e.drawn.ids e.reply mid.link read given in
    let replied = discharge-reply r (id_of_number low) (made_fail low) e.drawn.ids e.reply (mid.held low (omega arith) below few) said in
    (midway-discharge r e low high next (canon m) (made_fail low) es replied.0 read more below few mid, replied.1)

-- ---- the run

after_all : (before : List Entry) (s : Step) → GoesOn before s → GoesOn (before ++ []) s
after_all before s goes = let P : List Entry → Type 0 = λ b. GoesOn b s in subst P (sym (append-nil before)) goes

after_one : (before r : List Entry) (e : Entry) (s : Step) → GoesOn ((before ++ e ∷ []) ++ r) s → GoesOn (before ++ e ∷ r) s
after_one before r e s goes = let P : List Entry → Type 0 = λ b. GoesOn b s in subst P (append_assoc before (e ∷ []) r) goes

-- after a record of the first of such steps, the next one stops nothing
goes_on : (all : List Step) (low high : ℕ) → GoOn low high all → (before r : List Entry) (n : ℕ) → Midway before low high → high ≡ n + 1
    → LegalAfter before r → AreNext (ids_from 1) n (drawn_of r) → (s : Step) (rest : List Step) → all ≡ steps_of r ++ s ∷ rest → GoesOn (before ++ r) s
goes_on _ _ _ (none_left low high) before r n mid at legal drawn s rest is = absurd (no_step (steps_of r) rest s is)
goes_on _ _ _ (one_declared low high next others more few goes) before [] n mid at legal drawn s rest is =
    after_all before s (declare-goes before s (heads made_declare s others rest is).0)
goes_on _ _ _ (one_declared low high next others more few goes) before (e ∷ r) n mid at legal drawn s rest is =
    let h = heads made_declare e.step others (steps_of r ++ s ∷ rest) is in
    let done = declared-entry before e low high next n h.0 legal.0 (AreNext-front (ids_from 1) n e.drawn.ids (drawn_of r) drawn) at more few mid in
    let later : AreNext (ids_from 1) (n + 1) (drawn_of r) = next-one (ids_from 1) n e.drawn.ids (drawn_of r) (ids_from 1 n) done.1 drawn in
    after_one before r e s (goes_on others low next goes (before ++ e ∷ []) r (n + 1) done.0 (omega (arith, at, more)) legal.1 later s rest h.1)
goes_on _ _ _ (one_posted low high number delivery others from below few goes) before [] n mid at legal drawn s rest is =
    after_all before s (post-goes before s number delivery (heads (made_post number delivery) s others rest is).0 (held_live before (id_of_number number) (mid.held number from below few)))
goes_on _ _ _ (one_posted low high number delivery others from below few goes) before (e ∷ r) n mid at legal drawn s rest is =
    let h = heads (made_post number delivery) e.step others (steps_of r ++ s ∷ rest) is in
    let done = posted-entry before e low high number delivery h.0 legal.0 mid in
    let later : AreNext (ids_from 1) n (drawn_of r) = next-none (ids_from 1) n e.drawn.ids (drawn_of r) done.1 drawn in
    after_one before r e s (goes_on others low high goes (before ++ e ∷ []) r n done.0 at legal.1 later s rest h.1)
goes_on _ _ _ (lowest_discharged low high next others more below few goes) before [] n mid at legal drawn s rest is =
    after_all before s (discharge-goes before s low (heads (made_discharge low) s others rest is).0)
goes_on _ _ _ (lowest_discharged low high next others more below few goes) before (e ∷ r) n mid at legal drawn s rest is =
    let h = heads (made_discharge low) e.step others (steps_of r ++ s ∷ rest) is in
    let done = discharged-entry before e low high next h.0 legal.0 more below few mid in
    let later : AreNext (ids_from 1) n (drawn_of r) = next-none (ids_from 1) n e.drawn.ids (drawn_of r) done.1 drawn in
    after_one before r e s (goes_on others next high goes (before ++ e ∷ []) r n done.0 at legal.1 later s rest h.1)

-- ---- the attach

-- an attach to a coordinator that isn't refused opens the first link
attach-reply : (frame : Frame) (reply : Reply) → AnswerFrame [] frame None reply → is_coordinator_attach frame ≡ true → is_attach_refused reply ≡ false
    → (given : List Frame) × (reply ≡ replies.Attached 0 given)
attach-reply frame (replies.Frames a) x here kept = let plain = x.0 in cc (here, plain)
attach-reply frame (replies.Attached link given) x here kept = (given, ap (λ (k : ℕ). replies.Attached k given) x.1)
attach-reply frame (replies.AttachRefused error) x here kept = cc kept
attach-reply frame _ x here kept = absurd x

none_refused : (e : Entry) (r : List Entry) → attach_refused_count (e ∷ r) ≡ 0 → is_attach_refused e.reply ≡ false
none_refused e r none = by_case (is_attach_refused e.reply) refl
  where
    by_case : (b : Bool) → is_attach_refused e.reply ≡ b → is_attach_refused e.reply ≡ false
    by_case true is =
        let unit : Bool → ℕ = λ b. cond b 1 0 in
        let each : Entry → ℕ = λ x. unit (is_attach_refused x.reply) in
        let count : each e + sum_by each r ≡ 0 = sym (sum_by-cons each e r) ∙ none in
        let one : each e ≡ 1 = ap unit is in absurd (omega (arith, count, one))
    by_case false is = is

none_undischarged : (t : TransactionId) → undischarged [] t ≡ false
unfolding undischarged since
none_undischarged t = refl

-- after the attach the link is open and no id is live
attached-frame : (e : Entry) (frame : Frame) → e.step ≡ steps.Frame frame → txn frame ≡ None → is_coordinator_attach frame ≡ true
    → Answer [] e.step e.drawn.ids e.reply → is_attach_refused e.reply ≡ false → Midway (e ∷ []) 1 1 × (e.drawn.ids ≡ [])
attached-frame e frame es under here answer kept =
    let given : Answer [] (steps.Frame frame) e.drawn.ids e.reply = subst (λ (s : Step). Answer [] s e.drawn.ids e.reply) es answer in
    let said : AnswerFrame [] frame None e.reply = subst (λ (o : Option TransactionId). AnswerFrame [] frame o e.reply) under given.1 in
    let replied = attach-reply frame e.reply said here kept in
    let undeclared : (t : TransactionId) → declares t e ≡ false = λ t. ap (reply_declares t) replied.1 in
    let dead : (t : TransactionId) → is_live ([] ++ e ∷ []) t ≡ false =
    λ t. ended_dead ([] ++ e ∷ []) t (undischarged-other [] e t (undeclared t) ∙ ap (λ b. b && not (discharges t e)) (none_undischarged t)) in
    let link : is_open ([] ++ e ∷ []) 0 ≡ true = is_open-attached [] e 0 replied.0 IsLegal-nil replied.1 refl in (
      record {
        link = link;
        held = λ m from below few. absurd (omega (arith, from, below));
        later = λ m from few. dead (id_of_number m);
      },
      given.0,
    )

attached-entry : (e : Entry) → e.step ≡ made_attach → Answer [] e.step e.drawn.ids e.reply → is_attach_refused e.reply ≡ false → Midway (e ∷ []) 1 1 × (e.drawn.ids ≡ [])
unfolding made_attach txn is_coordinator_attach
attached-entry e es answer kept = attached-frame e _ es refl refl answer kept

-- while no attach is refused, a made step stops nothing
pub made_goes_on : (count : ℕ) → count ≤ 20000 → (r : List Entry) → IsLegal r → AreNext (ids_from 1) 0 (drawn_of r) → attach_refused_count r ≡ 0
    → (s : Step) (rest : List Step) → made count ≡ steps_of r ++ s ∷ rest → GoesOn r s
unfolding IsLegal
made_goes_on count few [] legal drawn none s rest is = attach-goes [] s (heads made_attach s (made_from count 1 0) rest is).0
made_goes_on count few (e ∷ r) legal drawn none s rest is =
    let h = heads made_attach e.step (made_from count 1 0) (steps_of r ++ s ∷ rest) is in
    let done = attached-entry e h.0 legal.0 (none_refused e r none) in
    let later : AreNext (ids_from 1) 0 (drawn_of r) = next-none (ids_from 1) 0 e.drawn.ids (drawn_of r) done.1 drawn in
    goes_on (made_from count 1 0) 1 1 (made_from-goes count 1 0 (omega (arith, few))) (e ∷ []) r 0 done.0 refl legal.1 later s rest h.1
