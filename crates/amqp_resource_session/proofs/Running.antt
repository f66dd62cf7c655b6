-- Lemmas of a run, step by step, and of its end.
use Rattle.std.proofs.Common.{◌≡◌, ℕ, ◌+◌, ◌-◌, ◌^◌, ◌≤◌, min, Bool, true, false, not, cond, Option, Some, Err, List, [], ◌∷◌, ◌++◌, length, take, refl, sym, ◌∙◌, ap, arith, subst, append-nil, append_assoc, zero-add, inl, inr}
use Rattle.std.specs.Prelude.{◌⊎◌, ◌↔◌, ⊤, MatchBool}
use Rattle.std.specs.List.{zip, flat_map}
use Rattle.std.proofs.lemmas.List.{map-append, length-append, length-map}
use Rattle.std.proofs.lemmas.List.Concat.{flat_map-append}
use Rattle.std.proofs.lemmas.List.Sums.{sum_by-append}
use Rattle.amqp_below_ids.specs.Drawn.{DrawnIds}
use Rattle.amqp_below_ids.specs.Ids.{Drew}
use Rattle.amqp_resource_record.specs.declared.entry.Entry.{Entry}
use Rattle.amqp_txn_types.specs.declared.performatives.Frame.{Frame}
use Rattle.amqp_resource_held.specs.declared.held.Held.{Held}
use Rattle.amqp_resource_record.specs.declared.reply.Reply.{Reply}
use Rattle.amqp_txn_types.specs.Counts.{Rose}
use Rattle.amqp_txn_types.specs.declared.delivery.SessionStopReason.{SessionStopReason}
use Rattle.amqp_resource_record.specs.declared.step.Step.{Step}
use Rattle.amqp_resource_record.specs.declared.stop.StepError.{StepError}
use Rattle.amqp_resource_record.specs.declared.stop.Stop.{Stop}
use Rattle.amqp_resource_record.specs.declared.stop.StopCode.{StopCode}
use Rattle.amqp_below_layer.specs.Told.{Told}
use Rattle.amqp_below_layer.specs.OneFrame.{TookFrames}
use Rattle.amqp_txn_types.specs.declared.id.TransactionId.{TransactionId}
use Rattle.amqp_resource_session.specs.declared.session.TxnSession.{TxnSession}
use Rattle.amqp_resource_record.specs.Opened.{attach_refused_count, opened_by, refused_by, refuses, is_attach_refused}
use Rattle.amqp_resource_record.specs.Entries.{drawn_of, is_veto, steps_of}
use Rattle.amqp_resource_record.specs.Work.{given_by, handed_by, pairs, work, given_back}
use Rattle.amqp_txn_types.specs.Growing.{grown}
use Rattle.amqp_resource_record.specs.Hands.{hands}
use Rattle.amqp_resource_record.specs.Vetoed.{veto_count, vetoed_by, vetoes}
use Rattle.amqp_txn_types.specs.declared.small.TransactionError.TheVariants as transaction_errors
use Rattle.amqp_below_layer.specs.declared.inner_error.SessionInnerError.TheVariants as faults
use Rattle.amqp_below_ids.proofs.Draws.{Drew-append, Drew-none}
use Rattle.amqp_resource_record.specs.declared.reply.Reply.TheVariants as replies
use Rattle.amqp_resource_record.specs.declared.stop.Stop.TheVariants as stops
use Rattle.amqp_resource_record.specs.declared.stop.StepError.TheVariants as errors
use Rattle.amqp_resource_record.proofs.Whole.{joined_after-snoc, pairs-snoc}
use Rattle.amqp_resource_held.specs.Held.{Stands}
use Rattle.amqp_resource_session.specs.Steps.{IfAttachRefused, IfVeto, IsControlAttach, MayFault, RefusedAdds, StopsSurely, TookFirst, UnderDead, ended_by, entry_of, is_unknown}
use Rattle.amqp_resource_held.specs.Views.{view_of_record}
use Rattle.amqp_resource_session.specs.Session.{held_of, stop_of}
use Rattle.amqp_resource_session.specs.Drive.{Left, NextStep, RunLeaves, RunRefused, RunRose, RunStopsSurely, RunTook, StopCause, StopsBy, StopsWith}
use Rattle.amqp_resource_session.specs.Ran.{Broke, Ran, Stepped, failed, handed_of, stop_by}
use Rattle.amqp_txn_types.proofs.Growing.{grown-grown, grown-nil}

pairs-nil : pairs [] ≡ []
unfolding pairs work given_back
pairs-nil = refl

vetoes-nil : vetoes [] ≡ []
unfolding vetoes
vetoes-nil = refl

vetoes-snoc : (r : List Entry) (e : Entry) → vetoes (r ++ e ∷ []) ≡ vetoes r ++ vetoed_by r e.step e.reply
unfolding vetoes
vetoes-snoc r e = joined_after-snoc (λ before x. vetoed_by before x.step x.reply) [] r e

pub ran-nil : (old : Told) (f : ℕ → TransactionId) (h : Held) → Stands h [] → Ran old old f f h []
ran-nil old f h s = record {
  stands = s;
  taken = sym (ap (grown old.taken) pairs-nil ∙ grown-nil old.taken);
  opened = sym (grown-nil old.opened);
  refused = sym (grown-nil old.refused);
  vetoed = sym (ap (grown old.reviews.vetoed) vetoes-nil ∙ grown-nil old.reviews.vetoed);
  rose = omega arith;
  vetoes_rose = omega arith;
  later = omega arith;
  counted = omega arith;
  fixed = refl;
  drew = Drew-none f f (λ n. refl);
}

refused_count-snoc : (r : List Entry) (e : Entry) → attach_refused_count (r ++ e ∷ []) ≡ attach_refused_count r + cond (is_attach_refused e.reply) 1 0
refused_count-snoc r e = sum_by-append (λ (x : Entry). cond (is_attach_refused x.reply) 1 0) r (e ∷ []) ∙ ap (λ n. attach_refused_count r + n) (zero-add (cond (is_attach_refused e.reply) 1 0))

rose-more : (before mid now count : ℕ) (s : Step) (reply : Reply) → min (before + count) (2 ^ 64 - 1) ≤ mid → mid ≤ now → IfAttachRefused reply (Rose mid now × IsControlAttach s) → min (before + (count + cond (is_attach_refused reply) 1 0)) (2 ^ 64 - 1) ≤ now
rose-more before mid now count s (replies.AttachRefused error) a l c = let rose = c.0 in omega (arith, rose)
rose-more before mid now count s _ a l c = omega arith

veto_count-snoc : (r : List Entry) (e : Entry) → veto_count (r ++ e ∷ []) ≡ veto_count r + cond (is_veto e.reply) 1 0
veto_count-snoc r e = sum_by-append (λ (x : Entry). cond (is_veto x.reply) 1 0) r (e ∷ []) ∙ ap (λ n. veto_count r + n) (zero-add (cond (is_veto e.reply) 1 0))

vetoed-more : (before mid now count : ℕ) (reply : Reply) → min (before + count) (2 ^ 64 - 1) ≤ mid → mid ≤ now → IfVeto reply (Rose mid now) → min (before + (count + cond (is_veto reply) 1 0)) (2 ^ 64 - 1) ≤ now
vetoed-more before mid now count (replies.Rejected transaction_errors.Rollback text) a l c = omega (arith, c)
vetoed-more before mid now count _ a l c = omega arith

joined-more : {A : Type 0} (old mid new : Option (List A)) (f : Entry → List A) (r : List Entry) (e : Entry) → mid ≡ grown old (flat_map f r) → new ≡ grown mid (f e) → new ≡ grown old (flat_map f (r ++ e ∷ []))
joined-more old mid new f r e a b =
    b ∙ ap (λ o. grown o (f e)) a ∙ grown-grown old (flat_map f r) (f e)
    ∙ ap (grown old) (sym (flat_map-append f r (e ∷ []) ∙ ap (λ l. flat_map f r ++ l) (append-nil (f e))))

pub ran-more : (old mid new : Told) (f g k : ℕ → TransactionId) (h h2 : Held) (r : List Entry) (s : Step) (d : DrawnIds) (reply : Reply) → Ran old mid f g h r → Stepped g h2 mid new r s d reply → Drew g k d.ids → Ran old new f k h2 (r ++ entry_of s d reply ∷ [])
ran-more old mid new f g k h h2 r s d reply ran w drew = record {
  stands = w.by.stands;
  taken =
      w.by.taken ∙ ap (λ o. grown o (zip (handed_by r s reply) (given_by s reply))) ran.taken ∙ grown-grown old.taken (pairs r) (zip (handed_by r s reply) (given_by s reply))
      ∙ ap (grown old.taken) (sym (pairs-snoc r (entry_of s d reply) ran.stands.legal));
  opened = joined-more old.opened mid.opened new.opened (λ (e : Entry). opened_by e.step e.reply) r (entry_of s d reply) ran.opened w.by.opened;
  refused = joined-more old.refused mid.refused new.refused (λ (e : Entry). refused_by e.step e.reply) r (entry_of s d reply) ran.refused w.by.refused;
  vetoed =
      w.by.vetoed ∙ ap (λ (o : Option (List (List Frame))). grown o (vetoed_by r s reply)) ran.vetoed ∙ grown-grown old.reviews.vetoed (vetoes r) (vetoed_by r s reply)
      ∙ ap (grown old.reviews.vetoed) (sym (vetoes-snoc r (entry_of s d reply)));
  vetoes_rose =
      subst (λ (n : ℕ). min (old.reviews.vetoes + n) (2 ^ 64 - 1) ≤ new.reviews.vetoes) (sym (veto_count-snoc r (entry_of s d reply)))
      (vetoed-more old.reviews.vetoes mid.reviews.vetoes new.reviews.vetoes (veto_count r) reply ran.vetoes_rose w.counted w.veto);
  rose =
      subst (λ (n : ℕ). min (old.refusals + n) (2 ^ 64 - 1) ≤ new.refusals) (sym (refused_count-snoc r (entry_of s d reply)))
      (rose-more old.refusals mid.refusals new.refusals (attach_refused_count r) s reply ran.rose w.later w.by.attach_refused);
  later = let a = ran.later in let b = w.later in omega (arith, a, b);
  counted = let a = ran.counted in let b = w.counted in omega (arith, a, b);
  fixed = w.fixed ∙ ran.fixed;
  drew =
      subst (λ (ds : List TransactionId). Drew f k ds) (sym (flat_map-append (λ (e : Entry). e.drawn.ids) r (entry_of s d reply ∷ []) ∙ ap (λ l. drawn_of r ++ l) (append-nil d.ids)))
      (Drew-append f g k (drawn_of r) d.ids ran.drew drew);
}

pub left-more : (all : List Step) (r : List Entry) (s : Step) (d : DrawnIds) (reply : Reply) (rest : List Step) → Left all r (s ∷ rest) → Left all (r ++ entry_of s d reply ∷ []) rest
left-more all r s d reply rest h =
    h ∙ sym (append_assoc (steps_of r) (s ∷ []) rest) ∙ ap (λ l. l ++ rest) (sym (map-append (λ (e : Entry). e.step) r (entry_of s d reply ∷ [])))

-- ---- the steps of the entries

-- they are the first of all
pub steps-first : (all rest : List Step) (r : List Entry) → Left all r rest → steps_of r ≡ take (length r) all
steps-first all rest r h =
    sym (ap (take (length r)) h ∙ ap (λ n. take n (steps_of r ++ rest)) (sym (length-map r (λ (e : Entry). e.step))) ∙ front (steps_of r) rest)
  where
    front : (xs ys : List Step) → take (length xs) (xs ++ ys) ≡ xs
    front [] ys = refl
    front (x ∷ xs) ys = ap (λ l. x ∷ l) (front xs ys)

pub all-done : (all : List Step) (r : List Entry) → Left all r [] → steps_of r ≡ all
all-done all r h = sym (h ∙ append-nil (steps_of r))

more_left : (all rest : List Step) (r : List Entry) (s : Step) → Left all r (s ∷ rest) → steps_of r ≡ all → ⊥
more_left all rest r s h e = let l : length all ≡ length (steps_of r) + length (s ∷ rest) = ap length h ∙ length-append (steps_of r) (s ∷ rest) in omega (arith, l, ap length e)

-- no step is left after the last
pub none_next : (all : List Step) (r : List Entry) (P : Step → Type 0) → steps_of r ≡ all → NextStep all r P → ⊥
none_next all r P e n = more_left all n.1 r n.0 n.2 e

-- the next step is one
same_next : (xs ys zs : List Step) (s t : Step) → xs ++ s ∷ ys ≡ xs ++ t ∷ zs → s ≡ t
same_next [] ys zs s t h = cc h
same_next (x ∷ xs) ys zs s t h = same_next xs ys zs s t (let e : xs ++ s ∷ ys ≡ xs ++ t ∷ zs = cc h in e)

-- ---- a step that stopped the run

pub stops_by : (error : StepError) (stop : Stop) (handed : ℕ) → StopsBy error stop handed → (stop ≡ stop_by error) × (handed ≡ handed_of error)
stops_by (errors.Fault error n) stop handed h = h
stops_by (errors.Ended reason) stop handed h = h
stops_by (errors.Stopped code) stop handed h = absurd h
stops_by errors.NoMemory stop handed h = h

pick : {P Q X Y : Type 0} (b : Bool) → (Y → P) → (X → Q) → MatchBool b Y ⊤ → MatchBool b ⊤ X → MatchBool b P Q
pick true f h y x = f y
pick false f h y x = h x

units : (b : Bool) → MatchBool b (Unit {0}) ⊤
units true = tt
units false = tt

both : {X Y : Type 0} (Z : Type 0) (f : X → Y → Z) (b : Bool) → MatchBool b X ⊤ → MatchBool b Y ⊤ → MatchBool b Z ⊤
both Z f true x y = f x y
both Z f false x y = tt

pub broke_cause : {ids : ℕ → TransactionId} (sure : Bool) (g : Held) (old new : Told) (r : List Entry) (s : Step) (error : StepError) (kept : Option StopCode) (all rest : List Step) → Left all r (s ∷ rest) → Broke ids sure g old new r s error kept → StopCause all r (stop_by error)
broke_cause sure g old new r s (errors.Fault error handed) kept all rest l b = (s, rest, l, pick (is_unknown error) (λ (x : UnderDead (view_of_record r) s × (handed ≡ 0)). x.0) (λ (x : MayFault (view_of_record r) s (hands r s) error). x) b.by.unknown_only b.by.refusal)
broke_cause sure g old new r s (errors.Ended reason) kept all rest l b = (s, rest, l, b.ended_only)
broke_cause sure g old new r s (errors.Stopped code) kept all rest l b = absurd b.first
broke_cause sure g old new r s errors.NoMemory kept all rest l b = (s, rest, l, b.by.memory.1)

pub broke_not_done : {ids : ℕ → TransactionId} (sure : Bool) (g : Held) (old new : Told) (r : List Entry) (s : Step) (error : StepError) (kept : Option StopCode) → Broke ids sure g old new r s error kept → stop_by error ≡ stops.Done → ⊥
broke_not_done sure g old new r s (errors.Fault error handed) kept b e = cc e
broke_not_done sure g old new r s (errors.Ended reason) kept b e = cc e
broke_not_done sure g old new r s (errors.Stopped code) kept b e = b.first
broke_not_done sure g old new r s errors.NoMemory kept b e = cc e

pub broke_done : {ids : ℕ → TransactionId} (sure : Bool) (g : Held) (old new : Told) (r : List Entry) (s : Step) (error : StepError) (kept : Option StopCode) (all rest : List Step) → Left all r (s ∷ rest) → Broke ids sure g old new r s error kept → (stop_by error ≡ stops.Done) ↔ (steps_of r ≡ all)
broke_done sure g old new r s error kept all rest l b = (λ e. absurd (broke_not_done sure g old new r s error kept b e), λ e. absurd (more_left all rest r s l e))

pub broke_unknown : {ids : ℕ → TransactionId} (sure : Bool) (g : Held) (old new : Told) (r : List Entry) (s : Step) (error : StepError) (kept : Option StopCode) (all rest : List Step) → Left all r (s ∷ rest) → Broke ids sure g old new r s error kept → NextStep all r (λ x. UnderDead (view_of_record r) x) → stop_by error ≡ stops.Fault faults.UnknownTxnId
broke_unknown sure g old new r s error kept all rest l b n =
    let here : n.0 ≡ s = same_next (steps_of r) n.1 rest n.0 s (sym n.2 ∙ l) in
    let said = b.by.unknown (subst (λ (x : Step). UnderDead (view_of_record r) x) here n.3) in
    let same : error ≡ errors.Fault faults.UnknownTxnId 0 = cc said in
    ap stop_by same

pub broke_ended : {ids : ℕ → TransactionId} (sure : Bool) (g : Held) (old new : Told) (r : List Entry) (s : Step) (error : StepError) (kept : Option StopCode) (all rest : List Step) → Left all r (s ∷ rest) → Broke ids sure g old new r s error kept → (reason : SessionStopReason) → NextStep all r (λ x. ended_by x ≡ Some reason) → StopsWith (stop_by error) (stops.Ended reason)
broke_ended sure g old new r s error kept all rest l b reason n =
    let here : n.0 ≡ s = same_next (steps_of r) n.1 rest n.0 s (sym n.2 ∙ l) in
    said (b.ended reason (ap ended_by (sym here) ∙ n.3))
  where
    said : (failed error ≡ Err (errors.Ended reason)) ⊎ (failed error ≡ Err errors.NoMemory) → StopsWith (stop_by error) (stops.Ended reason)
    said (inl e) = let same : error ≡ errors.Ended reason = cc e in inl (ap stop_by same)
    said (inr e) = let same : error ≡ errors.NoMemory = cc e in inr (ap stop_by same)

pub broke_took : {ids : ℕ → TransactionId} (sure : Bool) (g : Held) (old mid new : Told) (f k : ℕ → TransactionId) (h : Held) (r : List Entry) (s : Step) (error : StepError) (kept : Option StopCode) (all rest : List Step) → Left all r (s ∷ rest) → Ran old mid f k h r → Broke ids sure g mid new r s error kept → RunTook old.taken new.taken all r (stop_by error) (handed_of error)
broke_took sure g old mid new f k h r s (errors.Fault error handed) kept all rest l ran b =
    pick (is_unknown error) (λ (x : (new ≡ mid) × (handed ≡ 0)). (ap (λ t. t.taken) x.0 ∙ ran.taken, x.1))
    (λ (x : TookFirst mid new (hands r s) handed). (s, rest, l, (x.0, subst (λ (o : Option (List (Frame × List Frame))). TookFrames o new.taken (take handed (hands r s))) ran.taken x.1)))
    (both ((new ≡ mid) × (handed ≡ 0)) (λ (x : new ≡ mid) (y : UnderDead (view_of_record r) s × (handed ≡ 0)). (x, y.1)) (is_unknown error) b.own b.by.unknown_only) b.by.handed
broke_took sure g old mid new f k h r s (errors.Ended reason) kept all rest l ran b = (ap (λ t. t.taken) b.own ∙ ran.taken, refl)
broke_took sure g old mid new f k h r s (errors.Stopped code) kept all rest l ran b = absurd b.first
broke_took sure g old mid new f k h r s errors.NoMemory kept all rest l ran b = (ap (λ t. t.taken) b.own ∙ ran.taken, refl)

pub broke_refused : {ids : ℕ → TransactionId} (sure : Bool) (g : Held) (old mid new : Told) (f k : ℕ → TransactionId) (h : Held) (r : List Entry) (s : Step) (error : StepError) (kept : Option StopCode) (all rest : List Step) → Left all r (s ∷ rest) → Ran old mid f k h r → Broke ids sure g mid new r s error kept → RunRefused old.refused new.refused all r (stop_by error) (handed_of error)
broke_refused sure g old mid new f k h r s (errors.Fault error handed) kept all rest l ran b =
    pick (is_unknown error) (λ (x : new ≡ mid). ap (λ t. t.refused) x ∙ ran.refused)
    (λ (x : RefusedAdds mid new s (hands r s) error handed). (s, rest, l, (x.0, x.1, x.2 ∙ ap (λ o. grown o x.0) ran.refused ∙ grown-grown old.refused (refuses r) x.0)))
    b.own b.by.refused_last
broke_refused sure g old mid new f k h r s (errors.Ended reason) kept all rest l ran b = ap (λ t. t.refused) b.own ∙ ran.refused
broke_refused sure g old mid new f k h r s (errors.Stopped code) kept all rest l ran b = absurd b.first
broke_refused sure g old mid new f k h r s errors.NoMemory kept all rest l ran b = ap (λ t. t.refused) b.own ∙ ran.refused

rose-last : (before mid now count : ℕ) (b : Bool) → min (before + count) (2 ^ 64 - 1) ≤ mid → mid ≤ now → MatchBool b ⊤ (Rose mid now) → min (before + count + cond (not b) 1 0) (2 ^ 64 - 1) ≤ now
rose-last before mid now count true a l x = omega arith
rose-last before mid now count false a l x = omega (arith, x)

pub broke_rose : {ids : ℕ → TransactionId} (sure : Bool) (g : Held) (old mid new : Told) (f k : ℕ → TransactionId) (h : Held) (r : List Entry) (s : Step) (error : StepError) (kept : Option StopCode) → Ran old mid f k h r → Broke ids sure g mid new r s error kept → RunRose old.refusals new.refusals r (stop_by error)
broke_rose sure g old mid new f k h r s (errors.Fault error handed) kept ran b = rose-last old.refusals mid.refusals new.refusals (attach_refused_count r) (is_unknown error) ran.rose b.later b.rose
broke_rose sure g old mid new f k h r s (errors.Ended reason) kept ran b = rose-last old.refusals mid.refusals new.refusals (attach_refused_count r) true ran.rose b.later tt
broke_rose sure g old mid new f k h r s (errors.Stopped code) kept ran b = absurd b.first
broke_rose sure g old mid new f k h r s errors.NoMemory kept ran b = rose-last old.refusals mid.refusals new.refusals (attach_refused_count r) true ran.rose b.later tt

pub broke_leaves : {S : Type 0} {ids : ℕ → TransactionId} (sure : Bool) (x : TxnSession S) (old new : Told) (r : List Entry) (s : Step) (error : StepError) → Broke ids sure (held_of x) old new r s error (stop_of x) → RunLeaves x r (stop_by error)
broke_leaves sure x old new r s (errors.Fault error handed) b = b.stops
broke_leaves sure x old new r s (errors.Ended reason) b = b.stops
broke_leaves sure x old new r s (errors.Stopped code) b = absurd b.first
broke_leaves sure x old new r s errors.NoMemory b = (b.by.memory.0, b.stops)

-- over a sure layer
pub broke_surely : {ids : ℕ → TransactionId} (sure : Bool) (g : Held) (old new : Told) (r : List Entry) (s : Step) (error : StepError) (kept : Option StopCode) (all rest : List Step) → Left all r (s ∷ rest) → Broke ids sure g old new r s error kept → RunStopsSurely sure all r (stop_by error) (handed_of error)
broke_surely sure g old new r s (errors.Fault error handed) kept all rest l b = pick (is_unknown error) (λ (x : Unit {0}). tt) (λ (x : StopsSurely sure s handed). (s, rest, l, x)) (units (is_unknown error)) b.surely
broke_surely sure g old new r s (errors.Ended reason) kept all rest l b = tt
broke_surely sure g old new r s (errors.Stopped code) kept all rest l b = absurd b.first
broke_surely sure g old new r s errors.NoMemory kept all rest l b = tt

-- the vetoes of the record
pub broke_vetoed : {ids : ℕ → TransactionId} (sure : Bool) (g : Held) (old mid new : Told) (f k : ℕ → TransactionId) (h : Held) (r : List Entry) (s : Step) (error : StepError) (kept : Option StopCode) → Ran old mid f k h r → Broke ids sure g mid new r s error kept → new.reviews.vetoed ≡ grown old.reviews.vetoed (vetoes r)
broke_vetoed sure g old mid new f k h r s error kept ran b = b.by.vetoed_none ∙ ran.vetoed

-- ---- a run that came to its end

pub done_rose : (old new : Told) (f k : ℕ → TransactionId) (h : Held) (r : List Entry) → Ran old new f k h r → RunRose old.refusals new.refusals r stops.Done
done_rose old new f k h r ran = rose-last old.refusals new.refusals new.refusals (attach_refused_count r) true ran.rose (omega arith) tt
