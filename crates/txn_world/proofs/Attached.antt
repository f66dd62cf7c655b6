-- The attaches of control links.
use Rattle.std.proofs.Common.{◌≡◌, ℕ, ◌+◌, ◌<◌, ◌≤◌, Bool, true, false, cond, Option, Some, None, Result, Ok, Err, List, [], ◌∷◌, ◌++◌, length, refl, sym, ◌∙◌, ap, arith, subst, inl, inr, add-one}
use Rattle.std.specs.Prelude.{MatchBool, ⊤}
use Rattle.std.specs.List.{AllByRecursion, zip}
use Rattle.std.proofs.lemmas.Grind.{flat_map-append}
use Rattle.std.proofs.lemmas.List.{append-nil, length-append, map-append}
use Rattle.std.proofs.lemmas.List.Sums.{count_by-le-length}
use Rattle.amqp_txn_types.specs.Counts.{Rose}
use Rattle.amqp_txn_types.specs.Frames.{is_coordinator_attach, is_plain_frame, txn}
use Rattle.amqp_txn_types.specs.Growing.{grown}
use Rattle.amqp_txn_types.proofs.Growing.{grown-grown, grown-nil}
use Rattle.amqp_txn_types.specs.declared.id.TransactionId.{TransactionId}
use Rattle.amqp_txn_types.specs.declared.items.NoMemory.{NoMemory}
use Rattle.amqp_txn_types.specs.declared.performatives.Disposition.{Disposition}
use Rattle.amqp_txn_types.specs.declared.performatives.Frame.{Frame}
use Rattle.amqp_txn_types.specs.declared.performatives.Frame.TheVariants as frames
use Rattle.amqp_below_layer.specs.Told.{Told, refusal_of}
use Rattle.amqp_below_layer.specs.declared.inner_error.SessionInnerError.{SessionInnerError}
use Rattle.amqp_below_layer.specs.declared.verdict.Verdict.{Verdict}
use Rattle.amqp_below_ids.specs.Drawn.{DrawnIds}
use Rattle.amqp_below_ids.specs.Ids.{Drew}
use Rattle.amqp_below_ids.proofs.Draws.{Drew-append, Drew-none}
use Rattle.amqp_resource_record.specs.Answers.{AnswerFrame}
use Rattle.amqp_resource_record.specs.Entries.{is_attached, is_veto, steps_of}
use Rattle.amqp_resource_record.specs.Opened.{is_attach_refused, opened_by, opens, refused_by}
use Rattle.amqp_resource_record.specs.Vetoed.{vetoed_by}
use Rattle.amqp_resource_record.specs.Hands.{hands}
use Rattle.amqp_resource_record.specs.Work.{given_by, handed_by}
use Rattle.amqp_resource_record.specs.declared.entry.Entry.{Entry}
use Rattle.amqp_resource_record.specs.declared.reply.Reply.{Reply}
use Rattle.amqp_resource_record.specs.declared.reply.Reply.TheVariants as replies
use Rattle.amqp_resource_record.specs.declared.step.Step.{Step}
use Rattle.amqp_resource_record.specs.declared.stop.StepError.{StepError}
use Rattle.amqp_resource_record.specs.declared.stop.StepError.TheVariants as errors
use Rattle.amqp_resource_session.specs.declared.session.TxnSession.{TxnSession}
use Rattle.amqp_resource_session.specs.Session.{StandsFor, below_of, opened_of, stop_of}
use Rattle.amqp_resource_session.specs.Steps.{is_unknown}
use Rattle.amqp_resource_session.specs.StepClauses.{StepSays}
use Rattle.txn_parties.specs.Turns.{entry_by}
use Rattle.txn_world.specs.Beginning.{RefusedOnly, Untaken, attach_step, attach_steps, control_attach}
use Rattle.txn_world_wires.specs.declared.parties.Parties.{Parties}
use Rattle.txn_world_wires.specs.Parties.{Begun, Sound}
use Rattle.txn_world_wires.proofs.Starting.{begun_sound}
use Rattle.txn_world.specs.Attaching.{AttachesNext, Attaching}
use Rattle.txn_world.specs.Serving.{Serves}
use Rattle.txn_world.specs.declared.errors.WorldError.{WorldError}
use Rattle.txn_world.specs.declared.errors.WorldError.TheVariants as world_errors

attach_is_none : (n : ℕ) → txn (frames.Attach (control_attach n)) ≡ None
unfolding txn
attach_is_none n = refl

attach_is_coordinator : (n : ℕ) → is_coordinator_attach (frames.Attach (control_attach n)) ≡ true
unfolding is_coordinator_attach
attach_is_coordinator n = refl

attach_is_not_plain : (n : ℕ) → is_plain_frame (frames.Attach (control_attach n)) ≡ false
unfolding txn is_coordinator_attach
attach_is_not_plain n = refl

-- ---- what the step of an attach may answer

replied : (r : List Entry) (n : ℕ) (o : Option TransactionId) (reply : Reply) → o ≡ None → AnswerFrame r (frames.Attach (control_attach n)) o reply → is_attach_refused reply ≡ false → is_attached reply ≡ true
replied r n None (replies.Attached link given) e a f = refl
replied r n None (replies.Frames x) e a f = let c = sym (attach_is_coordinator n) ∙ a.0 in cc c
replied r n None (replies.AttachRefused error) e a f = cc f
replied r n None replies.LinkEnded e a f = absurd a
replied r n None replies.NoLink e a f = absurd a
replied r n None (replies.LinkClosed error) e a f = absurd a
replied r n None (replies.Declared id) e a f = absurd a
replied r n None (replies.Accepted echoes) e a f = absurd a
replied r n None (replies.Rejected error text) e a f = absurd a
replied r n (Some t) reply e a f = cc e

-- it is no veto
never_vetoed : (r : List Entry) (n : ℕ) (o : Option TransactionId) (reply : Reply) → o ≡ None → AnswerFrame r (frames.Attach (control_attach n)) o reply → is_veto reply ≡ false
never_vetoed r n None (replies.Attached link given) e a = refl
never_vetoed r n None (replies.Frames x) e a = refl
never_vetoed r n None (replies.AttachRefused error) e a = refl
never_vetoed r n None replies.LinkEnded e a = refl
never_vetoed r n None replies.NoLink e a = refl
never_vetoed r n None (replies.LinkClosed error) e a = refl
never_vetoed r n None (replies.Declared id) e a = refl
never_vetoed r n None (replies.Accepted echoes) e a = refl
never_vetoed r n None (replies.Rejected error text) e a = absurd a
never_vetoed r n (Some t) reply e a = cc e

-- one that isn't refused refuses nothing
nothing_refused : (s : Step) (reply : Reply) → is_attach_refused reply ≡ false → refused_by s reply ≡ []
nothing_refused s (replies.Attached link given) e = refl
nothing_refused s (replies.Frames x) e = refl
nothing_refused s (replies.AttachRefused error) e = cc e
nothing_refused s replies.LinkEnded e = refl
nothing_refused s replies.NoLink e = refl
nothing_refused s (replies.LinkClosed error) e = refl
nothing_refused s (replies.Declared id) e = refl
nothing_refused s (replies.Accepted echoes) e = refl
nothing_refused s (replies.Rejected error text) e = refl

-- it hands nothing
nothing_handed : (r : List Entry) (n : ℕ) (reply : Reply) → zip (handed_by r (attach_step n) reply) (given_by (attach_step n) reply) ≡ []
unfolding txn is_coordinator_attach
nothing_handed r n (replies.Attached link given) = refl
nothing_handed r n (replies.Frames x) = refl
nothing_handed r n (replies.AttachRefused error) = refl
nothing_handed r n replies.LinkEnded = refl
nothing_handed r n replies.NoLink = refl
nothing_handed r n (replies.LinkClosed error) = refl
nothing_handed r n (replies.Declared id) = refl
nothing_handed r n (replies.Accepted echoes) = refl
nothing_handed r n (replies.Rejected error text) = refl

-- ---- one attach more

all-push : {A : Type 0} (P : A → Type 0) (xs : List A) (x : A) → AllByRecursion P xs → P x → AllByRecursion P (xs ++ x ∷ [])
all-push P [] x a h = (h, tt)
all-push P (y ∷ xs) x a h = (a.0, all-push P xs x a.1 h)

untaken-step : (old mid new : Told) (r : List Entry) (n : ℕ) (reply : Reply) → Untaken old mid → AnswerFrame r (frames.Attach (control_attach n)) (txn (frames.Attach (control_attach n))) reply → new.taken ≡ grown mid.taken (zip (handed_by r (attach_step n) reply) (given_by (attach_step n) reply)) → new.reviews.vetoed ≡ grown mid.reviews.vetoed (vetoed_by r (attach_step n) reply) → mid.refusals ≤ new.refusals → mid.reviews.vetoes ≤ new.reviews.vetoes → new.fixed ≡ mid.fixed → Untaken old new
untaken-step old mid new r n reply u a t v l c f = record {
  vetoed = v ∙ ap (λ b. grown mid.reviews.vetoed (cond b (hands r (attach_step n) ∷ []) [])) (never_vetoed r n (txn (frames.Attach (control_attach n))) reply (attach_is_none n) a) ∙ grown-nil mid.reviews.vetoed ∙ u.vetoed;
  taken = t ∙ ap (grown mid.taken) (nothing_handed r n reply) ∙ grown-nil mid.taken ∙ u.taken;
  fixed = f ∙ u.fixed;
  later = let b = u.later in omega (arith, b, l);
  counted = let b = u.counted in omega (arith, b, c);
}

opens-push : (r : List Entry) (e : Entry) → opens (r ++ e ∷ []) ≡ opens r ++ opened_by e.step e.reply
opens-push r e = flat_map-append (λ (x : Entry). opened_by x.step x.reply) r (e ∷ []) ∙ ap (λ l. opens r ++ l) (append-nil (opened_by e.step e.reply))

pub attaching-more : {S G : Type 0} (told : S → Told) (sure : Bool) (reviews : S → S → List Frame → Result Verdict NoMemory → Type 0) (checks : S → S → Disposition → Result Unit SessionInnerError → Type 0) (next : G → ℕ → TransactionId) (starts : G → Option (ℕ → TransactionId)) (below : S) (ids mid later : G) (session new : TxnSession S) (entries : List Entry) (n : ℕ) (drawn : DrawnIds) (reply : Reply) → Attaching told next starts below ids mid session entries n → is_attach_refused reply ≡ false → StepSays told sure reviews checks next starts session new mid later (attach_step n) (Ok (drawn, reply)) → Attaching told next starts below ids later new (entries ++ entry_by (attach_step n) drawn reply ∷ []) (n + 1)
attaching-more told sure reviews checks next starts below ids mid later session new entries n drawn reply a f said =
    let by = said.by_record a.runs entries a.stands in
    let answer = by.answer in
    let none : drawn.ids ≡ [] = answer.0 in
    let attached = replied entries n (txn (frames.Attach (control_attach n))) reply (attach_is_none n) answer.1 f in
    record {
      runs = said.stops a.runs;
      stands = by.stands;
      attached = all-push (λ (e : Entry). is_attached e.reply ≡ true) entries (entry_by (attach_step n) drawn reply) a.attached attached;
      steps = map-append (λ (e : Entry). e.step) entries (entry_by (attach_step n) drawn reply ∷ []) ∙ ap (λ l. l ++ attach_step n ∷ []) a.steps ∙ ap attach_steps (sym (add-one n));
      count = length-append entries (entry_by (attach_step n) drawn reply ∷ []) ∙ ap (λ (k : ℕ). k + 1) a.count;
      drew = subst (λ (ds : List TransactionId). Drew (next ids) (next later) ds) none (Drew-append (next ids) (next mid) (next later) [] drawn.ids a.drew said.drew);
      start = said.start ∙ a.start;
      untaken = untaken-step (told below) (told (below_of session)) (told (below_of new)) entries n reply a.untaken answer.1 by.taken by.vetoed said.later said.counted said.fixed;
      opened =
          by.opened ∙ ap (λ o. grown o (opened_by (attach_step n) reply)) a.opened
          ∙ grown-grown (told below).opened (opens entries) (opened_by (attach_step n) reply)
          ∙ ap (grown (told below).opened) (sym (opens-push entries (entry_by (attach_step n) drawn reply)));
      refused =
          by.refused ∙ ap (grown (told (below_of session)).refused) (nothing_refused (attach_step n) reply f)
          ∙ grown-nil (told (below_of session)).refused ∙ a.refused;
    }

pub attaching-none : {S G : Type 0} (told : S → Told) (next : G → ℕ → TransactionId) (starts : G → Option (ℕ → TransactionId)) (ids : G) (session : TxnSession S) (entries : List Entry) → stop_of session ≡ None → StandsFor session [] → entries ≡ [] → Attaching told next starts (below_of session) ids ids session entries 0
attaching-none told next starts ids session entries r s e = record {
  runs = r;
  stands = subst (λ (x : List Entry). StandsFor session x) (sym e) s;
  attached = subst (λ (x : List Entry). AllByRecursion (λ (y : Entry). is_attached y.reply ≡ true) x) (sym e) tt;
  steps = ap steps_of e;
  count = ap (λ (x : List Entry). length x) e;
  drew = Drew-none (next ids) (next ids) (λ k. refl);
  start = refl;
  untaken = record { taken = refl; vetoed = refl; fixed = refl; later = omega arith; counted = omega arith };
  opened = sym (ap (λ (x : List Entry). grown (told (below_of session)).opened (opens x)) e ∙ grown-nil (told (below_of session)).opened);
  refused = refl;
}

-- ---- one that isn't made

pub refused-step : {S G : Type 0} (told : S → Told) (sure : Bool) (reviews : S → S → List Frame → Result Verdict NoMemory → Type 0) (checks : S → S → Disposition → Result Unit SessionInnerError → Type 0) (next : G → ℕ → TransactionId) (starts : G → Option (ℕ → TransactionId)) (below : S) (ids mid later : G) (session new : TxnSession S) (entries : List Entry) (n links : ℕ) (drawn : DrawnIds) (error : SessionInnerError) → n < links → Attaching told next starts below ids mid session entries n → StepSays told sure reviews checks next starts session new mid later (attach_step n) (Ok (drawn, replies.AttachRefused error)) → Untaken (told below) (told (below_of new)) × RefusedOnly (told below) (told (below_of new)) links (world_errors.AttachRefused error)
refused-step told sure reviews checks next starts below ids mid later session new entries n links drawn error l a said =
    let by = said.by_record a.runs entries a.stands in
    let rose = said.attach_rose in
    let u = a.untaken.later in
    let refused = by.refused ∙ ap (λ o. grown o (refusal_of (frames.Attach (control_attach n)) error)) a.refused in
    let untaken = untaken-step (told below) (told (below_of session)) (told (below_of new)) entries n (replies.AttachRefused error) a.untaken by.answer.1 by.taken by.vetoed said.later said.counted said.fixed in
    (untaken, (rose_earlier (told below).refusals (told (below_of session)).refusals (told (below_of new)).refusals u rose, n, l, refused))
  where
    rose_earlier : (x y z : ℕ) → x ≤ y → Rose y z → Rose x z
    rose_earlier x y z l r = omega (arith, l, r)

pub unchanged : {S : Type 0} (told : S → Told) (below : S) (session new : TxnSession S) (links : ℕ) → Untaken (told below) (told (below_of session)) → (told (below_of session)).refused ≡ (told below).refused → below_of new ≡ below_of session → Untaken (told below) (told (below_of new)) × RefusedOnly (told below) (told (below_of new)) links world_errors.NoMemory
unchanged told below session new links u r e = (subst (λ x. Untaken (told below) (told x)) (sym e) u, ap (λ x. (told x).refused) e ∙ r)

either : {A B : Type 0} (b : Bool) → MatchBool b A ⊤ → MatchBool b ⊤ B → (A → ⊥) → (B → ⊥) → ⊥
either true m n f g = f m
either false m n f g = g n

-- of the errors only out of memory comes
pub attach_errors : {S G : Type 0} (told : S → Told) (sure : Bool) (reviews : S → S → List Frame → Result Verdict NoMemory → Type 0) (checks : S → S → Disposition → Result Unit SessionInnerError → Type 0) (next : G → ℕ → TransactionId) (starts : G → Option (ℕ → TransactionId)) (ids later : G) (session new : TxnSession S) (entries : List Entry) (n : ℕ) (error : StepError) → stop_of session ≡ None → StandsFor session entries → StepSays told sure reviews checks next starts session new ids later (attach_step n) (Err error) → error ≡ errors.NoMemory
unfolding txn is_coordinator_attach
attach_errors told sure reviews checks next starts ids later session new entries n (errors.Fault error handed) r s said =
    let by = said.by_record r entries s in
    absurd (either (is_unknown error) by.unknown_only by.refusal (λ x. x.0) (λ x. cc x))
attach_errors told sure reviews checks next starts ids later session new entries n (errors.Ended reason) r s said = let e = said.ended_only in cc e
attach_errors told sure reviews checks next starts ids later session new entries n (errors.Stopped code) r s said = absurd (said.runs r)
attach_errors told sure reviews checks next starts ids later session new entries n errors.NoMemory r s said = refl

-- fewer links than 2 ^ 64 - 1 were opened
pub few_opened : {S : Type 0} (session : TxnSession S) (entries : List Entry) → StandsFor session entries → opened_of session ≤ length entries
few_opened session entries s = let c = count_by-le-length (λ (e : Entry). is_attached e.reply) entries in let o = s.opened in omega (arith, c, o)

-- ---- by what one attach answered

pub attach_fails : {S G : Type 0} (told : S → Told) (sure : Bool) (reviews : S → S → List Frame → Result Verdict NoMemory → Type 0) (checks : S → S → Disposition → Result Unit SessionInnerError → Type 0) (next : G → ℕ → TransactionId) (starts : G → Option (ℕ → TransactionId)) (ids later : G) (session new : TxnSession S) (entries : List Entry) (step : Step) (n : ℕ) (error : StepError) → step ≡ attach_step n → stop_of session ≡ None → StandsFor session entries → StepSays told sure reviews checks next starts session new ids later step (Err error) → StepSays told sure reviews checks next starts session new ids later (attach_step n) (Err errors.NoMemory)
attach_fails told sure reviews checks next starts ids later session new entries step n error e r s said =
    let at = subst (λ (x : Step). StepSays told sure reviews checks next starts session new ids later x (Err error)) e said in
    let is = attach_errors told sure reviews checks next starts ids later session new entries n error r s at in
    subst (λ (y : StepError). StepSays told sure reviews checks next starts session new ids later (attach_step n) (Err y)) is at

-- one attach of the control links
abbrev pub Attach : {S G : Type 0} → (S → Told) → Bool → (S → S → List Frame → Result Verdict NoMemory → Type 0) → (S → S → Disposition → Result Unit SessionInnerError → Type 0) → (G → ℕ → TransactionId) → (G → Option (ℕ → TransactionId)) → TxnSession S → TxnSession S → G → G → List Entry → List Entry → ℕ → Result Unit WorldError → Type 0
Attach told sure reviews checks next starts session new mid later entries more n result =
    AttachesNext (λ answer. StepSays told sure reviews checks next starts session new mid later (attach_step n) answer) ((new ≡ session) × (later ≡ mid)) entries more n result

pub attaching_next : {S G : Type 0} (told : S → Told) (sure : Bool) (reviews : S → S → List Frame → Result Verdict NoMemory → Type 0) (checks : S → S → Disposition → Result Unit SessionInnerError → Type 0) (next : G → ℕ → TransactionId) (starts : G → Option (ℕ → TransactionId)) (below : S) (ids mid later : G) (session new : TxnSession S) (entries more : List Entry) (n : ℕ) (done : Unit {0}) → Attaching told next starts below ids mid session entries n → Attach told sure reviews checks next starts session new mid later entries more n (Ok done) → Attaching told next starts below ids later new more (n + 1)
attaching_next told sure reviews checks next starts below ids mid later session new entries more n done a x =
    subst (λ (l : List Entry). Attaching told next starts below ids later new l (n + 1)) (sym x.3)
    (attaching-more told sure reviews checks next starts below ids mid later session new entries n x.0 x.1 a x.2 x.4)

pub attaching_failed : {S G : Type 0} (told : S → Told) (sure : Bool) (reviews : S → S → List Frame → Result Verdict NoMemory → Type 0) (checks : S → S → Disposition → Result Unit SessionInnerError → Type 0) (next : G → ℕ → TransactionId) (starts : G → Option (ℕ → TransactionId)) (below : S) (ids mid later : G) (session new : TxnSession S) (entries more : List Entry) (n links : ℕ) (error : WorldError) → n < links → Attaching told next starts below ids mid session entries n → Attach told sure reviews checks next starts session new mid later entries more n (Err error) → Untaken (told below) (told (below_of new)) × RefusedOnly (told below) (told (below_of new)) links error
attaching_failed told sure reviews checks next starts below ids mid later session new entries more n links (world_errors.AttachRefused error) l a x =
    refused-step told sure reviews checks next starts below ids mid later session new entries n links x.0 error l a x.1
attaching_failed told sure reviews checks next starts below ids mid later session new entries more n links world_errors.NoMemory l a (inl x) =
    unchanged told below session new links a.untaken a.refused (ap below_of x.0)
attaching_failed told sure reviews checks next starts below ids mid later session new entries more n links world_errors.NoMemory l a (inr said) =
    unchanged told below session new links a.untaken a.refused said.same.below

-- ---- two parties that begin

pub world_begins : {S G : Type 0} (told : S → Told) (sure : Bool) (next : G → ℕ → TransactionId) (starts : G → Option (ℕ → TransactionId)) (below : S) (ids later : G) (session : TxnSession S) (entries : List Entry) (links : ℕ) (p : Parties) → Attaching told next starts below ids later session entries links → Begun entries p → Sound sure p × Serves session p
world_begins told sure next starts below ids later session entries links p a b = (
  begun_sound sure entries p (record { legal = a.stands.legal; attached = a.attached }) b,
  record {
    runs = λ e. a.runs;
    stands = λ e. subst (λ (x : List Entry). StandsFor session x) (sym b.entries) a.stands;
    code = λ halt e. let none = b.stop in cc (none, e);
  },
)
