-- Of every legal record: no place is handed twice.
use Rattle.std.proofs.Common.{◌≡◌, ℕ, ◌+◌, ◌<◌, ◌≤◌, Bool, true, false, cond, not, ◌&&◌, Option, Some, None, List, [], ◌∷◌, ◌++◌, length, refl, sym, ◌∙◌, ap, arith, subst, ◌⊎◌, inl, inr}
use Rattle.std.specs.Prelude.{◌==◌}
use Rattle.std.specs.List.{AllByRecursion}
use Rattle.std.proofs.lemmas.List.{length-append}
use Rattle.std.proofs.lemmas.List.Sums.{sum_by-append}
use Rattle.std.proofs.lemmas.Bool.{eqb-true, and_parts}
use Rattle.amqp_txn_types.specs.declared.id.TransactionId.{TransactionId}
use Rattle.amqp_txn_types.specs.declared.performatives.Frame.{Frame}
use Rattle.amqp_txn_types.specs.Frames.{txn, is_coordinator_attach, is_plain_by, is_plain_frame}
use Rattle.amqp_txn_types.specs.Ids.{same_id, is_some_id}
use Rattle.amqp_txn_codec.specs.declared.message.ControlMessageBody.{ControlMessageBody}
use Rattle.amqp_txn_codec.specs.declared.message.ControlMessageBody.TheVariants as messages
use Rattle.amqp_txn_codec.specs.Discharges.{is_rollback}
use Rattle.amqp_txn_codec.specs.Reading.{message_of}
use Rattle.amqp_resource_record.specs.declared.entry.Entry.{Entry}
use Rattle.amqp_resource_record.specs.declared.step.Step.{Step}
use Rattle.amqp_resource_record.specs.declared.step.Step.TheVariants as steps
use Rattle.amqp_resource_record.specs.declared.reply.Reply.{Reply}
use Rattle.amqp_resource_record.specs.declared.reply.Reply.TheVariants as replies
use Rattle.amqp_resource_record.specs.Entries.{declares, reply_declares, discharges, step_discharges, message_discharges, is_under, step_is_under}
use Rattle.amqp_resource_record.specs.Links.{is_open}
use Rattle.amqp_resource_record.specs.Live.{since, home, is_link, is_live, is_held_on, undischarged, frame_places}
use Rattle.amqp_resource_record.specs.Hands.{sources, sources_of, commits, commits_message, if_open}
use Rattle.amqp_resource_record.specs.Work.{origins, is_rejected, sources_by}
use Rattle.amqp_resource_record.specs.Answers.{Answer, AnswerControl, AnswerMessage}
use Rattle.amqp_resource_record.specs.Legal.{IsLegal}
use Rattle.amqp_resource_record.proofs.Ids.{same_id-eq, same_id-refl}
use Rattle.amqp_resource_record.proofs.Looking.{places-below, places-declared, places-other, undischarged-other}
use Rattle.amqp_resource_record.proofs.Living.{live_undischarged}
use Rattle.amqp_resource_record.proofs.Whole.{legal_induction, IsLegal-nil, IsLegal-snoc}
use Rattle.amqp_resource_record.proofs.Origins.{origins-snoc}
use Rattle.txn_parties.specs.Times.{times}

-- ---- how often a place stands in a list

pub times-append : (i : ℕ) (xs ys : List ℕ) → times i (xs ++ ys) ≡ times i xs + times i ys
times-append i xs ys = sum_by-append (λ (j : ℕ). cond (j == i) 1 0) xs ys

one_own : (m i : ℕ) (b : Bool) → (m == i) ≡ b → (times i (m ∷ []) ≡ 0) ⊎ ((times i (m ∷ []) ≡ 1) × (m ≡ i))
one_own m i true e = let c : ◌≡◌ {A = ℕ} (cond (m == i) 1 0) 1 = ap (λ b. cond b 1 0) e in inr (omega (arith, c), eqb-true m i e)
one_own m i false e = let c : ◌≡◌ {A = ℕ} (cond (m == i) 1 0) 0 = ap (λ b. cond b 1 0) e in inl (omega (arith, c))

-- the place itself, once or not at all
pub own_or : (m i : ℕ) → (times i (m ∷ []) ≡ 0) ⊎ ((times i (m ∷ []) ≡ 1) × (m ≡ i))
own_or m i = one_own m i (m == i) refl

-- one place more in front
pub times-cons : (i x : ℕ) (xs : List ℕ) → times i (x ∷ xs) ≡ times i (x ∷ []) + times i xs
times-cons i x xs = times-append i (x ∷ []) xs

-- a place that all the others are below
pub times-below : (m i : ℕ) (xs : List ℕ) → AllByRecursion (λ j. j < m) xs → m ≤ i → times i xs ≡ 0
times-below m i [] a h = refl
times-below m i (x ∷ xs) a h = by_own (own_or x i) (times-below m i xs a.1 h)
  where
    by_own : (times i (x ∷ []) ≡ 0) ⊎ ((times i (x ∷ []) ≡ 1) × (x ≡ i)) → times i xs ≡ 0 → times i (x ∷ xs) ≡ 0
    by_own (inl z) n = omega (arith, times-cons i x xs, z, n)
    by_own (inr o) n = absurd (omega (arith, o.1, a.0))

-- ---- which places a step hands

some_both : (t u : TransactionId) (o : Option TransactionId) → is_some_id t o ≡ true → is_some_id u o ≡ true → same_id t u ≡ true
some_both t u None h g = cc h
some_both t u (Some v) h g =
    let a : t ≡ v = same_id-eq t v h in
    let b : u ≡ v = same_id-eq u v g in
    let P : TransactionId → Type 0 = λ x. same_id t x ≡ true in
    subst P (sym b) (subst (λ (x : TransactionId). same_id t x ≡ true) a (same_id-refl t))

-- a step is under one id at most
pub under_one : (t u : TransactionId) (s : Step) → step_is_under t s ≡ true → step_is_under u s ≡ true → same_id t u ≡ true
under_one t u (steps.Frame frame) h g = some_both t u (txn frame) h g
under_one t u _ h g = cc h

-- a plain frame is under no id
pub plain_under : (t : TransactionId) (o : Option TransactionId) (c : Bool) → is_plain_by o c ≡ true → is_some_id t o ≡ false
plain_under t None c h = refl
plain_under t (Some u) c h = cc h

-- the entry is a discharge of this id that was accepted or vetoed
pub record CommitOf (r : List Entry) (s : Step) (reply : Reply) (t : TransactionId) : Type 0 where
  pub live : is_live r t ≡ true
  pub discharges : step_discharges t s reply ≡ true
  pub quiet : (u : TransactionId) → reply_declares u reply ≡ false
  pub control : (u : TransactionId) → step_is_under u s ≡ false

pub held_live : (r : List Entry) (k : ℕ) (t u : TransactionId) (b : Bool) → cond (not b && is_held_on r k t) (Some t) None ≡ Some u → (is_live r t ≡ true) × (is_held_on r k t ≡ true) × (t ≡ u)
held_live r k t u true h = cc h
held_live r k t u false h = by_case (is_held_on r k t) refl h
  where
    by_case : (b : Bool) → is_held_on r k t ≡ b → cond (is_held_on r k t) (Some t) None ≡ Some u → (is_live r t ≡ true) × (is_held_on r k t ≡ true) × (t ≡ u)
    by_case true e g =
        let g2 : Some t ≡ Some u = sym (ap (λ b. cond b (Some t) None) e) ∙ g in
        ((and_parts (is_live r t) (is_link k (home r t)) e).0, e, cc g2)
    by_case false e g = let g2 : ◌≡◌ {A = Option TransactionId} None (Some u) = sym (ap (λ b. cond b (Some t) None) e) ∙ g in cc g2

commit_message : (r : List Entry) (k : ℕ) (payload : List ℕ) (m : Option ControlMessageBody) (d : List TransactionId) (reply : Reply) (t : TransactionId) → message_of payload ≡ m → commits_message r k m ≡ Some t → is_rejected reply ≡ false → AnswerMessage r k m d reply → CommitOf r (steps.Control k payload) reply t
commit_message r k payload None d reply t e c n a = cc c
commit_message r k payload (Some (messages.Declare declare)) d reply t e c n a = cc c
commit_message r k payload (Some (messages.Discharge discharge)) d (replies.Accepted echoes) t e c n a =
    let u : TransactionId = discharge.txn_id in
    let h = held_live r k u t (is_rollback discharge.fail) c in
    subst (λ (x : TransactionId). CommitOf r (steps.Control k payload) (replies.Accepted echoes) x) h.2 (record {
      live = h.0;
      discharges = ap (message_discharges u) e ∙ same_id-refl u;
      quiet = λ v. refl;
      control = λ v. refl;
    })
commit_message r k payload (Some (messages.Discharge discharge)) d (replies.Rejected error text) t e c n a = cc n
commit_message r k payload (Some (messages.Discharge discharge)) d _ t e c n a = absurd a

pub commit_control : (r : List Entry) (k : ℕ) (payload : List ℕ) (b : Bool) (d : List TransactionId) (reply : Reply) (t : TransactionId) → if_open b (commits_message r k (message_of payload)) ≡ Some t → is_rejected reply ≡ false → AnswerControl r k b (message_of payload) d reply → CommitOf r (steps.Control k payload) reply t
commit_control r k payload true d reply t c n a = commit_message r k payload (message_of payload) d reply t refl c n a
commit_control r k payload false d reply t c n a = cc c

-- what a step with a reply hands: nothing, itself, or the places of the id that it commits
pub data Hands (r : List Entry) (s : Step) (reply : Reply) : Type 0 where
  Nothing : sources_by r s reply ≡ [] → Hands r s reply
  Itself : sources_by r s reply ≡ length r ∷ [] → ((t : TransactionId) → step_is_under t s ≡ false) → Hands r s reply
  Commits : (t : TransactionId) → sources_by r s reply ≡ frame_places r t → CommitOf r s reply t → Hands r s reply

-- a step that isn't rejected hands its sources
pub sources_all : (r : List Entry) (s : Step) (reply : Reply) → is_rejected reply ≡ false → sources_by r s reply ≡ sources r s
sources_all r s reply n = ap (λ b. cond b [] (sources r s)) n

answered_hands : (r : List Entry) (s : Step) (d : List TransactionId) (reply : Reply) → is_rejected reply ≡ false → Answer r s d reply → Hands r s reply
answered_hands r (steps.Frame frame) d reply n a = by_case (is_plain_frame frame) refl
  where
    by_case : (b : Bool) → is_plain_frame frame ≡ b → Hands r (steps.Frame frame) reply
    by_case true e = Itself (sources_all r (steps.Frame frame) reply n ∙ ap (λ b. cond b (length r ∷ []) []) e) (λ t. plain_under t (txn frame) (is_coordinator_attach frame) e)
    by_case false e = Nothing (sources_all r (steps.Frame frame) reply n ∙ ap (λ b. cond b (length r ∷ []) []) e)
answered_hands r (steps.Control k payload) d reply n a = by_case (commits r (steps.Control k payload)) refl
  where
    by_case : (o : Option TransactionId) → commits r (steps.Control k payload) ≡ o → Hands r (steps.Control k payload) reply
    by_case None e = Nothing (sources_all r (steps.Control k payload) reply n ∙ ap (sources_of r) e)
    by_case (Some t) e = Commits t (sources_all r (steps.Control k payload) reply n ∙ ap (sources_of r) e) (commit_control r k payload (is_open r k) d reply t e n a)
answered_hands r (steps.LinkEnd k) d reply n a = Nothing (sources_all r (steps.LinkEnd k) reply n)
answered_hands r _ d reply n a = absurd a

pub hands_what : (r : List Entry) (s : Step) (d : List TransactionId) (reply : Reply) → Answer r s d reply → Hands r s reply
hands_what r s d reply a = by_case (is_rejected reply) refl
  where
    by_case : (b : Bool) → is_rejected reply ≡ b → Hands r s reply
    by_case true n = Nothing (ap (λ b. cond b [] (sources r s)) n)
    by_case false n = answered_hands r s d reply n a

-- ---- the origins are places of the record

all_more : (m n : ℕ) (xs : List ℕ) → m ≤ n → AllByRecursion (λ i. i < m) xs → AllByRecursion (λ i. i < n) xs
all_more m n [] h a = tt
all_more m n (x ∷ xs) h a = (omega (arith, a.0), all_more m n xs h a.1)

all_append : (P : ℕ → Type 0) (xs ys : List ℕ) → AllByRecursion P xs → AllByRecursion P ys → AllByRecursion P (xs ++ ys)
all_append P [] ys a b = b
all_append P (x ∷ xs) ys a b = (a.0, all_append P xs ys a.1 b)

handed_below : (r : List Entry) (s : Step) (reply : Reply) → Hands r s reply → AllByRecursion (λ i. i < length r + 1) (sources_by r s reply)
handed_below r s reply (Nothing e) = subst (λ (xs : List ℕ). AllByRecursion (λ i. i < length r + 1) xs) (sym e) tt
handed_below r s reply (Itself e n) = subst (λ (xs : List ℕ). AllByRecursion (λ i. i < length r + 1) xs) (sym e) (omega arith, tt)
handed_below r s reply (Commits t e c) = subst (λ (xs : List ℕ). AllByRecursion (λ i. i < length r + 1) xs) (sym e) (all_more (length r) (length r + 1) (frame_places r t) (omega arith) (places-below r t))

none_below : AllByRecursion (λ i. i < length {A = Entry} []) (origins [])
unfolding origins
none_below = tt

more_below : (r : List Entry) (e : Entry) → AllByRecursion (λ i. i < length r) (origins r) → Answer r e.step e.drawn.ids e.reply → AllByRecursion (λ i. i < length (r ++ e ∷ [])) (origins (r ++ e ∷ []))
more_below r e p a =
    subst (λ (xs : List ℕ). AllByRecursion (λ i. i < length (r ++ e ∷ [])) xs) (sym (origins-snoc r e))
    (subst (λ (n : ℕ). AllByRecursion (λ i. i < n) (origins r ++ sources_by r e.step e.reply)) (sym (length-append r (e ∷ [])))
    (all_append (λ i. i < length r + 1) (origins r) (sources_by r e.step e.reply) (all_more (length r) (length r + 1) (origins r) (omega arith) p) (handed_below r e.step e.reply (hands_what r e.step e.drawn.ids e.reply a))))

-- the origins of a legal record are places of it
pub origins-below : (r : List Entry) → IsLegal r → AllByRecursion (λ i. i < length r) (origins r)
origins-below r l = legal_induction (λ x. AllByRecursion (λ i. i < length x) (origins x)) none_below more_below r l

-- ---- one entry more

pub origins_times : (i : ℕ) (r : List Entry) (e : Entry) → times i (origins (r ++ e ∷ [])) ≡ times i (origins r) + times i (sources_by r e.step e.reply)
origins_times i r e = ap (times i) (origins-snoc r e) ∙ times-append i (origins r) (sources_by r e.step e.reply)

-- what an entry adds to an id's places
abbrev pub added : List Entry → Entry → TransactionId → List ℕ
added r e t = cond (is_under t e) (length r ∷ []) []

pub places_times : (i : ℕ) (r : List Entry) (e : Entry) (t : TransactionId) → declares t e ≡ false → undischarged r t ≡ true → times i (frame_places (r ++ e ∷ []) t) ≡ times i (frame_places r t) + times i (added r e t)
places_times i r e t d u = ap (times i) (places-other r e t d u) ∙ times-append i (frame_places r t) (added r e t)

-- an id that is undischarged after the entry: newly declared, or undischarged before and not discharged by it
pub data After (r : List Entry) (e : Entry) (t : TransactionId) : Type 0 where
  New : frame_places (r ++ e ∷ []) t ≡ [] → After r e t
  Old : declares t e ≡ false → undischarged r t ≡ true → discharges t e ≡ false → After r e t

not_true : (b : Bool) → not b ≡ true → b ≡ false
not_true true h = cc h
not_true false h = refl

pub after : (r : List Entry) (e : Entry) (t : TransactionId) → undischarged (r ++ e ∷ []) t ≡ true → After r e t
after r e t h = by_case (declares t e) refl
  where
    by_case : (b : Bool) → declares t e ≡ b → After r e t
    by_case true d = New (places-declared r e t d)
    by_case false d =
        let p = and_parts (undischarged r t) (not (discharges t e)) (sym (undischarged-other r e t d) ∙ h) in
        Old d p.0 (not_true (discharges t e) p.1)

added_times : (i : ℕ) (r : List Entry) (e : Entry) (t : TransactionId) (b : Bool) → is_under t e ≡ b → times i (added r e t) ≡ cond b (times i (length r ∷ [])) 0
added_times i r e t true h = ap (λ b. times i (cond b (length r ∷ []) [])) h
added_times i r e t false h = ap (λ b. times i (cond b (length r ∷ []) [])) h

none_added : (i : ℕ) (r : List Entry) (e : Entry) (t : TransactionId) → is_under t e ≡ false → times i (added r e t) ≡ 0
none_added i r e t h = added_times i r e t false h

pub added_least : (i : ℕ) (r : List Entry) (e : Entry) (t : TransactionId) → times i (added r e t) ≤ times i (length r ∷ [])
added_least i r e t = by_case (is_under t e) refl
  where
    by_case : (b : Bool) → is_under t e ≡ b → times i (added r e t) ≤ times i (length r ∷ [])
    by_case true h = omega (arith, added_times i r e t true h)
    by_case false h = omega (arith, added_times i r e t false h)

-- two ids don't both get it
added_apart : (i : ℕ) (r : List Entry) (e : Entry) (t u : TransactionId) → same_id t u ≡ false → times i (added r e t) + times i (added r e u) ≤ times i (length r ∷ [])
added_apart i r e t u n = by_case (is_under t e) (is_under u e) refl refl
  where
    by_case : (a b : Bool) → is_under t e ≡ a → is_under u e ≡ b → times i (added r e t) + times i (added r e u) ≤ times i (length r ∷ [])
    by_case true true h g = let s : true ≡ false = sym (under_one t u e.step h g) ∙ n in cc s
    by_case false b h g = omega (arith, added_times i r e t false h, added_least i r e u)
    by_case true false h g = omega (arith, added_times i r e t true h, added_times i r e u false g)

pub discharged_other : (t u : TransactionId) (s : Step) (reply : Reply) → step_discharges u s reply ≡ true → step_discharges t s reply ≡ false → same_id t u ≡ false
discharged_other t u s reply h g = by_case (same_id t u) refl
  where
    by_case : (b : Bool) → same_id t u ≡ b → same_id t u ≡ false
    by_case false e = e
    by_case true e =
        let P : TransactionId → Type 0 = λ x. step_discharges x s reply ≡ true in
        let c : step_discharges t s reply ≡ true = subst P (sym (same_id-eq t u e)) h in
        let f : true ≡ false = sym c ∙ g in cc f

-- no place was handed twice, none that is kept was handed, and none is kept under two ids
pub record Once (r : List Entry) : Type 0 where
  pub handed : (i : ℕ) → times i (origins r) ≤ 1
  pub kept : (i : ℕ) (t : TransactionId) → undischarged r t ≡ true → times i (frame_places r t) + times i (origins r) ≤ 1
  pub apart : (i : ℕ) (t u : TransactionId) → undischarged r t ≡ true → undischarged r u ≡ true → same_id t u ≡ false → times i (frame_places r t) + times i (frame_places r u) + times i (origins r) ≤ 1

-- the sums of what an entry leaves, for one place
record Sums (i : ℕ) (r : List Entry) (e : Entry) : Type 0 where
  handed : times i (origins r) + times i (sources_by r e.step e.reply) ≤ 1
  kept : (t : TransactionId) → undischarged r t ≡ true → discharges t e ≡ false → times i (frame_places r t) + times i (added r e t) + (times i (origins r) + times i (sources_by r e.step e.reply)) ≤ 1
  apart : (t u : TransactionId) → undischarged r t ≡ true → undischarged r u ≡ true → discharges t e ≡ false → discharges u e ≡ false → same_id t u ≡ false → times i (frame_places r t) + times i (added r e t) + (times i (frame_places r u) + times i (added r e u)) + (times i (origins r) + times i (sources_by r e.step e.reply)) ≤ 1

sums : (i : ℕ) (r : List Entry) (e : Entry) → IsLegal r → Once r → Hands r e.step e.reply → Sums i r e
sums i r e l o (Nothing s) =
    let z : times i (sources_by r e.step e.reply) ≡ 0 = ap (times i) s in
    by_own (own_or (length r) i) z
  where
    by_own : (times i (length r ∷ []) ≡ 0) ⊎ ((times i (length r ∷ []) ≡ 1) × (length r ≡ i)) → times i (sources_by r e.step e.reply) ≡ 0 → Sums i r e
    by_own (inl h) z = record {
      handed = omega (arith, z, o.handed i);
      kept = λ t u d. omega (arith, z, h, added_least i r e t, o.kept i t u);
      apart = λ t u a b d f n. omega (arith, z, h, added_least i r e t, added_least i r e u, o.apart i t u a b n);
    }
    by_own (inr h) z =
        let oz : times i (origins r) ≡ 0 = times-below (length r) i (origins r) (origins-below r l) (omega (arith, h.1)) in
        let mz : (t : TransactionId) → times i (frame_places r t) ≡ 0 = λ t. times-below (length r) i (frame_places r t) (places-below r t) (omega (arith, h.1)) in record {
          handed = omega (arith, z, oz);
          kept = λ t u d. omega (arith, z, oz, mz t, h.0, added_least i r e t);
          apart = λ t u a b d f n. omega (arith, z, oz, mz t, mz u, h.0, added_apart i r e t u n);
        }
sums i r e l o (Itself s n) =
    let z : times i (sources_by r e.step e.reply) ≡ times i (length r ∷ []) = ap (times i) s in
    by_own (own_or (length r) i) z
  where
    by_own : (times i (length r ∷ []) ≡ 0) ⊎ ((times i (length r ∷ []) ≡ 1) × (length r ≡ i)) → times i (sources_by r e.step e.reply) ≡ times i (length r ∷ []) → Sums i r e
    by_own (inl h) z = record {
      handed = omega (arith, z, h, o.handed i);
      kept = λ t u d. omega (arith, z, h, none_added i r e t (n t), o.kept i t u);
      apart = λ t u a b d f n2. omega (arith, z, h, none_added i r e t (n t), none_added i r e u (n u), o.apart i t u a b n2);
    }
    by_own (inr h) z =
        let oz : times i (origins r) ≡ 0 = times-below (length r) i (origins r) (origins-below r l) (omega (arith, h.1)) in
        let mz : (t : TransactionId) → times i (frame_places r t) ≡ 0 = λ t. times-below (length r) i (frame_places r t) (places-below r t) (omega (arith, h.1)) in record {
          handed = omega (arith, z, oz, h.0);
          kept = λ t u d. omega (arith, z, oz, mz t, h.0, none_added i r e t (n t));
          apart = λ t u a b d f n2. omega (arith, z, oz, mz t, mz u, h.0, none_added i r e t (n t), none_added i r e u (n u));
        }
sums i r e l o (Commits v s c) =
    let z : times i (sources_by r e.step e.reply) ≡ times i (frame_places r v) = ap (times i) s in
    let w : undischarged r v ≡ true = live_undischarged r v c.live in record {
      handed = omega (arith, z, o.kept i v w);
      kept = λ t u d. omega (arith, z, none_added i r e t (c.control t), o.apart i t v u w (discharged_other t v e.step e.reply c.discharges d));
      apart = λ t u a b d f n. omega (arith, z, none_added i r e t (c.control t), none_added i r e u (c.control u), o.apart i t u a b n, o.apart i t v a w (discharged_other t v e.step e.reply c.discharges d), o.apart i u v b w (discharged_other u v e.step e.reply c.discharges f));
    }

new_none : (i : ℕ) (xs : List ℕ) → xs ≡ [] → times i xs ≡ 0
new_none i xs h = ap (times i) h

more_once : (r : List Entry) (e : Entry) → IsLegal r → Once r → Hands r e.step e.reply → Once (r ++ e ∷ [])
more_once r e l o h = record {
  handed = λ i. let s = sums i r e l o h in omega (arith, origins_times i r e, s.handed);
  kept = λ i t u. kept_after i t (after r e t u);
  apart = λ i t u a b n. apart_after i t u n (after r e t a) (after r e u b);
}
  where
    kept_after : (i : ℕ) (t : TransactionId) → After r e t → times i (frame_places (r ++ e ∷ []) t) + times i (origins (r ++ e ∷ [])) ≤ 1
    kept_after i t (New m) = let s = sums i r e l o h in omega (arith, origins_times i r e, s.handed, new_none i (frame_places (r ++ e ∷ []) t) m)
    kept_after i t (Old d u x) = let s = sums i r e l o h in omega (arith, origins_times i r e, places_times i r e t d u, s.kept t u x)

    apart_after : (i : ℕ) (t u : TransactionId) → same_id t u ≡ false → After r e t → After r e u → times i (frame_places (r ++ e ∷ []) t) + times i (frame_places (r ++ e ∷ []) u) + times i (origins (r ++ e ∷ [])) ≤ 1
    apart_after i t u n (New m) (New k) = let s = sums i r e l o h in omega (arith, origins_times i r e, s.handed, new_none i (frame_places (r ++ e ∷ []) t) m, new_none i (frame_places (r ++ e ∷ []) u) k)
    apart_after i t u n (Old d a x) (New k) = let s = sums i r e l o h in omega (arith, origins_times i r e, places_times i r e t d a, s.kept t a x, new_none i (frame_places (r ++ e ∷ []) u) k)
    apart_after i t u n (New k) (Old d a x) = let s = sums i r e l o h in omega (arith, origins_times i r e, places_times i r e u d a, s.kept u a x, new_none i (frame_places (r ++ e ∷ []) t) k)
    apart_after i t u n (Old d a x) (Old f b y) = let s = sums i r e l o h in omega (arith, origins_times i r e, places_times i r e t d a, places_times i r e u f b, s.apart t u a b x y n)

none_once : Once []
unfolding undischarged since origins
none_once = record { handed = λ i. omega arith; kept = λ i t u. cc u; apart = λ i t u a b n. cc a }

-- each place is handed once at most
pub once : (r : List Entry) → IsLegal r → Once r
once r l = (legal_induction (λ x. IsLegal x × Once x) (IsLegal-nil, none_once) (λ x e p a. (IsLegal-snoc x e p.0 a, more_once x e p.0 p.1 (hands_what x e.step e.drawn.ids e.reply a))) r l).1
