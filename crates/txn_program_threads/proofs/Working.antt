-- The receipts of a worker, with one more at a time.
use Rattle.std.proofs.Common.{◌≡◌, ℕ, ◌+◌, ◌≤◌, Bool, true, false, cond, ◌||◌, List, [], ◌∷◌, ◌++◌, count_by, refl, sym, ◌∙◌, ap, subst, arith}
use Rattle.std.specs.List.{list_any}
use Rattle.std.proofs.lemmas.List.Folds.{list_any-append}
use Rattle.std.proofs.lemmas.List.Sums.{sum_by_push}
use Rattle.amqp_txn_types.specs.declared.id.TransactionId.{TransactionId}
use Rattle.amqp_resource_record.specs.declared.step.Step.{Step}
use Rattle.amqp_resource_shared.specs.Receipts.{code_told, is_told, step_told}
use Rattle.amqp_resource_shared.specs.declared.receipt.Receipt.{Receipt}
use Rattle.amqp_resource_shared.specs.declared.reply_code.ReplyCode.{ReplyCode}
use Rattle.amqp_resource_shared.specs.declared.reply_code.ReplyCode.TheVariants as codes
use Rattle.amqp_resource_record.proofs.Ids.{same_id-refl}
use Rattle.txn_program_threads.specs.Tallies.{closed, refused}
use Rattle.txn_program_threads.specs.WorkerSteps.{IsWorkerStep, attaches, attaches_on, declares, discharges, posts, worker_attach, worker_declare, worker_discharge, worker_post}
use Rattle.txn_program_threads.specs.Works.{AreOfWorker, EachStepIn, GainedOne, IsStepIn, NoneRefused, StillTold, ToldId, attach_told, gives_id, gives_link}

-- a worker's step, whose links and ids are also of others
pub step-map : {L M : ℕ → Type 0} {I J : TransactionId → Type 0} → ((k : ℕ) → L k → M k) → ((t : TransactionId) → I t → J t) → (w n : ℕ) (s : Step) → IsWorkerStep L I w n s → IsWorkerStep M J w n s
step-map f g w n s (attaches e) = attaches e
step-map f g w n s (declares k link e) = declares k (f k link) e
step-map f g w n s (posts t d id low e) = posts t d (g t id) low e
step-map f g w n s (discharges k t m link id low high e) = discharges k t m (f k link) (g t id) low high e

or-left : (a b : Bool) → a ≡ true → (a || b) ≡ true
or-left a b e = ap (λ x. x || b) e

-- what was told stays told
pub any-more : {X : Type 0} (p : X → Bool) (xs ys : List X) → list_any p xs ≡ true → list_any p (xs ++ ys) ≡ true
any-more p xs ys e = list_any-append p xs ys ∙ or-left (list_any p xs) (list_any p ys) e

or-right : (a b : Bool) → b ≡ true → (a || b) ≡ true
or-right true b e = refl
or-right false b e = e

pub any-last : {X : Type 0} (p : X → Bool) (xs : List X) (x : X) → p x ≡ true → list_any p (xs ++ x ∷ []) ≡ true
any-last p xs x e = list_any-append p xs (x ∷ []) ∙ or-right (list_any p xs) (list_any p (x ∷ [])) (or-left (p x) false e)

pub any-after : {X : Type 0} (p : X → Bool) (xs ys : List X) → list_any p ys ≡ true → list_any p (xs ++ ys) ≡ true
any-after p xs ys e = list_any-append p xs ys ∙ or-right (list_any p xs) (list_any p ys) e

pub told-append : (rs more : List Receipt) → StillTold rs (rs ++ more)
told-append rs more = record {
  link = λ k e. any-more (λ (r : Receipt). gives_link k (code_told r)) rs more e;
  id = λ t e. any-more (λ (r : Receipt). gives_id t (code_told r)) rs more e;
}

pub told-gained : (old new : List Receipt) (s : Step) (c : ReplyCode) → GainedOne old new s c → StillTold old new
told-gained old new s c g = let P : List Receipt → Type 0 = λ l. StillTold old l in subst P (sym g.1.receipts) (told-append old (g.0 ∷ []))

pub told-same : (old new : List Receipt) → new ≡ old → StillTold old new
told-same old new e = let P : List Receipt → Type 0 = λ l. StillTold old l in subst P (sym e) (record { link = λ k told. told; id = λ t told. told })

pub told-then : (a b c : List Receipt) → StillTold a b → StillTold b c → StillTold a c
told-then a b c x y = record { link = λ k told. y.link k (x.link k told); id = λ t told. y.id t (x.id t told) }

pub steps-lift : (all more : List Receipt) (w n : ℕ) (rs : List Receipt) → StillTold all more → EachStepIn all w n rs → EachStepIn more w n rs
steps-lift all more w n [] told a = tt
steps-lift all more w n (r ∷ rs) told a = (step-map told.link told.id w n (step_told r) a.0, steps-lift all more w n rs told a.1)

steps-push : (all : List Receipt) (w n : ℕ) (rs : List Receipt) (r : Receipt) → EachStepIn all w n rs → IsStepIn all w n (step_told r) → EachStepIn all w n (rs ++ r ∷ [])
steps-push all w n [] r a is = (is, tt)
steps-push all w n (x ∷ rs) r a is = (a.0, steps-push all w n rs r a.1 is)

count-push : {X : Type 0} (p : X → Bool) (xs : List X) (x : X) (b : Bool) → p x ≡ b → count_by p (xs ++ x ∷ []) ≡ count_by p xs + cond b 1 0
count-push p xs x b e = sum_by_push (λ y. cond (p y) 1 0) xs x ∙ ap (λ y. count_by p xs + cond y 1 0) e

-- the same receipts are still a worker's
pub same-worker : (w n : ℕ) (old new : List Receipt) → new ≡ old → AreOfWorker w n old → AreOfWorker w n new
same-worker w n old new e is = let P : List Receipt → Type 0 = λ l. AreOfWorker w n l in subst P (sym e) is

pub nothing-made : (w n : ℕ) (rs : List Receipt) → rs ≡ [] → AreOfWorker w n rs
nothing-made w n rs e = same-worker w n [] rs e (record { steps = tt; once = omega arith; closed = refl; refused = omega arith })

at-most-one : (b : Bool) (n : ℕ) → n ≡ 0 → n + cond b 1 0 ≤ 1
at-most-one true n e = omega (arith, e)
at-most-one false n e = omega (arith, e)

-- one more, after none
one-at-most : {X : Type 0} (p : X → Bool) (xs : List X) (x : X) → count_by p xs ≡ 0 → count_by p (xs ++ x ∷ []) ≤ 1
one-at-most p xs x none = let P : ℕ → Type 0 = λ n. n ≤ 1 in subst P (sym (count-push p xs x (p x) refl)) (at-most-one (p x) (count_by p xs) none)

-- one receipt more, of a step that isn't an attach
pub one-more : (w n : ℕ) (old new : List Receipt) (s : Step) (c : ReplyCode) → AreOfWorker w n old → NoneRefused old → GainedOne old new s c → IsStepIn old w n s → attaches_on w s ≡ false → AreOfWorker w n new
one-more w n old new s c is good g step apart =
    let r = g.0 in
    let all : List Receipt = old ++ r ∷ [] in
    let told = told-append old (r ∷ []) in
    let here : IsStepIn all w n (step_told r) = step-map told.link told.id w n (step_told r) (subst (λ (x : Step). IsStepIn old w n x) (sym g.1.step) step) in
    let none : attach_told w r ≡ false = ap (attaches_on w) g.1.step ∙ apart in
    let once : count_by (attach_told w) all ≡ count_by (attach_told w) old + 0 = count-push (attach_told w) old r false none in
    let shut : count_by (is_told closed) all ≡ count_by (is_told closed) old + 0 = count-push (is_told closed) old r false g.2 in
    let last = one-at-most (is_told refused) old r good in
    same-worker w n all new g.1.receipts
    (record {
      steps = steps-push all w n old r (steps-lift old all w n old told is.steps) here;
      once = omega (arith, once, is.once);
      closed = omega (arith, shut, is.closed);
      refused = last;
    })

one-or-none : (b : Bool) → 0 + cond b 1 0 ≤ 1
one-or-none true = omega arith
one-or-none false = omega arith

count-one : {X : Type 0} (p : X → Bool) (x : X) → count_by p (x ∷ []) ≤ 1
count-one p x = one-or-none (p x)

-- the first receipt, of the attach
pub first-made : (w n : ℕ) (old new : List Receipt) (s : Step) (c : ReplyCode) → old ≡ [] → GainedOne old new s c → s ≡ worker_attach w → AreOfWorker w n new
first-made w n old new s c none g is =
    let r = g.0 in
    let all : List Receipt = r ∷ [] in
    let here : IsStepIn all w n (step_told r) = attaches (g.1.step ∙ is) in
    let shut : count_by (is_told closed) ([] ++ r ∷ []) ≡ 0 + 0 = count-push (is_told closed) [] r false g.2 in
    same-worker w n all new (g.1.receipts ∙ ap (λ l. l ++ r ∷ []) none)
    (record {
      steps = (here, tt);
      once = count-one (attach_told w) r;
      closed = shut;
      refused = count-one (is_told refused) r;
    })

-- the steps that aren't attaches
pub declare-no_attach : (w k : ℕ) (s : Step) → s ≡ worker_declare k → attaches_on w s ≡ false
unfolding worker_declare
declare-no_attach w k s e = ap (attaches_on w) e

pub post-no_attach : (w v d : ℕ) (t : TransactionId) (s : Step) → s ≡ worker_post v d t → attaches_on w s ≡ false
unfolding worker_post
post-no_attach w v d t s e = ap (attaches_on w) e

pub discharge-no_attach : (w k m : ℕ) (t : TransactionId) (s : Step) → s ≡ worker_discharge k t m → attaches_on w s ≡ false
unfolding worker_discharge
discharge-no_attach w k m t s e = ap (attaches_on w) e

-- the id that a declare was answered with is told
pub told-id : (old new : List Receipt) (s : Step) (c : ReplyCode) (t : TransactionId) → GainedOne old new s c → c ≡ codes.Declared t → ToldId new t
told-id old new s c t g e =
    let is : code_told g.0 ≡ codes.Declared t = g.1.code ∙ e in
    let gives : gives_id t (code_told g.0) ≡ true = ap (gives_id t) is ∙ same_id-refl t in
    let P : List Receipt → Type 0 = λ l. ToldId l t in
    subst P (sym g.1.receipts) (any-last (λ (r : Receipt). gives_id t (code_told r)) old g.0 gives)

-- the receipts of a worker, by its number
pub of-number : (w v n : ℕ) (rs : List Receipt) → w ≡ v → AreOfWorker w n rs → AreOfWorker v n rs
of-number w v n rs e is = let P : ℕ → Type 0 = λ m. AreOfWorker m n rs in subst P e is
