-- What workers give back, put together one after another.
use Rattle.std.proofs.Common.{◌≡◌, ℕ, ◌+◌, ◌-◌, ◌*◌, ◌/◌, ◌≤◌, ◌==◌, Bool, true, false, cond, List, [], ◌∷◌, ◌++◌, length-append, count_by, refl, ◌∙◌, ap, subst, arith}
use Rattle.std.proofs.lemmas.Bool.Decides.{nat_tests}
use Rattle.std.proofs.lemmas.List.Sums.{sum_by-append, sum_by-cons}
use Rattle.amqp_txn_types.specs.declared.id.TransactionId.{TransactionId}
use Rattle.amqp_resource_record.specs.declared.step.Step.{Step}
use Rattle.amqp_resource_shared.specs.Receipts.{code_told, is_told, step_told}
use Rattle.amqp_resource_shared.specs.declared.receipt.Receipt.{Receipt}
use Rattle.txn_program_threads.specs.Gathered.{EachStepAmong, IsGathered, IsStepAmong}
use Rattle.txn_program_threads.specs.Tallies.{IsTallyOf, attached, closed, declared, ended, posted, refused, tally_of}
use Rattle.txn_program_threads.specs.WorkerSteps.{IsWorkerStep, attaches, attaches_on, declares, discharges, posts, worker_attach}
use Rattle.txn_program_threads.specs.Works.{EachStepIn, IsWork, StillTold, attach_told, gives_id, gives_link}
use Rattle.txn_program_threads.proofs.Working.{any-after, declare-no_attach, discharge-no_attach, post-no_attach, step-map, told-append}

count-append : {X : Type 0} (p : X → Bool) (xs ys : List X) → count_by p (xs ++ ys) ≡ count_by p xs + count_by p ys
count-append p xs ys = sum_by-append (λ x. cond (p x) 1 0) xs ys

-- so many times a number, and once more
once-more : (made k : ℕ) → (made + 1) * k ≡ made * k + k
once-more made k = grind arith

joined : {all front back : ℕ} (made k : ℕ) → all ≡ front + back → front ≡ made * k → back ≡ 1 * k → all ≡ (made + 1) * k
joined made k e f g = let m = once-more made k in omega (arith, e, f, g, m)

joined-twice : {all front back : ℕ} (made k : ℕ) → all ≡ front + back → front ≡ 2 * (made * k) → back ≡ 2 * (1 * k) → all ≡ 2 * ((made + 1) * k)
joined-twice made k e f g = let m = once-more made k in omega (arith, e, f, g, m)

joined-plain : {all front back : ℕ} (made : ℕ) → all ≡ front + back → front ≡ made → back ≡ 1 → all ≡ made + 1
joined-plain made e f g = omega arith

joined-none : {all front back : ℕ} → all ≡ front + back → front ≡ 0 → back ≡ 0 → all ≡ 0
joined-none e f g = omega arith

-- the tallies of so many workers and of one more
tally-more : (made rounds : ℕ) (xs ys : List Receipt) → IsTallyOf made rounds (tally_of is_told xs) → IsTallyOf 1 rounds (tally_of is_told ys) → IsTallyOf (made + 1) rounds (tally_of is_told (xs ++ ys))
tally-more made rounds xs ys was one = record {
  all = joined made (1 + 4 * rounds) (length-append xs ys) was.all one.all;
  attached = joined-plain made (count-append (is_told attached) xs ys) was.attached one.attached;
  declared = joined made rounds (count-append (is_told declared) xs ys) was.declared one.declared;
  posted = joined-twice made rounds (count-append (is_told posted) xs ys) was.posted one.posted;
  commits = joined made (rounds - rounds / 3) (count-append (is_told (ended false)) xs ys) was.commits one.commits;
  rollbacks = joined made (rounds / 3) (count-append (is_told (ended true)) xs ys) was.rollbacks one.rollbacks;
  refused = joined-none (count-append (is_told refused) xs ys) was.refused one.refused;
}

-- what the front told stays told, and so does what the back told
told-behind : (front back : List Receipt) → StillTold back (front ++ back)
told-behind front back = record {
  link = λ k e. any-after (λ (r : Receipt). gives_link k (code_told r)) front back e;
  id = λ t e. any-after (λ (r : Receipt). gives_id t (code_told r)) front back e;
}

among-still : (all more : List Receipt) (w n : ℕ) (s : Step) → StillTold all more → IsStepAmong all w n s → IsStepAmong more w n s
among-still all more w n s told is = (is.0, is.1, is.2, step-map told.link told.id is.0 n s is.3)

each-still : (all more : List Receipt) (w n : ℕ) (rs : List Receipt) → StillTold all more → EachStepAmong all w n rs → EachStepAmong more w n rs
each-still all more w n [] told a = tt
each-still all more w n (r ∷ rs) told a = (among-still all more w n (step_told r) told a.0, each-still all more w n rs told a.1)

each-join : (all : List Receipt) (w n : ℕ) (xs ys : List Receipt) → EachStepAmong all w n xs → EachStepAmong all w n ys → EachStepAmong all w n (xs ++ ys)
each-join all w n [] ys a b = b
each-join all w n (x ∷ xs) ys a b = (a.0, each-join all w n xs ys a.1 b)

each-of_worker : (all : List Receipt) (w n number : ℕ) (rs : List Receipt) → 1 ≤ number → number ≤ w → EachStepIn all number n rs → EachStepAmong all w n rs
each-of_worker all w n number [] low high a = tt
each-of_worker all w n number (r ∷ rs) low high a = ((number, low, high, a.0), each-of_worker all w n number rs low high a.1)

steps-more : (w n number : ℕ) (xs ys : List Receipt) → 1 ≤ number → number ≤ w → EachStepAmong xs w n xs → EachStepIn ys number n ys → EachStepAmong (xs ++ ys) w n (xs ++ ys)
steps-more w n number xs ys low high a b =
    each-join (xs ++ ys) w n xs ys
    (each-still xs (xs ++ ys) w n xs (told-append xs ys) a)
    (each-still ys (xs ++ ys) w n ys (told-behind xs ys) (each-of_worker ys w n number ys low high b))

joined-few : {all front back : ℕ} (made k : ℕ) → all ≡ front + back → front ≤ made * k → back ≤ k → all ≤ (made + 1) * k
joined-few made k e f g = let m = once-more made k in omega (arith, e, f, g, m)

joined-most : {all front back : ℕ} (made : ℕ) → all ≡ front + back → front ≤ made → back ≤ 1 → all ≤ made + 1
joined-most made e f g = omega arith

-- what one worker more gave back
pub gathered-more : (w n made number parts count : ℕ) (xs ys : List Receipt) (done all both : Bool) → IsGathered w n made xs done → 1 ≤ number → number ≤ w → IsWork number n parts count ys all → (both ≡ true → (done ≡ true) × (all ≡ true)) → IsGathered w n (made + 1) (xs ++ ys) both
gathered-more w n made number parts count xs ys done all both was low high one two =
    record {
      few = joined-few made (1 + 4 * n) (length-append xs ys) was.few one.few;
      whole = λ e. tally-more made n xs ys (was.whole (two e).0) (one.whole (two e).1);
      steps = steps-more w n number xs ys low high was.steps one.made.steps;
      closed = joined-none (count-append (is_told closed) xs ys) was.closed one.made.closed;
      refused = joined-most made (count-append (is_told refused) xs ys) was.refused one.made.refused;
    }

pub none-gathered : (w n : ℕ) → IsGathered w n 0 [] true
none-gathered w n = record {
  few = omega arith;
  whole = λ e. record { all = omega arith; attached = refl; declared = omega arith; posted = omega arith; commits = omega arith; rollbacks = omega arith; refused = refl };
  steps = tt;
  closed = refl;
  refused = omega arith;
}

-- ---- attaches

attach-handle : (number handle : ℕ) → attaches_on handle (worker_attach number) ≡ (number == handle)
unfolding worker_attach
attach-handle number handle = refl

attach-other : {L : ℕ → Type 0} {I : TransactionId → Type 0} (handle number n : ℕ) (s : Step) → (number == handle) ≡ false → IsWorkerStep L I number n s → attaches_on handle s ≡ false
attach-other handle number n s apart (attaches e) = ap (attaches_on handle) e ∙ attach-handle number handle ∙ apart
attach-other handle number n s apart (declares k link e) = declare-no_attach handle k s e
attach-other handle number n s apart (posts t d id low e) = post-no_attach handle number d t s e
attach-other handle number n s apart (discharges k t m link id low high e) = discharge-no_attach handle k m t s e

no-attach : (all : List Receipt) (handle number n : ℕ) (rs : List Receipt) → (number == handle) ≡ false → EachStepIn all number n rs → count_by (attach_told handle) rs ≡ 0
no-attach all handle number n [] apart a = refl
no-attach all handle number n (r ∷ rs) apart a =
    let here : attach_told handle r ≡ false = attach-other handle number n (step_told r) apart a.0 in
    sum_by-cons (λ x. cond (attach_told handle x) 1 0) r rs ∙ ap (λ b. cond b 1 0 + count_by (attach_told handle) rs) here ∙ omega (arith, no-attach all handle number n rs apart a.1)

attach-at : (all : List Receipt) (handle number n : ℕ) (rs : List Receipt) (b : Bool) → (number == handle) ≡ b → count_by (attach_told number) rs ≤ 1 → EachStepIn all number n rs → count_by (attach_told handle) rs ≤ cond b 1 0
attach-at all handle number n rs true e once a =
    let same : number ≡ handle = grind (arith, nat_tests, e) in
    let P : ℕ → Type 0 = λ h. count_by (attach_told h) rs ≤ 1 in
    subst P same once
attach-at all handle number n rs false e once a = omega (arith, no-attach all handle number n rs e a)

-- attaches on handles above those that are left, at most one on each
pub record AttachOnce (left : ℕ) (rs : List Receipt) : Type 0 where
  pub later : (i : ℕ) → i ≤ left → count_by (attach_told i) rs ≡ 0
  pub once : (i : ℕ) → count_by (attach_told i) rs ≤ 1

once-at : (left i before more now : ℕ) (b : Bool) → (left + 1 == i) ≡ b → (i ≤ left + 1 → before ≡ 0) → before ≤ 1 → more ≤ cond b 1 0 → now ≡ before + more → (i ≤ left → now ≡ 0) × (now ≤ 1)
once-at left i before more now true e none once few all =
    let same : left + 1 ≡ i = grind (arith, nat_tests, e) in
    let was : before ≡ 0 = none (omega (arith, same)) in
    (λ l. absurd (omega (arith, l, same)), omega (arith, was, few, all))
once-at left i before more now false e none once few all =
    (λ l. omega (arith, none (omega (arith, l)), few, all), omega (arith, once, few, all))

pub attach-once-more : (left n parts count : ℕ) (xs ys : List Receipt) (done : Bool) → AttachOnce (left + 1) xs → IsWork (left + 1) n parts count ys done → AttachOnce left (xs ++ ys)
attach-once-more left n parts count xs ys done was work =
    let both = λ (i : ℕ). once-at left i (count_by (attach_told i) xs) (count_by (attach_told i) ys) (count_by (attach_told i) (xs ++ ys)) (left + 1 == i) refl (was.later i) (was.once i)
    (attach-at ys i (left + 1) n ys (left + 1 == i) refl work.made.once work.made.steps) (count-append (attach_told i) xs ys) in
    record { later = λ i. (both i).0; once = λ i. (both i).1 }
