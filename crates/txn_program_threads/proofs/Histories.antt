-- What receipts that are the history say of it.
use Rattle.std.proofs.Common.{◌≡◌, ℕ, suc, zero, ◌≤◌, ◌||◌, eqb, Bool, true, false, Some, List, [], ◌∷◌, length, slice_get, count_by, refl, sym, ◌∙◌, ap, subst}
use Rattle.std.specs.List.{IsDistinct, list_any}
use Rattle.amqp_resource_record.specs.declared.entry.Entry.{Entry}
use Rattle.amqp_resource_record.specs.declared.step.Step.{Step}
use Rattle.amqp_resource_shared.specs.Receipts.{EachOfEntry, HasReceipt, code_told, is_recorded, numbers_of, step_told}
use Rattle.amqp_resource_shared.specs.ReplyCodes.{code_of_reply}
use Rattle.amqp_resource_shared.specs.declared.receipt.Receipt.{Receipt}
use Rattle.amqp_resource_shared.specs.declared.reply_code.ReplyCode.{ReplyCode}
use Rattle.amqp_resource_shared.proofs.ReceiptLaws.{entry-receipt, kinds-agree}
use Rattle.txn_program_threads.specs.Gathered.{EachStepAmong, IsGathered, IsStepAmong}
use Rattle.txn_program_threads.specs.Histories.{AreOfWorkers, IsStepOfWorkers}
use Rattle.txn_program_threads.specs.Tallies.{IsTallyOf, Kind, attached, closed, declared, ended, posted, refused, tally_of}
use Rattle.txn_program_threads.specs.WorkerSteps.{attaches_on}
use Rattle.txn_program_threads.specs.Works.{attach_told, gives_id, gives_link}
use Rattle.txn_program_threads.proofs.Statuses.{refused-counted}
use Rattle.txn_program_threads.proofs.Working.{step-map}

or-first : (a b : Bool) → a ≡ true → (a || b) ≡ true
or-first a b e = ap (λ x. x || b) e

or-second : (a b : Bool) → b ≡ true → (a || b) ≡ true
or-second true b e = refl
or-second false b e = e

-- an entry at a place passes
any-at : {X : Type 0} (p : X → Bool) (xs : List X) (n : ℕ) (x : X) → slice_get xs n ≡ Some x → p x ≡ true → list_any p xs ≡ true
any-at p [] n x at e = absurd (cc at)
any-at p (y ∷ xs) zero x at e = let same : y ≡ x = cc at in or-first (p y) (list_any p xs) (ap p same ∙ e)
any-at p (y ∷ xs) (suc n) x at e = or-second (p y) (list_any p xs) (any-at p xs n x at e)

-- the code of a receipt is that of its entry
gave-at : (q : ReplyCode → Bool) (es : List Entry) (r : Receipt) (rs : List Receipt) (b : Bool) → q (code_told r) ≡ b → (b || list_any (λ (x : Receipt). q (code_told x)) rs) ≡ true → EachOfEntry es (r ∷ rs) → (list_any (λ (x : Receipt). q (code_told x)) rs ≡ true → list_any (λ (e : Entry). q (code_of_reply e.reply)) es ≡ true) → list_any (λ (e : Entry). q (code_of_reply e.reply)) es ≡ true
gave-at q es r rs true here any each rest = any-at (λ (e : Entry). q (code_of_reply e.reply)) es _ each.0.0 each.0.1 (ap q (sym each.0.2.code) ∙ here)
gave-at q es r rs false here any each rest = rest any

-- what receipts told, the history gave
gave : (q : ReplyCode → Bool) (es : List Entry) (rs : List Receipt) → EachOfEntry es rs → list_any (λ (x : Receipt). q (code_told x)) rs ≡ true → list_any (λ (e : Entry). q (code_of_reply e.reply)) es ≡ true
gave q es [] each any = absurd (cc any)
gave q es (r ∷ rs) each any = gave-at q es r rs (q (code_told r)) refl any each (gave q es rs each.1)

step-among : (all : List Receipt) (w n : ℕ) (rs : List Receipt) (i : ℕ) (r : Receipt) → EachStepAmong all w n rs → slice_get rs i ≡ Some r → IsStepAmong all w n (step_told r)
step-among all w n [] i r a at = absurd (cc at)
step-among all w n (x ∷ rs) zero r a at = let same : x ≡ r = cc at in subst (λ (y : Receipt). IsStepAmong all w n (step_told y)) same a.0
step-among all w n (x ∷ rs) (suc i) r a at = step-among all w n rs i r a.1 at

entry-step : (w n : ℕ) (es : List Entry) (rs : List Receipt) → EachOfEntry es rs → EachStepAmong rs w n rs → (k : ℕ) (e : Entry) → HasReceipt rs k e → IsStepOfWorkers es w n e.step
entry-step w n es rs each steps k e has =
    let is = step-among rs w n rs has.1.0 has.0 steps has.1.1 in
    let mine = step-map (λ k told. gave (gives_link k) es rs each told) (λ t told. gave (gives_id t) es rs each told) is.0 n (step_told has.0) is.3 in
    let all : IsStepOfWorkers es w n (step_told has.0) = (is.0, is.1, is.2, mine) in
    subst (λ (s : Step). IsStepOfWorkers es w n s) has.3.step all

pub are-of_workers : (w n : ℕ) (es : List Entry) (rs : List Receipt) (done : Bool) → IsDistinct eqb (numbers_of rs) → EachOfEntry es rs → length rs ≡ length es → IsGathered w n w rs done → ((i : ℕ) → count_by (attach_told i) rs ≤ 1) → AreOfWorkers w n es
are-of_workers w n es rs done distinct each count got once = record {
  steps = λ number e at. entry-step w n es rs each got.steps number e (entry-receipt rs es distinct each count number e at);
  once = λ i.
      let kind : Kind = λ s d c. attaches_on i s in
      let P : ℕ → Type 0 = λ m. m ≤ 1 in
      subst P (kinds-agree kind rs es distinct each count) (once i);
  refused =
      let P : ℕ → Type 0 = λ m. m ≤ w in
      subst P (kinds-agree refused rs es distinct each count ∙ refused-counted es) got.refused;
}

pub none-closed : (w n : ℕ) (es : List Entry) (rs : List Receipt) (done : Bool) → IsDistinct eqb (numbers_of rs) → EachOfEntry es rs → length rs ≡ length es → IsGathered w n w rs done → count_by (is_recorded closed) es ≡ 0
none-closed w n es rs done distinct each count got = sym (kinds-agree closed rs es distinct each count) ∙ got.closed

pub whole-tally : (w n : ℕ) (es : List Entry) (rs : List Receipt) (done : Bool) → IsDistinct eqb (numbers_of rs) → EachOfEntry es rs → length rs ≡ length es → IsGathered w n w rs done → done ≡ true → IsTallyOf w n (tally_of is_recorded es)
whole-tally w n es rs done distinct each count got e =
    let all = got.whole e in
    let same = λ (kind : Kind). sym (kinds-agree kind rs es distinct each count) in
    record {
      all = sym count ∙ all.all;
      attached = same attached ∙ all.attached;
      declared = same declared ∙ all.declared;
      posted = same posted ∙ all.posted;
      commits = same (ended false) ∙ all.commits;
      rollbacks = same (ended true) ∙ all.rollbacks;
      refused = same refused ∙ all.refused;
    }
