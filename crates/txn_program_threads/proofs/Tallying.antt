-- The tally of receipts, with one more.
use Rattle.std.proofs.Common.{◌≡◌, ℕ, ◌+◌, ◌-◌, ◌*◌, ◌/◌, ◌%◌, ◌==◌, Bool, true, false, cond, Option, Some, None, List, [], ◌∷◌, length, length-append, count_by, if◌then◌else◌, refl, ◌∙◌, ap, subst, arith, add-zero}
use Rattle.std.proofs.lemmas.Bool.Decides.{nat_tests}
use Rattle.std.proofs.lemmas.List.Sums.{sum_by_push}
use Rattle.amqp_txn_types.specs.declared.id.TransactionId.{TransactionId}
use Rattle.amqp_txn_codec.specs.declared.message.ControlMessageBody.{ControlMessageBody}
use Rattle.amqp_txn_codec.specs.declared.message.ControlMessageBody.TheVariants as messages
use Rattle.amqp_resource_record.specs.declared.step.Step.{Step}
use Rattle.amqp_resource_record.specs.declared.step.Step.TheVariants as steps
use Rattle.amqp_resource_shared.specs.Receipts.{code_told, drawn_told, is_told}
use Rattle.amqp_resource_shared.specs.declared.receipt.Receipt.{Receipt}
use Rattle.amqp_resource_shared.specs.declared.reply_code.ReplyCode.{ReplyCode}
use Rattle.amqp_resource_shared.specs.declared.reply_code.ReplyCode.TheVariants as codes
use Rattle.txn_program_runs.specs.Made.{ends_by}
use Rattle.txn_program_threads.specs.Tallies.{IsTallyOf, Kind, Tally, attached, declared, ended, posted, refused, tally_of}
use Rattle.txn_program_threads.specs.WorkerSteps.{SpellsDischarge, worker_attach, worker_declare, worker_discharge, worker_post}
use Rattle.txn_program_threads.specs.Works.{Gained, GainedOne, Grew, HasMade, MadeRounds, one_declare, one_discharge, one_post}

-- what one step with these draws and that code adds
abbrev added : Step → List TransactionId → ReplyCode → Tally
added s d c = record {
  all = 1;
  attached = cond (attached s d c) 1 0;
  declared = cond (declared s d c) 1 0;
  posted = cond (posted s d c) 1 0;
  commits = cond (ended false s d c) 1 0;
  rollbacks = cond (ended true s d c) 1 0;
  refused = cond (refused s d c) 1 0;
}

counts-one : (kind : Kind) (old new : List Receipt) (s : Step) (c : ReplyCode) (r : Receipt) → Gained old new s c r → count_by (is_told kind) new ≡ count_by (is_told kind) old + cond (kind s (drawn_told r).ids c) 1 0
counts-one kind old new s c r g =
    let d = (drawn_told r).ids in
    let here : is_told kind r ≡ kind s d c = ap (λ x. kind x d (code_told r)) g.step ∙ ap (kind s d) g.code in
    ap (λ l. count_by (is_told kind) l) g.receipts ∙ (sum_by_push (λ x. cond (is_told kind x) 1 0) old r ∙ ap (λ b. count_by (is_told kind) old + cond b 1 0) here)

-- the tally of receipts grew by one step
grew-by : (old new : List Receipt) (s : Step) (c : ReplyCode) (g : GainedOne old new s c) → HasMade old new (added s (drawn_told g.0).ids c)
grew-by old new s c g =
    let one = g.1 in record {
      all = ap length one.receipts ∙ length-append old (g.0 ∷ []);
      attached = counts-one attached old new s c g.0 one;
      declared = counts-one declared old new s c g.0 one;
      posted = counts-one posted old new s c g.0 one;
      commits = counts-one (ended false) old new s c g.0 one;
      rollbacks = counts-one (ended true) old new s c g.0 one;
      refused = counts-one refused old new s c g.0 one;
    }

-- the same, of a step and a code that are those
grew-as : (old new : List Receipt) (s x : Step) (c y : ReplyCode) (g : GainedOne old new s c) → s ≡ x → c ≡ y → HasMade old new (added x (drawn_told g.0).ids y)
grew-as old new s x c y g es ec =
    let d = (drawn_told g.0).ids in
    let P : Step → Type 0 = λ z. HasMade old new (added z d c) in
    let Q : ReplyCode → Type 0 = λ z. HasMade old new (added x d z) in
    subst Q ec (subst P es (grew-by old new s c g))

pub grew-attach : (old new : List Receipt) (s : Step) (c : ReplyCode) (w k : ℕ) → old ≡ [] → GainedOne old new s c → s ≡ worker_attach w → c ≡ codes.Attached k → MadeRounds 0 (tally_of is_told new)
unfolding worker_attach
grew-attach old new s c w k none g es ec =
    let grew = grew-as old new s (worker_attach w) c (codes.Attached k) g es ec in
    let P : List Receipt → Type 0 = λ l. Grew (tally_of is_told l) (tally_of is_told new) (added (worker_attach w) (drawn_told g.0).ids (codes.Attached k)) in
    let from = subst P none grew in record {
      all = from.all;
      attached = from.attached;
      declared = from.declared;
      posted = from.posted;
      commits = from.commits;
      rollbacks = from.rollbacks;
      refused = from.refused;
    }

pub grew-declare : (old new : List Receipt) (s : Step) (c : ReplyCode) (k : ℕ) (t : TransactionId) → GainedOne old new s c → s ≡ worker_declare k → c ≡ codes.Declared t → HasMade old new one_declare
unfolding worker_declare
grew-declare old new s c k t g es ec = grew-as old new s (worker_declare k) c (codes.Declared t) g es ec

pub grew-post : (old new : List Receipt) (s : Step) (c : ReplyCode) (w d : ℕ) (t : TransactionId) (n : ℕ) → GainedOne old new s c → s ≡ worker_post w d t → c ≡ codes.Frames n → HasMade old new one_post
unfolding worker_post
grew-post old new s c w d t n g es ec = grew-as old new s (worker_post w d t) c (codes.Frames n) g es ec

-- the message of a round ends by a rollback in each third
asked : (t : TransactionId) (b : Bool) → Option ControlMessageBody
asked t b = Some (messages.Discharge (record { txn_id = t; fail = if b then Some true else None }))

rolls : (t : TransactionId) (b : Bool) → cond {A = ℕ} (ends_by true (asked t b)) 1 0 ≡ cond b 1 0
unfolding asked
rolls t true = refl
rolls t false = refl

keeps : (t : TransactionId) (b : Bool) → cond {A = ℕ} (ends_by false (asked t b)) 1 0 ≡ cond b 0 1
unfolding asked
keeps t true = refl
keeps t false = refl

spelled-ended : (s : Step) (t : TransactionId) (m n : ℕ) (d : List TransactionId) (b : Bool) → SpellsDischarge t m s → ended b s d (codes.Accepted n) ≡ ends_by b (asked t (m % 3 == 0))
unfolding asked
spelled-ended (steps.Control k payload) t m n d b is = ap (ends_by b) is
spelled-ended (steps.Frame f) t m n d b is = absurd is
spelled-ended (steps.LinkEnd k) t m n d b is = absurd is
spelled-ended (steps.LocalEnd e) t m n d b is = absurd is
spelled-ended (steps.RemoteEnd e) t m n d b is = absurd is
spelled-ended (steps.ConnectionStop e) t m n d b is = absurd is

discharge-posts : (k m : ℕ) (t : TransactionId) (s : Step) (d : List TransactionId) (c : ReplyCode) → s ≡ worker_discharge k t m → posted s d c ≡ false
unfolding worker_discharge
discharge-posts k m t s d c e = ap (λ x. posted x d c) e

pub grew-discharge : (old new : List Receipt) (s : Step) (c : ReplyCode) (k m : ℕ) (t : TransactionId) (n : ℕ) → GainedOne old new s c → s ≡ worker_discharge k t m → SpellsDischarge t m s → c ≡ codes.Accepted n → HasMade old new (one_discharge m)
grew-discharge old new s c k m t n g es spells ec =
    let d = (drawn_told g.0).ids in
    let grew = grew-as old new s s c (codes.Accepted n) g refl ec in
    record {
      all = grew.all;
      attached = grew.attached;
      declared = grew.declared;
      posted = grew.posted ∙ ap (λ b. (tally_of is_told old).posted + cond b 1 0) (discharge-posts k m t s d (codes.Accepted n) es);
      commits = grew.commits ∙ ap (λ x. (tally_of is_told old).commits + x) (ap (λ b. cond b 1 0) (spelled-ended s t m n d false spells) ∙ keeps t (m % 3 == 0));
      rollbacks = grew.rollbacks ∙ ap (λ x. (tally_of is_told old).rollbacks + x) (ap (λ b. cond b 1 0) (spelled-ended s t m n d true spells) ∙ rolls t (m % 3 == 0));
      refused = grew.refused;
    }

-- the rollbacks so far, with one round more
third : (n : ℕ) (b : Bool) → (n % 3 == 0) ≡ b → b ≡ true → n % 3 ≡ 0
third n b e t = grind (arith, nat_tests, e, t)

no-third : (n : ℕ) → (n % 3 == 0) ≡ false → n % 3 ≡ 0 → ⊥
no-third n e h = grind (arith, nat_tests, e, h)

one-third : (n : ℕ) → (n + 1) % 3 ≡ 0 → n / 3 + 1 ≡ (n + 1) / 3
one-third n e = omega (arith, e)

not-third : (n : ℕ) → ((n + 1) % 3 ≡ 0 → ⊥) → n / 3 ≡ (n + 1) / 3
not-third n e = omega (arith, e)

thirds : (made : ℕ) (b : Bool) → ((made + 1) % 3 == 0) ≡ b → made / 3 + cond b 1 0 ≡ (made + 1) / 3
thirds made true e = one-third made (third (made + 1) true e refl)
thirds made false e = let same = not-third made (no-third (made + 1) e) in add-zero (made / 3) ∙ same

other-third : (n : ℕ) → (n + 1) % 3 ≡ 0 → n - n / 3 + 0 ≡ n + 1 - (n + 1) / 3
other-third n e = let same = one-third n e in omega (arith, same)

other-not : (n : ℕ) → n / 3 ≡ (n + 1) / 3 → n - n / 3 + 1 ≡ n + 1 - (n + 1) / 3
other-not n e = omega (arith, e)

others : (made : ℕ) (b : Bool) → ((made + 1) % 3 == 0) ≡ b → made - made / 3 + cond b 0 1 ≡ made + 1 - (made + 1) / 3
others made true e = other-third made (third (made + 1) true e refl)
others made false e = other-not made (not-third made (no-third (made + 1) e))

-- four that are added one after another
four : {m a b c d e : ℕ} (i j k l n : ℕ) → a ≡ m → b ≡ a + i → c ≡ b + j → d ≡ c + k → e ≡ d + l → m + i + j + k + l ≡ n → e ≡ n
four i j k l n was one two three last all = omega arith

all-four : (made : ℕ) → 1 + 4 * made + 1 + 1 + 1 + 1 ≡ 1 + 4 * (made + 1)
all-four made = omega arith

posted-two : (made : ℕ) → 2 * made + 0 + 1 + 1 + 0 ≡ 2 * (made + 1)
posted-two made = omega arith

declared-one : (made : ℕ) → made + 1 + 0 + 0 + 0 ≡ made + 1
declared-one made = omega arith

ended-last : (was last now : ℕ) → was + last ≡ now → was + 0 + 0 + 0 + last ≡ now
ended-last was last now e = omega (arith, e)

-- one round more
pub round-made : (made : ℕ) (a b c d e : List Receipt) → MadeRounds made (tally_of is_told a) → HasMade a b one_declare → HasMade b c one_post → HasMade c d one_post → HasMade d e (one_discharge (made + 1)) → MadeRounds (made + 1) (tally_of is_told e)
round-made made a b c d e was one two three last =
    let more = (made + 1) % 3 == 0 in
    record {
      all = four 1 1 1 1 (1 + 4 * (made + 1)) was.all one.all two.all three.all last.all (all-four made);
      attached = four 0 0 0 0 1 was.attached one.attached two.attached three.attached last.attached refl;
      declared = four 1 0 0 0 (made + 1) was.declared one.declared two.declared three.declared last.declared (declared-one made);
      posted = four 0 1 1 0 (2 * (made + 1)) was.posted one.posted two.posted three.posted last.posted (posted-two made);
      commits = four 0 0 0 (cond more 0 1) (made + 1 - (made + 1) / 3) was.commits one.commits two.commits three.commits last.commits (ended-last (made - made / 3) (cond more 0 1) (made + 1 - (made + 1) / 3) (others made more refl));
      rollbacks = four 0 0 0 (cond more 1 0) ((made + 1) / 3) was.rollbacks one.rollbacks two.rollbacks three.rollbacks last.rollbacks (ended-last (made / 3) (cond more 1 0) ((made + 1) / 3) (thirds made more refl));
      refused = four 0 0 0 0 0 was.refused one.refused two.refused three.refused last.refused refl;
    }

once-all : (k n : ℕ) → k ≡ n → k ≡ 1 * n
once-all k n e = omega (arith, e)

twice-all : (k n : ℕ) → k ≡ 2 * n → k ≡ 2 * (1 * n)
twice-all k n e = omega (arith, e)

-- all rounds of one worker
pub all-made : (rounds : ℕ) (rs : List Receipt) → MadeRounds rounds (tally_of is_told rs) → IsTallyOf 1 rounds (tally_of is_told rs)
all-made rounds rs made = record {
  all = once-all (length rs) (1 + 4 * rounds) made.all;
  attached = made.attached;
  declared = once-all _ rounds made.declared;
  posted = twice-all _ rounds made.posted;
  commits = once-all _ (rounds - rounds / 3) made.commits;
  rollbacks = once-all _ (rounds / 3) made.rollbacks;
  refused = made.refused;
}
