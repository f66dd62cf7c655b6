-- What a worker has done.
use Rattle.std.specs.Prelude.{ℕ, ◌≡◌, ◌≤◌, ◌+◌, ◌-◌, ◌*◌, ◌/◌, ◌%◌, ◌==◌, Bool, true, false, List, [], ◌∷◌, ◌++◌, length, if◌then◌else◌}
use Rattle.std.specs.List.{count_by, list_any}
use Rattle.amqp_txn_types.specs.declared.id.TransactionId.{TransactionId}
use Rattle.amqp_txn_types.specs.Ids.{same_id}
use Rattle.amqp_resource_record.specs.declared.step.Step.{Step}
use Rattle.amqp_resource_shared.specs.Receipts.{code_told, is_told, step_told}
use Rattle.amqp_resource_shared.specs.declared.receipt.Receipt.{Receipt}
use Rattle.amqp_resource_shared.specs.declared.reply_code.ReplyCode.{ReplyCode}
use Rattle.amqp_resource_shared.specs.declared.reply_code.ReplyCode.TheVariants as codes
use Rattle.txn_program_threads.specs.Tallies.{IsTallyOf, Tally, closed, refused, tally_of}
use Rattle.txn_program_threads.specs.WorkerSteps.{IsWorkerStep, attaches_on}

-- the code gave the link
abbrev pub gives_link : ℕ → ReplyCode → Bool
gives_link link (codes.Attached attached) = attached == link
gives_link link _ = false

-- the code gave the id
abbrev pub gives_id : TransactionId → ReplyCode → Bool
gives_id id (codes.Declared declared) = same_id id declared
gives_id id _ = false

-- a receipt gave the link
abbrev pub ToldLink : List Receipt → ℕ → Type 0
ToldLink receipts link = list_any (λ (r : Receipt). gives_link link (code_told r)) receipts ≡ true

-- a receipt gave the id
abbrev pub ToldId : List Receipt → TransactionId → Type 0
ToldId receipts id = list_any (λ (r : Receipt). gives_id id (code_told r)) receipts ≡ true

-- the step is a worker's, on links and under ids that one of these receipts gave
abbrev pub IsStepIn : List Receipt → ℕ → ℕ → Step → Type 0
IsStepIn all worker rounds step = IsWorkerStep (ToldLink all) (ToldId all) worker rounds step

-- so is the step of each receipt
abbrev pub EachStepIn : List Receipt → ℕ → ℕ → List Receipt → Type 0
EachStepIn all worker rounds [] = Unit {0}
EachStepIn all worker rounds (receipt ∷ receipts) =
    IsStepIn all worker rounds (step_told receipt) × EachStepIn all worker rounds receipts

-- a receipt is of an attach on the handle
abbrev pub attach_told : ℕ → Receipt → Bool
attach_told handle receipt = attaches_on handle (step_told receipt)

-- the receipts of a worker: each step is the worker's, its attach is among them at most once, no
-- link was ended or closed, and one reply at most, the last, is a refusal
pub record AreOfWorker (worker rounds : ℕ) (receipts : List Receipt) : Type 0 where
  pub steps : EachStepIn receipts worker rounds receipts
  pub once : count_by (attach_told worker) receipts ≤ 1
  pub closed : count_by (is_told closed) receipts ≡ 0
  pub refused : count_by (is_told refused) receipts ≤ 1

-- what a worker of so many rounds gives back: its part of the ledger, a receipt for each step that
-- its share counts, and all of its rounds where it is done
pub record IsWork (worker rounds part held : ℕ) (receipts : List Receipt) (done : Bool)
    : Type 0 where
  pub parts : part ≡ 1
  pub count : held ≡ length receipts
  pub few : length receipts ≤ 1 + 4 * rounds
  pub made : AreOfWorker worker rounds receipts
  pub whole : done ≡ true → IsTallyOf 1 rounds (tally_of is_told receipts)

-- the receipts have one more, of this step with this code
pub record Gained (old new : List Receipt) (made : Step) (told : ReplyCode) (receipt : Receipt)
    : Type 0 where
  pub receipts : new ≡ old ++ receipt ∷ []
  pub step : step_told receipt ≡ made
  pub code : code_told receipt ≡ told

-- no reply so far is a refusal
abbrev pub NoneRefused : List Receipt → Type 0
NoneRefused receipts = count_by (is_told refused) receipts ≡ 0

-- there is such a receipt
abbrev pub GainedOne : List Receipt → List Receipt → Step → ReplyCode → Type 0
GainedOne old new step code =
    (receipt : Receipt) × Gained old new step code receipt × (is_told closed receipt ≡ false)

-- links and ids that the old receipts gave, the new ones give
pub record StillTold (old new : List Receipt) : Type 0 where
  pub link : (link : ℕ) → ToldLink old link → ToldLink new link
  pub id : (id : TransactionId) → ToldId old id → ToldId new id

-- a declare, a post, and the discharge of a round
abbrev pub one_declare : Tally
one_declare =
    record { all = 1; attached = 0; declared = 1; posted = 0; commits = 0; rollbacks = 0; refused = 0 }

abbrev pub one_post : Tally
one_post =
    record { all = 1; attached = 0; declared = 0; posted = 1; commits = 0; rollbacks = 0; refused = 0 }

abbrev pub one_discharge : ℕ → Tally
one_discharge round = record {
  all = 1;
  attached = 0;
  declared = 0;
  posted = 0;
  commits = if round % 3 == 0 then 0 else 1;
  rollbacks = if round % 3 == 0 then 1 else 0;
  refused = 0;
}

-- a tally grew by another
pub record Grew (old new by : Tally) : Type 0 where
  pub all : new.all ≡ old.all + by.all
  pub attached : new.attached ≡ old.attached + by.attached
  pub declared : new.declared ≡ old.declared + by.declared
  pub posted : new.posted ≡ old.posted + by.posted
  pub commits : new.commits ≡ old.commits + by.commits
  pub rollbacks : new.rollbacks ≡ old.rollbacks + by.rollbacks
  pub refused : new.refused ≡ old.refused + by.refused

-- the receipts' tally grew by that
abbrev pub HasMade : List Receipt → List Receipt → Tally → Type 0
HasMade old new by = Grew (tally_of is_told old) (tally_of is_told new) by

-- the tally of an attach and that many rounds
pub record MadeRounds (rounds : ℕ) (tally : Tally) : Type 0 where
  pub all : tally.all ≡ 1 + 4 * rounds
  pub attached : tally.attached ≡ 1
  pub declared : tally.declared ≡ rounds
  pub posted : tally.posted ≡ 2 * rounds
  pub commits : tally.commits ≡ rounds - rounds / 3
  pub rollbacks : tally.rollbacks ≡ rounds / 3
  pub refused : tally.refused ≡ 0
