-- What workers give back, one after another.
use Rattle.std.specs.Prelude.{ℕ, ◌≡◌, ◌≤◌, ◌+◌, ◌*◌, Bool, true, List, [], ◌∷◌, length}
use Rattle.std.specs.List.{count_by}
use Rattle.amqp_resource_record.specs.declared.step.Step.{Step}
use Rattle.amqp_resource_shared.specs.Receipts.{is_told, step_told}
use Rattle.amqp_resource_shared.specs.declared.receipt.Receipt.{Receipt}
use Rattle.txn_program_threads.specs.Tallies.{IsTallyOf, closed, refused, tally_of}
use Rattle.txn_program_threads.specs.Works.{IsStepIn, IsWork}

-- what the worker of a number gives back, with its number
pub record IsWorkOf (number told rounds parts count : ℕ) (receipts : List Receipt) (done : Bool)
    : Type 0 where
  pub number_is : told ≡ number
  pub work : IsWork number rounds parts count receipts done

-- a step of one of so many workers, on links and under ids that these receipts gave
abbrev pub IsStepAmong : List Receipt → ℕ → ℕ → Step → Type 0
IsStepAmong all workers rounds step =
    (worker : ℕ) × (1 ≤ worker) × (worker ≤ workers) × IsStepIn all worker rounds step

-- so is the step of each receipt
abbrev pub EachStepAmong : List Receipt → ℕ → ℕ → List Receipt → Type 0
EachStepAmong all workers rounds [] = Unit {0}
EachStepAmong all workers rounds (receipt ∷ receipts) =
    IsStepAmong all workers rounds (step_told receipt)
    × EachStepAmong all workers rounds receipts

-- what so many of the workers gave back together
pub record IsGathered (workers rounds made : ℕ) (receipts : List Receipt) (done : Bool)
    : Type 0 where
  pub few : length receipts ≤ made * (1 + 4 * rounds)
  pub whole : done ≡ true → IsTallyOf made rounds (tally_of is_told receipts)
  pub steps : EachStepAmong receipts workers rounds receipts
  pub closed : count_by (is_told closed) receipts ≡ 0
  pub refused : count_by (is_told refused) receipts ≤ made
