-- The steps of a mailbox, in the order in which they are served.
use Rattle.std.specs.Prelude.{ℕ, ◌≡◌, ◌==◌, ◌<◌, zero, suc, cond, List, [], ◌∷◌, length, take, map, codes}
use Rattle.std.specs.List.{All}
use Rattle.amqp_resource_record.specs.declared.step.Step.{Step}
use Rattle.amqp_resource_record.specs.declared.step.Step.TheVariants as steps
use Rattle.amqp_txn_types.specs.declared.performatives.Frame.TheVariants as frames
use Rattle.amqp_txn_types.specs.declared.small.Role.TheVariants as roles
use Rattle.txn_program_lines.specs.Lines.{attach_of, coordinator}
use Rattle.txn_mailbox_queue.specs.declared.item.Item.{Item}
use Rattle.txn_mailbox_queue.specs.Order.{count}

-- the attach of a control link of that name on that handle (part 4 of the standard, 4.5.1)
abbrev pub control_attach : List ℕ → ℕ → Step
control_attach name handle =
    steps.Frame (frames.Attach (attach_of name handle roles.Sender coordinator))

-- the two attaches that are served first
abbrev pub first_attach : Step
first_attach = control_attach (codes "c0") 0

abbrev pub second_attach : Step
second_attach = control_attach (codes "c1") 1

-- the list of sender 0, or else of the other
abbrev pub list_of : List Step → List Step → ℕ → List Step
list_of first second zero = first
list_of first second (suc k) = second

-- the steps that have this mark, in order: each mark stands for the step at its place
abbrev pub marked : ℕ → List ℕ → List Step → List Step
marked k [] steps = []
marked k (mark ∷ marks) [] = []
marked k (mark ∷ marks) (step ∷ steps) =
    cond (mark == k) (step ∷ marked k marks steps) (marked k marks steps)

-- the first steps of a list
abbrev pub IsFrontOf : List Step → List Step → Type 0
IsFrontOf front steps = (n : ℕ) × (front ≡ take n steps)

-- an order in which two lists came: each step is of the sender with this mark, and each list is
-- there whole, once and in its own order
pub record Came (first second : List Step) (senders : List ℕ) (steps : List Step) : Type 0 where
  pub each : length senders ≡ length steps
  pub known : All (λ k. k < 2) senders
  pub of_first : marked 0 senders steps ≡ first
  pub of_second : marked 1 senders steps ≡ second

-- the senders of items that were taken
abbrev pub senders_of : List Item → List ℕ
senders_of taken = map (λ item. item.sender) taken

-- an order in which so many items of each list came
pub record CameSoFar (first second : List Step) (taken : List Item) (steps : List Step)
    : Type 0 where
  pub each : length taken ≡ length steps
  pub known : All (λ item. item.sender < 2) taken
  pub follows : (k : ℕ) → k < 2 → marked k (senders_of taken) steps
      ≡ take (count k taken) (list_of first second k)
