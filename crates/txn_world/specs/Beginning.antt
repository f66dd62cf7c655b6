-- How two parties begin: the attaches of the control links.
use Rattle.std.specs.Prelude.{ℕ, zero, suc, ◌≡◌, ◌+◌, ◌<◌, ◌≤◌, Bool, Option, Some, None, Result, Ok, Err, List, [], ◌∷◌, ◌++◌, length}
use Rattle.amqp_txn_types.specs.Counts.{Rose}
use Rattle.amqp_txn_types.specs.Growing.{grown}
use Rattle.amqp_txn_types.specs.Plain.{plain_attach, plain_source}
use Rattle.amqp_txn_types.specs.declared.id.TransactionId.{TransactionId}
use Rattle.amqp_txn_types.specs.declared.performatives.Attach.{Attach}
use Rattle.amqp_txn_types.specs.declared.performatives.Frame.TheVariants as frames
use Rattle.amqp_txn_types.specs.declared.performatives.TargetArchetype.TheVariants as targets
use Rattle.amqp_txn_types.specs.declared.small.Role.TheVariants as roles
use Rattle.amqp_txn_types.specs.declared.text.Text.{Text}
use Rattle.amqp_below_layer.specs.Told.{Told, refusal_of}
use Rattle.amqp_below_ids.specs.Ids.{Drew}
use Rattle.amqp_resource_record.specs.Entries.{steps_of}
use Rattle.amqp_resource_record.specs.Opened.{opens}
use Rattle.amqp_resource_record.specs.declared.step.Step.{Step}
use Rattle.amqp_resource_record.specs.declared.step.Step.TheVariants as steps
use Rattle.txn_parties.specs.Exchange.{Begins, begun}
use Rattle.txn_world.specs.Happening.{TwoParties}
use Rattle.txn_world.specs.declared.errors.WorldError.{WorldError}
use Rattle.txn_world.specs.declared.errors.WorldError.TheVariants as errors

-- the name of the control link with this number, which is below 10: "c" and the number
abbrev pub control_name : ℕ → Text
control_name number = 99 ∷ (48 + number) ∷ []

-- the attach of the control link with this number, on the handle with this number (4.2, Declaring a
-- Transaction; 4.5.1, Coordinator)
abbrev pub control_attach : ℕ → Attach
control_attach number =
    record (plain_attach (control_name number) (record { 0 = number }) roles.Sender) {
      source = Some plain_source;
      target = Some (targets.Coordinator (record { capabilities = None }));
      initial_delivery_count = Some 0;
    }

abbrev pub attach_step : ℕ → Step
attach_step number = steps.Frame (frames.Attach (control_attach number))

-- the attaches of so many control links, in order
abbrev pub attach_steps : ℕ → List Step
attach_steps zero = []
attach_steps (suc links) = attach_steps links ++ attach_step links ∷ []

-- what attaches leave of what a layer below tells: it took and vetoed nothing
pub record Untaken (old new : Told) : Type 0 where
  pub taken : new.taken ≡ old.taken
  pub vetoed : new.reviews.vetoed ≡ old.reviews.vetoed
  pub fixed : new.fixed ≡ old.fixed
  pub later : old.refusals ≤ new.refusals
  pub counted : old.reviews.vetoes ≤ new.reviews.vetoes

-- two parties as they begin, with so many controllers
pub record Began {S G : Type 0} (told : S → Told) (sure : Bool) (next : G → ℕ → TransactionId)
    (starts : G → Option (ℕ → TransactionId)) (below : S) (ids : G) (links : ℕ)
    (world : TwoParties S G) : Type 0 where
  pub sides : world.sides ≡ begun sure world.sides.first
  pub begins : Begins world.sides.first
  -- The attaches are those of so many links.
  pub steps : steps_of world.sides.first ≡ attach_steps links
  pub count : length world.sides.first ≡ links
  pub drew : Drew (next ids) (next world.ids) []
  pub start : starts world.ids ≡ starts ids
  -- Below took and vetoed nothing, opened these links, and refused nothing.
  pub untaken : Untaken (told below) (told world.below)
  pub opened : (told world.below).opened ≡ grown (told below).opened (opens world.sides.first)
  pub refused : (told world.below).refused ≡ (told below).refused

-- an attach of one of so many links was refused with this error, the only refusal, and the refusals
-- rose; out of memory is the session's own
abbrev pub RefusedOnly : Told → Told → ℕ → WorldError → Type 0
RefusedOnly old new links errors.NoMemory = new.refused ≡ old.refused
RefusedOnly old new links (errors.AttachRefused error) =
    Rose old.refusals new.refusals × (number : ℕ) × (number < links)
    × (new.refused
    ≡ grown old.refused (refusal_of (frames.Attach (control_attach number)) error))

-- what the call answers that makes two parties
abbrev pub MayBegin : {S G : Type 0} → (S → Told) → Bool → (G → ℕ → TransactionId)
    → (G → Option (ℕ → TransactionId)) → S → G → ℕ
    → Result (TwoParties S G) (S × WorldError) → Type 0
MayBegin told sure next starts below ids links (Ok world) =
    Began told sure next starts below ids links world
MayBegin told sure next starts below ids links (Err refused) =
    Untaken (told below) (told refused.0)
    × RefusedOnly (told below) (told refused.0) links refused.1
