-- The steps that a worker makes, and whether a step is one of them.
use Rattle.std.specs.Prelude.{ℕ, ◌≡◌, ◌<◌, ◌≤◌, ◌*◌, ◌==◌, Bool, true, false, Option, Some, None, [], ◌++◌, codes}
use Rattle.std.specs.Fmt.{decimal}
use Rattle.amqp_txn_types.specs.declared.id.TransactionId.{TransactionId}
use Rattle.amqp_txn_types.specs.declared.small.Role.TheVariants as roles
use Rattle.amqp_txn_types.specs.declared.performatives.Frame.TheVariants as frames
use Rattle.amqp_txn_codec.specs.declared.message.ControlMessageBody.TheVariants as messages
use Rattle.amqp_txn_codec.specs.Canon.{canon}
use Rattle.amqp_txn_codec.specs.Reading.{message_of}
use Rattle.amqp_resource_record.specs.declared.step.Step.{Step}
use Rattle.amqp_resource_record.specs.declared.step.Step.TheVariants as steps
use Rattle.txn_program_lines.specs.Lines.{attach_of, coordinator, state_under, transfer_of}
use Rattle.txn_program_runs.specs.Made.{made_fail}

-- the attach of a worker: its link has the name `c` and its number, on the handle of that number
unfoldable pub worker_attach : ℕ → Step
worker_attach worker =
    steps.Frame (frames.Attach
    (attach_of (codes "c" ++ decimal worker) worker roles.Sender coordinator))

-- a declare on a link
unfoldable pub worker_declare : ℕ → Step
worker_declare link = steps.Control link (canon (messages.Declare (record { global_id = None })))

-- a post under an id: the delivery of that number on the worker's handle, settled, without octets
unfoldable pub worker_post : ℕ → ℕ → TransactionId → Step
worker_post worker delivery id =
    steps.Frame (frames.Transfer
    (transfer_of (record { handle = worker; delivery_id = Some delivery; settled = Some true })
    (state_under id None))
    [])

-- the discharge of an id on a link in a round: a rollback in each third one, else a commit
unfoldable pub worker_discharge : ℕ → TransactionId → ℕ → Step
worker_discharge link id round =
    steps.Control link
    (canon (messages.Discharge (record { txn_id = id; fail = made_fail round })))

-- a step of a worker of that many rounds: its attach; a declare on a link; a post under an id, of
-- which there are two in each round; a discharge of an id on a link. `HasLink` and `HasId` say of
-- which links and ids
pub data IsWorkerStep (HasLink : ℕ → Type 0) (HasId : TransactionId → Type 0)
    (worker rounds : ℕ) (step : Step) : Type 0 where
  attaches : step ≡ worker_attach worker → IsWorkerStep HasLink HasId worker rounds step
  declares : (link : ℕ) → HasLink link → step ≡ worker_declare link
      → IsWorkerStep HasLink HasId worker rounds step
  posts : (id : TransactionId) (delivery : ℕ) → HasId id → delivery < 2 * rounds
      → step ≡ worker_post worker delivery id → IsWorkerStep HasLink HasId worker rounds step
  discharges : (link : ℕ) (id : TransactionId) (round : ℕ) → HasLink link → HasId id
      → 1 ≤ round → round ≤ rounds → step ≡ worker_discharge link id round
      → IsWorkerStep HasLink HasId worker rounds step

-- the step is the attach of a link on that handle
abbrev pub attaches_on : ℕ → Step → Bool
attaches_on handle (steps.Frame (frames.Attach attach)) = attach.handle.0 == handle
attaches_on handle _ = false

-- there is a value
abbrev pub HasMessage : {A : Type 0} → Option A → Type 0
HasMessage None = ⊥
HasMessage (Some message) = Unit {0}

-- the step is a frame, or a payload that spells a control message
abbrev pub IsReadable : Step → Type 0
IsReadable (steps.Frame frame) = Unit {0}
IsReadable (steps.Control link payload) = HasMessage (message_of payload)
IsReadable _ = ⊥

-- the payload spells the discharge of the id in the round
abbrev pub SpellsDischarge : TransactionId → ℕ → Step → Type 0
SpellsDischarge id round (steps.Control link payload) =
    message_of payload
    ≡ Some (messages.Discharge (record { txn_id = id; fail = made_fail round }))
SpellsDischarge id round _ = ⊥
