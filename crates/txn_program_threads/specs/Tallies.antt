-- How many of each kind there are among receipts, or among entries.
use Rattle.std.specs.Prelude.{ℕ, ◌≡◌, ◌+◌, ◌-◌, ◌*◌, ◌/◌, Bool, true, false, List, length}
use Rattle.std.specs.List.{count_by}
use Rattle.amqp_txn_types.specs.declared.id.TransactionId.{TransactionId}
use Rattle.amqp_txn_types.specs.declared.performatives.Frame.TheVariants as frames
use Rattle.amqp_txn_types.specs.Frames.{is_under_txn}
use Rattle.amqp_txn_codec.specs.Reading.{message_of}
use Rattle.amqp_resource_record.specs.declared.step.Step.{Step}
use Rattle.amqp_resource_record.specs.declared.step.Step.TheVariants as steps
use Rattle.amqp_resource_shared.specs.declared.reply_code.ReplyCode.{ReplyCode}
use Rattle.amqp_resource_shared.specs.declared.reply_code.ReplyCode.TheVariants as codes
use Rattle.txn_program_runs.specs.Made.{ends_by}

-- a kind of what was answered: a test of a step, the ids that it drew, and the code of its reply
abbrev pub Kind : Type 0
Kind = Step → List TransactionId → ReplyCode → Bool

-- a link was attached
abbrev pub attached : Kind
attached step drawn (codes.Attached link) = true
attached step drawn _ = false

-- an id was declared
abbrev pub declared : Kind
declared step drawn (codes.Declared id) = true
declared step drawn _ = false

-- the step is a transfer under an id (4.4.1, Transactional Posting)
abbrev pub posted : Kind
posted (steps.Frame (frames.Transfer transfer payload)) drawn code = is_under_txn transfer.state
posted _ drawn code = false

-- a discharge that rolls back, or else one that commits, was accepted
abbrev pub ended : Bool → Kind
ended rollback (steps.Control link payload) drawn (codes.Accepted echoes) =
    ends_by rollback (message_of payload)
ended rollback _ drawn _ = false

-- a link was ended or closed, as no worker asks for
abbrev pub closed : Kind
closed step drawn codes.LinkEnded = true
closed step drawn (codes.LinkClosed error) = true
closed step drawn _ = false

-- the reply is neither Attached, Declared, Frames nor Accepted
abbrev pub refused : Kind
refused step drawn (codes.Frames given) = false
refused step drawn (codes.Attached link) = false
refused step drawn (codes.Declared id) = false
refused step drawn (codes.Accepted echoes) = false
refused step drawn _ = true

-- how many there are in all, and of each kind
pub record Tally : Type 0 where
  pub all : ℕ
  pub attached : ℕ
  pub declared : ℕ
  pub posted : ℕ
  pub commits : ℕ
  pub rollbacks : ℕ
  pub refused : ℕ

-- the tally of a list, of whose elements `is` says whether they are of a kind
abbrev pub tally_of : {X : Type 0} → (Kind → X → Bool) → List X → Tally
tally_of is xs = record {
  all = length xs;
  attached = count_by (is attached) xs;
  declared = count_by (is declared) xs;
  posted = count_by (is posted) xs;
  commits = count_by (is (ended false)) xs;
  rollbacks = count_by (is (ended true)) xs;
  refused = count_by (is refused) xs;
}

-- what so many workers make in so many rounds each: an attach, and in each round a declare, two
-- posts and a discharge, which in each third round is a rollback
pub record IsTallyOf (workers rounds : ℕ) (tally : Tally) : Type 0 where
  pub all : tally.all ≡ workers * (1 + 4 * rounds)
  pub attached : tally.attached ≡ workers
  pub declared : tally.declared ≡ workers * rounds
  pub posted : tally.posted ≡ 2 * (workers * rounds)
  pub commits : tally.commits ≡ workers * (rounds - rounds / 3)
  pub rollbacks : tally.rollbacks ≡ workers * (rounds / 3)
  pub refused : tally.refused ≡ 0
