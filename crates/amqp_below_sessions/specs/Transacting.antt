-- What the transactional calls of a session answer.
use Rattle.std.specs.Prelude.{ℕ, ◌≡◌, ◌≤◌, Result, Ok, Err, List, [], length}
use Rattle.amqp_txn_types.specs.declared.id.TransactionId.{TransactionId}
use Rattle.amqp_txn_types.specs.declared.small.TransactionError.{TransactionError}
use Rattle.amqp_below_layer.specs.declared.answers.Answers.{Answers}
use Rattle.amqp_below_sessions.specs.declared.transacting.AllocTxnIdError.{AllocTxnIdError}
use Rattle.amqp_below_sessions.specs.declared.transacting.AllocTxnIdError.TheVariants as refusals
use Rattle.amqp_below_sessions.specs.declared.transacting.CommitFault.{CommitFault}
use Rattle.amqp_below_ids.specs.Drawn.{DrawnIds}
use Rattle.amqp_below_ids.specs.Ids.{Drew}

-- how many ids were drawn: 1 to 16 where one was allocated, 16 where all were live, else none
abbrev pub IsDrawOf : Result DrawnIds AllocTxnIdError → List TransactionId → Type 0
IsDrawOf (Ok drawn) ids = (ids ≡ drawn.ids) × (1 ≤ length ids) × (length ids ≤ 16)
IsDrawOf (Err (refusals.IdsRepeat drawn)) ids = (ids ≡ drawn.ids) × (length ids ≡ 16)
IsDrawOf (Err refusals.NotImplemented) ids = ids ≡ []
IsDrawOf (Err refusals.NoMemory) ids = ids ≡ []

-- the ids that an answer shows are those that the source gave
abbrev pub Allocates :
    (ℕ → TransactionId) → (ℕ → TransactionId) → Result DrawnIds AllocTxnIdError → Type 0
Allocates before after result =
    (ids : List TransactionId) × IsDrawOf result ids × Drew before after ids

-- a fact for each answer of a commit but echoes
abbrev pub CommitRefused :
    Result (Result (List Answers) TransactionError) CommitFault → Type 0 → Type 0
CommitRefused (Ok (Ok echoes)) fact = Unit {0}
CommitRefused (Ok (Err error)) fact = fact
CommitRefused (Err fault) fact = fact
