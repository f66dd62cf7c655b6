-- What an engine does with a control.
use Rattle.std.specs.Prelude.{ℕ, ◌≡◌, ◌||◌, ◌&&◌, Bool, true, false, Option, None, Result, Ok, Err, List, is_some}
use Rattle.amqp_txn_types.specs.Counts.{Rose}
use Rattle.amqp_txn_types.specs.declared.delivery.Error.{Error}
use Rattle.amqp_txn_types.specs.declared.delivery.ErrorCondition.TheVariants as conditions
use Rattle.amqp_txn_types.specs.declared.id.TransactionId.{TransactionId}
use Rattle.amqp_txn_types.specs.declared.performatives.Disposition.{Disposition}
use Rattle.amqp_txn_types.specs.declared.performatives.End.{End}
use Rattle.amqp_txn_types.specs.declared.performatives.Frame.TheVariants as frames
use Rattle.amqp_txn_types.specs.declared.small.Accepted.{Accepted}
use Rattle.amqp_txn_types.specs.declared.small.ConnectionError.{ConnectionError}
use Rattle.amqp_txn_types.specs.declared.small.InputHandle.{InputHandle}
use Rattle.amqp_txn_types.specs.declared.small.OutputHandle.{OutputHandle}
use Rattle.amqp_txn_types.specs.declared.small.SessionState.{SessionState}
use Rattle.amqp_txn_types.specs.declared.small.TransactionError.{TransactionError}
use Rattle.amqp_txn_types.specs.declared.text.Text.{Text}
use Rattle.amqp_below_ids.specs.Drawn.{DrawnIds}
use Rattle.amqp_below_layer.specs.declared.answers.Answers.{Answers}
use Rattle.amqp_below_layer.specs.declared.inner_error.SessionInnerError.{SessionInnerError}
use Rattle.amqp_below_layer.specs.declared.inner_error.SessionInnerError.TheVariants as faults
use Rattle.amqp_below_layer.specs.Told.{Checks, Steady, Told}
use Rattle.amqp_below_sessions.specs.declared.relay.NameState.{NameState}
use Rattle.amqp_below_sessions.specs.declared.relay.NameState.TheVariants.{Taken, Waiting}
use Rattle.amqp_below_sessions.specs.declared.relay.Relay.{Relay}
use Rattle.amqp_below_sessions.specs.declared.session_errors.AllocLinkError.{AllocLinkError}
use Rattle.amqp_below_sessions.specs.declared.stop_reason.StopReason.{StopReason}
use Rattle.amqp_below_sessions.specs.declared.transacting.AllocTxnIdError.{AllocTxnIdError}
use Rattle.amqp_below_sessions.specs.declared.transacting.CommitFault.{CommitFault}
use Rattle.amqp_below_sessions.specs.declared.transacting.CommitFault.TheVariants as commits
use Rattle.amqp_below_sessions.specs.Names.{FreesLink, Names, PlacesLink}
use Rattle.amqp_below_sessions.specs.Sessions.{Kept, StoppedBy}
use Rattle.amqp_below_sessions.specs.Transacting.{Allocates, CommitRefused}
use Rattle.amqp_engine_events.specs.declared.controls.ControlReply.TheVariants as replies
use Rattle.amqp_engine_events.specs.declared.controls.SessionControl.{SessionControl}
use Rattle.amqp_engine_events.specs.declared.controls.SessionControl.TheVariants as controls
use Rattle.amqp_engine_events.specs.declared.turn.Running.TheVariants.{Continue}
use Rattle.amqp_engine_events.specs.declared.turn.Turn.{Turn}
use Rattle.amqp_engine_events.specs.Calls.{OrNoCopy, OrNoMemory}
use Rattle.amqp_engine_events.specs.Ends.{KeepsAndEnds}
use Rattle.amqp_engine_events.specs.Outgoing.{Passes}
use Rattle.amqp_engine_events.specs.Reasons.{copies_local}
use Rattle.amqp_engine_events.specs.States.{is_mapped}
use Rattle.amqp_engine_events.specs.Turns.{Unasked, quiet, replying}

-- the control is that the session end
abbrev pub is_end : SessionControl → Bool
is_end (controls.End error) = true
is_end _ = false

-- the control that the session end: a reason is kept, and the session is told to end
abbrev pub ControlsEnd : {S : Type 0} → (S → Told) → (S → Kept) → (S → Names)
    → (S → S → StopReason → Type 0)
    → (S → S → Option Error → Result End SessionInnerError → Type 0)
    → S → S → SessionControl → Result Turn SessionInnerError → Type 0
ControlsEnd told kept names Stops Sent old new (controls.End error) result =
    OrNoCopy (copies_local error (kept old).connection) old new
    (KeepsAndEnds told kept names Stops Sent old new error result) result
ControlsEnd told kept names Stops Sent old new _ result = Unit {0}

-- ---- the calls on links

-- the session was asked for a link
pub record LinkAsked {S : Type 0} (told : S → Told) (kept : S → Kept) (names : S → Names)
    (Gives : Result OutputHandle AllocLinkError → Type 0) (old new : S) (name : Text)
    (state : NameState) (answer : Result OutputHandle AllocLinkError) : Type 0 where
  pub checks : Checks (told old) (told new) answer
  pub stays : kept new ≡ kept old
  pub stopped : StoppedBy (kept old).stop answer
  pub places : PlacesLink (names old) (names new) name state answer
  pub gives : Gives answer

-- the session was asked to free an output handle
pub record FreeAsked {S : Type 0} (told : S → Told) (kept : S → Kept) (names : S → Names)
    (Gives : S → S → OutputHandle → Bool → Type 0) (old new : S) (output : OutputHandle)
    : Type 0 where
  pub steady : told new ≡ told old
  pub stays : kept new ≡ kept old
  pub frees : FreesLink ((names old).at output) (names old) (names new) output
  pub gives : Gives old new output (is_some ((names old).at output))

-- a link is asked for, and what the session answered is the reply
abbrev pub Links : {S : Type 0} → (S → Told) → (S → Kept) → (S → Names)
    → (Result OutputHandle AllocLinkError → Type 0)
    → S → S → Text → NameState → Result Turn SessionInnerError → Type 0
Links told kept names Gives old new name state result =
    (answer : Result OutputHandle AllocLinkError)
    × (result ≡ Ok (replying (replies.Linked answer)))
    × LinkAsked told kept names Gives old new name state answer

-- a link is deallocated
abbrev pub Frees : {S : Type 0} → (S → Told) → (S → Kept) → (S → Names)
    → (S → S → OutputHandle → Bool → Type 0)
    → S → S → OutputHandle → Result Turn SessionInnerError → Type 0
Frees told kept names Gives old new output result =
    (result ≡ Ok (quiet Continue)) × FreeAsked told kept names Gives old new output

-- the controls of links
abbrev pub ControlsLinks : {S : Type 0} → (S → Told) → (S → Kept) → (S → Names)
    → (S → S → Text → Relay → Result OutputHandle AllocLinkError → Type 0)
    → (S → S → Text → Relay → InputHandle → Result OutputHandle AllocLinkError → Type 0)
    → (S → S → OutputHandle → Bool → Type 0)
    → S → S → SessionControl → Result Turn SessionInnerError → Type 0
ControlsLinks told kept names Makes Incoming Drops old new
    (controls.AllocateLink name relay) result =
    Links told kept names (Makes old new name relay) old new name Waiting result
ControlsLinks told kept names Makes Incoming Drops old new
    (controls.AllocateIncomingLink name relay input) result =
    Links told kept names (Incoming old new name relay input) old new name Taken result
ControlsLinks told kept names Makes Incoming Drops old new (controls.DeallocateLink output) result =
    Frees told kept names Drops old new output result
ControlsLinks told kept names Makes Incoming Drops old new _ result = Unit {0}

-- ---- the calls on transactions

-- the session was asked for an id
pub record IdAsked {S : Type 0} (told : S → Told)
    (Gives : Result DrawnIds AllocTxnIdError → Type 0) (old new : S)
    (old_ids new_ids : ℕ → TransactionId) (answer : Result DrawnIds AllocTxnIdError) : Type 0 where
  pub checks : Checks (told old) (told new) answer
  pub drew : Allocates old_ids new_ids answer
  pub gives : Gives answer

-- the session was asked to commit
pub record CommitAsked {S : Type 0} (told : S → Told)
    (Gives : Result (Result (List Answers) TransactionError) CommitFault → Type 0) (old new : S)
    (answer : Result (Result (List Answers) TransactionError) CommitFault) : Type 0 where
  pub steady : Steady (told old) (told new)
  pub cause : CommitRefused answer (Rose (told old).refusals (told new).refusals)
  pub gives : Gives answer

-- the session was asked to roll back
pub record RollbackAsked {S : Type 0} (told : S → Told)
    (Gives : Result Accepted TransactionError → Type 0) (old new : S)
    (answer : Result Accepted TransactionError) : Type 0 where
  pub checks : Checks (told old) (told new) answer
  pub gives : Gives answer

-- the answer to a commit: its fault is the error that it carries
abbrev pub committed : Result (Result (List Answers) TransactionError) CommitFault
    → Result Turn SessionInnerError
committed (Ok answer) = Ok (replying (replies.Committed answer))
committed (Err commits.NoMemory) = Err faults.NoMemory
committed (Err (commits.Refused error handed)) = Err error

-- an id is asked for, and what the session answered is the reply
abbrev pub Declares : {S : Type 0} → (S → Told)
    → (S → S → (ℕ → TransactionId) → (ℕ → TransactionId) → Result DrawnIds AllocTxnIdError
    → Type 0)
    → S → S → (ℕ → TransactionId) → (ℕ → TransactionId) → Result Turn SessionInnerError → Type 0
Declares told Gives old new old_ids new_ids result =
    (answer : Result DrawnIds AllocTxnIdError)
    × (result ≡ Ok (replying (replies.Allocated answer)))
    × IdAsked told (Gives old new old_ids new_ids) old new old_ids new_ids answer

-- a commit is asked for, and what the session answered is the reply
abbrev pub Commits : {S : Type 0} → (S → Told)
    → (S → S → TransactionId → Result (Result (List Answers) TransactionError) CommitFault → Type 0)
    → S → S → TransactionId → Result Turn SessionInnerError → Type 0
Commits told Gives old new id result =
    (answer : Result (Result (List Answers) TransactionError) CommitFault)
    × (result ≡ committed answer) × CommitAsked told (Gives old new id) old new answer

-- a rollback is asked for; this is the reply to what the session answered
abbrev pub RollsBack : {S : Type 0} → (S → Told)
    → (S → S → TransactionId → Result Accepted TransactionError → Type 0)
    → S → S → TransactionId → (Result Accepted TransactionError → Turn)
    → Result Turn SessionInnerError → Type 0
RollsBack told Gives old new id reply result =
    (answer : Result Accepted TransactionError) × (result ≡ Ok (reply answer))
    × RollbackAsked told (Gives old new id) old new answer

-- the answer to a rollback is the reply
abbrev pub rolled_back : Result Accepted TransactionError → Turn
rolled_back answer = replying (replies.RolledBack answer)

-- nobody waits for the answer to a rollback
abbrev pub aborted : Result Accepted TransactionError → Turn
aborted answer = quiet Continue

-- the controls of transactions
abbrev pub ControlsTransactions : {S : Type 0} → (S → Told)
    → (S → S → (ℕ → TransactionId) → (ℕ → TransactionId) → Result DrawnIds AllocTxnIdError
    → Type 0)
    → (S → S → TransactionId → Result (Result (List Answers) TransactionError) CommitFault → Type 0)
    → (S → S → TransactionId → Result Accepted TransactionError → Type 0)
    → S → S → (ℕ → TransactionId) → (ℕ → TransactionId)
    → SessionControl → Result Turn SessionInnerError → Type 0
ControlsTransactions told Allocate Commit Rollback old new old_ids new_ids
    controls.AllocateTransactionId result =
    Declares told Allocate old new old_ids new_ids result
ControlsTransactions told Allocate Commit Rollback old new old_ids new_ids
    (controls.CommitTransaction id) result =
    Commits told Commit old new id result
ControlsTransactions told Allocate Commit Rollback old new old_ids new_ids
    (controls.RollbackTransaction id) result =
    RollsBack told Rollback old new id rolled_back result
ControlsTransactions told Allocate Commit Rollback old new old_ids new_ids
    (controls.AbortTransaction id) result =
    RollsBack told Rollback old new id aborted result
ControlsTransactions told Allocate Commit Rollback old new old_ids new_ids _ result = Unit {0}

-- ---- the others

-- the error with which a connection is to be closed
abbrev pub closing_error : ConnectionError → Option Text → Error
closing_error condition text = record {
  condition = conditions.ConnectionError condition;
  description = text;
  info = None;
}

-- the controls that ask no more of the session than a check
abbrev pub ControlsOthers : {S : Type 0} → (S → Told) → (S → Kept) → (S → Names)
    → (S → S → Disposition → Result Unit SessionInnerError → Type 0)
    → S → S → SessionControl → Result Turn SessionInnerError → Type 0
ControlsOthers told kept names Settles old new (controls.Disposition settled) result =
    OrNoMemory old new (Passes told kept names (Settles old new settled) old new
    (frames.Disposition settled) result) result
ControlsOthers told kept names Settles old new
    (controls.CloseConnectionWithError condition text) result =
    Unasked old new (Ok (replying (replies.CloseConnection (closing_error condition text)))) result
ControlsOthers told kept names Settles old new _ result = Unit {0}

-- whether a control is served: all are where frames pass, and the end always is
abbrev pub is_served : SessionState → SessionControl → Bool
is_served state control = is_end control || is_mapped state

-- the control is that an id be allocated
abbrev pub is_allocation : SessionControl → Bool
is_allocation controls.AllocateTransactionId = true
is_allocation _ = false

-- whether a control draws ids
abbrev pub draws_ids : SessionState → SessionControl → Bool
draws_ids state control = is_allocation control && is_mapped state
