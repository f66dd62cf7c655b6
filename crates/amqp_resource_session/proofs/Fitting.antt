-- What a call leaves goes on to fit together.
use Rattle.std.proofs.Common.{◌≡◌, None, Result, Ok, Err, List, ap}
use Rattle.std.specs.Prelude.{is_some}
use Rattle.amqp_txn_types.specs.declared.small.Accepted.{Accepted}
use Rattle.amqp_below_sessions.specs.declared.transacting.AllocTxnIdError.{AllocTxnIdError}
use Rattle.amqp_below_layer.specs.declared.answers.Answers.{Answers}
use Rattle.amqp_below_sessions.specs.declared.transacting.CommitFault.{CommitFault}
use Rattle.amqp_below_ids.specs.Drawn.{DrawnIds}
use Rattle.amqp_txn_types.specs.declared.performatives.Frame.{Frame}
use Rattle.amqp_resource_held.specs.declared.held.Held.{Held}
use Rattle.amqp_below_layer.specs.Told.{Told}
use Rattle.amqp_txn_types.specs.declared.small.TransactionError.{TransactionError}
use Rattle.amqp_txn_types.specs.declared.id.TransactionId.{TransactionId}
use Rattle.amqp_resource_log.specs.Live.{kept}
use Rattle.amqp_txn_types.specs.declared.small.TransactionError.TheVariants as transaction_errors
use Rattle.amqp_below_sessions.specs.declared.transacting.AllocTxnIdError.TheVariants as allocations
use Rattle.amqp_below_sessions.specs.declared.transacting.CommitFault.TheVariants as commit_faults
use Rattle.amqp_resource_session.specs.Transacting.{AllocatedIn, CommittedIn, CommittedWith, RolledBackIn}
use Rattle.amqp_resource_held.specs.Changes.{Fits}
use Rattle.amqp_resource_held.proofs.Kept.{tied_added}
use Rattle.amqp_resource_held.proofs.Fitting.{fits-ended, fits-same, fits_by}

pub fits-committed : (h g : Held) (told now : Told) (id : TransactionId) (kept : List Frame) (U : Type 0) (result : Result (Result (List Answers) TransactionError) CommitFault) → CommittedWith h g told now id kept U result → Fits h → Fits g
fits-committed h g told now id kept U (Ok answer) x f = fits-ended h g id x.0 f
fits-committed h g told now id kept U (Err commit_faults.NoMemory) x f = fits-same h g x.0 f
fits-committed h g told now id kept U (Err (commit_faults.Refused error handed)) x f = fits-ended h g id x.0 f

pub fits-discharged : (h g : Held) (told now : Told) (id : TransactionId) (U : Type 0) (result : Result (Result (List Answers) TransactionError) CommitFault) → CommittedIn h g told now id U result → Fits h → Fits g
fits-discharged h g told now id U (Ok (Ok echoes)) x f = fits-committed h g told now id _ U (Ok (Ok echoes)) x.1 f
fits-discharged h g told now id U (Ok (Err transaction_errors.UnknownId)) x f = fits-same h g x.1 f
fits-discharged h g told now id U (Ok (Err error)) x f = fits-committed h g told now id _ U (Ok (Err error)) x.1 f
fits-discharged h g told now id U (Err fault) x f = fits-committed h g told now id _ U (Err fault) x.1 f

pub fits-rolled_back : (h g : Held) (id : TransactionId) (result : Result Accepted TransactionError) → RolledBackIn h g id result → Fits h → Fits g
fits-rolled_back h g id (Ok accepted) x f = fits-ended h g id x.1 f
fits-rolled_back h g id (Err error) x f = fits-same h g x.2 f

pub fits-allocated : (h g : Held) (result : Result DrawnIds AllocTxnIdError) → AllocatedIn h g result → Fits h → Fits g
fits-allocated h g (Ok drawn) x f =
    let id : TransactionId = x.0 in
    let unused : kept h.work id ≡ None = x.1.unused in
    fits_by h g (tied_added h g id unused x.2.live x.2.links f.tied) (λ k. ap is_some (x.2.links k)) x.2.opened f
fits-allocated h g (Err (allocations.IdsRepeat drawn)) x f = fits-same h g x.1 f
fits-allocated h g (Err allocations.NotImplemented) x f = absurd x
fits-allocated h g (Err allocations.NoMemory) x f = fits-same h g x f
