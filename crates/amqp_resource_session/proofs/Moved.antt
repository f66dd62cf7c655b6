-- What a step leaves, where what is kept of it then stands in other memory.
use Rattle.std.proofs.Common.{Result, Ok, Err, List, ◌∙◌, ap, subst, sym}
use Rattle.std.specs.Prelude.{is_some}
use Rattle.amqp_txn_types.specs.declared.small.Accepted.{Accepted}
use Rattle.amqp_below_layer.specs.declared.answers.Answers.{Answers}
use Rattle.amqp_below_sessions.specs.declared.transacting.CommitFault.{CommitFault}
use Rattle.amqp_below_ids.specs.Drawn.{DrawnIds}
use Rattle.amqp_txn_types.specs.declared.performatives.Frame.{Frame}
use Rattle.amqp_resource_held.specs.declared.held.Held.{Held}
use Rattle.amqp_resource_record.specs.declared.reply.Reply.{Reply}
use Rattle.amqp_resource_record.specs.declared.step.Step.{Step}
use Rattle.amqp_resource_record.specs.declared.stop.StepError.{StepError}
use Rattle.amqp_below_layer.specs.Told.{Told}
use Rattle.amqp_txn_types.specs.declared.small.TransactionError.{TransactionError}
use Rattle.amqp_txn_types.specs.declared.id.TransactionId.{TransactionId}
use Rattle.amqp_txn_types.specs.declared.small.TransactionError.TheVariants as transaction_errors
use Rattle.amqp_below_sessions.specs.declared.transacting.CommitFault.TheVariants as commit_faults
use Rattle.amqp_resource_record.specs.declared.stop.StepError.TheVariants as errors
use Rattle.amqp_resource_held.specs.Held.{SameHeld}
use Rattle.amqp_resource_session.specs.Steps.{OnNoMemory}
use Rattle.amqp_resource_session.specs.Keeping.{AnswerKeeps, ErrorKeeps, Keeps}
use Rattle.amqp_resource_held.specs.Views.{View, view_of_held}
use Rattle.amqp_resource_held.proofs.Views.{one-view, view-moved}
use Rattle.amqp_resource_session.specs.Transacting.{CommittedIn, CommittedWith, RolledBackIn}
use Rattle.amqp_resource_held.specs.Changes.{Ended}
use Rattle.amqp_resource_held.proofs.Fitting.{fits-same}
use Rattle.amqp_resource_held.proofs.Kept.{tied_same}

-- ---- a step

pub keeps_moved : (h m g : Held) (told now : Told) (s : Step) (result : Result (DrawnIds × Reply) StepError) → SameHeld m g → Keeps h m told now s result → Keeps h g told now s result
keeps_moved h m g told now s result same x = record {
  fits = fits-same m g same x.fits;
  answer = subst (λ (w : View). AnswerKeeps (view_of_held h) w told now s result) (sym (one-view (view_of_held m) (view_of_held g) (view-moved m g same))) x.answer;
}

pub left_moved : (h m g : Held) (s : Step) (result : Result (DrawnIds × Reply) StepError) → SameHeld m g → ErrorKeeps (view_of_held h) (view_of_held m) s result → ErrorKeeps (view_of_held h) (view_of_held g) s result
left_moved h m g s result same x = subst (λ (w : View). ErrorKeeps (view_of_held h) w s result) (sym (one-view (view_of_held m) (view_of_held g) (view-moved m g same))) x

same_then : (h m g : Held) → SameHeld h m → SameHeld m g → SameHeld h g
same_then h m g x same = record { live = λ t. same.live t ∙ x.live t; links = λ k. same.links k ∙ x.links k; opened = same.opened ∙ x.opened }

pub same_moved : (h m g : Held) (result : Result (DrawnIds × Reply) StepError) → SameHeld m g → OnNoMemory result (SameHeld h m) → OnNoMemory result (SameHeld h g)
same_moved h m g (Ok out) same x = x
same_moved h m g (Err (errors.Fault error handed)) same x = x
same_moved h m g (Err (errors.Ended reason)) same x = x
same_moved h m g (Err (errors.Stopped code)) same x = x
same_moved h m g (Err errors.NoMemory) same x = same_then h m g x same

-- ---- calls

pub ended_moved : (h m g : Held) (id : TransactionId) → SameHeld m g → Ended h m id → Ended h g id
ended_moved h m g id same x = record {
  live = λ t. same.live t ∙ x.live t;
  links = λ k. ap is_some (same.links k) ∙ x.links k;
  tied = λ tied. tied_same m g same (x.tied tied);
  opened = same.opened ∙ x.opened;
}

with_moved : (h m g : Held) (told now : Told) (id : TransactionId) (all : List Frame) (U : Type 0) (result : Result (Result (List Answers) TransactionError) CommitFault) → SameHeld m g → CommittedWith h m told now id all U result → CommittedWith h g told now id all U result
with_moved h m g told now id all U (Ok answer) same x = (ended_moved h m g id same x.0, x.1)
with_moved h m g told now id all U (Err commit_faults.NoMemory) same x = (same_then h m g x.0 same, x.1)
with_moved h m g told now id all U (Err (commit_faults.Refused error handed)) same x = (ended_moved h m g id same x.0, x.1)

pub committed_moved : (h m g : Held) (told now : Told) (id : TransactionId) (U : Type 0) (result : Result (Result (List Answers) TransactionError) CommitFault) → SameHeld m g → CommittedIn h m told now id U result → CommittedIn h g told now id U result
committed_moved h m g told now id U (Ok (Ok echoes)) same x = (x.0, with_moved h m g told now id _ U (Ok (Ok echoes)) same x.1)
committed_moved h m g told now id U (Ok (Err transaction_errors.UnknownId)) same x = (x.0, same_then h m g x.1 same, x.2)
committed_moved h m g told now id U (Ok (Err error)) same x = (x.0, with_moved h m g told now id _ U (Ok (Err error)) same x.1)
committed_moved h m g told now id U (Err fault) same x = (x.0, with_moved h m g told now id _ U (Err fault) same x.1)

pub rolled_back_moved : (h m g : Held) (id : TransactionId) (result : Result Accepted TransactionError) → SameHeld m g → RolledBackIn h m id result → RolledBackIn h g id result
rolled_back_moved h m g id (Ok accepted) same x = (x.0, ended_moved h m g id same x.1)
rolled_back_moved h m g id (Err error) same x = (x.0, x.1, same_then h m g x.2 same)
