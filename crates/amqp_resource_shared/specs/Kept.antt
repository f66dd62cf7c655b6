-- What holds of the value under the lock.
use Rattle.std.specs.Prelude.{ℕ, ◌≡◌, ◌+◌, ◌-◌, ◌^◌, ◌≤◌, min, Bool, true, false, cond, Option, Some, None, List, ◌++◌, length, take, IfSome}
use Rattle.std.specs.List.{zip}
use Rattle.amqp_txn_types.specs.declared.id.TransactionId.{TransactionId}
use Rattle.amqp_txn_types.specs.declared.performatives.Frame.{Frame}
use Rattle.amqp_txn_types.specs.declared.delivery.SessionStopReason.{SessionStopReason}
use Rattle.amqp_below_layer.specs.Told.{Told}
use Rattle.amqp_below_ids.specs.Ids.{Drew}
use Rattle.amqp_resource_record.specs.declared.entry.Entry.{Entry}
use Rattle.amqp_resource_record.specs.declared.step.Step.{Step}
use Rattle.amqp_resource_record.specs.declared.stop.StopCode.{StopCode}
use Rattle.amqp_resource_record.specs.declared.stop.StopCode.TheVariants as codes
use Rattle.amqp_resource_record.specs.Entries.{drawn_of}
use Rattle.amqp_resource_record.specs.Hands.{hands}
use Rattle.amqp_resource_record.specs.Legal.{IsLegal}
use Rattle.amqp_resource_record.specs.Opened.{attach_refused_count}
use Rattle.amqp_resource_record.specs.Stops.{ended_code}
use Rattle.amqp_resource_record.specs.Work.{pairs}
use Rattle.amqp_resource_held.specs.declared.held.Held.{Held}
use Rattle.amqp_resource_held.specs.Held.{Stands}
use Rattle.amqp_resource_held.specs.Views.{view_of_record}
use Rattle.amqp_resource_session.specs.Steps.{UnderDead, ended_by}
use Rattle.amqp_resource_shared.specs.declared.receipt.StoppedAt.{StoppedAt}

-- what was taken below since the start: the pairs of the record, and after a stop exactly as many
-- more as were handed, whose frames are the first of those that the stopping step hands (4.4)
abbrev pub TakenOf : List Entry → Option StoppedAt → List (Frame × List Frame) → Type 0
TakenOf entries None taken = taken ≡ pairs entries
TakenOf entries (Some at) taken =
    (given : List (List Frame)) × (at.handed ≤ length (hands entries at.step))
    × (length given ≡ at.handed)
    × (taken ≡ pairs entries ++ zip (take at.handed (hands entries at.step)) given)

-- the step asks for the end that has this code
abbrev pub EndsWithCode : StopCode → Step → Type 0
EndsWithCode code step =
    (reason : SessionStopReason) × (ended_by step ≡ Some reason) × (code ≡ ended_code reason)

-- the step that stopped fits the code: an unknown id is that of a frame whose id isn't live, and an
-- end that of a step that asks for it
abbrev pub StopFits : List Entry → StopCode → Step → Type 0
StopFits entries codes.UnknownTxnId step = UnderDead (view_of_record entries) step
StopFits entries codes.Ended step = EndsWithCode codes.Ended step
StopFits entries codes.EndedWithError step = EndsWithCode codes.EndedWithError step
StopFits entries codes.RemoteEnded step = EndsWithCode codes.RemoteEnded step
StopFits entries codes.RemoteEndedWithError step = EndsWithCode codes.RemoteEndedWithError step
StopFits entries codes.ConnectionStopped step = EndsWithCode codes.ConnectionStopped step
StopFits entries codes.Done step = ⊥
StopFits entries codes.NoMemory step = ⊥
StopFits entries _ step = Unit {0}

-- the code is that of a refusal below
abbrev pub is_refusal : StopCode → Bool
is_refusal codes.UnattachedHandle = true
is_refusal codes.LinkNameNotFound = true
is_refusal codes.HandleInUse = true
is_refusal codes.IllegalState = true
is_refusal codes.TransferToSender = true
is_refusal codes.BelowConnectionStopped = true
is_refusal codes.BelowRemoteEnded = true
is_refusal codes.BelowRemoteEndedWithError = true
is_refusal codes.BelowNoMemory = true
is_refusal _ = false

-- one, where the stop is a refusal below
abbrev pub refused_stop : Option StopCode → ℕ
refused_stop None = 0
refused_stop (Some code) = cond (is_refusal code) 1 0

-- while it hasn't stopped the session stands for the entries; after a stop the step at which it
-- stopped is kept, with how many of the frames that it hands were taken
abbrev pub Standing : Held → Option StopCode → List Entry → Option StoppedAt → Type 0
Standing held None entries None = Stands held entries
Standing held None entries (Some at) = ⊥
Standing held (Some code) entries None = ⊥
Standing held (Some code) entries (Some at) =
    StopFits entries code at.step × (at.handed ≤ length (hands entries at.step))

-- what the lock keeps: the entries are a legal record; its draws are the first ids of the source,
-- whose next ones follow; the session stands for it; what was taken below is its work, and what a
-- stop handed; and each refusal that it tells of was counted below. What a layer or a source
-- doesn't tell isn't spoken of (4.1 to 4.4)
pub record Kept (held : Held) (stop : Option StopCode) (told : Told)
    (start : Option (ℕ → TransactionId)) (next : ℕ → TransactionId) (entries : List Entry)
    (stopped : Option StoppedAt) : Type 0 where
  pub legal : IsLegal entries
  pub drew : IfSome start (λ ids. Drew ids next (drawn_of entries))
  pub standing : Standing held stop entries stopped
  pub taken : IfSome told.taken (λ taken. TakenOf entries stopped taken)
  pub refusals : min (attach_refused_count entries + refused_stop stop) (2 ^ 64 - 1)
      ≤ told.refusals
