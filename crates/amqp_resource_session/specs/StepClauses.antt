-- What a step leaves of a session, by its answer.
use Rattle.std.specs.Prelude.{ℕ, ◌≡◌, ◌≤◌, Bool, Option, Some, None, Result, Ok, Err, List, [], ◌∷◌, ◌++◌, true, IfSome, IfOk, IfErr, OnErr}
use Rattle.amqp_resource_record.specs.Answers.{Answer}
use Rattle.amqp_below_ids.specs.Drawn.{DrawnIds}
use Rattle.amqp_below_ids.specs.Ids.{Drew}
use Rattle.amqp_resource_record.specs.declared.entry.Entry.{Entry}
use Rattle.amqp_txn_types.specs.declared.performatives.Frame.{Frame}
use Rattle.amqp_resource_held.specs.declared.held.Held.{Held}
use Rattle.amqp_txn_types.specs.declared.items.NoMemory.{NoMemory}
use Rattle.amqp_resource_record.specs.declared.reply.Reply.{Reply}
use Rattle.amqp_txn_types.specs.Counts.{Rose}
use Rattle.amqp_resource_record.specs.declared.step.Step.{Step}
use Rattle.amqp_resource_record.specs.declared.stop.StepError.{StepError}
use Rattle.amqp_below_layer.specs.Told.{Told}
use Rattle.amqp_txn_types.specs.declared.id.TransactionId.{TransactionId}
use Rattle.amqp_resource_session.specs.declared.session.TxnSession.{TxnSession}
use Rattle.amqp_below_layer.specs.declared.verdict.Verdict.{Verdict}
use Rattle.amqp_resource_record.specs.Hands.{hands}
use Rattle.amqp_txn_types.specs.declared.performatives.Disposition.{Disposition}
use Rattle.amqp_below_layer.specs.declared.inner_error.SessionInnerError.{SessionInnerError}
use Rattle.amqp_below_layer.specs.declared.inner_error.SessionInnerError.TheVariants as faults
use Rattle.amqp_below_layer.specs.declared.verdict.Verdict.TheVariants as verdicts
use Rattle.amqp_resource_record.specs.declared.stop.StepError.TheVariants as errors
use Rattle.amqp_resource_held.specs.Held.{Stands}
use Rattle.amqp_resource_session.specs.Steps.{entry_of, ended_by, takes_memory, AnswersEnd, ChecksWork, IfEnded, IfRefused, IfUnknown, IsControlAttach, IsFirstStop, MayFault, OnAttachRefused, OnNoMemory, OnNoCall, OnVeto, OpenedBy, RefusedAdds, RefusedBy, StopsSurely, TookFirst, TookHands, UnderDead, VetoedBy, step_hands}
use Rattle.amqp_resource_session.specs.Complete.{InOrder, Completed}
use Rattle.amqp_resource_session.specs.Keeping.{AnswerKeeps, ErrorKeeps}
use Rattle.amqp_resource_held.specs.Views.{view_of_record}
use Rattle.amqp_resource_session.specs.Session.{FitsTogether, ForEachRecord, SameSession, StopAfter, below_of, held_of, refusals_of, stop_of, told_of, vetoes_of, view_of}

-- what a step answers, leaves and does below, by a record that the session stood for before it
pub record StepRecords (old_told new_told : Told) (ids : ℕ → TransactionId) (new : Held)
    (entries : List Entry) (step : Step) (result : Result (DrawnIds × Reply) StepError)
    : Type 0 where
  -- The reply is an answer of the record to the step with the ids drawn, and the session then
  -- stands for the record with this entry.
  pub answer : IfOk result (λ out. Answer entries step out.0.ids out.1)
  pub stands : IfOk result (λ out. Stands new (entries ++ entry_of step out.0 out.1 ∷ []))
  -- Below took exactly what the step hands, each frame with what the reply says was given
  -- back; where it refused, the first of them.
  pub taken : IfOk result (λ out. TookHands old_told new_told entries step out.1)
  pub handed : IfRefused result
      (λ error handed. TookFirst old_told new_told (hands entries step) handed)
  -- What below opened, refused and vetoed.
  pub opened : IfOk result (λ out. OpenedBy old_told new_told step out.1)
  pub opened_none : OnErr result (new_told.opened ≡ old_told.opened)
  pub refused : IfOk result (λ out. RefusedBy old_told new_told step out.1)
  pub refused_last : IfRefused result (λ error handed.
      RefusedAdds old_told new_told step (hands entries step) error handed)
  pub vetoed : IfOk result (λ out. VetoedBy old_told new_told entries step out.1)
  pub vetoed_none : OnErr result (new_told.reviews.vetoed ≡ old_told.reviews.vetoed)
  -- An unknown id is the fault of work under an id that isn't live, and of nothing else.
  pub unknown : UnderDead (view_of_record entries) step
      → result ≡ Err (errors.Fault faults.UnknownTxnId 0)
  pub unknown_only : IfUnknown result
      (λ handed. UnderDead (view_of_record entries) step × (handed ≡ 0))
  -- Every other fault is a refusal below, of a step that makes a call there; in a commit it is out
  -- of memory. A refused attach is that of a control link, and the count of refusals rose.
  pub refusal : IfRefused result
      (λ error handed. MayFault (view_of_record entries) step (hands entries step) error)
  pub attach_refused : OnAttachRefused result
      (Rose old_told.refusals new_told.refusals × IsControlAttach step)
  -- Out of memory leaves the session standing for what it stood for, and comes of no step that
  -- takes none.
  pub memory : OnNoMemory result
      (Stands new entries × (takes_memory (view_of_record entries) step ≡ true))
  -- A valid step during which neither a refusal nor a veto is counted does what was asked, or runs
  -- out of memory.
  pub complete : (n : List TransactionId) → InOrder old_told new_told ids entries step n
      → Completed result

-- the clauses of a step, each by its name: on a session over a layer that tells this, is sure or
-- not, and reviews and checks so, with a source that gives these ids
pub record StepSays {S G : Type 0} (told : S → Told) (sure : Bool)
    (reviews : S → S → List Frame → Result Verdict NoMemory → Type 0)
    (checks : S → S → Disposition → Result Unit SessionInnerError → Type 0)
    (next : G → ℕ → TransactionId) (starts : G → Option (ℕ → TransactionId))
    (old new : TxnSession S) (old_source new_source : G) (step : Step)
    (result : Result (DrawnIds × Reply) StepError) : Type 0 where
  -- A stopped session answers with the code of its first stop, and nothing changes.
  pub stopped : IfSome (stop_of old) (λ code.
      (result ≡ Err (errors.Stopped code)) × (new ≡ old) × (new_source ≡ old_source))
  pub runs : stop_of old ≡ None → IfErr result IsFirstStop
  -- The answer by each record that the session stands for.
  pub by_record : ForEachRecord old (λ r.
      StepRecords (told_of told old) (told_of told new) (next old_source)
      (held_of new) r step result)
  -- A refusal below comes only where the count of refusals rose, and over a sure layer no frame of
  -- a commit was taken then.
  pub surely : IfRefused result (λ error handed. StopsSurely sure step handed)
  pub refusal_rose : IfRefused result (λ error handed.
      Rose (told_of told old).refusals (told_of told new).refusals)
  -- A veto comes only where the vetoes rose.
  pub veto_rose : OnVeto result
      (Rose (told_of told old).reviews.vetoes (told_of told new).reviews.vetoes)
  pub counted : (told_of told old).reviews.vetoes ≤ (told_of told new).reviews.vetoes
  -- A vetoed commit leaves below what the review of its frames left: no other call is made.
  pub reviewed : OnVeto result
      (reviews (below_of old) (below_of new) (step_hands (view_of old) step) (Ok verdicts.Veto))
  -- Work that is answered with a disposition has the layer below check exactly it, and makes no
  -- other call: the reply comes where the check was answered Ok, and its refusal is the fault.
  pub checked : stop_of old ≡ None → ChecksWork checks (below_of old) (below_of new) step result
  -- An end is answered with its own value; a copy of its error may run out of memory.
  pub ended : stop_of old ≡ None → AnswersEnd (ended_by step) result
  pub ended_only : IfEnded result (λ reason. ended_by step ≡ Some reason)
  -- Out of memory leaves the session as it was.
  pub same : OnNoMemory result (SameSession old new)
  -- A reply that comes without a call below leaves that as it was, and so does an error that
  -- isn't a refusal there. The count of refusals never falls.
  pub untouched : OnNoCall step result (below_of new ≡ below_of old)
  pub later : (told_of told old).refusals ≤ (told_of told new).refusals
  pub fixed : (told_of told new).fixed ≡ (told_of told old).fixed
  -- On every session that runs and whose parts fit together, also one that stands for no
  -- record: the answer by what is kept, what it leaves of each id and of the links, and what
  -- was done below.
  pub fits : FitsTogether old → FitsTogether new
  pub keeps : stop_of old ≡ None → FitsTogether old
      → AnswerKeeps (view_of old) (view_of new) (told_of told old) (told_of told new) step result
  -- What is kept after an error: an id that isn't live, an end and out of memory leave all as it
  -- was, and so does the refusal of a plain frame; a refused check leaves its work kept, and a
  -- commit that ran out of memory below has ended its id.
  pub left : stop_of old ≡ None → ErrorKeeps (view_of old) (view_of new) step result
  pub dead : stop_of old ≡ None → FitsTogether old
      → UnderDead (view_of old) step → result ≡ Err (errors.Fault faults.UnknownTxnId 0)
  pub attach_rose : OnAttachRefused result
      (Rose (told_of told old).refusals (told_of told new).refusals)
  -- The counts of its own calls, those of its traits, have no part in it.
  pub refusals : refusals_of new ≡ refusals_of old
  pub vetoes : vetoes_of new ≡ vetoes_of old
  -- The stop that is kept.
  pub stops : stop_of old ≡ None → StopAfter result (stop_of new)
  -- The ids drawn are the source's next ones, and every error leaves the source.
  pub drew : IfOk result (λ out. Drew (next old_source) (next new_source) out.0.ids)
  pub source : OnErr result (new_source ≡ old_source)
  pub start : starts new_source ≡ starts old_source
