-- What a step says by a record that the session stood for.
use Rattle.std.proofs.Common.{◌≡◌, ℕ, Bool, Result, List, ap}
use Rattle.std.specs.Prelude.{IfOk}
use Rattle.amqp_below_ids.specs.Ids.{AreNext}
use Rattle.amqp_below_ids.specs.Drawn.{DrawnIds}
use Rattle.amqp_resource_record.specs.declared.entry.Entry.{Entry}
use Rattle.amqp_txn_types.specs.declared.performatives.Frame.{Frame}
use Rattle.amqp_resource_held.specs.declared.held.Held.{Held}
use Rattle.amqp_txn_types.specs.declared.items.NoMemory.{NoMemory}
use Rattle.amqp_resource_record.specs.declared.reply.Reply.{Reply}
use Rattle.amqp_resource_record.specs.declared.step.Step.{Step}
use Rattle.amqp_resource_record.specs.declared.stop.StepError.{StepError}
use Rattle.amqp_below_layer.specs.Told.{Told}
use Rattle.amqp_txn_types.specs.declared.id.TransactionId.{TransactionId}
use Rattle.amqp_below_layer.specs.declared.verdict.Verdict.{Verdict}
use Rattle.amqp_resource_held.specs.Held.{Stands}
use Rattle.amqp_txn_types.specs.declared.performatives.Disposition.{Disposition}
use Rattle.amqp_below_layer.specs.declared.inner_error.SessionInnerError.{SessionInnerError}
use Rattle.amqp_resource_session.specs.Leaving.{StepLeaves}
use Rattle.amqp_resource_session.specs.StepClauses.{StepRecords}
use Rattle.amqp_resource_session.specs.Steps.{OnNoCall}
use Rattle.amqp_resource_held.specs.Views.{view_of_held, view_of_record}
use Rattle.amqp_resource_session.proofs.Complete.{complete}
use Rattle.amqp_resource_held.proofs.Fitting.{fits-stands}
use Rattle.amqp_resource_session.proofs.Parts.{no_call_weaker, on_answered, on_error, on_refused, step_attach, step_memory, step_unknown, step_unknown_only}
use Rattle.amqp_resource_session.proofs.Recorded.{StepGave, gave, keeps-record}

pub step_records : {S : Type 0} (tells : S → Told) (sure : Bool) (reviews : S → S → List Frame → Result Verdict NoMemory → Type 0) (checks : S → S → Disposition → Result Unit SessionInnerError → Type 0) (h g : Held) (below now : S) (r : List Entry) (s : Step) (ids : ℕ → TransactionId) (result : Result (DrawnIds × Reply) StepError) → Stands h r → StepLeaves tells sure reviews checks h g below now s result → IfOk result (λ out. AreNext ids 0 out.0.ids) → StepRecords (tells below) (tells now) ids g r s result
step_records tells sure reviews checks h g below now r s ids result st x drawn =
    let old = tells below in
    let new = tells now in
    let kept = x.keeps (fits-stands h r st) in
    let by : StepGave g old new r s result = gave h g old new r s result st x.same kept in
    let own : OnNoCall s result (new ≡ old) = no_call_weaker s result (now ≡ below) _ (ap tells) x.untouched in
    record {
      answer = on_answered g old new r s result _ (λ out y. y.answer) by;
      stands = on_answered g old new r s result _ (λ out y. y.stands) by;
      taken = on_answered g old new r s result _ (λ out y. y.taken) by;
      handed = on_refused g old new r s result _ (λ error handed y. y.took) by;
      opened = on_answered g old new r s result _ (λ out y. y.opened) by;
      opened_none = on_error g old new r s result _ (λ error handed y. y.opened) by (no_call_weaker s result (new ≡ old) _ (ap (λ t. t.opened)) own);
      refused = on_answered g old new r s result _ (λ out y. y.refused) by;
      refused_last = on_refused g old new r s result _ (λ error handed y. y.refused) by;
      vetoed = on_answered g old new r s result _ (λ out y. y.vetoed) by;
      vetoed_none = on_error g old new r s result _ (λ error handed y. y.vetoed) by (no_call_weaker s result (new ≡ old) _ (ap (λ t. t.reviews.vetoed)) own);
      unknown = step_unknown (view_of_record r) (view_of_held g) old new s result (keeps-record h g old new r s result st kept);
      unknown_only = step_unknown_only g old new r s result by;
      refusal = on_refused g old new r s result _ (λ error handed y. y.fits) by;
      attach_refused = step_attach g old new r s result by x.cause;
      memory = step_memory g old new r s result by;
      complete = λ n. complete ids g old new r s n result by x.cause drawn;
    }
