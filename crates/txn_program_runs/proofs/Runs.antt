-- A drive over a fresh recorder is a run of the program.
use Rattle.std.proofs.Common.{◌≡◌, ℕ, ◌+◌, ◌↔◌, Option, Some, List, [], ◌∷◌, ◌∙◌, length, take, subst}
use Rattle.amqp_txn_types.specs.declared.id.TransactionId.{TransactionId}
use Rattle.amqp_txn_types.specs.declared.performatives.Attach.{Attach}
use Rattle.amqp_txn_types.specs.declared.performatives.Frame.{Frame}
use Rattle.amqp_below_layer.specs.declared.refusal.Refusal.{Refusal}
use Rattle.amqp_below_ids.specs.Ids.{AreNext}
use Rattle.amqp_below_layer.specs.Told.{Told}
use Rattle.amqp_txn_types.specs.Growing.{grown}
use Rattle.amqp_resource_record.specs.declared.step.Step.{Step}
use Rattle.amqp_resource_record.specs.declared.stop.Driven.{Driven}
use Rattle.amqp_resource_record.specs.declared.stop.Stop.TheVariants as stops
use Rattle.amqp_resource_record.specs.Entries.{drawn_of, steps_of}
use Rattle.amqp_resource_record.specs.Legal.{IsLegal}
use Rattle.amqp_resource_record.specs.Opened.{opens}
use Rattle.amqp_resource_record.specs.Vetoed.{vetoes}
use Rattle.amqp_resource_session.specs.Drive.{RunTook, RunRefused, StopCause}
use Rattle.txn_program_runs.specs.Running.{IsRun}

-- the ids of a stream are those of another that gives the same at each place
AreNext-along : (f g : ℕ → TransactionId) (n : ℕ) (ds : List TransactionId) → ((m : ℕ) → f m ≡ g m) → AreNext f n ds → AreNext g n ds
AreNext-along f g n [] same a = tt
AreNext-along f g n (d ∷ ds) same a = (a.0 ∙ same n, AreNext-along f g (n + 1) ds same a.1)

-- what a drive says where nothing was taken, opened or refused before, and what was vetoed is known
pub is_run : (f ids : ℕ → TransactionId) (steps : List Step) (told : Told) (driven : Driven) (taken : Option (List (Frame × List Frame))) (opened : Option (List (Attach × List Frame))) (refused : Option (List Refusal)) (vetoed before : Option (List (List Frame))) → ((n : ℕ) → f n ≡ ids n) → taken ≡ Some [] → opened ≡ Some [] → refused ≡ Some [] → vetoed ≡ before → IsLegal driven.entries → driven.at ≡ length driven.entries → steps_of driven.entries ≡ take driven.at steps → AreNext f 0 (drawn_of driven.entries) → ((driven.stop ≡ stops.Done) ↔ (steps_of driven.entries ≡ steps)) → StopCause steps driven.entries driven.stop → RunTook taken told.taken steps driven.entries driven.stop driven.handed → told.opened ≡ grown opened (opens driven.entries) → RunRefused refused told.refused steps driven.entries driven.stop driven.handed → told.reviews.vetoed ≡ grown vetoed (vetoes driven.entries) → IsRun ids steps before told driven
is_run f ids steps told driven taken opened refused vetoed before same none_taken none_opened none_refused same_vetoed legal at front drawn done cause took opens_too refused_too vetoed_too =
    let T : Option (List (Frame × List Frame)) → Type 0 = λ o. RunTook o told.taken steps driven.entries driven.stop driven.handed in
    let O : Option (List (Attach × List Frame)) → Type 0 = λ o. told.opened ≡ grown o (opens driven.entries) in
    let R : Option (List Refusal) → Type 0 = λ o. RunRefused o told.refused steps driven.entries driven.stop driven.handed in
    let V : Option (List (List Frame)) → Type 0 = λ o. told.reviews.vetoed ≡ grown o (vetoes driven.entries) in
    record {
      legal = legal;
      drawn = AreNext-along f ids 0 (drawn_of driven.entries) same drawn;
      at = at;
      front = front;
      done = done;
      cause = cause;
      taken = subst T none_taken took;
      opened = subst O none_opened opens_too;
      refused = subst R none_refused refused_too;
      vetoed = subst V same_vetoed vetoed_too;
    }
