-- The attaches of the control links, one after another.
use Rattle.std.specs.Prelude.{ℕ, ◌≡◌, ◌⊎◌, true, false, Option, None, Result, Ok, Err, List, [], ◌∷◌, ◌++◌, length}
use Rattle.std.specs.List.{AllByRecursion}
use Rattle.amqp_txn_types.specs.Growing.{grown}
use Rattle.amqp_txn_types.specs.declared.id.TransactionId.{TransactionId}
use Rattle.amqp_below_layer.specs.Told.{Told}
use Rattle.amqp_below_layer.specs.declared.inner_error.SessionInnerError.{SessionInnerError}
use Rattle.amqp_below_ids.specs.Drawn.{DrawnIds}
use Rattle.amqp_below_ids.specs.Ids.{Drew}
use Rattle.amqp_resource_record.specs.Entries.{is_attached, steps_of}
use Rattle.amqp_resource_record.specs.Opened.{is_attach_refused, opens}
use Rattle.amqp_resource_record.specs.declared.entry.Entry.{Entry}
use Rattle.amqp_resource_record.specs.declared.reply.Reply.{Reply}
use Rattle.amqp_resource_record.specs.declared.reply.Reply.TheVariants as replies
use Rattle.amqp_resource_record.specs.declared.stop.StepError.{StepError}
use Rattle.amqp_resource_record.specs.declared.stop.StepError.TheVariants as step_errors
use Rattle.amqp_resource_session.specs.declared.session.TxnSession.{TxnSession}
use Rattle.amqp_resource_session.specs.Session.{StandsFor, below_of, stop_of}
use Rattle.txn_parties.specs.Turns.{entry_by}
use Rattle.txn_world.specs.Beginning.{Untaken, attach_step, attach_steps}
use Rattle.txn_world.specs.declared.errors.WorldError.{WorldError}
use Rattle.txn_world.specs.declared.errors.WorldError.TheVariants as errors

-- a reply that isn't a refused attach, or the error of one that is
abbrev pub UnlessRefused : Reply → Result Reply SessionInnerError → Type 0
UnlessRefused reply (Ok same) = (same ≡ reply) × (is_attach_refused reply ≡ false)
UnlessRefused reply (Err error) = reply ≡ replies.AttachRefused error

-- one attach: its step was answered, and is recorded unless it was refused
abbrev pub AttachesNext : (Result (DrawnIds × Reply) StepError → Type 0) → Type 0 → List Entry
    → List Entry → ℕ → Result Unit WorldError → Type 0
AttachesNext says same old new number (Ok done) =
    (drawn : DrawnIds) × (reply : Reply) × (is_attach_refused reply ≡ false)
    × (new ≡ old ++ entry_by (attach_step number) drawn reply ∷ []) × says (Ok (drawn, reply))
AttachesNext says same old new number (Err (errors.AttachRefused error)) =
    (drawn : DrawnIds) × says (Ok (drawn, replies.AttachRefused error))
AttachesNext says same old new number (Err errors.NoMemory) =
    same ⊎ says (Err step_errors.NoMemory)

-- so many links were attached
pub record Attaching {S G : Type 0} (told : S → Told) (next : G → ℕ → TransactionId)
    (starts : G → Option (ℕ → TransactionId)) (below : S) (ids later : G) (session : TxnSession S)
    (entries : List Entry) (links : ℕ) : Type 0 where
  pub runs : stop_of session ≡ None
  pub stands : StandsFor session entries
  pub attached : AllByRecursion (λ (e : Entry). is_attached e.reply ≡ true) entries
  pub steps : steps_of entries ≡ attach_steps links
  pub count : length entries ≡ links
  pub drew : Drew (next ids) (next later) []
  pub start : starts later ≡ starts ids
  pub untaken : Untaken (told below) (told (below_of session))
  pub opened : (told (below_of session)).opened ≡ grown (told below).opened (opens entries)
  pub refused : (told (below_of session)).refused ≡ (told below).refused
