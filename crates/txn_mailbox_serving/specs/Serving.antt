-- What a server has served, and leaves.
use Rattle.std.specs.Prelude.{ℕ, ◌≡◌, ◌↔◌, ◌≤◌, ◌<◌, ◌+◌, ◌^◌, Bool, Option, Some, None, List, [], ◌∷◌, ◌++◌, length, take, vec_capacity}
use Rattle.amqp_below_layer.specs.Told.{Told}
use Rattle.amqp_txn_types.specs.declared.id.TransactionId.{TransactionId}
use Rattle.amqp_resource_record.specs.declared.entry.Entry.{Entry}
use Rattle.amqp_resource_record.specs.declared.step.Step.{Step}
use Rattle.amqp_resource_record.specs.declared.stop.Stop.{Stop}
use Rattle.amqp_resource_record.specs.declared.stop.Driven.{Driven}
use Rattle.amqp_resource_record.specs.declared.stop.Stop.TheVariants as stops
use Rattle.amqp_resource_record.specs.Entries.{steps_of}
use Rattle.amqp_resource_record.specs.Legal.{IsLegal}
use Rattle.amqp_resource_session.specs.declared.session.TxnSession.{TxnSession}
use Rattle.amqp_resource_session.specs.DriveClauses.{DriveSays}
use Rattle.amqp_resource_session.specs.Ran.{Ran}
use Rattle.amqp_resource_session.specs.Session.{FitsTogether, IsFresh, StandsFor, below_of, held_of, stop_of}
use Rattle.txn_mailbox_queue.specs.declared.item.Item.{Item}
use Rattle.txn_mailbox_serving.specs.declared.server.Server.{Server}
use Rattle.txn_mailbox_serving.specs.declared.serving.Work.{Work}
use Rattle.txn_mailbox_serving.specs.Steps.{Came, CameSoFar, IsFrontOf, first_attach, list_of, marked, second_attach, senders_of}

-- a run of these entries that stopped so
abbrev pub driven : List Entry → Stop → ℕ → Driven
driven entries stop handed =
    record { entries = entries; stop = stop; at = length entries; handed = handed }

-- a run of these steps, each of which has its entry
pub record RunsOn {S G : Type 0} (told : S → Told) (next : G → ℕ → TransactionId)
    (starts : G → Option (ℕ → TransactionId)) (old new : TxnSession S) (old_source new_source : G)
    (steps : List Step) (entries : List Entry) : Type 0 where
  pub runs : stop_of new ≡ None
  pub fits : FitsTogether new
  pub ran : Ran (told (below_of old)) (told (below_of new)) (next old_source) (next new_source)
      (held_of new) entries
  pub start : starts new_source ≡ starts old_source
  pub these : steps_of entries ≡ steps

-- a run that stopped at one of these steps, whatever steps come after them
pub record HasStopped {S G : Type 0} (told : S → Told) (sure : Bool)
    (next : G → ℕ → TransactionId) (starts : G → Option (ℕ → TransactionId))
    (old new : TxnSession S) (old_source new_source : G) (steps : List Step)
    (entries : List Entry) (stop : Stop) : Type 0 where
  pub handed : ℕ
  pub says : (more : List Step) → DriveSays told sure next starts old new old_source new_source
      (steps ++ more) (driven entries stop handed)
  pub short : length entries < length steps

-- a run so far, by its stop if it has one
abbrev pub RunSoFar : {S G : Type 0} → (S → Told) → Bool → (G → ℕ → TransactionId)
    → (G → Option (ℕ → TransactionId)) → TxnSession S → TxnSession S → G → G → List Step
    → List Entry → Option Stop → Type 0
RunSoFar told sure next starts old new old_source new_source steps entries None =
    RunsOn told next starts old new old_source new_source steps entries
RunSoFar told sure next starts old new old_source new_source steps entries (Some stop) =
    HasStopped told sure next starts old new old_source new_source steps entries stop

-- a server that was asked to serve these steps with these marks, from that session and source on
pub record SoFar {S G : Type 0} (told : S → Told) (sure : Bool) (next : G → ℕ → TransactionId)
    (starts : G → Option (ℕ → TransactionId)) (old : TxnSession S) (old_source : G)
    (marks : List ℕ) (steps : List Step) (server : Server S G) : Type 0 where
  pub run : RunSoFar told sure next starts old server.session old_source server.ids steps
      server.entries.items server.stop
  pub written : server.marks.items ≡ take (length server.entries.items) marks
  pub each : length marks ≡ length steps
  pub within : length server.entries.items ≤ length steps

-- a server that was asked for two attaches and for the steps of the items that were taken
pub record ServedSoFar {S G : Type 0} (told : S → Told) (sure : Bool)
    (next : G → ℕ → TransactionId) (starts : G → Option (ℕ → TransactionId))
    (old : TxnSession S) (old_source : G) (first second : List Step) (one two : Step)
    (taken : List Item) (server : Server S G) : Type 0 where
  pub steps : List Step
  pub came : CameSoFar first second taken steps
  pub served : SoFar told sure next starts old old_source (2 ∷ 2 ∷ senders_of taken)
      (one ∷ two ∷ steps) server

-- two lists were served with these entries and marks, until that stop: there is an order in which
-- they came, and session and source are left as by a run of the two attaches and then the steps in
-- that order; the marks are 2 for the attaches, and the senders in that order
pub record Serves {S G : Type 0} (told : S → Told) (sure : Bool) (next : G → ℕ → TransactionId)
    (starts : G → Option (ℕ → TransactionId)) (old new : TxnSession S) (old_source new_source : G)
    (first second : List Step) (entries : List Entry) (marks : List ℕ) (stop : Stop) : Type 0 where
  pub senders : List ℕ
  pub steps : List Step
  pub handed : ℕ
  pub came : Came first second senders steps
  pub written : marks ≡ take (length entries) (2 ∷ 2 ∷ senders)
  pub run : DriveSays told sure next starts old new old_source new_source
      (first_attach ∷ second_attach ∷ steps) (driven entries stop handed)

-- what was served of two lists, with these entries and marks, until that stop
pub record KeepsLists {S : Type 0} (first second : List Step) (session : TxnSession S)
    (entries : List Entry) (marks : List ℕ) (stop : Stop) : Type 0 where
  -- The entries are a legal run, whose first two steps, as far as it goes, are the two attaches.
  -- Where the stop is Done, the session stands for it.
  pub legal : IsLegal entries
  pub attaches : take 2 (steps_of entries)
      ≡ take (length entries) (first_attach ∷ second_attach ∷ [])
  pub stands : stop ≡ stops.Done → StandsFor session entries
  -- Each entry has a mark. Where the stop is Done, the steps of each sender are its list, each step
  -- once and in order; else they are the first of it.
  pub each : length marks ≡ length entries
  pub whole : stop ≡ stops.Done → (marked 0 marks (steps_of entries) ≡ first)
      × (marked 1 marks (steps_of entries) ≡ second)
  pub fronts : (k : ℕ) → k < 2
      → IsFrontOf (marked k marks (steps_of entries)) (list_of first second k)
  -- Done comes exactly where every step has its entry.
  pub done : (stop ≡ stops.Done) ↔ (length entries ≡ length first + length second + 2)

-- what a server begins with: a fresh session, two lists, and room for all of their entries
pub record Begins {S G : Type 0} (told : S → Told) (first second : ℕ) (work : Work S G)
    : Type 0 where
  pub first_list : first ≡ length work.copies.first.items
  pub second_list : second ≡ length work.copies.second.items
  pub few : first + second < 2 ^ 32
  pub fresh : IsFresh told work.server.session
  pub runs : work.server.stop ≡ None
  pub entries : work.server.entries.items ≡ []
  pub marks : work.server.marks.items ≡ []
  pub entries_room : first + second + 2 ≤ vec_capacity work.server.entries
  pub marks_room : first + second + 2 ≤ vec_capacity work.server.marks
