-- A run over a broker: its record, and what the broker took of it.
use Rattle.std.specs.Prelude.{ℕ, ◌≡◌, ◌≤◌, ◌↔◌, ◌++◌, Some, List, [], length, take}
use Rattle.amqp_txn_types.specs.declared.id.TransactionId.{TransactionId}
use Rattle.amqp_txn_types.specs.declared.performatives.Frame.{Frame}
use Rattle.amqp_below_ids.specs.Ids.{AreNext}
use Rattle.amqp_resource_record.specs.declared.entry.Entry.{Entry}
use Rattle.amqp_resource_record.specs.declared.step.Step.{Step}
use Rattle.amqp_resource_record.specs.declared.step.Step.TheVariants as steps
use Rattle.amqp_resource_record.specs.declared.stop.Driven.{Driven}
use Rattle.amqp_resource_record.specs.declared.stop.Stop.TheVariants as stops
use Rattle.amqp_resource_record.specs.Entries.{drawn_of, steps_of}
use Rattle.amqp_resource_record.specs.Hands.{hands}
use Rattle.amqp_resource_record.specs.Legal.{IsLegal}
use Rattle.amqp_resource_record.specs.Work.{work}
use Rattle.amqp_resource_session.specs.Drive.{IfRefusal, NextStep, RunRose, RunTook, RunVetoed, StopCause}
use Rattle.txn_broker_queues.specs.Given.{answered}
use Rattle.txn_broker_queues.specs.Queues.{queue_found}
use Rattle.txn_broker_queues.specs.Taking.{Board, taken_of}

-- a broker that took exactly these frames: each of its queues is theirs
pub record TookExactly (broker : Board) (list : List Frame) : Type 0 where
  pub taken : taken_of broker ≡ list
  pub queues : (name : List ℕ) → queue_found (taken_of broker) name ≡ queue_found list name

-- of a commit no frame was taken
abbrev pub NoneOfCommit : Step → ℕ → Type 0
NoneOfCommit (steps.Control link payload) handed = handed ≡ 0
NoneOfCommit _ handed = Unit {0}

-- after a refusal the first frames of the step that was refused were taken, none of a commit
pub record TookFront (r : List Entry) (handed : ℕ) (broker : Board) (s : Step) : Type 0 where
  pub within : handed ≤ length (hands r s)
  pub holds : TookExactly broker (work r ++ take handed (hands r s))
  pub none : NoneOfCommit s handed

-- what a broker took in a run of these steps: the work of the record, which is that of the plain
-- frames and of the committed transactions, each at its commit; and after a refusal the first
-- frames of the next step, none of a commit (part 4, 4.4, transactional work)
abbrev pub HoldsRun : List Step → Driven → Board → Type 0
HoldsRun all driven broker = IfRefusal driven.stop
    (TookExactly broker (work driven.entries) × (driven.handed ≡ 0))
    (λ error. NextStep all driven.entries (TookFront driven.entries driven.handed broker))

-- a legal run over a front of the steps, with these ids, and what the broker, which was new, took
-- of it and answered
pub record IsBrokerRun (ids : ℕ → TransactionId) (all : List Step) (broker : Board)
    (driven : Driven) : Type 0 where
  -- the record is legal, for the id source
  pub legal : IsLegal driven.entries
  pub drawn : AreNext ids 0 (drawn_of driven.entries)
  -- its steps are the first `at` of the input's
  pub at : driven.at ≡ length driven.entries
  pub front : steps_of driven.entries ≡ take driven.at all
  -- every step has its entry, or the next step is what stopped it
  pub done : (driven.stop ≡ stops.Done) ↔ (steps_of driven.entries ≡ all)
  pub cause : StopCause all driven.entries driven.stop
  -- the frames that were taken, and with them the queues
  pub holds : HoldsRun all driven broker
  -- what was given back for them: the replies of the record show it, and it is the broker's answer
  -- by its rule
  pub given : RunTook (Some []) (Some broker.journal) all driven.entries driven.stop driven.handed
  pub answers : broker.journal ≡ answered (taken_of broker)
  -- each refusal and each veto is one of the broker's, which it counted
  pub rose : RunRose 0 broker.refusals driven.entries driven.stop
  pub vetoes_rose : RunVetoed 0 broker.vetoes driven.entries
