-- Each message is in exactly one of the two queues, and what was heard tells how far the relay came.
use Rattle.std.specs.Prelude.{ℕ, zero, suc, ◌≡◌, ◌+◌, ◌≤◌, ◌⊎◌, Bool, true, false, cond, not, Option, Some, List, count_by, drop, length, map, take}
use Rattle.std.specs.List.{list_any}
use Rattle.amqp_txn_codec.specs.Discharges.{is_rollback}
use Rattle.amqp_txn_codec.specs.Reading.{message_of}
use Rattle.amqp_txn_codec.specs.declared.message.ControlMessageBody.{ControlMessageBody}
use Rattle.amqp_txn_codec.specs.declared.message.ControlMessageBody.TheVariants as messages
use Rattle.amqp_txn_types.specs.declared.performatives.Frame.{Frame}
use Rattle.amqp_resource_record.specs.declared.entry.Entry.{Entry}
use Rattle.amqp_resource_record.specs.declared.reply.Reply.{Reply}
use Rattle.amqp_resource_record.specs.declared.reply.Reply.TheVariants as replies
use Rattle.amqp_resource_record.specs.declared.step.Step.{Step}
use Rattle.amqp_resource_record.specs.declared.step.Step.TheVariants as steps
use Rattle.txn_broker_queues.specs.declared.message.Message.{Message}
use Rattle.txn_broker_queues.specs.Queues.{queue}
use Rattle.txn_parties.specs.declared.event.Heard.{Heard}
use Rattle.txn_parties.specs.declared.event.Heard.TheVariants as hearings
use Rattle.txn_parties.specs.Exchange.{Exchange, forward, heard, made, record_of}
use Rattle.txn_parties.specs.Items.{is_discharge}
use Rattle.txn_relay.specs.Moves.{from_name, to_name}

-- the message is a discharge that commits (part 4, 4.5.3, discharge)
abbrev pub is_commit_message : Option ControlMessageBody → Bool
is_commit_message (Some (messages.Discharge discharge)) = not (is_rollback discharge.fail)
is_commit_message _ = false

-- the step commits, and was accepted (part 4, 4.3, discharging a transaction)
abbrev pub accepts_commit : Step → Reply → Bool
accepts_commit (steps.Control link payload) (replies.Accepted echoes) =
    is_commit_message (message_of payload)
accepts_commit _ _ = false

-- how many commits the record has that were accepted
abbrev pub accepted_commits : List Entry → ℕ
accepted_commits entries = count_by (λ (e : Entry). accepts_commit e.step e.reply) entries

abbrev pub is_committed : Heard → Bool
is_committed hearings.Committed = true
is_committed _ = false

-- how many of the first transactions, so many of them, heard Committed
abbrev pub committed_among : Exchange → ℕ → ℕ
committed_among sides zero = 0
committed_among sides (suc txn) =
    committed_among sides txn + cond (is_committed (heard sides txn)) 1 0

-- how many transactions heard Committed
abbrev pub heard_committed : Exchange → ℕ
heard_committed sides = committed_among sides (made sides)

-- the last transaction has put its commit, and heard no answer to it
abbrev pub LastUnheard : Exchange → Type 0
LastUnheard sides =
    (txn : ℕ) × (made sides ≡ suc txn) × (list_any (is_discharge txn) (forward sides) ≡ true)
    × (heard sides txn ≡ hearings.Nothing)

abbrev pub payloads : List Message → List (List ℕ)
payloads messages = map (λ (m : Message). m.payload) messages

-- where the messages of the work are, once the layer below took these frames: of as many messages
-- as there are accepted commits the payloads are in `to`, in order, and all others are in `from`, in
-- order; and as many transactions heard Committed, or one less, where the last one has put its
-- commit and heard no answer
pub record Once (work : List Message) (sides : Exchange) (taken : List Frame) : Type 0 where
  pub within : accepted_commits (record_of sides) ≤ length work
  pub to_is : payloads (queue taken to_name)
      ≡ payloads (take (accepted_commits (record_of sides)) work)
  pub from_is : queue taken from_name ≡ drop (accepted_commits (record_of sides)) work
  pub heard : (heard_committed sides ≡ accepted_commits (record_of sides))
      ⊎ ((heard_committed sides + 1 ≡ accepted_commits (record_of sides)) × LastUnheard sides)
