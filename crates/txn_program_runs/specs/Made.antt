-- The steps that `make N` drives, and the text that it writes.
use Rattle.std.specs.Prelude.{ℕ, zero, suc, ◌+◌, ◌%◌, ◌==◌, Bool, true, false, Option, Some, None, List, [], ◌∷◌, ◌++◌, length, codes, if◌then◌else◌}
use Rattle.std.specs.Fmt.{decimal}
use Rattle.std.specs.Int.{w32, to_be_bytes}
use Rattle.std.specs.List.{count_by}
use Rattle.amqp_txn_types.specs.declared.small.Role.TheVariants as roles
use Rattle.amqp_txn_types.specs.declared.performatives.Frame.TheVariants as frames
use Rattle.amqp_txn_codec.specs.declared.message.ControlMessageBody.{ControlMessageBody}
use Rattle.amqp_txn_codec.specs.declared.message.ControlMessageBody.TheVariants as messages
use Rattle.amqp_txn_codec.specs.Canon.{canon}
use Rattle.amqp_txn_codec.specs.Reading.{message_of}
use Rattle.amqp_resource_record.specs.declared.step.Step.{Step}
use Rattle.amqp_resource_record.specs.declared.step.Step.TheVariants as steps
use Rattle.amqp_resource_record.specs.declared.reply.Reply.{Reply}
use Rattle.amqp_resource_record.specs.declared.reply.Reply.TheVariants as replies
use Rattle.amqp_resource_record.specs.declared.entry.Entry.{Entry}
use Rattle.amqp_txn_codec.specs.Discharges.{is_rollback}
use Rattle.amqp_below_ids.specs.Counted.{id_of_number}
use Rattle.txn_program_lines.specs.Lines.{attach_of, coordinator, transfer_of, state_under}
use Rattle.txn_program_report.specs.Report.{line}

-- the attach of the one control link, as the line `attach c 0` spells it
unfoldable pub made_attach : Step
made_attach = steps.Frame (frames.Attach (attach_of (codes "c") 0 roles.Sender coordinator))

-- a declare on that link
unfoldable pub made_declare : Step
made_declare = steps.Control 0 (canon (messages.Declare (record { global_id = None })))

-- a post of a transaction: the delivery of that number on handle 1, settled, with the transaction's
-- number as its payload
unfoldable pub made_post : ℕ → ℕ → Step
made_post number delivery =
    steps.Frame (frames.Transfer
    (transfer_of (record { handle = 1; delivery_id = Some delivery; settled = Some true })
    (state_under (id_of_number number) None))
    (to_be_bytes w32 number))

-- a transaction is rolled back where its number is divisible by 3, else committed
abbrev pub made_fail : ℕ → Option Bool
made_fail number = if number % 3 == 0 then Some true else None

-- its discharge
unfoldable pub made_discharge : ℕ → Step
made_discharge number =
    steps.Control 0 (canon (messages.Discharge
    (record { txn_id = id_of_number number; fail = made_fail number })))

-- a post of a transaction, and one of the next
abbrev pub two_posts : ℕ → ℕ → List Step
two_posts number delivery = made_post number delivery ∷ made_post (number + 1) (delivery + 1) ∷ []

-- two transactions together: their declares, three times a post of each, their discharges
abbrev pub made_pair : ℕ → ℕ → List Step
made_pair number delivery =
    (made_declare ∷ made_declare ∷ [])
    ++ (two_posts number delivery ++ two_posts number (delivery + 2)
    ++ two_posts number (delivery + 4))
    ++ (made_discharge number ∷ made_discharge (number + 1) ∷ [])

-- a transaction alone: its declare, three posts, its discharge
abbrev pub made_alone : ℕ → ℕ → List Step
made_alone number delivery =
    made_declare ∷ made_post number delivery ∷ made_post number (delivery + 1)
    ∷ made_post number (delivery + 2) ∷ made_discharge number ∷ []

-- that many transactions from one of that number on, with deliveries from one of that number on:
-- two together, and the last alone where they are odd
abbrev pub made_from : ℕ → ℕ → ℕ → List Step
made_from zero number delivery = []
made_from (suc zero) number delivery = made_alone number delivery
made_from (suc (suc count)) number delivery =
    made_pair number delivery ++ made_from count (number + 2) (delivery + 6)

-- the steps of that many transactions: the attach, then the transactions from number 1 on, with
-- deliveries from number 0 on
abbrev pub made : ℕ → List Step
made count = made_attach ∷ made_from count 1 0

-- the message is a discharge that rolls back, or else one that commits
abbrev pub ends_by : Bool → Option ControlMessageBody → Bool
ends_by true (Some (messages.Discharge discharge)) = is_rollback discharge.fail
ends_by false (Some (messages.Discharge discharge)) =
    if is_rollback discharge.fail then false else true
ends_by rollback message = false

-- the step is such a discharge and was accepted
abbrev pub step_ends_by : Bool → Step → Reply → Bool
step_ends_by rollback (steps.Control link payload) (replies.Accepted echoes) =
    ends_by rollback (message_of payload)
step_ends_by rollback step reply = false

-- how many accepted discharges were rollbacks, or else commits
abbrev pub ends_count : Bool → List Entry → ℕ
ends_count rollback entries =
    count_by (λ (entry : Entry). step_ends_by rollback entry.step entry.reply) entries

-- the text, a line each: how many entries there are, accepted commits and rollbacks among them, and
-- frames that were taken
unfoldable pub made_text : List Entry → ℕ → List ℕ
made_text entries taken =
    line (codes "steps " ++ decimal (length entries))
    ++ line (codes "commits " ++ decimal (ends_count false entries))
    ++ line (codes "rollbacks " ++ decimal (ends_count true entries))
    ++ line (codes "taken " ++ decimal taken)
