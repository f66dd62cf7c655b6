-- A relay over a filled broker, before its first event.
use Rattle.std.proofs.Common.{◌≡◌, ℕ, ◌+◌, true, Option, List, ◌∙◌, ap, arith}
use Rattle.std.proofs.lemmas.Option.{same_Some}
use Rattle.amqp_txn_types.specs.declared.id.TransactionId.{TransactionId}
use Rattle.amqp_below_ids.specs.declared.list_ids.ListIds.{ListIds}
use Rattle.txn_broker_queues.specs.Queues.{link_after, queue_found}
use Rattle.txn_broker_queues.specs.Taking.{Board, frames_of, taken_of, told_by}
use Rattle.txn_broker_queues.specs.declared.message.Message.{Message}
use Rattle.txn_world.specs.Beginning.{Began}
use Rattle.txn_world.specs.Happening.{TwoParties}
use Rattle.txn_relay.specs.Moves.{from_handle, from_name, to_handle, to_name}
use Rattle.txn_relay.specs.Relaying.{IsReady}
use Rattle.txn_relay.specs.Filling.{IsFilled, numbered}

ready_from : (next : ListIds → ℕ → TransactionId) (starts : ListIds → Option (ℕ → TransactionId)) (below : Board) (ids : ListIds) (world : TwoParties Board ListIds) (work : List Message) → Began told_by true next starts below ids 1 world → IsFilled below work → IsReady world work
ready_from next starts below ids world work b f =
    let taken : taken_of world.below ≡ taken_of below = ap frames_of (same_Some world.below.journal below.journal b.untaken.taken) in record {
      sides = b.sides;
      begins = b.begins;
      one = b.count;
      from_is = ap (λ t. queue_found t from_name) taken ∙ f.from_is;
      to_is = ap (λ t. queue_found t to_name) taken ∙ f.to_is;
      from_link = ap (λ t. link_after t from_handle) taken ∙ f.from_link;
      to_link = ap (λ t. link_after t to_handle) taken ∙ f.to_link;
    }

pub start_from : (next : ListIds → ℕ → TransactionId) (starts : ListIds → Option (ℕ → TransactionId)) (below : Board) (source : ListIds) (ids : List TransactionId) (payloads : List (List ℕ)) (world : TwoParties Board ListIds) (work : List Message) (stream : ℕ → TransactionId)
    → Began told_by true next starts below source 1 world → IsFilled below work → work ≡ numbered 0 payloads → ((n : ℕ) → next source n ≡ stream n)
    → IsReady world work × (work ≡ numbered 0 payloads) × ((n : ℕ) → next world.ids n ≡ stream n)
start_from next starts below source ids payloads world work stream b f is source_is =
    (ready_from next starts below source world work b f, is, λ n. let zero_n : 0 + n ≡ n = omega arith in b.drew.rest n ∙ ap (next source) zero_n ∙ source_is n)
