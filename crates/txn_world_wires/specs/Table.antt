-- That what the controllers know is what the wires say.
use Rattle.std.specs.Prelude.{ℕ, ◌≡◌, ◌+◌, ◌==◌, ◌&&◌, Bool, true, false, cond, Option, Some, None, length, slice_get}
use Rattle.std.specs.List.{count_by, list_any}
use Rattle.txn_parties.specs.declared.item.Answered.{Answered}
use Rattle.txn_parties.specs.declared.item.Asked.{Asked}
use Rattle.txn_parties.specs.declared.item.Asked.TheVariants as asked
use Rattle.txn_parties.specs.declared.item.Item.{Item}
use Rattle.txn_parties.specs.declared.item.Item.TheVariants as items
use Rattle.txn_parties.specs.Items.{controller_in, ends_link, is_discharge}
use Rattle.txn_parties.specs.BackWire.{asked_by, id_in, verdict_in}
use Rattle.txn_parties.specs.Exchange.{Exchange, forward, made}
use Rattle.txn_world_wires.specs.declared.controllers.Controllers.{Controllers}
use Rattle.txn_world_wires.specs.declared.controllers.Transaction.{Transaction}
use Rattle.txn_world_wires.specs.Knowing.{awaited_of, has_ended, id_of, is_sent, link_of, verdict_of}

-- the same request
abbrev pub same_asked : Asked → Asked → Bool
same_asked asked.Declare asked.Declare = true
same_asked asked.Commit asked.Commit = true
same_asked asked.Rollback asked.Rollback = true
same_asked one other = false

-- it asked for this, where it asked for anything
abbrev pub is_asked : Option Asked → Asked → Bool
is_asked None request = false
is_asked (Some one) request = same_asked request one

-- the item is this request of the transaction
abbrev pub is_asking : ℕ → Asked → Item → Bool
is_asking number request (items.Declare other link) =
    (number == other) && same_asked request asked.Declare
is_asking number request (items.Discharge other link id rollback) =
    (number == other) && same_asked request (asked_by rollback)
is_asking number request item = false

-- it is answered to this request of the transaction
abbrev pub is_answer_to : ℕ → Asked → Answered → Bool
is_answer_to number request answer =
    (number == answer.txn) && same_asked request answer.asked

-- one where it awaits the answer to this request
abbrev pub awaits_one : Option Asked → Asked → ℕ
awaits_one None request = 0
awaits_one (Some awaited) request = cond (same_asked request awaited) 1 0

-- how many answers to this request of the transaction are yet to come
abbrev pub outstanding : Exchange → ℕ → Asked → ℕ
outstanding exchange number request =
    count_by (is_asking number request) exchange.waiting
    + count_by (is_answer_to number request) exchange.coming

-- what a transaction awaits: of a declare it has heard no id, of a discharge that was sent
abbrev pub AwaitsFit : Transaction → Option Asked → Type 0
AwaitsFit txn None = Unit {0}
AwaitsFit txn (Some asked.Declare) = txn.id ≡ None
AwaitsFit txn (Some asked.Commit) = txn.sent ≡ true
AwaitsFit txn (Some asked.Rollback) = txn.sent ≡ true

-- the table of the controllers is that of the two wires
pub record Tabled (known : Controllers) (exchange : Exchange) : Type 0 where
  pub made : length known.transactions ≡ made exchange
  pub links : length known.ended ≡ length exchange.first
  pub link : (number : ℕ)
      → link_of (slice_get known.transactions number) ≡ controller_in number (forward exchange)
  pub id : (number : ℕ)
      → id_of (slice_get known.transactions number) ≡ id_in number exchange.told
  pub verdict : (number : ℕ)
      → verdict_of (slice_get known.transactions number) ≡ verdict_in number exchange.told
  pub sent : (number : ℕ) → is_sent (slice_get known.transactions number)
      ≡ list_any (is_discharge number) (forward exchange)
  pub ended : (controller : ℕ) → has_ended (slice_get known.ended controller)
      ≡ list_any (ends_link controller) (forward exchange)
  pub awaits : (number : ℕ) (request : Asked)
      → awaits_one (awaited_of (slice_get known.transactions number)) request
      ≡ outstanding exchange number request
  pub fits : (number : ℕ) (txn : Transaction) → slice_get known.transactions number ≡ Some txn
      → AwaitsFit txn txn.awaits
