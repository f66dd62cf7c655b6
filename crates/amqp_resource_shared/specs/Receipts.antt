-- Of which entry a receipt is.
use Rattle.std.specs.Prelude.{ℕ, ◌≡◌, Bool, Option, Some, None, List, [], ◌∷◌, slice_get, map}
use Rattle.amqp_txn_types.specs.declared.id.TransactionId.{TransactionId}
use Rattle.amqp_below_ids.specs.Drawn.{DrawnIds}
use Rattle.amqp_resource_record.specs.declared.entry.Entry.{Entry}
use Rattle.amqp_resource_record.specs.declared.step.Step.{Step}
use Rattle.amqp_resource_shared.specs.declared.receipt.Receipt.{Receipt}
use Rattle.amqp_resource_shared.specs.declared.reply_code.ReplyCode.{ReplyCode}
use Rattle.amqp_resource_shared.specs.ReplyCodes.{code_of_reply}

-- the number that a receipt tells, which is the place of its entry
abbrev pub number_of : Receipt → ℕ
number_of receipt = receipt.number

-- the step that it tells
abbrev pub step_told : Receipt → Step
step_told receipt = receipt.step

-- the draws that it tells
abbrev pub drawn_told : Receipt → DrawnIds
drawn_told receipt = receipt.drawn

-- the kind of reply that it tells
abbrev pub code_told : Receipt → ReplyCode
code_told receipt = receipt.code

-- the receipt tells step, draws and kind of reply of the entry
pub record IsOf (entry : Entry) (receipt : Receipt) : Type 0 where
  pub step : step_told receipt ≡ entry.step
  pub drawn : (drawn_told receipt).ids ≡ entry.drawn.ids
  pub code : code_told receipt ≡ code_of_reply entry.reply

-- there is an entry with its number, and the receipt is of that
abbrev pub IsOfEntry : List Entry → Receipt → Type 0
IsOfEntry entries receipt =
    (entry : Entry) × (slice_get entries (number_of receipt) ≡ Some entry) × IsOf entry receipt

-- each receipt is of the entry with its number
abbrev pub EachOfEntry : List Entry → List Receipt → Type 0
EachOfEntry entries [] = Unit {0}
EachOfEntry entries (receipt ∷ receipts) =
    IsOfEntry entries receipt × EachOfEntry entries receipts

-- there is a receipt, and it isn't of the entry with its number
abbrev pub NotOfEntry : List Entry → Option Receipt → Type 0
NotOfEntry entries None = ⊥
NotOfEntry entries (Some receipt) = IsOfEntry entries receipt → ⊥

-- the receipt is among these
abbrev pub IsAmongReceipts : List Receipt → Receipt → Type 0
IsAmongReceipts receipts told = (i : ℕ) × (slice_get receipts i ≡ Some told)

-- among the receipts is one with that number, of that entry
abbrev pub HasReceipt : List Receipt → ℕ → Entry → Type 0
HasReceipt receipts number entry =
    (receipt : Receipt) × IsAmongReceipts receipts receipt × (number_of receipt ≡ number)
    × IsOf entry receipt

-- the numbers of receipts
abbrev pub numbers_of : List Receipt → List ℕ
numbers_of receipts = map number_of receipts

-- what a receipt tells is of a kind
abbrev pub is_told : (Step → List TransactionId → ReplyCode → Bool) → Receipt → Bool
is_told kind receipt = kind (step_told receipt) (drawn_told receipt).ids (code_told receipt)

-- an entry is of a kind
abbrev pub is_recorded : (Step → List TransactionId → ReplyCode → Bool) → Entry → Bool
is_recorded kind entry = kind entry.step entry.drawn.ids (code_of_reply entry.reply)
