-- Why shares and receipts don't agree with the entries.
use Rattle.std.specs.Prelude.{ℕ, ◌≡◌, ◌<◌, Option, Some, None, Result, Ok, Err, List, slice_get, eqb, length}
use Rattle.std.specs.List.{IsDistinct}
use Rattle.amqp_resource_record.specs.declared.entry.Entry.{Entry}
use Rattle.amqp_resource_shared.specs.declared.close.Closed.{Closed}
use Rattle.amqp_resource_shared.specs.declared.close.CloseWhy.{CloseWhy}
use Rattle.amqp_resource_shared.specs.declared.close.CloseWhy.TheVariants as causes
use Rattle.amqp_resource_shared.specs.declared.receipt.Receipt.{Receipt}
use Rattle.amqp_resource_shared.specs.Receipts.{EachOfEntry, IsAmongReceipts, IsOfEntry, number_of, numbers_of}

-- what is handed back, with a cause or without
abbrev pub closed_of : {S G : Type 0} → Result (Closed S G) (Closed S G × CloseWhy) → Closed S G
closed_of (Ok closed) = closed
closed_of (Err failed) = failed.0

-- the cause, where there is one
abbrev pub why_of : {S G : Type 0} → Result (Closed S G) (Closed S G × CloseWhy) → Option CloseWhy
why_of (Ok closed) = None
why_of (Err failed) = Some failed.1

-- the receipts stand at two places, the first before the second
abbrev pub AreTwoOf : List Receipt → Receipt → Receipt → Type 0
AreTwoOf receipts told again =
    (i : ℕ) × (j : ℕ) × (i < j) × (slice_get receipts i ≡ Some told)
    × (slice_get receipts j ≡ Some again)

-- the causes, each exactly where those before it aren't: the shares count another number than the
-- entries; two receipts have one number; one isn't of the entry with its number. Out of memory
-- comes in place of the last two alone
abbrev pub ClosedBy : ℕ → List Entry → List Receipt → Option CloseWhy → Type 0
ClosedBy held entries receipts None =
    (held ≡ length entries) × IsDistinct eqb (numbers_of receipts) × EachOfEntry entries receipts
ClosedBy held entries receipts (Some (causes.Missing count told)) =
    (count ≡ length entries) × (told ≡ held) × (held ≡ length entries → ⊥)
ClosedBy held entries receipts (Some (causes.Repeated told again)) =
    (held ≡ length entries) × AreTwoOf receipts told again × (number_of told ≡ number_of again)
ClosedBy held entries receipts (Some (causes.Differs number told)) =
    (held ≡ length entries) × IsDistinct eqb (numbers_of receipts)
    × IsAmongReceipts receipts told × (number ≡ number_of told) × (IsOfEntry entries told → ⊥)
ClosedBy held entries receipts (Some causes.NoMemory) = held ≡ length entries

-- the shares count all entries
abbrev pub NotMissing : Option CloseWhy → Type 0
NotMissing (Some (causes.Missing entries held)) = ⊥
NotMissing _ = Unit {0}
