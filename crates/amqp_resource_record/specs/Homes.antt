-- Where an id was declared.
use Rattle.std.specs.Prelude.{ℕ, ◌≡◌, true, Some, List, slice_get}
use Rattle.amqp_txn_types.specs.declared.id.TransactionId.{TransactionId}
use Rattle.amqp_resource_record.specs.declared.step.Step.TheVariants as steps
use Rattle.amqp_resource_record.specs.declared.reply.Reply.TheVariants as replies
use Rattle.amqp_resource_record.specs.declared.entry.Entry.{Entry}
use Rattle.amqp_resource_record.specs.Links.{is_open}
use Rattle.amqp_resource_record.specs.Live.{home, since}

-- the id has a home, which is open
abbrev pub HasOpenHome : List Entry → TransactionId → Type 0
HasOpenHome entries id = (link : ℕ) × (home entries id ≡ Some link) × (is_open entries link ≡ true)

-- the entry is a control message on the link, answered with the declare of the id
abbrev pub DeclaresOn : TransactionId → ℕ → Entry → Type 0
DeclaresOn id link entry =
    (payload : List ℕ) × (entry.step ≡ steps.Control link payload)
    × (entry.reply ≡ replies.Declared id)

-- the entry at the place declares the id on its home
abbrev pub DeclaredAt : List Entry → TransactionId → ℕ → Type 0
DeclaredAt entries id place =
    (link : ℕ) × (entry : Entry) × (home entries id ≡ Some link)
    × (slice_get entries place ≡ Some entry) × DeclaresOn id link entry

-- the id was declared, and the entry that did so last declares it on its home
abbrev pub DeclaredAtHome : List Entry → TransactionId → Type 0
DeclaredAtHome entries id =
    (place : ℕ) × (since entries id ≡ Some place) × DeclaredAt entries id place
