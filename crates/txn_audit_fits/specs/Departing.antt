-- Where a report stops being that of a legal run.
use Rattle.std.specs.Prelude.{ℕ, ◌≡◌, ◌≤◌, ◌<◌, ◌+◌, ◌++◌, ◌⊎◌, Option, Some, None, List, [], length, take}
use Rattle.amqp_txn_types.specs.declared.id.TransactionId.{TransactionId}
use Rattle.amqp_below_ids.specs.Ids.{AreNext}
use Rattle.amqp_resource_record.specs.declared.step.Step.{Step}
use Rattle.amqp_resource_record.specs.declared.entry.Entry.{Entry}
use Rattle.amqp_resource_record.specs.Entries.{drawn_of, steps_of}
use Rattle.amqp_resource_record.specs.Legal.{IsLegal}
use Rattle.txn_audit_fits.specs.declared.difference.Difference.{Difference}
use Rattle.txn_audit_fits.specs.Fits.{Fits, Shows}
use Rattle.txn_audit_fits.specs.Ending.{Ends}

-- the lines begin those of a legal run: there is a legal record of the first of these steps that
-- drew the next of these ids, and they are the first lines of a report of it, so far or with those
-- that end it
pub record Begins (all : List Step) (next : ℕ → TransactionId) (lines : List (List ℕ)) : Type 0 where
  pub entries : List Entry
  pub left : List Step
  pub ending : List (List ℕ)
  pub more : List (List ℕ)
  pub legal : IsLegal entries
  pub steps : all ≡ steps_of entries ++ left
  pub drawn : AreNext next 0 (drawn_of entries)
  pub stop : (ending ≡ []) ⊎ Ends entries left ending
  pub shown : Shows entries ending (lines ++ more)

-- so many of the lines begin those of a legal run, and with the next one they don't, or, where they
-- are all, a line is missing
pub record Departs (all : List Step) (next : ℕ → TransactionId) (lines : List (List ℕ))
    (before : ℕ) : Type 0 where
  pub within : before ≤ length lines
  pub begins : Begins all next (take before lines)
  pub first : before < length lines → Begins all next (take (before + 1) lines) → ⊥
  pub none : Fits all next lines → ⊥

-- no difference exactly where the lines fit, else that of the first line that isn't explained
abbrev pub Differs : List Step → (ℕ → TransactionId) → List (List ℕ) → Option Difference → Type 0
Differs all next lines None = Fits all next lines
Differs all next lines (Some difference) = Departs all next lines difference.before
