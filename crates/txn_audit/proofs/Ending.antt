-- Audits for which memory ran out, and those of an input that was read.
use Rattle.std.proofs.Common.{◌≡◌, ℕ, inl, inr, Option, Some, None, List, refl, subst}
use Rattle.std.specs.Prelude.{codes, IfSome, string_bytes}
use Rattle.std.specs.declared.string.String.{String}
use Rattle.amqp_txn_types.specs.declared.id.TransactionId.{TransactionId}
use Rattle.amqp_below_streams.specs.Streams.{SinkTold, SourceTold}
use Rattle.amqp_resource_record.specs.declared.step.Step.{Step}
use Rattle.txn_program_edges.specs.declared.input.Reading.{Reading}
use Rattle.txn_program_edges.specs.declared.input.Reading.TheVariants as readings
use Rattle.txn_program_edges.specs.Reading.{Finds}
use Rattle.txn_program_edges.proofs.Streaming.{wrote_nothing}
use Rattle.txn_audit_fits.specs.declared.difference.Difference.{Difference}
use Rattle.txn_audit_fits.specs.Departing.{Departs, Differs}
use Rattle.txn_audit_fits.specs.Fits.{Fits}
use Rattle.txn_audit_fits.specs.Telling.{difference_text}
use Rattle.txn_audit.specs.declared.audit_runs.TheConstants.{INPUT_LIMIT}
use Rattle.txn_audit.specs.Auditing.{Audits, Ends, TellsWhy, line_told}

-- memory ran out before anything was read
pub audits-nothing : (ids : Option (List TransactionId)) (input : SourceTold) (output : SinkTold) → Audits ids input input output output 6 None
audits-nothing None input output = record { reading = readings.Fault; wanted = 2; text = codes "usage\n"; read = refl; answers = inl (refl, refl); status = inl refl; wrote = wrote_nothing output.written _ }
audits-nothing (Some ids) input output = record { reading = readings.Fault; wanted = 4; text = codes "read fault\n"; read = inr refl; answers = inl (refl, refl); status = inl refl; wrote = wrote_nothing output.written _ }

-- or as it was read
pub audits-unread : (ids : List TransactionId) (input left : SourceTold) (output : SinkTold) → Audits (Some ids) input left output output 6 None
audits-unread ids input left output = record { reading = readings.Fault; wanted = 4; text = codes "read fault\n"; read = inr refl; answers = inl (refl, refl); status = inl refl; wrote = wrote_nothing output.written _ }

pub audits-read : (ids : List TransactionId) (input left : SourceTold) (output written : SinkTold) (reading : Reading) (status : ℕ) (why : Option (List ℕ)) → Finds INPUT_LIMIT input left reading → Ends ids reading output written status why → Audits (Some ids) input left output written status why
audits-read ids input left output written reading status why f e = record { reading = reading; wanted = e.wanted; text = e.text; read = inl f; answers = e.answers; status = e.status; wrote = e.wrote }

-- or after it was read
pub ends-nothing : (ids : List TransactionId) (reading : Reading) (output : SinkTold) → Ends ids reading output output 6 None
ends-nothing ids reading output = record { wanted = 4; text = codes "read fault\n"; answers = inl (refl, refl); status = inl refl; wrote = wrote_nothing output.written _ }

-- what an audit answers, of the ids of a list
pub fits-yes : (steps : List Step) (next listed : ℕ → TransactionId) (lines : List (List ℕ)) → next ≡ listed → Differs steps next lines None → Fits steps listed lines
fits-yes steps next listed lines e f = subst (λ (ids : ℕ → TransactionId). Fits steps ids lines) e f

pub fits-no : (steps : List Step) (next listed : ℕ → TransactionId) (lines : List (List ℕ)) (difference : Difference) → next ≡ listed → Differs steps next lines (Some difference) → Departs steps listed lines difference.before
fits-no steps next listed lines difference e d = subst (λ (ids : ℕ → TransactionId). Departs steps ids lines difference.before) e d

-- the line that is told, where there was memory for it
pub tells-why : {Z : Type 0} (steps : List Step) (next : ℕ → TransactionId) (lines : List (List ℕ)) (difference : Difference) (line : Option (String Z)) → Departs steps next lines difference.before → IfSome line (λ text. string_bytes text ≡ difference_text difference lines) → TellsWhy steps next lines (line_told line)
tells-why steps next lines difference None d e = tt
tells-why steps next lines difference (Some text) d e = (difference, d, e)
