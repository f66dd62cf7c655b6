-- A transfer that is counted at its link leaves on which handles transfers are taken.
use Rattle.std.proofs.Common.{ℕ, ◌≡◌, Option, Some, None, List, ◌∙◌, ap, refl, inl, inr}
use Rattle.std.specs.Prelude.{position}
use Rattle.std.proofs.lemmas.Bool.{cases_eq}
use Rattle.amqp_txn_types.specs.declared.small.InputHandle.{InputHandle}
use Rattle.amqp_below_sessions.specs.declared.links.Link.{Link}
use Rattle.amqp_below_sessions.specs.Agreement.{input_in}
use Rattle.amqp_below_sessions.specs.Links.{LinkTable, has_input, is_input, link_at, link_of, output_mapped, with_transfer}
use Rattle.amqp_below_sessions.specs.LinkMoves.{Changes}
use Rattle.amqp_below_sessions.specs.TakenWork.{TakesAlike, is_receiver}
use Rattle.amqp_below_sessions.proofs.Agreeing.{keys-kept}
use Rattle.amqp_below_sessions.proofs.NamesKept.{position-same, with_transfer-input}

-- a link has the input handle that another shows
has_input-same : (input : InputHandle) (a b : Option Link) → input_in a ≡ input_in b → has_input input a ≡ has_input input b
has_input-same input None None same = refl
has_input-same input None (Some b) same = ap (is_input input) same
has_input-same input (Some a) None same = ap (is_input input) same
has_input-same input (Some a) (Some b) same = ap (is_input input) same

with_transfer-receiver : (slot : Option Link) → is_receiver (with_transfer slot) ≡ is_receiver slot
with_transfer-receiver None = refl
with_transfer-receiver (Some link) = refl

-- where each link is of the same end, so is the one that is found
found-alike : (old new : List (Option Link)) → ((k : ℕ) → is_receiver (link_at new k) ≡ is_receiver (link_at old k))
    → (found : Option ℕ) → is_receiver (link_of new found) ≡ is_receiver (link_of old found)
found-alike old new same None = refl
found-alike old new same (Some at) = same at

-- links with the same input handles and ends
ends-alike : (old new : List (Option Link)) → ((k : ℕ) → input_in (link_at new k) ≡ input_in (link_at old k))
    → ((k : ℕ) → is_receiver (link_at new k) ≡ is_receiver (link_at old k)) → TakesAlike old new
unfolding output_mapped
ends-alike old new inputs ends input =
    let places : position (has_input input) new ≡ position (has_input input) old =
    position-same (has_input input) old new None refl (λ k. has_input-same input (link_at new k) (link_at old k) (inputs k)) in
    ap (λ o. is_receiver (link_of new o)) places ∙ found-alike old new ends (position (has_input input) old)

-- a transfer was counted
pub counted-alike : (found : Option ℕ) (old new : LinkTable) → Changes found old new with_transfer → TakesAlike old.slots new.slots
counted-alike None old new changes = absurd changes
counted-alike (Some at) old new changes =
    let slot = link_at old.slots at in
    ends-alike old.slots new.slots
    (keys-kept input_in old.slots new.slots at (ap input_in changes.0.changed ∙ with_transfer-input slot) changes.0.others)
    (λ k. elim (cases_eq k at) [
      | inl e ↦ rw e (ap is_receiver changes.0.changed ∙ with_transfer-receiver slot)
      | inr ne ↦ ap is_receiver (changes.0.others k ne)
    ])
