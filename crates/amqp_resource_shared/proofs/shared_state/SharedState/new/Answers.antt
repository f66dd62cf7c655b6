use Rattle.std.proofs.Common.{length, sym, ◌∙◌, ap}
use Rattle.amqp_resource_shared.proofs.Keeping.{kept-new}
use Rattle.amqp_resource_shared.proofs.shared_state.SharedState.new.Goals as goal

pub invariant_of-result : goal.invariant_of-result
invariant_of-result g c = (
  rw c.new.ensures.items (kept-new _ _ _ _ _ c.requires.fresh.0 c.requires.fresh.1 c.requires.taken c.requires.start),
  c.requires.book.0 ∙ sym (ap length c.new.ensures.items),
  c.requires.book.1,
  c.requires.book.2,
)
