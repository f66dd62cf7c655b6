use Rattle.std.proofs.Common.{◌≡◌, ℕ, Some, List, rules, subst, sym}
use Rattle.std.specs.Prelude.{slice_get}
use Rattle.amqp_links.specs.SenderWire.{SenderWire}
use Rattle.txn_world_wires.specs.Links.{IsQuiet}
use Rattle.txn_world_wires.proofs.Opening.{new_quiet, none_open, pushed_quiet}
use Rattle.txn_world_wires.proofs.control_links.ControlLinks.new.Goals as goal

pub loop-entry-preserved : goal.loop-entry-preserved
loop-entry-preserved c = record {
  count = search rules;
  quiet =
      subst (λ (es : List SenderWire). (link : ℕ) (end : SenderWire) → slice_get es link ≡ Some end → IsQuiet end) (sym c.in_ok-push.ensures.items)
      (pushed_quiet c.loop-entry.ends.items c.new.result c.loop-entry.invariant.quiet (new_quiet c.new.result c.new.ensures.failing c.new.ensures.answers c.new.ensures.put));
}

pub invariant_of-result : goal.invariant_of-result
invariant_of-result c = none_open c.loop-entry.ends.items c.new-2.result.items c.loop-entry.invariant.quiet c.new-2.ensures.items
