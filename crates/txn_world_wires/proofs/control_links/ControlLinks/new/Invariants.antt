use Rattle.std.proofs.Common.{◌≡◌, ℕ, Some, vec_len}
use Rattle.std.specs.Prelude.{slice_get}
use Rattle.amqp_links.specs.SenderWire.{SenderWire}
use Rattle.txn_world_wires.specs.Links.{IsQuiet}
use Rattle.txn_world_wires.proofs.control_links.ControlLinks.new.Given as goal

abbrev pub invariant-loop-entry : goal.invariant-loop-entry
invariant-loop-entry l = record {
  count : vec_len l.ends ≡ l.entry-index;
  quiet : (link : ℕ) (end : SenderWire) → slice_get l.ends.items link ≡ Some end → IsQuiet end;
}
