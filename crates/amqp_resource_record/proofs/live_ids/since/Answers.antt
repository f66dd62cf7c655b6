use Rattle.std.proofs.Common.{sym, ◌∙◌}
use Rattle.amqp_resource_record.specs.Entries.{declares}
use Rattle.amqp_resource_record.proofs.Scanning.{last_place-found, last_place-passed}
use Rattle.amqp_resource_record.proofs.live_ids.since.Goals as goal
use Rattle.amqp_resource_record.proofs.live_ids.since.Goals.{then-is_declare_of, else-is_declare_of}

pub loop-place-preserved : goal.loop-place-preserved
loop-place-preserved c =
    elim c.if-is_declare_of.branch [
      | then-is_declare_of w ↦ last_place-found (declares c.args.txn_id.now) c.args.entries.now c.loop-place.place c.index-entries-place.result _ c.loop-place-test.true c.index-entries-place.is (sym c.is_declare_of.ensures ∙ w.if-is_declare_of.true) w.last-is
      | else-is_declare_of w ↦ last_place-passed (declares c.args.txn_id.now) c.args.entries.now c.loop-place.place c.index-entries-place.result _ c.loop-place-test.true c.index-entries-place.is (sym c.is_declare_of.ensures ∙ w.if-is_declare_of.false) (w.last-is ∙ c.loop-place.invariant)
    ]
