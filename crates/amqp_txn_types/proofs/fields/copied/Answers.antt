use Rattle.std.proofs.Common.{nat_eq}
use Rattle.std.specs.Cmp.Lexicographic.{pointwise, nat_list_eq_equiv}
use Rattle.amqp_txn_types.proofs.Inserted.{insert_step}
use Rattle.amqp_txn_types.proofs.fields.copied.Goals as goal

pub loop-index-preserved : goal.loop-index-preserved
loop-index-preserved c =
    insert_step (pointwise nat_eq) nat_list_eq_equiv c.args.map.now.entries
    c.loop-index.copy c.insert_copy.new.self c.loop-index.index
    c.unwrap.result.0.now c.unwrap.result.1.now
    c.len-index-end.ensures.unique (rw c.unwrap.ensures at c.get_index.ensures.entry)
    c.loop-index.invariant c.in_ok-insert_copy.ensures
