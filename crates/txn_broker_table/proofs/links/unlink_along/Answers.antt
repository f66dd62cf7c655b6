use Rattle.txn_broker_table.proofs.Words.{arith, get_or, no_cell}
use Rattle.txn_broker_table.proofs.Linkage.{queue_here, reached_within, relinked_then}
use Rattle.txn_broker_table.proofs.links.unlink_along.Goals as goal

pub loop-preserved : goal.loop-preserved
loop-preserved c =
    let cells = c.loop.cells in
    let held = c.loop.invariant in
    let said = c.in-Some.ensures in
    let q = (get_or cells c.loop.at no_cell).mark.queue in
    record {
      fit = said.fit;
      relinked = relinked_then c.args.cells.now cells c.unlink_gone.new.cells held.relinked said.relinked;
      within =
          omega (
            arith,
            c.unlink_gone.auto.cells,
            reached_within cells q c.loop.at c.in-Some.next
                (said.found q (queue_here cells c.loop.at held.within)),
          );
    }
