use Rattle.std.proofs.Common.{◌≡◌}
use Rattle.amqp_resource_shared.specs.Receipts.{is_told}
use Rattle.txn_program_threads.specs.Tallies.{tally_of}
use Rattle.txn_program_threads.specs.AtWork.{IsReady}
use Rattle.txn_program_threads.specs.Works.{AreOfWorker, MadeRounds, ToldLink}
use Rattle.txn_program_threads.proofs.worker.make_rounds.Given as goal

abbrev pub invariant-loop-made : goal.invariant-loop-made
invariant-loop-made g l = record {
  number : l.worker.number ≡ l.fn.worker.number;
  link : ToldLink l.worker.receipts.items l.link;
  ready : IsReady 0 l.place.rounds l.worker;
  receipts : AreOfWorker l.worker.number l.place.rounds l.worker.receipts.items;
  made : MadeRounds l.made (tally_of is_told l.worker.receipts.items);
}
