-- The links are kept by the order of their handles.
use Rattle.std.proofs.Common.{ap}
use Rattle.std.specs.Cmp.{unsigned_ties}
use Rattle.std.proofs.lemmas.Bool.{eqb-true}
use Rattle.amqp_below_layer.proofs.Ordered.{Exact}
use Rattle.txn_broker_queues.specs.Keeping.{handle_order, same_handle}

pub handles_exact : Exact handle_order same_handle
handles_exact = record {
  ties = λ a b. unsigned_ties a.0 b.0;
  one = λ a b h. ap (λ n. record { 0 = n }) (eqb-true a.0 b.0 h);
}
