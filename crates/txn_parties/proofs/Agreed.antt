-- The agreement of the two sides, put together.
use Rattle.txn_parties.specs.Exchange.{Exchange}
use Rattle.txn_parties.specs.Invariant.{Keeps}
use Rattle.txn_parties.specs.Agreement.{Agreement}
use Rattle.txn_parties.proofs.Agreeing.{drawn_once, means, span_rising, stops_sure}
use Rattle.txn_parties.proofs.Owning.{own_answer, own_declare}

pub agreement : (w : Exchange) → Keeps w → Agreement w
agreement w k = record {
  once = drawn_once w k;
  rising = span_rising w;
  means = λ x t h. means w x t k h;
  surely = stops_sure w k;
  back = k.back;
  declared = λ x t h. own_declare w x t k h;
  own = λ x. own_answer w x k;
}
