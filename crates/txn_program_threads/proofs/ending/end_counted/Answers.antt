use Rattle.std.proofs.Common.{rules, inr, refl}
use Rattle.txn_program_threads.proofs.ending.end_counted.Goals as goal

pub returns-clause-numbers : goal.returns-clause-numbers
returns-clause-numbers g c = inr (record {
  counts = record {
    entries = search rules;
    commits = search rules;
    rollbacks = search rules;
    taken = let told = c.exchanges.ensures in let len = c.len-2.ensures in (cc);
    refused = search rules;
    status = search rules;
  };
  why = refl;
  done = λ zero. c.is_short.ensures (search rules) zero;
})
