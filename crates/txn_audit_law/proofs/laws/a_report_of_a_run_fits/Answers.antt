use Rattle.txn_audit_law.proofs.Written.{reading-fits}
use Rattle.txn_audit_law.proofs.laws.a_report_of_a_run_fits.Goals as goal

pub returns : goal.returns
returns c reading ids before below run taken stop named =
    reading-fits reading ids before below c.args.driven.now c.args.exchanges.now (record {
      taken = taken;
      stop = stop;
      given = c.entries_are_within_types.ensures;
      named = named;
      handed = c.exchanges_are_within_types.ensures;
    }) run
