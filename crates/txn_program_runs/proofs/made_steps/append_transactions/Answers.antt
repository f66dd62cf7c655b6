use Rattle.std.proofs.Common.{rules, ◌≡◌, ◌≤◌, ◌++◌, arith}
use Rattle.std.proofs.lemmas.Bool.Decides.{nat_tests}
use Rattle.txn_program_runs.specs.Made.{made_pair}
use Rattle.txn_program_runs.proofs.Makes.{pair_appended}
use Rattle.txn_program_runs.proofs.made_steps.append_transactions.Goals as goal

pub loop-left-preserved : goal.loop-left-preserved
loop-left-preserved c =
    let now = c.loop-left.invariant in
    let two : 2 ≤ c.loop-left.left = search (nat_tests, rules) in
    let appended : c.append_pair.new.steps ≡ c.loop-left.steps ++ made_pair c.loop-left.number c.loop-left.delivery = search rules in
    record {
      so_far = pair_appended _ c.loop-left.steps c.append_pair.new.steps c.loop-left.left c.loop-left.number c.loop-left.delivery two appended now.so_far;
      number = omega (arith, two, now.number);
      delivery = omega (arith, two, now.delivery);
    }
