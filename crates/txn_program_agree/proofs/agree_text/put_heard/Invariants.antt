use Rattle.std.proofs.Common.{◌≡◌, ◌≤◌, ◌++◌}
use Rattle.std.specs.Prelude.{string_bytes}
use Rattle.txn_parties.specs.Exchange.{made}
use Rattle.txn_program_agree.specs.AgreeText.{heard_lines}
use Rattle.txn_program_agree.proofs.agree_text.put_heard.Given as goal

abbrev pub invariant-loop-number : goal.invariant-loop-number
invariant-loop-number g l = record {
  written : string_bytes l.out ≡ string_bytes l.initial.out ++ heard_lines l.world.sides l.number;
  within : l.number ≤ made l.world.sides;
}
