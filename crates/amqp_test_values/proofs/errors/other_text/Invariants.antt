use Rattle.std.proofs.Common.{All, take}
use Rattle.amqp_test_values.specs.Texts.{Reads}
use Rattle.amqp_test_values.proofs.errors.other_text.Given as goal

abbrev pub invariant-loop-place : goal.invariant-loop-place
invariant-loop-place g l =
    All (λ row. Reads (g.E.Display.output row.0) row.1.now) (take l.place l.table)
