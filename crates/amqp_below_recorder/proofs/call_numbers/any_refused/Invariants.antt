use Rattle.std.proofs.Common.{◌≡◌, drop}
use Rattle.amqp_below_recorder.specs.Recording.{any_refused}
use Rattle.amqp_below_recorder.proofs.call_numbers.any_refused.Given as goal

-- what is left to look at decides
abbrev pub invariant-loop-frame : goal.invariant-loop-frame
invariant-loop-frame l =
    any_refused l.refused l.calls l.frames ≡ any_refused l.refused l.number (drop l._frame-index l.frames)
