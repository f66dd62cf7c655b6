use Rattle.std.proofs.Common.{◌≡◌, ◌++◌, take}
use Rattle.std.specs.Prelude.{string_bytes}
use Rattle.daxurbi_session.specs.Reporting.{frames_text}
use Rattle.daxurbi_session.proofs.reporting.put_frames.Given as goal

abbrev pub invariant-loop-frame : goal.invariant-loop-frame
invariant-loop-frame l = string_bytes l.out ≡ string_bytes l.fn.out ++ frames_text (take l.frame-index l.frames)
