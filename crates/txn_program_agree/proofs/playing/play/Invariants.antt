use Rattle.std.proofs.Common.{take}
use Rattle.txn_program_agree.specs.Playing.{PlayedAll}
use Rattle.txn_program_agree.proofs.playing.play.Given as goal

abbrev pub invariant-loop-event : goal.invariant-loop-event
invariant-loop-event g l = PlayedAll g.S.Tells.told g.G.IdSource.next g.S.LayerBelow.sure l.initial.world l.world (take l.event-index l.events) l.skipped
