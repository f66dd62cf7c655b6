-- What a handle owns.
use Rattle.std.specs.Prelude.{Option, Some, None}
use Rattle.std.specs.Coded.{Coded, coded_option}
use base.Fml.{Fml, ftrue}
use denote.RawPtr.{Ptr}
use Rattle.std.specs.Global.{Global}
use Rattle.std.specs.Box.Ownership.{box_owns}
use Rattle.std_heap.specs.contracts.GlobalAllocator.TheImpl.{ghosts}
use Rattle.daxurbi_session.specs.contracts.slot_session.SlotSession.{the_row}

-- the session at the pointer and the right to free its block, where there is one
abbrev pub handle_owns : Global → Ptr → Option the_row.Denot → Fml
handle_owns alloc at None = ftrue
handle_owns alloc at (Some session) = box_owns (ghosts.dealloc_token alloc) the_row at session

-- how the logic stores it
abbrev pub handle_coded : Coded (Option the_row.Denot)
handle_coded = coded_option the_row.coded
