-- A handle with a session and its parts own what a box of the session owns.
use mir.Syntax.{impl, tnil, dnil}
use mathlib.Core.List.{[]}
use mathlib.Core.Bool.{Bool, true, false, ◌&&◌}
use lib.Dec.{T}
use denote.Signature.{Slot, plain}
use Rattle.std_alloc.proofs.BoxSteps.Form.{Bx}
use Rattle.std_heap.specs.contracts.Global as heap
use Rattle.std_heap.specs.contracts.GlobalAllocator.TheImpl.{ghosts, dict}
use Rattle.std_heap.proofs.Global.TheLaws as heap_laws
use Rattle.daxurbi_session.specs.contracts.slot_session.SlotSession as session
use Rattle.daxurbi_session.proofs.slot_session.SlotSession.TheLaws as session_laws
use Rattle.daxurbi.specs.contracts.parts.Parts as parts
use Rattle.daxurbi.specs.contracts.handle.Handle as handle

abbrev pub E : Bx
E = record { row = session.the_row; laws = session_laws.the_row_laws; al = record { row = heap.the_row; laws = heap_laws.the_row_laws; g = ghosts; d = dict; drops = impl [] tnil dnil } }

abbrev pub FromParts : Slot 0
FromParts = plain (λ _. parts.the_row session.the_row heap.the_row ghosts)

abbrev pub FromHandle : Slot 0
FromHandle = plain (λ _. handle.the_row)

abbrev pub FromGlobal : Slot 0
FromGlobal = plain (λ _. heap.the_row)

pub both_tt : (x y : Bool) → T x → T y → T (x && (y && true))
both_tt true true s t = tt
both_tt true false s t = absurd t
both_tt false y s t = absurd s
