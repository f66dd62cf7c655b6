-- What the pointer of a slot owns, and what a `&` to the slot shows.
--     held R p v      p is null and v None, or p leads to the box of x and v is Some x
--     shown R p v     the same, lent
use Rattle.std.specs.Prelude.{Option, None, Some}
use mir.Syntax.{Ty}
use base.Fml.{Lft, Fml, ftrue, ffalse, fsep, fex}
use denote.RattleType.{RattleType}
use denote.RawPtr.{Ptr, block_ptr, null_ptr, Testable}
use denote.Sharing.{nothing, said, beside}
use denote.Struct.Lending.{lent_at}
use Rattle.std_alloc.specs.Box.Ownership.{box_owns}
use Rattle.std_heap.specs.contracts.GlobalAllocator.TheImpl.{ghosts}

-- the right to free the block at p, whose value has this type: that of the one heap
abbrev pub chunk : Ty → Ptr → Fml
chunk = ghosts.dealloc_token (record { memory = record { seal = tt } })

-- p may be compared with null
abbrev pub testable : Ptr → Fml
testable p = fex (Testable p) (λ _. ftrue)

module _ (R : RattleType) where
  abbrev pub boxed : Ptr → R.Denot → Fml
  boxed = box_owns chunk R

  abbrev pub held : Ptr → Option R.Denot → Fml
  held null_ptr None = ftrue
  held null_ptr (Some x) = ffalse
  held (block_ptr b o) None = ffalse
  held (block_ptr b o) (Some x) = fsep (testable (block_ptr b o)) (boxed (block_ptr b o) x)

  abbrev pub shown : Ptr → Option R.Denot → Lft → Fml
  shown null_ptr None = nothing
  shown null_ptr (Some x) = said ffalse
  shown (block_ptr b o) None = said ffalse
  shown (block_ptr b o) (Some x) =
      beside (said (testable (block_ptr b o))) (lent_at R (block_ptr b o) x)
