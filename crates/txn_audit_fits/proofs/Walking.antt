-- A report that is explained line by line, from a record on.
use Rattle.std.proofs.Common.{◌≡◌, ℕ, ◌+◌, Bool, true, false, List, [], ◌∷◌, ◌++◌, length, refl, sym, ap, subst, arith, append-nil, append_assoc, inl, inr}
use Rattle.amqp_txn_types.specs.declared.id.TransactionId.{TransactionId}
use Rattle.amqp_below_ids.specs.Ids.{AreNext}
use Rattle.amqp_below_ids.proofs.Draws.{AreNext-append, AreNext-shift}
use Rattle.amqp_resource_record.specs.declared.step.Step.{Step}
use Rattle.amqp_resource_record.specs.declared.entry.Entry.{Entry}
use Rattle.amqp_resource_record.specs.Entries.{drawn_of, steps_of}
use Rattle.amqp_resource_record.specs.Legal.{IsLegal, LegalAfter}
use Rattle.txn_audit_fits.specs.Fits.{Fits, Shows, ending_lines}
use Rattle.txn_audit_fits.specs.Departing.{Begins}
use Rattle.txn_audit_fits.specs.Explaining.{EndsHere}
use Rattle.txn_audit_fits.specs.Judging.{entry_of}
use Rattle.txn_audit_fits.specs.Walking.{After, ids_after}

pub ends_after : (all : Bool) (before : List Entry) (left : List Step) (next : ℕ → TransactionId) (lines : List (List ℕ)) → EndsHere all before left lines → After all before left next lines
ends_after all before [] next lines e = e
ends_after all before (step ∷ left) next lines e = inl e

-- ---- ids

are_front : (f : ℕ → TransactionId) (n : ℕ) (xs ys : List TransactionId) → AreNext f n (xs ++ ys) → AreNext f n xs
are_front f n [] ys a = tt
are_front f n (x ∷ xs) ys a = (a.0, are_front f (n + 1) xs ys a.1)

are_back : (f : ℕ → TransactionId) (n : ℕ) (xs ys : List TransactionId) → AreNext f n (xs ++ ys) → AreNext f (length xs + n) ys
are_back f n [] ys a = let P : ℕ → Type 0 = λ k. AreNext f k ys in let e : n ≡ length {A = TransactionId} [] + n = omega arith in subst P e a
are_back f n (x ∷ xs) ys a =
    let P : ℕ → Type 0 = λ k. AreNext f k ys in
    let e : length xs + (n + 1) ≡ length (x ∷ xs) + n = omega arith in
    subst P e (are_back f (n + 1) xs ys a.1)

are_moved : (f : ℕ → TransactionId) (k n : ℕ) (ys : List TransactionId) → AreNext f (k + n) ys → AreNext (λ m. f (k + m)) n ys
are_moved f k n [] a = tt
are_moved f k n (y ∷ ys) a =
    let P : ℕ → Type 0 = λ m. AreNext f m ys in
    let e : k + n + 1 ≡ k + (n + 1) = omega arith in
    (a.0, are_moved f k (n + 1) ys (subst P e a.1))

are_joined : (f : ℕ → TransactionId) (xs ys : List TransactionId) → AreNext f 0 xs → AreNext (ids_after f xs) 0 ys → AreNext f 0 (xs ++ ys)
are_joined f xs ys a b =
    let P : ℕ → Type 0 = λ m. AreNext f m ys in
    let e : length xs + 0 ≡ 0 + length xs = omega arith in
    AreNext-append f 0 xs ys a (subst P e (AreNext-shift f (ids_after f xs) (length xs) 0 ys (λ m. refl) b))

-- ---- from the record to the lines, and back

-- the lines are those of a legal record from here on, and those that end it, if all are
record Reports (all : Bool) (before : List Entry) (steps : List Step) (next : ℕ → TransactionId) (lines : List (List ℕ)) : Type 0 where
  entries : List Entry
  left : List Step
  ending : List (List ℕ)
  legal : LegalAfter before entries
  parts : steps ≡ steps_of entries ++ left
  drawn : AreNext next 0 (drawn_of entries)
  ends : EndsHere all (before ++ entries) left ending
  shown : Shows entries ending lines

to_after : (all : Bool) (entries before : List Entry) (steps left : List Step) (next : ℕ → TransactionId) (lines ending : List (List ℕ)) → LegalAfter before entries → steps ≡ steps_of entries ++ left → AreNext next 0 (drawn_of entries) → EndsHere all (before ++ entries) left ending → Shows entries ending lines → After all before steps next lines
to_after all [] before steps left next lines ending legal st dr e x =
    let P : List Entry → Type 0 = λ es. EndsHere all es left ending in
    let Q : List Step → Type 0 = λ ss. After all before ss next lines in
    let R : List (List ℕ) → Type 0 = λ ls. EndsHere all before left ls in
    subst Q (sym st) (ends_after all before left next lines (subst R (sym x) (subst P (append-nil before) e)))
to_after all (entry ∷ entries) before steps left next lines ending legal st dr e x =
    let P : List Entry → Type 0 = λ es. EndsHere all es left ending in
    let Q : List Step → Type 0 = λ ss. After all before ss next lines in
    let a = are_moved next (length entry.drawn.ids) 0 (drawn_of entries) (are_back next 0 entry.drawn.ids (drawn_of entries) dr) in
    subst Q (sym st)
    (inr (
      entry.drawn,
      entry.reply,
      x.0,
      x.1,
      legal.0,
      are_front next 0 entry.drawn.ids (drawn_of entries) dr,
      x.2,
      x.3,
      to_after all entries (before ++ entry ∷ []) (steps_of entries ++ left) left (ids_after next entry.drawn.ids) x.1 ending legal.1 refl a (subst P (sym (append_assoc before (entry ∷ []) entries)) e) x.4,
    ))

ends_from : (all : Bool) (before : List Entry) (left : List Step) (next : ℕ → TransactionId) (lines : List (List ℕ)) → EndsHere all before left lines → Reports all before left next lines
ends_from all before left next lines e =
    let P : List Entry → Type 0 = λ es. EndsHere all es left lines in
    record { entries = []; left = left; ending = lines; legal = tt; parts = refl; drawn = tt; ends = subst P (sym (append-nil before)) e; shown = refl }

from_after : (all : Bool) (steps : List Step) (before : List Entry) (next : ℕ → TransactionId) (lines : List (List ℕ)) → After all before steps next lines → Reports all before steps next lines
from_after all [] before next lines x = ends_from all before [] next lines x
from_after all (step ∷ left) before next lines (inl x) = ends_from all before (step ∷ left) next lines x
from_after all (step ∷ left) before next lines (inr x) =
    let entry = entry_of step x.0 x.1 in
    let r = from_after all left (before ++ entry ∷ []) (ids_after next x.0.ids) x.3 x.8 in
    let P : List Entry → Type 0 = λ es. EndsHere all es r.left r.ending in
    record {
      entries = entry ∷ r.entries;
      left = r.left;
      ending = r.ending;
      legal = (x.4, r.legal);
      parts = ap (λ ss. step ∷ ss) r.parts;
      drawn = are_joined next x.0.ids (drawn_of r.entries) x.5 r.drawn;
      ends = subst P (append_assoc before (entry ∷ []) r.entries) r.ends;
      shown = (x.2, x.3, x.6, x.7, r.shown);
    }

pub fits_after : (steps : List Step) (next : ℕ → TransactionId) (lines : List (List ℕ)) → Fits steps next lines → After true [] steps next lines
unfolding IsLegal
fits_after steps next lines f = to_after true f.entries [] steps f.left next lines (ending_lines f.entries f.left f.code f.handed) f.legal f.steps f.drawn (record { code = f.code; handed = f.handed; stop = f.stop; taken = f.taken; lines = refl }) f.lines

pub after_fits : (steps : List Step) (next : ℕ → TransactionId) (lines : List (List ℕ)) → After true [] steps next lines → Fits steps next lines
unfolding IsLegal
after_fits steps next lines x =
    let r = from_after true steps [] next lines x in
    let e = r.ends in
    let P : List (List ℕ) → Type 0 = λ ls. Shows r.entries ls lines in
    record { entries = r.entries; left = r.left; code = e.code; handed = e.handed; legal = r.legal; steps = r.parts; drawn = r.drawn; stop = e.stop; taken = e.taken; lines = subst P e.lines r.shown }

pub begins_after : (steps : List Step) (next : ℕ → TransactionId) (lines : List (List ℕ)) → Begins steps next lines → (more : List (List ℕ)) × After false [] steps next (lines ++ more)
unfolding IsLegal
begins_after steps next lines b = (b.more, to_after false b.entries [] steps b.left next (lines ++ b.more) b.ending b.legal b.steps b.drawn b.stop b.shown)

pub after_begins : (steps : List Step) (next : ℕ → TransactionId) (lines more : List (List ℕ)) → After false [] steps next (lines ++ more) → Begins steps next lines
unfolding IsLegal
after_begins steps next lines more x =
    let r = from_after false steps [] next (lines ++ more) x in
    record { entries = r.entries; left = r.left; ending = r.ending; more = more; legal = r.legal; steps = r.parts; drawn = r.drawn; stop = r.ends; shown = r.shown }
