-- The live cells of the log are the frames that are kept for the live ids.
use Rattle.amqp_resource_log.proofs.Words.{Agrees, AllByRecursion, Bool, Cell, EndsId, Err, Frame, Homes, IfOk, IsDistinct-head, IsDistinct-tail, Keeps, LetsGo, List, Live, Log, NoMemory, None, Ok, Result, Some, TransactionId, TxnWorkFrame, [], ap, arith, arrived, cond, cons_option, count_by, dead_count, false, frame_of_work, frames_in, frames_of, if◌then◌else◌, is_dead_cell, is_live_cell, is_live, is_some, is_some-lookup, kept, keys_of, length, list_any, live_count, lookup, nat_list_eq_equiv, refl, same_id, same_text, sum_by, sum_by-append, sum_by-cons, sym, true, with_arrival, zero-add, ℕ, ◌+◌, ◌||◌, ◌∙◌, ◌∷◌, ◌≡◌}
use Rattle.std.specs.List.{IsDistinct}
use Rattle.amqp_resource_log.specs.declared.cell.Cell.TheVariants as cells
use Rattle.amqp_resource_log.proofs.Emptied.{dead_emptied, live_emptied}
use Rattle.amqp_resource_log.proofs.Kept.{length-keys, none_in}
use Rattle.amqp_resource_log.proofs.Live.{agrees_ended, agrees_more, frames_are, is_kept, kept_ended, kept_more}

total_none : (ids : List TransactionId) → sum_by (λ t. length (frames_in [] t)) ids ≡ 0
total_none [] = refl
total_none (t ∷ ids) = sum_by-cons (λ t. length (frames_in [] t)) t ids ∙ ap (λ n. 0 + n) (total_none ids)

-- ---- one id among some that differ

none_after : (u t : TransactionId) (ids : List TransactionId) → u ≡ t → AllByRecursion (λ y. same_id t y ≡ false) ids → count_by (λ y. same_id y u) ids ≡ 0
none_after u t [] same all = refl
none_after u t (y ∷ ids) same all =
    sum_by-cons (λ y. cond (same_id y u) 1 0) y ids
    ∙ ap (λ n. cond (same_id y u) 1 0 + n) (none_after u t ids same all.1)
    ∙ ap (λ b. cond b 1 0 + 0) (nat_list_eq_equiv.symm y u ∙ ap (λ v. same_id v y) same ∙ all.0)

once : (u : TransactionId) (ids : List TransactionId) → IsDistinct same_id ids → list_any (same_id u) ids ≡ true → count_by (λ y. same_id y u) ids ≡ 1
once u [] d e = cc
once u (t ∷ ids) d e = sum_by-cons (λ y. cond (same_id y u) 1 0) t ids ∙ by_case (same_id u t) refl e (once u ids (IsDistinct-tail same_id t ids d))
  where
    by_case : (b : Bool) → same_id u t ≡ b → (b || list_any (same_id u) ids) ≡ true → (list_any (same_id u) ids ≡ true → count_by (λ y. same_id y u) ids ≡ 1) → cond (same_id t u) 1 0 + count_by (λ y. same_id y u) ids ≡ 1
    by_case true s f more =
        ap (λ n. cond (same_id t u) 1 0 + n) (none_after u t ids (same_text u t (sym s)) (IsDistinct-head same_id t ids d))
        ∙ ap (λ b. cond b 1 0 + 0) (nat_list_eq_equiv.symm t u ∙ s)
    by_case false s f more =
        ap (λ b. cond b 1 0 + count_by (λ y. same_id y u) ids) (nat_list_eq_equiv.symm t u ∙ s)
        ∙ zero-add (count_by (λ y. same_id y u) ids) ∙ more f

-- ---- one live cell

one_more : (b : Bool) (f : Frame) (fs : List Frame) → length (cons_option (cond b (Some f) None) fs) ≡ cond b 1 0 + length fs
one_more true f fs = omega arith
one_more false f fs = omega arith

summed : (a ft fs p g c gs ct gt : ℕ) → a ≡ ft + fs → ft ≡ p + g → fs ≡ c + gs → ct ≡ p + c → gt ≡ g + gs → a ≡ ct + gt
summed a ft fs p g c gs ct gt h1 h2 h3 h4 h5 = omega arith

total_more : (u : TransactionId) (w : TxnWorkFrame) (cs : List Cell) (ids : List TransactionId) → sum_by (λ t. length (frames_in (cells.Live u w ∷ cs) t)) ids ≡ count_by (λ t. same_id t u) ids + sum_by (λ t. length (frames_in cs t)) ids
total_more u w cs [] = refl
total_more u w cs (t ∷ ids) =
    summed (sum_by (λ t. length (frames_in (cells.Live u w ∷ cs) t)) (t ∷ ids)) (length (frames_in (cells.Live u w ∷ cs) t)) (sum_by (λ t. length (frames_in (cells.Live u w ∷ cs) t)) ids)
    (cond (same_id t u) 1 0) (length (frames_in cs t)) (count_by (λ t. same_id t u) ids) (sum_by (λ t. length (frames_in cs t)) ids)
    (count_by (λ t. same_id t u) (t ∷ ids)) (sum_by (λ t. length (frames_in cs t)) (t ∷ ids))
    (sum_by-cons (λ t. length (frames_in (cells.Live u w ∷ cs) t)) t ids) (one_more (same_id t u) (frame_of_work w) (frames_in cs t)) (total_more u w cs ids)
    (sum_by-cons (λ t. cond (same_id t u) 1 0) t ids) (sum_by-cons (λ t. length (frames_in cs t)) t ids)

-- ---- all live cells

rest_none : (b : Bool) (f : Frame) (fs : List Frame) → cons_option (cond b (Some f) None) fs ≡ [] → fs ≡ []
rest_none true f fs e = cc
rest_none false f fs e = e

-- the id of a live cell is among the ids, where nothing stands under any other
among_them : (u : TransactionId) (w : TxnWorkFrame) (cs : List Cell) (b : Bool) → (b ≡ false → frames_in (cells.Live u w ∷ cs) u ≡ []) → b ≡ true
among_them u w cs true e = refl
among_them u w cs false e =
    let here = ap (λ b. cons_option (cond b (Some (frame_of_work w)) None) (frames_in cs u)) (nat_list_eq_equiv.refl u) in
    let no : frame_of_work w ∷ frames_in cs u ≡ [] = sym here ∙ e refl in
    cc

all_kept : (cs : List Cell) (ids : List TransactionId) → IsDistinct same_id ids → ((t : TransactionId) → list_any (same_id t) ids ≡ false → frames_in cs t ≡ []) → count_by is_live_cell cs ≡ sum_by (λ t. length (frames_in cs t)) ids
all_kept [] ids d none = sym (total_none ids)
all_kept (cells.Live u w ∷ cs) ids d none =
    sum_by-cons (λ c. cond (is_live_cell c) 1 0) (cells.Live u w) cs
    ∙ ap (λ n. 1 + n) (all_kept cs ids d (λ t other. rest_none (same_id t u) (frame_of_work w) (frames_in cs t) (none t other)))
    ∙ sym (ap (λ n. n + sum_by (λ t. length (frames_in cs t)) ids) (once u ids d (among_them u w cs (list_any (same_id u) ids) (none u))))
    ∙ sym (total_more u w cs ids)
all_kept (cells.Dead ∷ cs) ids d none = all_kept cs ids d none

pub live_kept : (homes : Homes) (log : Log) → Agrees homes log → live_count log ≡ sum_by (λ t. length (frames_of log t)) (keys_of homes)
live_kept homes log agrees = all_kept log.cells (keys_of homes) agrees.distinct (λ t other. agrees.none t (none_in (lookup (same_id t) homes) (is_some-lookup (same_id t) homes ∙ other)))

-- ---- the counts of two

-- they are as many where the logs have as many live cells
pub same_count : (old new : Homes) (before after : Log) → Agrees old before → Agrees new after → live_count after ≡ live_count before → sum_by (λ t. length (frames_of after t)) (keys_of new) ≡ sum_by (λ t. length (frames_of before t)) (keys_of old)
same_count old new before after was is same = sym (live_kept new after is) ∙ same ∙ live_kept old before was

-- one more, where work was added
live-arrived : (log : Log) (id : TransactionId) (w : TxnWorkFrame) → live_count (with_arrival log id w) ≡ live_count log + 1
live-arrived log id w = sum_by-append (λ c. cond (is_live_cell c) 1 0) log.cells (cells.Live id w ∷ [])

-- ---- what a change makes of the value

-- the value of a log
pub keeps : (old : Log) (id : TransactionId) (w : TxnWorkFrame) (result : Result Bool NoMemory) → Agrees old.homes old → IfOk result (λ opened. opened ≡ is_live old id) → Keeps old (arrived result old id w) id (frame_of_work w) result
keeps old id w (Ok true) agrees opened =
    let live = sym (opened ∙ sym (is_some-lookup (same_id id) old.homes)) in (
      sym (is_kept (frames_of old id) (lookup (same_id id) old.homes)) ∙ live,
      sym (live_kept old.homes (with_arrival old id w) (agrees_more old.homes old id w live agrees))
          ∙ live-arrived old id w ∙ ap (λ n. n + 1) (live_kept old.homes old agrees),
      kept_more old.homes old id w,
    )
keeps old id w (Ok false) agrees opened = (sym (is_kept (frames_of old id) (lookup (same_id id) old.homes)) ∙ sym (opened ∙ sym (is_some-lookup (same_id id) old.homes)), refl)
keeps old id w (Err error) agrees opened = refl

pub agrees_arrived : (old : Log) (id : TransactionId) (w : TxnWorkFrame) (result : Result Bool NoMemory) → Agrees old.homes old → IfOk result (λ opened. opened ≡ is_live old id) → Agrees (arrived result old id w).homes (arrived result old id w)
agrees_arrived old id w (Ok true) agrees opened = agrees_more old.homes old id w (sym (opened ∙ sym (is_some-lookup (same_id id) old.homes))) agrees
agrees_arrived old id w (Ok false) agrees opened = agrees
agrees_arrived old id w (Err error) agrees opened = agrees

pub lets_go : (id : TransactionId) (old new : Log) (looks now : ℕ) → Agrees old.homes old → EndsId id old new → now ≡ looks + length (frames_of old id) → LetsGo old new id looks now
lets_go id old new looks now agrees ends looked =
    let frames = ap length (frames_are old.homes old agrees id) in
    let after = live_kept new.homes new (agrees_ended id old new agrees ends) in
    let before = live_kept old.homes old agrees in
    let live = ap (λ cs. count_by is_live_cell cs) ends.cells in
    let opened = is_kept (frames_of old id) (lookup (same_id id) old.homes) in
    record {
      kept = kept_ended id old new ends;
      ids =
          ap (λ n. n + (if is_some (kept old id) then 1 else 0)) (length-keys new.homes)
          ∙ ap (λ b. length new.homes + (if b then 1 else 0)) (sym opened) ∙ ends.len ∙ sym (length-keys old.homes);
      looked = looked ∙ ap (λ n. looks + n) frames;
      dead = ap (λ cs. count_by is_dead_cell cs) ends.cells ∙ dead_emptied id old.cells ∙ ap (λ n. dead_count old + n) frames;
      frames = omega (arith, frames, after, before, live, live_emptied id old.cells);
      room = ends.room;
    }
