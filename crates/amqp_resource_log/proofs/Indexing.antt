-- The log and its index, once work came, or an id ended with all its work.
use Rattle.amqp_resource_log.proofs.Words.{Bool, Cell, EndsId, Err, IfOk, Index, Indexed, List, Log, NoMemory, Ok, Result, TransactionId, TxnWorkFrame, Without, Written, [], ap, cond, count_by, emptied, homes_in, is_dead_cell, length, places_added, places_from, places_kept, same_id, subst, sym, true, ℕ, ◌++◌, ◌∙◌, ◌∷◌, ◌≡◌, ◌≤◌}
use Rattle.amqp_resource_log.specs.declared.cell.Cell.TheVariants as cells
use Rattle.amqp_resource_log.proofs.Emptied.{places_emptied}
use Rattle.amqp_resource_log.proofs.Placed.{dead-arrived, places-arrived}

-- a log of these cells and this index
abbrev pub log_of : List Cell → Index → ℕ → Log
log_of cs index room = record { cells = cs; homes = homes_in index; room = room }

pub ends_id : (id : TransactionId) (cs ds : List Cell) (old new : Index) (room more : ℕ) (log : Log) → log_of cs old room ≡ log → ds ≡ emptied id cs → Without id old new → room ≤ more → EndsId id log (log_of ds new more)
ends_id id cs ds old new room more log view taken ends fits =
    subst (λ l. EndsId id l (log_of ds new more)) view (record {
      cells = taken;
      homes = ends.homes;
      distinct = ends.distinct;
      len = ends.len;
      room = fits;
    })

pub indexed_ended : (id : TransactionId) (cs ds : List Cell) (old new : Index) (before after : ℕ) → Indexed cs old before → Without id old new → ds ≡ emptied id cs → after ≡ count_by is_dead_cell ds → Indexed ds new after
indexed_ended id cs ds old new before after indexed without taken gone = record {
  places = λ t.
      without.places t ∙ ap (cond (same_id t id) []) (indexed.places t)
      ∙ sym (places_emptied 0 id t cs) ∙ ap (λ xs. places_from 0 t xs) (sym taken);
  gone = gone;
}

-- ---- work came

pub indexed_arrived : (id : TransactionId) (w : TxnWorkFrame) (cs ds : List Cell) (old new : Index) (dead n : ℕ) (result : Result Bool NoMemory) → Indexed cs old dead → Written (places_added result n) id old new → result ≡ Ok true → n ≡ length cs → ds ≡ cs ++ cells.Live id w ∷ [] → Indexed ds new dead
indexed_arrived id w cs ds old new dead n result indexed added is long after = record {
  places = λ t.
      added.places t
      ∙ ap (λ r. cond (same_id t id) (places_added r n (places_kept old t)) (places_kept old t)) is
      ∙ ap (λ ms. cond (same_id t id) (ms ++ n ∷ []) ms) (indexed.places t)
      ∙ ap (λ k. cond (same_id t id) (places_from 0 t cs ++ k ∷ []) (places_from 0 t cs)) long
      ∙ sym (places-arrived t id w cs)
      ∙ ap (λ xs. places_from 0 t xs) (sym after);
  gone = indexed.gone ∙ sym (dead-arrived id w cs) ∙ ap (λ xs. count_by is_dead_cell xs) (sym after);
}

pub opened_if : (result : Result Bool NoMemory) (a b : Bool) → IfOk result (λ opened. opened ≡ a) → a ≡ b → IfOk result (λ opened. opened ≡ b)
opened_if (Ok opened) a b is same = is ∙ same
opened_if (Err error) a b is same = tt
