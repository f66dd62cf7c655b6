-- The words of the specs and of other crates that the proofs use.
pub use Rattle.amqp_resource_log.specs.Cells.{EndsId, Log, arrived, closed_up, dead_count, emptied, frame_under, frames_in, frames_of, id_of, is_dead_cell, is_live_cell, is_live, is_under, live_count, live_ids, places, places_from, with_arrival, work_at, work_in}
pub use Rattle.amqp_resource_log.specs.Index.{Index, Indexed, Without, Written, homes_in, moved_to, places_added, places_in, places_kept, without_place}
pub use Rattle.amqp_resource_log.specs.Live.{Agrees, Homes, Keeps, Kept, LetsGo, Live, frame_count, frames_kept, home_of, kept, with_frame}
pub use Rattle.amqp_resource_log.specs.declared.cell.Cell.{Cell}
pub use Rattle.amqp_resource_log.specs.declared.live_id.LiveId.{LiveId}
pub use Rattle.amqp_txn_types.specs.Frames.{stripped}
pub use Rattle.amqp_txn_types.specs.Ids.{same_id}
pub use Rattle.amqp_txn_types.specs.Works.{frame_of_work}
pub use Rattle.amqp_txn_types.specs.declared.frames.TxnWorkFrame.{TxnWorkFrame}
pub use Rattle.amqp_txn_types.specs.declared.id.TransactionId.{TransactionId}
pub use Rattle.amqp_txn_types.specs.declared.items.NoMemory.{NoMemory}
pub use Rattle.amqp_txn_types.specs.declared.performatives.Frame.{Frame}
pub use Rattle.indexmap.proofs.CallerLemmas.{insert_entry-new}
pub use Rattle.std.proofs.Common.{Bool, Err, List, None, Ok, Option, Result, Some, [], add-one, add-zero, ap, append-nil, append_assoc, arith, cond, drop, drop-cons, false, get_or, length, map, refl, subst, suc, sym, take, true, vec_capacity, zero-add, ℕ, ⊎_elim, ◌++◌, ◌+◌, ◌-◌, ◌<◌, ◌^◌, ◌||◌, ◌∙◌, ◌∷◌, ◌≡◌, ◌≤◌}
pub use Rattle.std.proofs.Math.ListN.{length-set}
pub use Rattle.std.proofs.Math.Numerals.{one-add}
pub use Rattle.std.proofs.lemmas.Bool.{eq-eqb, lt-ltb, ltb-false, ltb-true, ne_eqb}
pub use Rattle.std.proofs.lemmas.List.{drop_all, length-map, length-take-le, take_all, take_more}
pub use Rattle.std.proofs.lemmas.List.Elements.{filter-append, filter_map-append}
pub use Rattle.std.proofs.lemmas.List.Filters.{FiltersInPlace, FiltersInPlace-all, FiltersInPlace-more_no, FiltersInPlace-more_swap, length-filter_both}
pub use Rattle.std.proofs.lemmas.List.Sums.{length-filter, sum_by-append, sum_by-cons, sum_by-set}
pub use Rattle.std.proofs.lemmas.Map.Keys.{IsDistinct-head, IsDistinct-tail}
pub use Rattle.std.proofs.lemmas.Map.Made.{is_some-lookup}
pub use Rattle.std.proofs.lemmas.Option.{get_or_from_slice_get, slice_get-get_or, slice_get_cases}
pub use Rattle.std.specs.Cmp.Lexicographic.{nat_list_eq_equiv, pointwise, same_text}
pub use Rattle.std.specs.HashMap.{spare}
pub use Rattle.std.specs.List.{AllByRecursion, cons_option, list_any, position_or_len, sum_by}
pub use Rattle.std.specs.Map.{keys_of, lookup, set_value}
pub use Rattle.std.specs.Option.{option_map}
pub use Rattle.std.specs.Prelude.{IfOk, IfSome, OnOk, count_by, filter, if◌then◌else◌, is_some, nat_eq, nat_lt, not, option_and_then, option_to_list, position, remove, slice_get, slice_index_or, slice_set, zero, ◌==◌}
