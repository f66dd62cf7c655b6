-- The words of the specs that the proofs use.
pub use Rattle.std.proofs.Common.{Bool, List, None, Option, Some, [], add-one, add-zero, ap, arith, cond, drop, false, get_or, inl, inr, length, map, refl, subst, suc, sym, take, true, vec_len, IfSome, zero, ℕ, ◌++◌, ◌+◌, ◌-◌, ◌<◌, ◌∙◌, ◌∷◌, ◌≡◌, ◌≤◌, ◌⊎◌}
pub use Rattle.std.specs.Prelude.{min, slice_get, slice_set, ◌==◌, ◌&&◌}
pub use Rattle.std.specs.Option.{option_map}
pub use Rattle.std.proofs.lemmas.Bool.Decides.{eqb_tells, leb_tells}
pub use Rattle.std.proofs.lemmas.Option.{get_or_from_slice_get, none-some, same_Some, slice_get-get_or, slice_get-map, slice_get_cases, slice_get_past, slice_get_within}
pub use Rattle.std.proofs.lemmas.List.{drop_all, drop_more, length-map, length-set, map-set, take_all, take_at}
pub use Rattle.std.proofs.Math.Seq.{map-set_same}
pub use Rattle.txn_broker_table.specs.declared.cell.Cell.{Cell}
pub use Rattle.txn_broker_table.specs.declared.cell.Ends.{Ends}
pub use Rattle.txn_broker_table.specs.declared.mark.Mark.{Mark}
pub use Rattle.txn_broker_table.specs.Marks.{Removes, Table, came, gone, is_waiting, is_waiting_in, numbers_from, numbers_in}
pub use Rattle.txn_broker_table.specs.Linking.{EndFits, EndsFit, Faded, Finds, Leads, LeadsOn, Linked, LinksFit, NonePasses, Prepared, QueuesFit, Relinked, Skips, SkipsFit, Spans, first_with, marks_of, queue_at}

-- what is read past the end
abbrev pub no_cell : Cell
no_cell = record { mark = record { place = 0; queue = 0; waits = false }; skip = 0; next = None }
