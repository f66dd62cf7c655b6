-- The words of the specs and of other crates that the proofs use.
pub use Rattle.std.proofs.Common.{Bool, Err, List, None, Ok, Option, Result, Some, [], add-zero, ap, append-nil, append_assoc, arith, cond, drop, false, inl, inr, length, length-append, map, refl, subst, suc, sym, take, true, zero, ℕ, ◌++◌, ◌+◌, ◌-◌, ◌<◌, ◌||◌, ◌∙◌, ◌∷◌, ◌≡◌, ◌≤◌, ◌⊎◌}
pub use Rattle.std.specs.Prelude.{count_by, is_some, nat_eq, nat_le, nat_lt, not, option_to_list, reverse, slice_get, unwrap_or, ◌==◌, ◌&&◌}
pub use Rattle.std.specs.List.{cons_option, enumerate_from, filter_map, list_all, list_any, range_with_len, IsDistinct}
pub use Rattle.std.specs.Option.{option_map}
pub use Rattle.std.specs.Cmp.Lexicographic.{nat_list_eq_equiv, pointwise, same_text}
pub use Rattle.std.proofs.lemmas.Bool.Decides.{eqb_tells, leb_tells}
pub use Rattle.std.proofs.lemmas.Option.{get_or_from_slice_get, none-some, same_Some, slice_get_cases, slice_get_within}
pub use Rattle.std.proofs.lemmas.List.{drop-append-le, drop_all, length-map, length_push, map-append, map_push, reverse-append, take-append-le, take_all}
pub use Rattle.std.proofs.lemmas.List.Elements.{filter_map-append}
pub use Rattle.std.proofs.lemmas.List.Folds.{list_any-append}
pub use Rattle.amqp_txn_types.specs.declared.performatives.Attach.{Attach}
pub use Rattle.amqp_txn_types.specs.declared.performatives.Disposition.{Disposition}
pub use Rattle.amqp_txn_types.specs.declared.performatives.Frame.{Frame}
pub use Rattle.amqp_txn_types.specs.declared.small.Handle.{Handle}
pub use Rattle.amqp_txn_types.specs.Frames.{is_transfer}
pub use Rattle.amqp_below_layer.specs.declared.inner_error.SessionInnerError.{SessionInnerError}
pub use Rattle.txn_broker_table.specs.declared.mark.Mark.{Mark}
pub use Rattle.txn_broker_table.specs.Marks.{Removes, came, gone, is_waiting_in, numbers_from, numbers_in}
pub use Rattle.txn_broker_queues.specs.declared.link.Link.{Link}
pub use Rattle.txn_broker_queues.specs.declared.message.Message.{Message}
pub use Rattle.txn_broker_queues.specs.Queues.{Linked, Sent, covers, is_final, is_gone, is_receiver, is_sender, link_after, link_at, link_back, messages, queue, removed_numbers, removes, sent_at, sent_by, sent_on, waiting}
pub use Rattle.txn_broker_queues.specs.Given.{any_refused, refusal, transfer_refusal}
pub use Rattle.txn_broker_queues.specs.Taking.{is_work}
pub use Rattle.txn_broker_queues.specs.Keeping.{Keeps, Lines, Mail, MailsStand, mail_at, mail_of, named_link, peer_link, refused_by}
