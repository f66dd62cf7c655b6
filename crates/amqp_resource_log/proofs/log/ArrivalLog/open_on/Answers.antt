use Rattle.amqp_resource_log.proofs.Words.{Log, LiveId, Some, [], ap, cond, homes_in, insert_entry-new, is_live, lookup, nat_eq, places_in, pointwise, same_id, subst, sym, ◌++◌, ◌∙◌, ◌∷◌}
use Rattle.std.specs.List.{IsDistinct}
use Rattle.amqp_resource_log.proofs.Frames.{no_frames}
use Rattle.amqp_resource_log.proofs.Kept.{homes-append, homes_opened, keys-homes, kept_opened, not_opened}
use Rattle.amqp_resource_log.proofs.log.ArrivalLog.open_on.Goals as goal

pub invariant_of-self : goal.invariant_of-self
invariant_of-self c =
    let one : LiveId = record { home = c.args.home; places = c.new.result } in
    let old = c.self.inside.index.entries in
    let none = not_opened old c.args.txn_id (ap (λ log. is_live log c.args.txn_id) c.self.view_is ∙ c.requires) in
    record {
      places = λ t. kept_opened old c.insert.new.self.entries c.args.txn_id one none c.in-Ok.ensures.updates.0 c.new.ensures.items t ∙ c.self.invariant.places t;
      gone = c.self.invariant.gone;
    }

pub returns-in-Ok-clause-fresh : goal.returns-in-Ok-clause-fresh
returns-in-Ok-clause-fresh c =
    let none = not_opened c.self.inside.index.entries c.args.txn_id (ap (λ log. is_live log c.args.txn_id) c.self.view_is ∙ c.requires) in
    no_frames 0 c.args.txn_id c.self.inside.cells.cells (sym (c.self.invariant.places c.args.txn_id) ∙ ap places_in none)

pub returns-clause-fresh : goal.returns-clause-fresh
returns-clause-fresh c =
    let none = not_opened c.self.inside.index.entries c.args.txn_id (ap (λ log. is_live log c.args.txn_id) c.self.view_is ∙ c.requires) in
    no_frames 0 c.args.txn_id c.self.inside.cells.cells (sym (c.self.invariant.places c.args.txn_id) ∙ ap places_in none)

pub returns-in-Ok-clause-homes : goal.returns-in-Ok-clause-homes
returns-in-Ok-clause-homes c =
    let id = c.args.txn_id in
    let old = c.self.inside.index.entries in
    let one : LiveId = record { home = c.args.home; places = c.new.result } in
    let none = not_opened old id (ap (λ log. is_live log id) c.self.view_is ∙ c.requires) in
    ap homes_in (c.in-Ok.ensures.entries ∙ insert_entry-new (pointwise nat_eq) c.self.inside.index id one none) ∙ homes-append old id one
    ∙ ap (λ (log : Log). log.homes ++ (id, c.args.home) ∷ []) c.self.view_is

pub returns-in-Ok-clause-found : goal.returns-in-Ok-clause-found
returns-in-Ok-clause-found c t =
    let one : LiveId = record { home = c.args.home; places = c.new.result } in
    let id = c.args.txn_id in
    homes_opened c.self.inside.index.entries c.insert.new.self.entries id one c.in-Ok.ensures.updates.0 t
    ∙ ap (λ (log : Log). cond (same_id id t) (Some c.args.home) (lookup (same_id t) log.homes)) c.self.view_is

pub returns-in-Ok-clause-distinct : goal.returns-in-Ok-clause-distinct
returns-in-Ok-clause-distinct c = subst (λ ks. IsDistinct same_id ks) (sym (keys-homes c.insert.new.self.entries)) c.insert.ensures.unique

pub returns-clause-distinct : goal.returns-clause-distinct
returns-clause-distinct c = subst (λ ks. IsDistinct same_id ks) (sym (keys-homes c.insert.new.self.entries)) c.insert.ensures.unique
