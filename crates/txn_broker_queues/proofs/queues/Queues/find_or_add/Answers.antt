use Rattle.std.proofs.Common.{List, Some, [], ap, arith, length, refl, subst, sym, ℕ, ◌++◌, ◌∙◌, ◌∷◌, ◌≡◌}
use Rattle.std.specs.Prelude.{slice_get}
use Rattle.std.specs.BTreeMap.{is_at}
use Rattle.std.specs.Cmp.Lexicographic.{slice_cmp}
use Rattle.std.specs.Map.{lookup}
use Rattle.std.specs.Ordering.{nat_cmp}
use Rattle.std.proofs.lemmas.List.{length_push}
use Rattle.indexmap.specs.IndexSet.{insert_key}
use Rattle.txn_broker_queues.proofs.Naming.{added_here, name_added, name_found, name_stays, same_name}
use Rattle.txn_broker_queues.proofs.Numbering.{number_added, number_taken_back, numbers_stay}
use Rattle.txn_broker_queues.proofs.queues.Queues.find_or_add.Goals as goal

pub invariant_of-self : goal.invariant_of-self
invariant_of-self c = (
  c.self.invariant.0 ∙ ap (λ (ns : List (List ℕ)). length ns) (sym c.in_err-reserve.ensures.items),
  numbers_stay _ _ c.self.invariant.1 _ _ c.in_err-reserve.ensures.items (λ q. refl),
)

pub invariant_of-self-in_err-insert : goal.invariant_of-self-in_err-insert
invariant_of-self-in_err-insert c = (
  c.self.invariant.0 ∙ ap (λ (ns : List (List ℕ)). length ns) (sym c.in_ok-reserve.ensures.items),
  numbers_stay _ _ c.self.invariant.1 _ _ c.in_ok-reserve.ensures.items (λ q. ap (λ es. lookup (is_at (slice_cmp nat_cmp q)) es) c.in_err-insert.ensures.err),
)

pub invariant_of-self-in_default-add_queue : goal.invariant_of-self-in_default-add_queue
invariant_of-self-in_default-add_queue c =
    let none = sym c.get.ensures.value ∙ sym c.copied.ensures ∙ c.in_default.is in (
      c.in_default-add_queue.ensures.err ∙ c.self.invariant.0 ∙ ap (λ (ns : List (List ℕ)). length ns) (sym c.in_ok-reserve.ensures.items),
      number_taken_back _ _ c.self.invariant.1 c.args.name.now c.in_ok-key.key _ _ none c.in_ok-key.ensures.copy c.in_ok-insert.ensures.updates.0
          _ _ c.in_ok-reserve.ensures.items c.remove.ensures.updates.0,
    )

pub invariant_of-self-2 : goal.invariant_of-self-2
invariant_of-self-2 c =
    let names = c.self.inside.names.items in
    let name = c.args.name.now in
    let none = sym c.get.ensures.value ∙ sym c.copied.ensures ∙ c.in_default.is in
    let grown : c.push_reserved.new.self.items ≡ names ++ name ∷ [] =
    c.push_reserved.ensures.items ∙ ap (λ ns. ns ++ c.in_ok-listed.listed ∷ []) c.in_ok-reserve.ensures.items ∙ ap (λ x. names ++ x ∷ []) c.in_ok-listed.ensures.copy in (
      omega (arith, c.in-Ok.ensures.ok.1, c.self.invariant.0, length_push names name, ap (λ (ns : List (List ℕ)). length ns) grown),
      number_added _ _ c.self.invariant.1 name c.in_ok-key.key _ _ none c.in_ok-key.ensures.copy c.in_ok-insert.ensures.updates.0 _ (c.len-queue.ensures ∙ c.self.inside.names.ok.0) grown,
    )

pub returns-in-Some-clause-ok : goal.returns-in-Some-clause-ok
returns-in-Some-clause-ok c =
    let found = name_found c.self.inside.names.items c.args.name.now c.in-Some.queue (sym (c.self.invariant.1 c.args.name.now) ∙ sym c.get.ensures.value ∙ sym c.copied.ensures ∙ c.in-Some.is) in
    subst (λ ns. slice_get ns c.in-Some.queue ≡ Some c.args.name.now) (ap (λ v. v.names) c.self.view_is) found.at

pub returns-in-Some-clause-names : goal.returns-in-Some-clause-names
returns-in-Some-clause-names c =
    let found = name_found c.self.inside.names.items c.args.name.now c.in-Some.queue (sym (c.self.invariant.1 c.args.name.now) ∙ sym c.get.ensures.value ∙ sym c.copied.ensures ∙ c.in-Some.is) in
    subst (λ ns. ns ≡ insert_key same_name ns c.args.name.now) (ap (λ v. v.names) c.self.view_is) (name_stays c.self.inside.names.items c.args.name.now found.any)

pub returns-clause-ok : goal.returns-clause-ok
returns-clause-ok c =
    let names = c.self.inside.names.items in
    let name = c.args.name.now in
    let grown = c.push_reserved.ensures.items ∙ ap (λ ns. ns ++ c.in_ok-listed.listed ∷ []) c.in_ok-reserve.ensures.items ∙ ap (λ x. names ++ x ∷ []) c.in_ok-listed.ensures.copy in
    ap (λ ns. slice_get ns c.len-queue.result) grown ∙ ap (slice_get (names ++ name ∷ [])) (c.len-queue.ensures ∙ c.self.inside.names.ok.0) ∙ added_here names name

pub returns-clause-names : goal.returns-clause-names
returns-clause-names c =
    let names = c.self.inside.names.items in
    let name = c.args.name.now in
    let none = sym (c.self.invariant.1 name) ∙ sym c.get.ensures.value ∙ sym c.copied.ensures ∙ c.in_default.is in
    let grown = c.push_reserved.ensures.items ∙ ap (λ ns. ns ++ c.in_ok-listed.listed ∷ []) c.in_ok-reserve.ensures.items ∙ ap (λ x. names ++ x ∷ []) c.in_ok-listed.ensures.copy in
    grown ∙ name_added names name none ∙ ap (λ ns. insert_key same_name ns name) (ap (λ v. v.names) c.self.view_is)
