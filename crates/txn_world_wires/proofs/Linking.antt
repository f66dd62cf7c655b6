-- What the controllers know, and what was asked on their links.
use Rattle.std.proofs.Common.{◌≡◌, ℕ, ◌<◌, Bool, Option, Some, None, List, [], ◌∷◌, ◌++◌, length, sym, ◌∙◌, ap, subst, inl, inr}
use Rattle.std.specs.Prelude.{slice_get, slice_set, option_map}
use Rattle.std.proofs.lemmas.List.{map-append, map-set}
use Rattle.std.proofs.lemmas.Option.{slice_get-map, slice_get_within}
use Rattle.amqp_txn_types.specs.declared.id.TransactionId.{TransactionId}
use Rattle.txn_parties.specs.declared.item.Answered.{Answered}
use Rattle.txn_parties.specs.declared.item.Asked.{Asked}
use Rattle.txn_parties.specs.declared.item.Asked.TheVariants as asked
use Rattle.txn_parties.specs.declared.event.Heard.{Heard}
use Rattle.txn_parties.specs.BackWire.{declared_id, verdict as verdict_by_state}
use Rattle.txn_parties.specs.Items.{or_else}
use Rattle.txn_world_wires.specs.declared.control_call.Hearing.{Hearing}
use Rattle.txn_world_wires.specs.Answers.{hearing_by}
use Rattle.txn_world_wires.specs.declared.controllers.Transaction.{Transaction}
use Rattle.txn_world_wires.specs.Asking.{AreLinked, asking_too, with_asked}
use Rattle.txn_world_wires.specs.Knowing.{hearing, new_on}
use Rattle.txn_world_wires.specs.Known.{Asks}
use Rattle.txn_world_wires.proofs.Lists.{get-push_other, get-push_same, get-set_other, get-set_same, test_eq}

abbrev pub awaited : Transaction → Option Asked
awaited txn = txn.awaits

-- a list whose transactions have the links of another's, or one more
set_within : (transactions : List Transaction) (number links : ℕ) (old new : Transaction) → slice_get transactions number ≡ Some old → new.link ≡ old.link → ((n : ℕ) (txn : Transaction) → slice_get transactions n ≡ Some txn → txn.link < links) → (n : ℕ) (txn : Transaction) → slice_get (slice_set transactions number new) n ≡ Some txn → txn.link < links
set_within transactions number links old new g same within n txn h =
    elim (test_eq n number) [
      | inl e ↦
          let at : slice_get (slice_set transactions number new) n ≡ Some new = ap (slice_get (slice_set transactions number new)) e.1 ∙ get-set_same transactions number new (slice_get_within transactions number old g) in
          let is : txn ≡ new = let f = sym h ∙ at in cc f in
          let link : txn.link ≡ old.link = ap (λ (x : Transaction). x.link) is ∙ same in
          subst (λ (k : ℕ). k < links) (sym link) (within number old g)
      | inr e ↦ within n txn (sym (get-set_other transactions number n new e.1) ∙ h)
    ]

push_within : (transactions : List Transaction) (links : ℕ) (new : Transaction) → new.link < links → ((n : ℕ) (txn : Transaction) → slice_get transactions n ≡ Some txn → txn.link < links) → (n : ℕ) (txn : Transaction) → slice_get (transactions ++ new ∷ []) n ≡ Some txn → txn.link < links
push_within transactions links new l within n txn h =
    elim (test_eq n (length transactions)) [
      | inl e ↦
          let at : slice_get (transactions ++ new ∷ []) n ≡ Some new = ap (slice_get (transactions ++ new ∷ [])) e.1 ∙ get-push_same transactions new in
          let is : txn ≡ new = let f = sym h ∙ at in cc f in
          subst (λ (x : Transaction). x.link < links) (sym is) l
      | inr e ↦ within n txn (sym (get-push_other transactions n new e.1) ∙ h)
    ]

-- another transaction was declared
pub linked_declared : (transactions : List Transaction) (ended : List Bool) (asks : Asks) (link : ℕ) → AreLinked transactions ended asks → link < length ended → AreLinked (transactions ++ new_on link ∷ []) ended (asking_too asks asked.Declare)
linked_declared transactions ended asks link a l = record {
  links = a.links;
  asked = ap (λ (x : List (Option Asked)). x ++ Some asked.Declare ∷ []) a.asked ∙ sym (map-append awaited transactions (new_on link ∷ []));
  within = push_within transactions (length ended) (new_on link) l a.within;
}

-- a transaction has another state, and awaits something else
pub linked_set : (transactions : List Transaction) (ended : List Bool) (asks : Asks) (number : ℕ) (old new : Transaction) → AreLinked transactions ended asks → slice_get transactions number ≡ Some old → new.link ≡ old.link → AreLinked (slice_set transactions number new) ended (with_asked asks number new.awaits)
linked_set transactions ended asks number old new a g same = record {
  links = a.links;
  asked = ap (λ (x : List (Option Asked)). slice_set x number new.awaits) a.asked ∙ sym (map-set awaited transactions number new);
  within = set_within transactions number (length ended) old new g same a.within;
}

-- what it awaits is what it asked there
pub asked_there : (transactions : List Transaction) (ended : List Bool) (asks : Asks) (number : ℕ) (txn : Transaction) → AreLinked transactions ended asks → slice_get transactions number ≡ Some txn → slice_get asks.asked number ≡ Some txn.awaits
asked_there transactions ended asks number txn a g =
    ap (λ (x : List (Option Asked)). slice_get x number) a.asked ∙ slice_get-map awaited transactions number ∙ ap (λ (o : Option Transaction). option_map awaited o) g

-- a transaction once it heard what its answer says
pub heard_later : (txn : Transaction) (answer : Answered) (heard : Hearing) (id : Option TransactionId) (verdict : Option Heard) → id ≡ or_else txn.id heard.id → verdict ≡ or_else txn.verdict heard.verdict → heard ≡ hearing_by answer.asked answer.state → ◌≡◌ {A = Transaction} (record txn { id = id; verdict = verdict; awaits = None }) (hearing txn answer)
heard_later txn answer heard id verdict i v h =
    let id_is : id ≡ or_else txn.id (declared_id answer.asked answer.state) = i ∙ ap (λ (x : Hearing). or_else txn.id x.id) h in
    let verdict_is : verdict ≡ or_else txn.verdict (verdict_by_state answer.asked answer.state) = v ∙ ap (λ (x : Hearing). or_else txn.verdict x.verdict) h in
    ap (λ (x : Option TransactionId). let t : Transaction = record txn { id = x; verdict = verdict; awaits = None } in t) id_is
    ∙ ap (λ (x : Option Heard). let t : Transaction = record txn { id = or_else txn.id (declared_id answer.asked answer.state); verdict = x; awaits = None } in t) verdict_is
