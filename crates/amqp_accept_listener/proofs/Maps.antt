-- What is held for each handle, where one entry of the map is written.
use Rattle.std.proofs.Common.{◌≡◌, ◌∙◌, cond, Option, Vec, ap, inl, inr}
use Rattle.std.proofs.lemmas.Bool.{cases_Bool}
use Rattle.std.specs.declared.alloc.Global.{Global}
use Rattle.amqp_txn_types.specs.declared.small.InputHandle.{InputHandle}
use Rattle.amqp_txn_types.specs.declared.performatives.LinkFlow.{LinkFlow}
use Rattle.std.specs.BTreeMap.{is_at}
use Rattle.amqp_below_layer.proofs.Ordered.{changed-at}
use Rattle.amqp_below_sessions.specs.Links.{input_order, same_input}
use Rattle.amqp_below_sessions.proofs.Agreeing.{inputs_exact, same_input-eq}
use Rattle.amqp_accept_listener.specs.Held.{list_in}

-- the entry of one handle has another list, of the same flows
pub list_in-written : (f g : InputHandle → Option (Vec LinkFlow Global)) (input : InputHandle) (slot : Option (Vec LinkFlow Global))
    → list_in slot ≡ list_in (f input)
    → ((q : InputHandle) → g q ≡ cond (is_at (input_order input) q) slot (f q))
    → (q : InputHandle) → list_in (g q) ≡ list_in (f q)
list_in-written f g input slot kept changes q =
    let writes : g q ≡ cond (same_input input q) slot (f q) = changed-at inputs_exact f g input slot changes q in
    elim (cases_Bool (same_input input q)) [
      | inl same ↦
          ap list_in writes ∙ ap (λ b. list_in (cond b slot (f q))) same
          ∙ kept ∙ ap (λ h. list_in (f h)) (same_input-eq input q same)
      | inr differs ↦ ap list_in writes ∙ ap (λ b. list_in (cond b slot (f q))) differs
    ]
