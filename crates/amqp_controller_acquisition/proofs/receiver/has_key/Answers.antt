use Rattle.std.proofs.Common.{◌≡◌, true, false, Some, sym, ◌∙◌, ap, nat_eq}
use Rattle.std.specs.List.{slice_get}
use Rattle.std.specs.Option.{option_map}
use Rattle.std.specs.Cmp.Lexicographic.{pointwise}
use Rattle.amqp_txn_types.specs.declared.fields.Value.{Value}
use Rattle.amqp_txn_types.specs.declared.text.Symbol.{Symbol}
use Rattle.amqp_controller_acquisition.proofs.Keys.{has_key-here, has_key-past}
use Rattle.amqp_controller_acquisition.proofs.receiver.has_key.Goals as goal

pub returns-then-eq : goal.returns-then-eq
returns-then-eq c =
    let pair : Symbol × Value = (c.unwrap.result.0.now, c.unwrap.result.1.now) in
    let here : slice_get c.args.fields.now c.loop-index.index ≡ Some pair =
    sym c.get.ensures ∙ ap (option_map (λ p. (p.0.now, p.1.now))) c.unwrap.ensures in
    let same : pointwise nat_eq c.args.key.now c.unwrap.result.0.now ≡ true = cc in
    sym (has_key-here c.args.key.now c.args.fields.now c.loop-index.index pair here same) ∙ c.loop-index.invariant

pub loop-index-preserved : goal.loop-index-preserved
loop-index-preserved c =
    let pair : Symbol × Value = (c.unwrap.result.0.now, c.unwrap.result.1.now) in
    let here : slice_get c.args.fields.now c.loop-index.index ≡ Some pair =
    sym c.get.ensures ∙ ap (option_map (λ p. (p.0.now, p.1.now))) c.unwrap.ensures in
    let other : pointwise nat_eq c.args.key.now c.unwrap.result.0.now ≡ false = cc in
    has_key-past c.args.key.now c.args.fields.now c.loop-index.index pair here other ∙ c.loop-index.invariant
