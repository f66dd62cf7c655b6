use Rattle.std.proofs.Common.{◌<◌, ◌≡◌, Option, Some, None, List, [], ◌∷◌, ◌++◌, ap, length, subst, sym, ◌∙◌}
use Rattle.std.specs.Prelude.{slice_set}
use Rattle.amqp_txn_codec.specs.declared.message.ControlMessageBody.TheVariants as messages
use Rattle.txn_world_wires.specs.declared.control_links.Request.{Request}
use Rattle.txn_world_wires.specs.Known.{Asks}
use Rattle.txn_world_wires.specs.Links.{AreOpen}
use Rattle.txn_world_wires.proofs.Opening.{only_pushed, open_sent, open_unsent, read_at}
use Rattle.txn_world_wires.proofs.control_links.ControlLinks.declare.Goals as goal

pub send_declare-requires : goal.send_declare-requires
send_declare-requires c =
    let l : c.args.link < length c.self.inside.ends.items = subst (λ (a : Asks). c.args.link < a.links) (sym c.self.view_is) c.requires in
    c.self.invariant.quiet c.args.link c.index_mut.result.now (read_at c.self.inside.ends.items c.args.link c.index_mut.result.now l c.index_mut.ensures.value)

pub invariant_of-self-in_err-call : goal.invariant_of-self-in_err-call
invariant_of-self-in_err-call c =
    let l : c.args.link < length c.self.inside.ends.items = subst (λ (a : Asks). c.args.link < a.links) (sym c.self.view_is) c.requires in
    subst (λ (rs : List (Option Request)). AreOpen (slice_set c.self.inside.ends.items c.args.link c.send_declare.new.end) rs) (sym c.in_ok-reserve.ensures.items)
    (open_unsent c.self.inside.ends.items c.self.inside.requests.items c.args.link c.index_mut.result.now c.send_declare.new.end c.self.invariant
    (read_at c.self.inside.ends.items c.args.link c.index_mut.result.now l c.index_mut.ensures.value) c.in_err-call.ensures.err)

pub invariant_of-self-2 : goal.invariant_of-self-2
invariant_of-self-2 c =
    let l : c.args.link < length c.self.inside.ends.items = subst (λ (a : Asks). c.args.link < a.links) (sym c.self.view_is) c.requires in
    let r : Request = record { link = c.args.link; call = c.in_ok-call.call } in
    let more = c.self.inside.requests.items ++ Some r ∷ [] in
    let is : c.push_reserved.new.self.items ≡ more = c.push_reserved.ensures.items ∙ ap (λ (rs : List (Option Request)). rs ++ Some r ∷ []) c.in_ok-reserve.ensures.items in
    subst (λ (rs : List (Option Request)). AreOpen (slice_set c.self.inside.ends.items c.args.link c.send_declare.new.end) rs) (sym is)
    (open_sent c.self.inside.ends.items c.self.inside.requests.items more c.index_mut.result.now c.send_declare.new.end (length c.self.inside.requests.items) r
    (messages.Declare (record { global_id = None })) c.self.invariant (read_at c.self.inside.ends.items c.args.link c.index_mut.result.now l c.index_mut.ensures.value)
    c.in_ok-call.ensures.ok (only_pushed c.self.inside.requests.items r))
