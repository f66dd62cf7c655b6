use Rattle.std.proofs.Common.{◌<◌, ◌≡◌, ℕ, Option, Some, List, ap, length, subst, sym, ◌∙◌}
use Rattle.std.specs.Prelude.{slice_set}
use Rattle.amqp_txn_codec.specs.declared.message.ControlMessageBody.TheVariants as messages
use Rattle.txn_parties.specs.declared.item.Asked.{Asked}
use Rattle.txn_parties.specs.BackWire.{asked_by}
use Rattle.txn_world_wires.specs.declared.control_links.Request.{Request}
use Rattle.txn_world_wires.specs.Known.{Asks}
use Rattle.txn_world_wires.specs.Links.{AreOpen}
use Rattle.txn_world_wires.proofs.Opening.{asked_length, only_set, open_sent, open_unsent, read_at, seen, seen_with}
use Rattle.txn_world_wires.proofs.control_links.ControlLinks.discharge.Goals as goal

pub send_discharge-requires : goal.send_discharge-requires
send_discharge-requires c =
    let l : c.args.link < length c.self.inside.ends.items = subst (λ (a : Asks). c.args.link < a.links) (sym c.self.view_is) c.requires.link in
    c.self.invariant.quiet c.args.link c.index_mut-end.result.now (read_at c.self.inside.ends.items c.args.link c.index_mut-end.result.now l c.index_mut-end.ensures.value)

pub invariant_of-self : goal.invariant_of-self
invariant_of-self c =
    let l : c.args.link < length c.self.inside.ends.items = subst (λ (a : Asks). c.args.link < a.links) (sym c.self.view_is) c.requires.link in
    open_unsent c.self.inside.ends.items c.self.inside.requests.items c.args.link c.index_mut-end.result.now c.send_discharge.new.end c.self.invariant
    (read_at c.self.inside.ends.items c.args.link c.index_mut-end.result.now l c.index_mut-end.ensures.value) c.in_err-call.ensures.err

pub invariant_of-self-2 : goal.invariant_of-self-2
invariant_of-self-2 c =
    let ends = c.self.inside.ends.items in
    let requests = c.self.inside.requests.items in
    let l : c.args.link < length ends = subst (λ (a : Asks). c.args.link < a.links) (sym c.self.view_is) c.requires.link in
    let n : c.args.number < length requests = subst (λ (k : ℕ). c.args.number < k) (asked_length requests) (subst (λ (a : Asks). c.args.number < length a.asked) (sym c.self.view_is) c.requires.number) in
    let r : Request = record { link = c.args.link; call = c.in_ok-call.call } in
    let is : c.set_request.new.requests.items ≡ slice_set requests c.args.number (Some r) = c.set_request.ensures in
    subst (λ (rs : List (Option Request)). AreOpen (slice_set ends c.args.link c.send_discharge.new.end) rs) (sym is)
    (open_sent ends requests (slice_set requests c.args.number (Some r)) c.index_mut-end.result.now c.send_discharge.new.end c.args.number r
    (messages.Discharge (record { txn_id = c.args.id; fail = Some c.args.rollback })) c.self.invariant (read_at ends c.args.link c.index_mut-end.result.now l c.index_mut-end.ensures.value)
    c.in_ok-call.ensures.ok (only_set requests c.args.number r n))

pub returns-clause-ok : goal.returns-clause-ok
returns-clause-ok c =
    let ends = c.self.inside.ends.items in
    let requests = c.self.inside.requests.items in
    let r : Request = record { link = c.args.link; call = c.in_ok-call.call } in
    let is : c.set_request.new.requests.items ≡ slice_set requests c.args.number (Some r) = c.set_request.ensures in
    ap (λ (rs : List (Option Request)). seen (slice_set ends c.args.link c.send_discharge.new.end) rs) is
    ∙ seen_with ends requests c.args.self.now c.args.link c.send_discharge.new.end c.args.number (Some r) (Some (asked_by c.args.rollback)) c.self.view_is (ap (λ (a : Asked). Some a) c.in_ok-call.ensures.asked)
