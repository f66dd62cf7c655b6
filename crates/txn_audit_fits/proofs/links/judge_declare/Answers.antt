use Rattle.std.proofs.Common.{List, ℕ, Bool, Option, Some, None, true, false, cond, ◌≡◌, sym, ◌∙◌, ap, subst}
use Rattle.std.specs.Str.{bytes_eq}
use Rattle.std.specs.Prelude.{codes, is_some, ◌++◌}
use Rattle.hex.specs.Hex.{encode_lower}
use Rattle.amqp_resource_record.specs.declared.step.Step.TheVariants as steps
use Rattle.txn_audit_fits.specs.declared.outs.Outs.{Outs}
use Rattle.txn_audit_fits.specs.declared.outs.Outs.TheVariants as outs
use Rattle.txn_audit_fits.specs.Judging.{Judges}
use Rattle.txn_audit_fits.proofs.Declared.{declared-no, declared-yes, repeat-judged}
use Rattle.txn_audit_fits.proofs.Judged.{other_text, same_text}
use Rattle.txn_audit_fits.proofs.Committed.{judges-from}
use Rattle.txn_audit_fits.proofs.links.judge_declare.Goals as goal

pub declare_on-requires-clause-opened : goal.declare_on-requires-clause-opened
declare_on-requires-clause-opened g c = ap is_some (c.in_ok-make_room-2.ensures.same.links c.args.link) ∙ c.requires.opened

pub returns-in-None-clause-judged : goal.returns-in-None-clause-judged
returns-in-None-clause-judged g c work =
    let h = c.args.held.now in
    let k = c.make_room-2.new.held in
    let next = g.G.IdSource.next c.args.ids.now in
    let later = g.G.IdSource.next c.draw_unused.new.ids in
    let step = steps.Control c.args.link c.args.payload.now in
    let same = c.in_ok-make_room-2.ensures.same in
    let P : Option Outs → Type 0 = λ o. Judges h k work work next later step c.args.line.now o in
    subst P (sym c.nothing_after.ensures)
    (judges-from h k k work work next later step c.args.line.now _ same
    (repeat-judged k c.args.link c.args.payload.now c.args.line.now next later c.draw_unused.new.drawn.ids (ap is_some (same.links c.args.link) ∙ c.requires.opened) c.requires.message c.in-None.ensures.unused c.in-None.ensures.drew work))

-- by whether the line is the one that is wanted
by_line : (P : Option Outs → Type 0) (b : Bool) (line text : List ℕ) → b ≡ bytes_eq line text → (line ≡ text → P (Some outs.Nothing)) → ((line ≡ text → ⊥) → P None) → P (cond b (Some outs.Nothing) None)
by_line P true line text e here there = here (same_text line text (sym e))
by_line P false line text e here there = there (other_text line text (sym e))

pub returns-clause-judged : goal.returns-clause-judged
returns-clause-judged g c work =
    let h = c.args.held.now in
    let k = c.make_room-2.new.held in
    let n = c.declare_on.new.held in
    let next = g.G.IdSource.next c.args.ids.now in
    let later = g.G.IdSource.next c.draw_unused.new.ids in
    let step = steps.Control c.args.link c.args.payload.now in
    let same = c.in_ok-make_room-2.ensures.same in
    let opened = ap is_some (same.links c.args.link) ∙ c.requires.opened in
    let d = c.declare_on.ensures in
    rw c.nothing_where.ensures
    (by_line (λ o. Judges h n work work next later step c.args.line.now o) c.in_ok-declared-in-Some.declared c.args.line.now (codes "declared " ++ encode_lower c.in-Some.id) c.in_ok-declared-in-Some.ensures
    (λ here. judges-from h k n work work next later step c.args.line.now (Some outs.Nothing) same
    (λ before s. declared-yes k n c.args.link c.args.payload.now next later c.draw_unused.new.drawn.ids c.in-Some.id opened c.requires.message c.in-Some.ensures.unused c.in-Some.ensures.drew (record { live = d.live; links = d.links; tied = d.tied; opened = d.opened }) c.args.line.now before s work here))
    (λ there. judges-from h k n work work next later step c.args.line.now None same
    (λ before s drawn reply t. declared-no k n c.args.link c.args.payload.now next later c.draw_unused.new.drawn.ids c.in-Some.id opened c.requires.message c.in-Some.ensures.unused c.in-Some.ensures.drew (record { live = d.live; links = d.links; tied = d.tied; opened = d.opened }) c.args.line.now before s drawn reply there t)))
