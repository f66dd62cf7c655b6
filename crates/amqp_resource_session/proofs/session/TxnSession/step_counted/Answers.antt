use Rattle.std.proofs.Common.{arith, refl, rules}
use Rattle.std.proofs.lemmas.Grind.{common_steps}
use Rattle.amqp_resource_session.proofs.Parts.{step_unknown, cause_attach, cause_rose, cause_veto, cause_ended, cause_first}
use Rattle.amqp_resource_session.proofs.Complete.{drew_next}
use Rattle.amqp_resource_session.proofs.Saying.{step_records}
use Rattle.amqp_resource_session.proofs.Leaving.{leaves-moved}
use Rattle.amqp_resource_held.proofs.Looked.{pays_compacted}
use Rattle.amqp_resource_session.proofs.session.TxnSession.step_counted.Goals as goal

-- a session that had stopped
pub returns-in-Some-clause-says : goal.returns-in-Some-clause-says
returns-in-Some-clause-says g c = record {
  stopped = rw c.in-Some.is (refl, refl, refl);
  runs = λ e. cc (e, c.in-Some.is);
  by_record = λ e r s. cc (e, c.in-Some.is);
  surely = tt;
  refusal_rose = tt;
  veto_rose = tt;
  reviewed = tt;
  counted = omega arith;
  ended = λ e. cc (e, c.in-Some.is);
  ended_only = tt;
  same = tt;
  untouched = refl;
  later = omega arith;
  fixed = refl;
  fits = λ f. f;
  keeps = λ e. cc (e, c.in-Some.is);
  checked = λ e. cc (e, c.in-Some.is);
  left = λ e. cc (e, c.in-Some.is);
  dead = λ e. cc (e, c.in-Some.is);
  attach_rose = tt;
  refusals = refl;
  vetoes = refl;
  stops = λ e. cc (e, c.in-Some.is);
  drew = tt;
  source = refl;
  start = refl;
}

pub returns-clause-says : goal.returns-clause-says
returns-clause-says g c =
    let old = g.S.Tells.told c.args.self.now.below in
    let new = g.S.Tells.told c.take_step-result.new.below in
    let leaves = leaves-moved g.S.Tells.told g.S.LayerBelow.sure g.S.LayerBelow.review_gives g.S.LayerBelow.check_gives c.args.self.now.held c.take_step-result.new.held
    (record c.take_step-result.new.held { work = c.compact.new.self }) c.args.self.now.below c.take_step-result.new.below c.args.step.now c.take_step-result.result
    (record { live = c.compact.ensures.same.kept; links = λ k. refl; opened = refl }) c.take_step-result.ensures.leaves in
    record {
      stopped = first_of (search rules, grind (arith, common_steps));
      by_record = λ e r s. step_records _ _ _ _ _ _ c.args.self.now.below c.take_step-result.new.below r _ _ _ s leaves (drew_next _ _ _ c.take_step-result.ensures.draws.drew);
      runs = λ e. cause_first old new _ _ leaves.cause;
      surely = leaves.surely;
      veto_rose = cause_veto old new _ _ leaves.cause;
      reviewed = leaves.reviewed;
      counted = leaves.counted;
      refusal_rose = cause_rose old new _ _ leaves.cause;
      ended = λ e. leaves.ended;
      ended_only = cause_ended old new _ _ leaves.cause;
      same = first_of (search (rules, leaves.same, leaves.untouched), grind (arith, common_steps, leaves.same, leaves.untouched));
      untouched = leaves.untouched;
      later = leaves.later;
      fixed = leaves.fixed;
      fits = λ f. let kept = leaves.keeps f.0 in (kept.fits, c.compact.ensures.few);
      keeps = λ e f. let kept = leaves.keeps f.0 in kept.answer;
      checked = λ e. leaves.checked;
      left = λ e. leaves.left;
      dead = λ e f u. let kept = leaves.keeps f.0 in step_unknown _ _ old new _ _ kept.answer u;
      attach_rose = cause_attach old new _ _ leaves.cause;
      refusals = refl;
      vetoes = refl;
      stops = λ e. c.stop_after-self.ensures;
      drew = c.take_step-result.ensures.draws.drew;
      source = c.take_step-result.ensures.draws.source;
      start = c.take_step-result.ensures.draws.start;
    }

pub returns-clause-looks : goal.returns-clause-looks
returns-clause-looks g c =
    let pays = pays_compacted c.args.self.now.held.work c.take_step-result.new.held.work c.compact.new.self c.args.looks.now c.take_step-result.new.looks c.compact.new.looks _ _
    c.take_step-result.ensures.pays c.compact.ensures.same.frames c.compact.ensures.looks in
    pays.ended

pub returns-clause-few : goal.returns-clause-few
returns-clause-few g c e = c.compact.ensures.few

pub returns-clause-dues : goal.returns-clause-dues
returns-clause-dues g c =
    let pays = pays_compacted c.args.self.now.held.work c.take_step-result.new.held.work c.compact.new.self c.args.looks.now c.take_step-result.new.looks c.compact.new.looks _ _
    c.take_step-result.ensures.pays c.compact.ensures.same.frames c.compact.ensures.looks in
    pays.all
