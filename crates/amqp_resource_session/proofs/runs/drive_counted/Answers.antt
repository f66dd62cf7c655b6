use Rattle.std.proofs.Common.{rules, ap, ◌∙◌, refl, suc, ◌+◌, ◌<◌, ◌≤◌, List, ◌++◌, ◌∷◌, [], ◌≡◌, arith, length, take, drop, set}
use Rattle.std.proofs.Math.ListN.{length-set}
use Rattle.amqp_resource_record.specs.declared.entry.Entry.{Entry}
use Rattle.amqp_resource_record.specs.declared.step.Step.{Step}
use Rattle.amqp_resource_record.specs.Entries.{steps_of}
use Rattle.amqp_resource_session.specs.Steps.{entry_of}
use Rattle.amqp_resource_session.specs.Session.{held_of, below_of, stop_of}
use Rattle.amqp_resource_session.specs.Drive.{Left, work_count}
use Rattle.amqp_resource_session.proofs.Filling.{filled_all, filled_more, left_at, same_at, steps_filled, steps_waiting}
use Rattle.amqp_resource_held.proofs.Standing.{new-live}
use Rattle.amqp_resource_held.proofs.Fitting.{fits-stands}
use Rattle.amqp_resource_held.proofs.Looked.{none_counted, step_spends}
use Rattle.amqp_resource_session.proofs.Looked.{work_more}
use Rattle.amqp_resource_session.proofs.Parts.{end_is, no_call_weaker}
use Rattle.amqp_resource_session.proofs.Running.{broke_cause, broke_ended, broke_refused, broke_surely, broke_took, broke_unknown, ran-more, ran-nil, steps-first, stops_by}
use Rattle.amqp_resource_session.specs.Ran.{Broke, failed}
use Rattle.amqp_resource_session.proofs.runs.drive_counted.Given.{Over}
use Rattle.amqp_resource_session.proofs.runs.drive_counted.Goals as goal

pub loop-at-init : goal.loop-at-init
loop-at-init g c = record {
  runs = c.requires.runs;
  fits = (fits-stands (held_of c.args.session.now) [] c.requires.stands, omega (arith, c.requires.owed));
  ran = ran-nil (g.S.Tells.told (below_of c.args.session.now)) (g.G.IdSource.next c.args.ids.now) (held_of c.args.session.now) c.requires.stands;
  start = refl;
  steps = ap steps_of c.into_entries-entries.ensures ∙ steps_waiting c.args.steps;
  count = search rules;
  looks = omega (arith, c.requires.owed, none_counted (held_of c.args.session.now).work (new-live (held_of c.args.session.now) c.requires.stands));
}

pub loop-at-preserved : goal.loop-at-preserved
loop-at-preserved g c =
    let es = c.loop-at.entries.items in
    let at = c.loop-at.at in
    let r : List Entry = take at es in
    let old : Entry = c.index.result.now in
    let e : Entry = entry_of old.step c.in-Ok.drawn c.in-Ok.reply in
    let new : Entry = c.fill_in.new.entry in
    let here : at < length es = omega (arith, c.loop-at-test.true, c.loop-at.invariant.count) in
    let filled : new ≡ e =
    c.fill_in.ensures
    ∙ ap (λ (x : Entry). entry_of x.step c.in-Ok.drawn c.in-Ok.reply) (same_at es at c.index_mut.result.now old here c.index_mut.ensures.value c.index.ensures) in
    let more : take (at + 1) (set es at new) ≡ r ++ e ∷ [] = filled_more es at new here ∙ ap (λ (x : Entry). r ++ x ∷ []) filled in
    let runs = c.loop-at.invariant.runs in
    let stands = c.loop-at.invariant.ran.stands in
    let said = c.in-Ok.ensures.says in
    record {
      runs = said.stops runs;
      fits = said.fits c.loop-at.invariant.fits;
      ran = rw more (ran-more _ _ _ _ _ _ (held_of c.loop-at.session) (held_of c.step_counted.new.self) r old.step c.in-Ok.drawn c.in-Ok.reply c.loop-at.invariant.ran
          (record {
            by = said.by_record runs r stands;
            veto = said.veto_rose;
            later = said.later;
            counted = said.counted;
            fixed = said.fixed;
          })
          said.drew);
      start = said.start ∙ c.loop-at.invariant.start;
      steps = steps_filled es at new old (ap (λ (x : Entry). x.step) filled) c.index.ensures ∙ c.loop-at.invariant.steps;
      count = length-set es at new ∙ c.loop-at.invariant.count;
      looks = omega (arith, c.loop-at.invariant.looks, c.in-Ok.ensures.dues, ap work_count more ∙ work_more r e);
    }

-- what the step that stopped the run leaves
broke : (g : Over) (c : goal.After-driven g) → Broke (g.G.IdSource.next c.loop-at.ids) g.S.LayerBelow.sure (held_of c.step_counted.new.self) (g.S.Tells.told (below_of c.loop-at.session)) (g.S.Tells.told (below_of c.step_counted.new.self)) (take c.loop-at.at c.loop-at.entries.items) c.index.result.now.step c.in-Err.error (stop_of c.step_counted.new.self)
broke g c =
    let r : List Entry = take c.loop-at.at c.loop-at.entries.items in
    let runs = c.loop-at.invariant.runs in
    let stands = c.loop-at.invariant.ran.stands in
    let said = c.in-Err.ensures.says in
    record {
      by = said.by_record runs r stands;
      first = said.runs runs;
      surely = said.surely;
      counted = said.counted;
      rose = said.refusal_rose;
      ended = λ reason is. end_is _ _ reason (said.ended runs) is;
      ended_only = said.ended_only;
      own = no_call_weaker c.index.result.now.step (failed c.in-Err.error) (below_of c.step_counted.new.self ≡ below_of c.loop-at.session) _ (ap g.S.Tells.told) said.untouched;
      later = said.later;
      fixed = said.fixed;
      stops = said.stops runs;
    }

-- the steps from that one on
abbrev rest : (g : Over) → goal.After-driven g → List Step
rest g c = steps_of (drop (suc c.loop-at.at) c.loop-at.entries.items)

left : (g : Over) (c : goal.After-driven g) → Left c.args.steps (take c.loop-at.at c.loop-at.entries.items) (c.index.result.now.step ∷ rest g c)
left g c =
    let here : c.loop-at.at < length c.loop-at.entries.items = omega (arith, c.loop-at-test.true, c.loop-at.invariant.count) in
    left_at c.args.steps c.loop-at.entries.items c.loop-at.at c.index.result.now c.loop-at.invariant.steps here c.index.ensures

pub returns-in-Err-clause-steps : goal.returns-in-Err-clause-steps
returns-in-Err-clause-steps g c = rw (c.driven.ensures, c.truncate.ensures.items) (steps-first c.args.steps (c.index.result.now.step ∷ rest g c) (take c.loop-at.at c.loop-at.entries.items) (left g c))

pub returns-in-Err-clause-cause : goal.returns-in-Err-clause-cause
returns-in-Err-clause-cause g c =
    let by = stops_by c.in-Err.error c.stop_by-stop.result.0 c.stop_by-stop.result.1 c.stop_by-stop.ensures in
    rw (c.driven.ensures, c.truncate.ensures.items, by.0) (broke_cause _ _ _ _ (take c.loop-at.at c.loop-at.entries.items) c.index.result.now.step c.in-Err.error _ c.args.steps (rest g c) (left g c) (broke g c))

pub returns-in-Err-clause-unknown : goal.returns-in-Err-clause-unknown
returns-in-Err-clause-unknown g c =
    let by = stops_by c.in-Err.error c.stop_by-stop.result.0 c.stop_by-stop.result.1 c.stop_by-stop.ensures in
    rw (c.driven.ensures, c.truncate.ensures.items, by.0) (broke_unknown _ _ _ _ (take c.loop-at.at c.loop-at.entries.items) c.index.result.now.step c.in-Err.error _ c.args.steps (rest g c) (left g c) (broke g c))

pub returns-in-Err-clause-ended : goal.returns-in-Err-clause-ended
returns-in-Err-clause-ended g c =
    let by = stops_by c.in-Err.error c.stop_by-stop.result.0 c.stop_by-stop.result.1 c.stop_by-stop.ensures in
    rw (c.driven.ensures, c.truncate.ensures.items, by.0) (broke_ended _ _ _ _ (take c.loop-at.at c.loop-at.entries.items) c.index.result.now.step c.in-Err.error _ c.args.steps (rest g c) (left g c) (broke g c))

pub returns-in-Err-clause-taken : goal.returns-in-Err-clause-taken
returns-in-Err-clause-taken g c =
    let by = stops_by c.in-Err.error c.stop_by-stop.result.0 c.stop_by-stop.result.1 c.stop_by-stop.ensures in
    rw (c.driven.ensures, c.truncate.ensures.items, by.0, by.1) (broke_took _ _ _ _ _ _ _ _ (take c.loop-at.at c.loop-at.entries.items) c.index.result.now.step c.in-Err.error _ c.args.steps (rest g c) (left g c) c.loop-at.invariant.ran (broke g c))

pub returns-in-Err-clause-refused : goal.returns-in-Err-clause-refused
returns-in-Err-clause-refused g c =
    let by = stops_by c.in-Err.error c.stop_by-stop.result.0 c.stop_by-stop.result.1 c.stop_by-stop.ensures in
    rw (c.driven.ensures, c.truncate.ensures.items, by.0, by.1) (broke_refused _ _ _ _ _ _ _ _ (take c.loop-at.at c.loop-at.entries.items) c.index.result.now.step c.in-Err.error _ c.args.steps (rest g c) (left g c) c.loop-at.invariant.ran (broke g c))

pub returns-in-Err-clause-surely : goal.returns-in-Err-clause-surely
returns-in-Err-clause-surely g c =
    let by = stops_by c.in-Err.error c.stop_by-stop.result.0 c.stop_by-stop.result.1 c.stop_by-stop.ensures in
    rw (c.driven.ensures, c.truncate.ensures.items, by.0, by.1) (broke_surely _ _ _ _ (take c.loop-at.at c.loop-at.entries.items) c.index.result.now.step c.in-Err.error _ c.args.steps (rest g c) (left g c) (broke g c))

pub returns-in-Err-clause-fits : goal.returns-in-Err-clause-fits
returns-in-Err-clause-fits g c = c.in-Err.ensures.says.fits c.loop-at.invariant.fits

pub returns-in-Err-clause-looks : goal.returns-in-Err-clause-looks
returns-in-Err-clause-looks g c =
    let said = c.in-Err.ensures in
    let spent = step_spends (held_of c.loop-at.session) c.index.result.now.step (failed c.in-Err.error) (held_of c.loop-at.session).work (held_of c.step_counted.new.self).work c.loop-at.looks c.step_counted.new.looks (record { ended = said.looks; all = said.dues }) in
    rw (c.driven.ensures, c.truncate.ensures.items) (omega (arith, c.loop-at.invariant.looks, spent))

pub returns-clause-looks : goal.returns-clause-looks
returns-clause-looks g c =
    let es = c.loop-at.entries.items in
    let done : length es ≤ c.loop-at.at = omega (arith, c.loop-at-test.false, c.loop-at.invariant.count) in
    rw c.driven-2.ensures (omega (arith, c.loop-at.invariant.looks, ap work_count (filled_all es c.loop-at.at done)))
