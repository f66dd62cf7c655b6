use Rattle.std.proofs.Common.{rules, arith, refl}
use Rattle.amqp_resource_session.specs.Steps.{entry_of}
use Rattle.amqp_resource_shared.proofs.Few.{few-at_all, few-attached, few-drawn}
use Rattle.amqp_resource_shared.proofs.Keeping.{causes-err, causes-ok, did-ok, kept-err, kept-ok, standing-runs}
use Rattle.amqp_resource_shared.proofs.one_step.answer_step.Goals as goal

pub step-requires : goal.step-requires
step-requires g c = λ runs.
    let quiet = standing-runs _ _ c.args.entries.now.items c.args.stopped.now c.requires.kept.standing runs in
    omega (arith, quiet.1.opened, few-attached c.args.entries.now.items, c.requires.bound)

pub copy_into-draws-requires-clause-room : goal.copy_into-draws-requires-clause-room
copy_into-draws-requires-clause-room g c =
    let quiet = standing-runs _ _ c.args.entries.now.items c.args.stopped.now c.requires.kept.standing c.requires.runs in
    let by = c.in-Ok.ensures.by_record c.requires.runs c.args.entries.now.items quiet.1 in
    let few = few-drawn c.args.entries.now.items c.args.step.now c.in-Ok.drawn.ids c.in-Ok.reply by.answer in
    omega (arith, few, c.requires.draws.1)

pub copy_into-draws-requires-clause-few : goal.copy_into-draws-requires-clause-few
copy_into-draws-requires-clause-few g c =
    let quiet = standing-runs _ _ c.args.entries.now.items c.args.stopped.now c.requires.kept.standing c.requires.runs in
    let by = c.in-Ok.ensures.by_record c.requires.runs c.args.entries.now.items quiet.1 in
    let few = few-drawn c.args.entries.now.items c.args.step.now c.in-Ok.drawn.ids c.in-Ok.reply by.answer in
    omega (arith, few, few-at_all c.args.step.now)

pub returns-in-Ok-clause-kept : goal.returns-in-Ok-clause-kept
returns-in-Ok-clause-kept g c =
    rw (c.push_reserved.ensures.items, c.requires.copies.0) (kept-ok _ _ _ _ _ _ _ _ _ _ c.args.entries.now.items c.args.stopped.now c.args.step.now c.in-Ok.drawn c.in-Ok.reply c.in-Ok.ensures c.requires.runs c.requires.kept)

pub returns-in-Ok-clause-made : goal.returns-in-Ok-clause-made
returns-in-Ok-clause-made g c =
    let quiet = standing-runs _ _ c.args.entries.now.items c.args.stopped.now c.requires.kept.standing c.requires.runs in
    let by = c.in-Ok.ensures.by_record c.requires.runs c.args.entries.now.items quiet.1 in (
      entry_of c.args.step.now c.in-Ok.drawn c.in-Ok.reply,
      record {
        entries = rw (c.push_reserved.ensures.items, c.requires.copies.0) refl;
        step = refl;
        answer = by.answer;
        number = search rules;
        of = record { step = search rules; drawn = search rules; code = search rules };
      },
    )

pub returns-in-Ok-clause-below : goal.returns-in-Ok-clause-below
returns-in-Ok-clause-below g c =
    rw (c.push_reserved.ensures.items, c.requires.copies.0) (did-ok _ _ _ _ _ _ _ _ _ _ c.args.entries.now.items c.args.stopped.now c.args.step.now c.in-Ok.drawn c.in-Ok.reply c.in-Ok.ensures c.requires.runs c.requires.kept)

pub returns-in-Ok-clause-causes : goal.returns-in-Ok-clause-causes
returns-in-Ok-clause-causes g c =
    causes-ok _ _ _ _ _ _ _ _ _ _ c.args.entries.now.items c.args.stopped.now c.args.step.now c.in-Ok.drawn c.in-Ok.reply c.new-receipt.result c.in-Ok.ensures c.requires.runs c.requires.kept (search rules)

pub returns-in-Err-clause-kept : goal.returns-in-Err-clause-kept
returns-in-Err-clause-kept g c =
    rw (c.note_stop.ensures, c.requires.copies.0) (kept-err _ _ _ _ _ _ _ _ _ _ c.args.entries.now.items c.args.stopped.now c.args.step.now c.in-Err.error c.in-Err.ensures c.requires.runs c.requires.kept)

pub returns-in-Err-clause-causes : goal.returns-in-Err-clause-causes
returns-in-Err-clause-causes g c =
    causes-err _ _ _ _ _ _ _ _ _ _ c.args.entries.now.items c.args.stopped.now c.args.step.now c.in-Err.error c.in-Err.ensures c.requires.runs c.requires.kept
