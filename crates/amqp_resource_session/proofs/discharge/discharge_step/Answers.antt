use Rattle.std.proofs.Common.{refl, ◌≡◌, ℕ, map, List, Result, Ok, Err, ap, sym, subst, ◌∙◌}
use Rattle.std.specs.Option.{option_map}
use Rattle.amqp_below_layer.specs.declared.answers.Answers.{Answers}
use Rattle.amqp_txn_types.specs.declared.performatives.Frame.{Frame}
use Rattle.amqp_txn_types.specs.declared.small.TransactionError.{TransactionError}
use Rattle.amqp_resource_log.specs.Live.{frames_kept, home_of, kept}
use Rattle.amqp_txn_types.specs.Frames.{stripped}
use Rattle.amqp_resource_session.proofs.Keeping.{commit-hands, held_here, here-absent, here-rolled_back, keeps-committed, keeps-vetoed, leaves-fault}
use Rattle.amqp_resource_session.proofs.Leaving.{commit_calls, leaves-here}
use Rattle.amqp_below_layer.specs.declared.verdict.Verdict.TheVariants as verdicts
use Rattle.amqp_resource_session.specs.Transacting.{CommittedWith, step_error_of, unless_starved}
use Rattle.amqp_below_ids.specs.Drawn.{DrawnIds}
use Rattle.amqp_resource_record.specs.declared.reply.Reply.{Reply}
use Rattle.amqp_resource_record.specs.declared.stop.StepError.{StepError}
use Rattle.amqp_below_sessions.specs.declared.transacting.CommitFault.{CommitFault}
use Rattle.amqp_below_sessions.specs.declared.transacting.CommitFault.TheVariants as commit_faults
use Rattle.amqp_resource_session.specs.Committing.{HandsAll, OnNoEchoes, OnVetoed}
use Rattle.amqp_resource_held.specs.Looks.{Pays, unless_no_memory}
use Rattle.amqp_resource_held.proofs.Looked.{ends_discharged, pays_none}
use Rattle.amqp_resource_session.proofs.discharge.discharge_step.Goals as goal

-- the fault of a commit as the answer of its step
abbrev fault_error : CommitFault → Result (DrawnIds × Reply) StepError
fault_error fault = Err (step_error_of fault)

-- both end so many frames, and none where memory ran out
same_ends : (fault : CommitFault) (n : ℕ) → unless_starved {T = Result (List Answers) TransactionError} (Err fault) n ≡ unless_no_memory (fault_error fault) n
same_ends commit_faults.NoMemory n = refl
same_ends (commit_faults.Refused error handed) n = refl

pub drop_work-requires : goal.drop_work-requires
drop_work-requires g c = ap (option_map home_of) (held_here c.args.held.now c.args.discharge.txn_id c.args.link (sym c.is_declared_on.ensures ∙ c.if-not-is_declared_on.false))

pub commit_live-requires : goal.commit_live-requires
commit_live-requires g c = ap (option_map home_of) (held_here c.args.held.now c.args.discharge.txn_id c.args.link (sym c.is_declared_on.ensures ∙ c.if-not-is_declared_on.false))

pub returns-then-not-is_declared_on-clause-leaves : goal.returns-then-not-is_declared_on-clause-leaves
returns-then-not-is_declared_on-clause-leaves g c =
    rw c.rejected.ensures (leaves-here _ _ _ _ _ _ _ _ _ (here-absent c.args.held.now c.args.link c.args.payload.now c.args.discharge _ c.no_draws.ensures c.requires.message c.requires.opened
    (sym c.is_declared_on.ensures ∙ c.if-not-is_declared_on.true)))

pub returns-then-rolls_back-clause-leaves : goal.returns-then-rolls_back-clause-leaves
returns-then-rolls_back-clause-leaves g c =
    rw c.new.ensures (leaves-here _ _ _ _ _ _ _ _ _ (here-rolled_back c.args.held.now c.drop_work.new.held c.args.link c.args.payload.now c.args.discharge _ c.no_draws-then-rolls_back.ensures c.requires.message
    (sym c.rolls_back.ensures ∙ c.if-rolls_back.true) c.requires.opened
    (sym c.is_declared_on.ensures ∙ c.if-not-is_declared_on.false)
    c.drop_work.ensures.ended))

pub returns-in-Ok-Ok-clause-leaves : goal.returns-in-Ok-Ok-clause-leaves
returns-in-Ok-Ok-clause-leaves g c =
    let P : Result (List Answers) TransactionError → Type 0 = λ answer. CommittedWith c.args.held.now c.commit_live.new.held (g.S.Tells.told c.args.below.now) (g.S.Tells.told c.commit_live.new.below) c.args.discharge.txn_id (frames_kept (kept c.args.held.now.work c.args.discharge.txn_id)) (c.commit_live.new.below ≡ c.args.below.now) (Ok answer) in
    let committed : P (Ok c.in-Ok-Ok.echoes) = subst P c.in-Ok-Ok.field-0-is c.in-Ok-Ok.ensures.answer in
    let Idle : Result (List Answers) TransactionError → Type 0 = λ answer. OnNoEchoes (Ok answer) (c.commit_live.new.below ≡ c.args.below.now) in
    let idle : Idle (Ok c.in-Ok-Ok.echoes) = subst Idle c.in-Ok-Ok.field-0-is c.in-Ok-Ok.ensures.calls.idle in
    record {
      keeps = λ f. keeps-committed c.args.held.now c.commit_live.new.held (g.S.Tells.told c.args.below.now) (g.S.Tells.told c.commit_live.new.below) c.args.link c.args.payload.now c.args.discharge _ c.in-Ok-Ok.echoes c.no_draws-in-Ok-Ok.ensures c.requires.message
          (sym c.rolls_back.ensures ∙ c.if-rolls_back.false) c.requires.opened
          (sym c.is_declared_on.ensures ∙ c.if-not-is_declared_on.false)
          committed.0 committed.1 f;
      left = tt;
      checked = tt;
      cause = (tt, tt);
      surely = tt;
      ended = tt;
      same = tt;
      untouched = commit_calls c.args.link c.args.payload.now c.args.discharge c.no_draws-in-Ok-Ok.result c.in-Ok-Ok.echoes _ c.requires.message (sym c.rolls_back.ensures ∙ c.if-rolls_back.false) idle;
      reviewed = tt;
      fixed = c.in-Ok-Ok.ensures.fixed;
      later = c.in-Ok-Ok.ensures.later;
      counted = c.in-Ok-Ok.ensures.counted;
    }

pub returns-in-Ok-Err-clause-leaves : goal.returns-in-Ok-Err-clause-leaves
returns-in-Ok-Err-clause-leaves g c =
    let P : Result (List Answers) TransactionError → Type 0 = λ answer. CommittedWith c.args.held.now c.commit_live.new.held (g.S.Tells.told c.args.below.now) (g.S.Tells.told c.commit_live.new.below) c.args.discharge.txn_id (frames_kept (kept c.args.held.now.work c.args.discharge.txn_id)) (c.commit_live.new.below ≡ c.args.below.now) (Ok answer) in
    let committed : P (Err c.in-Ok-Err.error) = subst P c.in-Ok-Err.field-0-is c.in-Ok-Err.ensures.answer in
    let is = committed.1.handed.0 in
    let Vetoed : Result (List Answers) TransactionError → Type 0 = λ answer. OnVetoed (Ok answer) (g.S.LayerBelow.review_gives c.args.below.now c.commit_live.new.below (map stripped (frames_kept (kept c.args.held.now.work c.args.discharge.txn_id))) (Ok verdicts.Veto)) in
    let vetoed : Vetoed (Err c.in-Ok-Err.error) = subst Vetoed c.in-Ok-Err.field-0-is c.in-Ok-Err.ensures.calls.vetoed in
    rw (c.rejected-in-Ok-Err.ensures, is) (record {
      keeps = λ f. keeps-vetoed c.args.held.now c.commit_live.new.held (g.S.Tells.told c.args.below.now) (g.S.Tells.told c.commit_live.new.below) c.args.link c.args.payload.now c.args.discharge _ c.no_draws-in-Ok-Err.ensures c.requires.message
          (sym c.rolls_back.ensures ∙ c.if-rolls_back.false) c.requires.opened
          (sym c.is_declared_on.ensures ∙ c.if-not-is_declared_on.false)
          committed.0 (subst (λ (e : TransactionError). HandsAll (g.S.Tells.told c.args.below.now) (g.S.Tells.told c.commit_live.new.below) (map stripped (frames_kept (kept c.args.held.now.work c.args.discharge.txn_id))) (Ok (Err e))) is committed.1) f;
      left = tt;
      checked = tt;
      cause = (tt, committed.1.cause);
      surely = tt;
      ended = tt;
      same = tt;
      untouched = tt;
      reviewed = subst (λ (fs : List Frame). g.S.LayerBelow.review_gives c.args.below.now c.commit_live.new.below fs (Ok verdicts.Veto))
          (commit-hands c.args.held.now c.args.link c.args.payload.now c.args.discharge c.requires.message (sym c.rolls_back.ensures ∙ c.if-rolls_back.false) c.requires.opened (sym c.is_declared_on.ensures ∙ c.if-not-is_declared_on.false))
          (subst (λ (e : TransactionError). Vetoed (Err e)) is vetoed);
      fixed = c.in-Ok-Err.ensures.fixed;
      later = c.in-Ok-Err.ensures.later;
      counted = c.in-Ok-Err.ensures.counted;
    })

pub returns-in-Err-clause-leaves : goal.returns-in-Err-clause-leaves
returns-in-Err-clause-leaves g c =
    rw c.step_error_of.ensures (leaves-fault g.S.Tells.told g.S.LayerBelow.sure g.S.LayerBelow.review_gives g.S.LayerBelow.check_gives c.args.held.now c.commit_live.new.held c.args.below.now c.commit_live.new.below c.args.link c.args.payload.now c.args.discharge c.in-Err.fault c.requires.message
    (sym c.rolls_back.ensures ∙ c.if-rolls_back.false) c.requires.opened
    (sym c.is_declared_on.ensures ∙ c.if-not-is_declared_on.false)
    c.in-Err.ensures.answer c.in-Err.ensures.surely c.in-Err.ensures.fixed c.in-Err.ensures.later c.in-Err.ensures.counted)

pub returns-in-Ok-Err-clause-pays : goal.returns-in-Ok-Err-clause-pays
returns-in-Ok-Err-clause-pays g c =
    subst (λ (n : ℕ). Pays c.args.held.now.work c.commit_live.new.held.work c.args.looks.now c.commit_live.new.looks n 0)
    (ends_discharged c.args.held.now c.args.link c.args.payload.now c.args.discharge c.requires.message c.requires.opened (sym c.is_declared_on.ensures ∙ c.if-not-is_declared_on.false)) c.in-Ok-Err.ensures.pays

pub returns-then-not-is_declared_on-clause-pays : goal.returns-then-not-is_declared_on-clause-pays
returns-then-not-is_declared_on-clause-pays g c = pays_none _ _ _ _

pub returns-then-rolls_back-clause-pays : goal.returns-then-rolls_back-clause-pays
returns-then-rolls_back-clause-pays g c =
    subst (λ (n : ℕ). Pays c.args.held.now.work c.drop_work.new.held.work c.args.looks.now c.drop_work.new.looks n 0)
    (ends_discharged c.args.held.now c.args.link c.args.payload.now c.args.discharge c.requires.message c.requires.opened (sym c.is_declared_on.ensures ∙ c.if-not-is_declared_on.false)) c.drop_work.ensures.pays

pub returns-in-Ok-Ok-clause-pays : goal.returns-in-Ok-Ok-clause-pays
returns-in-Ok-Ok-clause-pays g c =
    subst (λ (n : ℕ). Pays c.args.held.now.work c.commit_live.new.held.work c.args.looks.now c.commit_live.new.looks n 0)
    (ends_discharged c.args.held.now c.args.link c.args.payload.now c.args.discharge c.requires.message c.requires.opened (sym c.is_declared_on.ensures ∙ c.if-not-is_declared_on.false)) c.in-Ok-Ok.ensures.pays

pub returns-in-Err-clause-pays : goal.returns-in-Err-clause-pays
returns-in-Err-clause-pays g c =
    let Paid : ℕ → Type 0 = λ n. Pays c.args.held.now.work c.commit_live.new.held.work c.args.looks.now c.commit_live.new.looks n 0 in
    let ends = ends_discharged c.args.held.now c.args.link c.args.payload.now c.args.discharge c.requires.message c.requires.opened (sym c.is_declared_on.ensures ∙ c.if-not-is_declared_on.false) in
    rw c.step_error_of.ensures (subst Paid (same_ends c.in-Err.fault _ ∙ ap (unless_no_memory (fault_error c.in-Err.fault)) ends) c.in-Err.ensures.pays)
