-- Lines of replies to frames.
use Rattle.std.proofs.Common.{◌≡◌, ℕ, ◌+◌, true, false, cond, not, Option, Some, None, List, [], ◌∷◌, ◌++◌, refl, sym, ◌∙◌, ap, subst, arith}
use Rattle.std.specs.Prelude.{◌==◌, codes, decimal, is_some, slice_index}
use Rattle.amqp_txn_types.specs.declared.id.TransactionId.{TransactionId}
use Rattle.amqp_txn_types.specs.declared.performatives.Frame.{Frame}
use Rattle.amqp_txn_types.specs.Frames.{is_coordinator_attach, is_plain_by, is_plain_frame, txn}
use Rattle.amqp_txn_types.specs.Ids.{is_some_id, same_id}
use Rattle.amqp_txn_types.specs.Presumptive.{answered_under}
use Rattle.amqp_below_layer.specs.declared.answers.Answers.{Answers}
use Rattle.amqp_below_layer.specs.declared.inner_error.SessionInnerError.{SessionInnerError}
use Rattle.amqp_below_ids.specs.Drawn.{DrawnIds}
use Rattle.amqp_resource_record.specs.declared.step.Step.TheVariants as steps
use Rattle.amqp_resource_record.specs.declared.reply.Reply.{Reply}
use Rattle.amqp_resource_record.specs.declared.reply.Reply.TheVariants as replies
use Rattle.amqp_resource_record.specs.declared.entry.Entry.{Entry}
use Rattle.amqp_resource_record.specs.Answers.{Answer, AnswerFrame}
use Rattle.amqp_resource_record.specs.Links.{attached_count}
use Rattle.amqp_resource_record.specs.Live.{is_live}
use Rattle.amqp_resource_record.specs.Stops.{fault_code}
use Rattle.amqp_resource_record.specs.declared.stop.StopCode.{StopCode}
use Rattle.amqp_resource_record.proofs.Whole.{IsLegal-snoc, hands-other_frame, hands-plain}
use Rattle.amqp_resource_log.specs.Live.{kept, with_frame}
use Rattle.amqp_resource_held.specs.declared.held.Held.{Held}
use Rattle.amqp_resource_held.specs.Held.{ids_on, is_in}
use Rattle.amqp_resource_held.specs.Views.{view_of_held}
use Rattle.amqp_resource_held.proofs.Fitting.{fits-attached, fits-posted, fits-stands}
use Rattle.amqp_resource_held.proofs.Kept.{in_updated}
use Rattle.amqp_resource_held.proofs.Standing.{view-attached, view-post}
use Rattle.amqp_resource_held.proofs.Views.{live-record, stands-view}
use Rattle.txn_program_report.specs.Report.{reply_frames, reply_text, stop_word}
use Rattle.txn_audit_report.specs.Stopping.{refusal_of_attach}
use Rattle.txn_audit_report.proofs.RefusalCodes.{attach-found, attach-told}
use Rattle.txn_audit_fits.specs.declared.outs.Outs.{Outs}
use Rattle.txn_audit_fits.specs.declared.outs.Outs.TheVariants as outs
use Rattle.txn_audit_fits.specs.Judging.{Accepts, Follows, JudgesHere, JudgesWork, Opens, OutsAre, OutsTell, entry_of}
use Rattle.txn_audit_fits.proofs.Judged.{none_drew, none_handed, nothing_drawn, stays, text_attached, text_frames, text_refused}

-- an answer to a frame, by the id that it is under
frame_to : (before : List Entry) (frame : Frame) (ids : List TransactionId) (reply : Reply) (o : Option TransactionId) → txn frame ≡ o → Answer before (steps.Frame frame) ids reply → AnswerFrame before frame o reply
frame_to before frame ids reply o e a = let P : Option TransactionId → Type 0 = λ t. AnswerFrame before frame t reply in subst P e a.1

frame_from : (before : List Entry) (frame : Frame) (ids : List TransactionId) (reply : Reply) (o : Option TransactionId) → txn frame ≡ o → ids ≡ [] → AnswerFrame before frame o reply → Answer before (steps.Frame frame) ids reply
frame_from before frame ids reply o e n a = let P : Option TransactionId → Type 0 = λ t. AnswerFrame before frame t reply in (n, subst P (sym e) a)

-- ---- plain frames

abbrev bare : Answers
bare = record { given = []; window = None }

plain_by : (frame : Frame) → txn frame ≡ None → is_coordinator_attach frame ≡ false → is_plain_frame frame ≡ true
plain_by frame e c = ap (λ o. is_plain_by o (is_coordinator_attach frame)) e ∙ ap not c

pub plain-yes : (h : Held) (frame : Frame) (line : List ℕ) (was now : List Frame) → txn frame ≡ None → is_coordinator_attach frame ≡ false → line ≡ codes "ok" → now ≡ was ++ frame ∷ [] → JudgesWork h h was now (steps.Frame frame) line (Some outs.Any)
plain-yes h frame line was now e c same grew next before s =
    record {
      drawn = nothing_drawn;
      reply = replies.Frames bare;
      tells = record { answer = frame_from before frame [] (replies.Frames bare) None e refl (c, λ _. refl); next = tt; line = text_frames bare ∙ sym same };
      each = λ d reply t. follows d reply t.answer (frame_to before frame d.ids reply None e t.answer);
    }
  where
    follows : (d : DrawnIds) (reply : Reply) → Answer before (steps.Frame frame) d.ids reply → AnswerFrame before frame None reply → Follows before h was now next next (steps.Frame frame) outs.Any d reply
    follows d (replies.Frames answers) a f = record {
      stands = stays h before (steps.Frame frame) d (replies.Frames answers) s a (record { attaches = λ k. refl; closes = λ k. refl; attached = refl }) (λ t. refl) (λ t. refl) (λ t. ap (is_some_id t) e);
      drew = none_drew next d.ids a.0;
      outs = plain_by frame e c;
      work = grew ∙ ap (λ fs. was ++ fs) (sym (hands-plain before frame (plain_by frame e c)));
    }
    follows d (replies.Attached link given) a f = let y = f.0 in absurd (cc (y, c))
    follows d (replies.AttachRefused error) a f = absurd (cc (f, c))
    follows d _ a f = absurd f

pub plain-no : (h : Held) (frame : Frame) (line : List ℕ) (was now : List Frame) → txn frame ≡ None → is_coordinator_attach frame ≡ false → (line ≡ codes "ok" → ⊥) → JudgesWork h h was now (steps.Frame frame) line None
plain-no h frame line was now e c other next before s d reply t = by_reply reply t.line (frame_to before frame d.ids reply None e t.answer)
  where
    by_reply : (r : Reply) → reply_text r ≡ line → AnswerFrame before frame None r → ⊥
    by_reply (replies.Frames answers) l f = other (sym l ∙ text_frames answers)
    by_reply (replies.Attached link given) l f = let y = f.0 in cc (y, c)
    by_reply (replies.AttachRefused error) l f = cc (f, c)
    by_reply _ l f = absurd f

-- ---- frames under an id

pub under-yes : (h g : Held) (frame : Frame) (id : TransactionId) (line : List ℕ) (o : Outs) → txn frame ≡ Some id → line ≡ codes "ok" → is_some (kept h.work id) ≡ true → ((t : TransactionId) → kept g.work t ≡ cond (same_id t id) (with_frame (kept h.work t) frame) (kept h.work t)) → ((k : ℕ) → ids_on g.links.entries k ≡ ids_on h.links.entries k) → g.opened ≡ h.opened → OutsTell o (answered_under id frame) → JudgesHere h g (steps.Frame frame) line (Some o)
under-yes h g frame id line o e same live grew links opened tells work next before s =
    record {
      drawn = nothing_drawn;
      reply = replies.Frames (record { given = answered_under id frame; window = None });
      tells = record { answer = frame_from before frame [] (replies.Frames (record { given = answered_under id frame; window = None })) (Some id) e refl (alive, refl); next = tt; line = text_frames _ ∙ sym same };
      each = λ d reply t. follows d reply t.answer (frame_to before frame d.ids reply (Some id) e t.answer);
    }
  where
    alive : is_live before id ≡ true
    alive = sym (live-record before id) ∙ ap is_some (sym (s.live id)) ∙ live

    not_plain : is_plain_frame frame ≡ false
    not_plain = ap (λ t. is_plain_by t (is_coordinator_attach frame)) e

    told : (u : Outs) (answers : Answers) → OutsTell u (answered_under id frame) → answers ≡ record { given = answered_under id frame; window = None } → OutsAre u (steps.Frame frame) (replies.Frames answers)
    told outs.Any answers t a = absurd t
    told outs.Nothing answers t a = (not_plain, ap (λ (x : Answers). reply_frames (replies.Frames x)) a ∙ ap (λ fs. fs ++ []) t)
    told (outs.One one) answers t a = (not_plain, ap (λ (x : Answers). reply_frames (replies.Frames x)) a ∙ ap (λ fs. fs ++ []) t)

    follows : (d : DrawnIds) (reply : Reply) → Answer before (steps.Frame frame) d.ids reply → AnswerFrame before frame (Some id) reply → Follows before g work work next next (steps.Frame frame) o d reply
    follows d (replies.Frames answers) a f =
        let fit = fits-posted h g id frame grew links opened (fits-stands h before s) in
        record {
          stands =
              stands-view g _ (IsLegal-snoc before (entry_of (steps.Frame frame) d (replies.Frames answers)) s.legal a) fit.tied
              (view-post before (entry_of (steps.Frame frame) d (replies.Frames answers)) (view_of_held g) frame id (record { attaches = λ k. refl; closes = λ k. refl; attached = refl }) (λ t. refl) (λ t. refl) refl (λ t. ap (is_some_id t) e)
              (record {
                was_live = live-record before id ∙ alive;
                live = λ t. grew t ∙ ap (λ v. cond (same_id t id) (with_frame v frame) v) (s.live t);
                links = record { links = λ k. ap is_some (links k) ∙ s.links k; opened = opened ∙ s.opened };
              }));
          drew = none_drew next d.ids a.0;
          outs = told o answers tells f.1;
          work = none_handed work _ (hands-other_frame before frame not_plain);
        }
    follows d _ a f = absurd f

pub under-dead : (h g : Held) (frame : Frame) (id : TransactionId) (line : List ℕ) → txn frame ≡ Some id → is_some (kept h.work id) ≡ false → JudgesHere h g (steps.Frame frame) line None
under-dead h g frame id line e dead work next before s d reply t = by_reply reply (frame_to before frame d.ids reply (Some id) e t.answer)
  where
    gone : is_live before id ≡ false
    gone = sym (live-record before id) ∙ ap is_some (sym (s.live id)) ∙ dead

    by_reply : (r : Reply) → AnswerFrame before frame (Some id) r → ⊥
    by_reply (replies.Frames answers) f = let y = f.0 in cc (y, gone)
    by_reply _ f = absurd f

pub under-no : (h g : Held) (frame : Frame) (id : TransactionId) (line : List ℕ) → txn frame ≡ Some id → (line ≡ codes "ok" → ⊥) → JudgesHere h g (steps.Frame frame) line None
under-no h g frame id line e other work next before s d reply t = by_reply reply t.line (frame_to before frame d.ids reply (Some id) e t.answer)
  where
    by_reply : (r : Reply) → reply_text r ≡ line → AnswerFrame before frame (Some id) r → ⊥
    by_reply (replies.Frames answers) l f = other (sym l ∙ text_frames answers)
    by_reply _ l f = absurd f

-- ---- attaches of control links

not_plain_attach : (frame : Frame) → txn frame ≡ None → is_coordinator_attach frame ≡ true → is_plain_frame frame ≡ false
not_plain_attach frame e c = ap (λ o. is_plain_by o (is_coordinator_attach frame)) e ∙ ap not c

refused_apart : (error : SessionInnerError) (n : ℕ) → codes "attach-refused " ++ stop_word (fault_code error) ≡ codes "attached " ++ decimal n → ⊥
refused_apart error n e = let f : 45 ≡ 101 = ap (λ xs. slice_index xs 6) e in omega (arith, f)

pub attach-yes : (h g : Held) (frame : Frame) (line : List ℕ) → txn frame ≡ None → is_coordinator_attach frame ≡ true → line ≡ codes "attached " ++ decimal h.opened → Opens h g → JudgesHere h g (steps.Frame frame) line (Some outs.Any)
attach-yes h g frame line e c same x work next before s =
    record {
      drawn = nothing_drawn;
      reply = replies.Attached h.opened [];
      tells = record { answer = frame_from before frame [] (replies.Attached h.opened []) None e refl (c, s.opened); next = tt; line = text_attached h.opened [] ∙ sym same };
      each = λ d reply t. follows d reply t.line t.answer (frame_to before frame d.ids reply None e t.answer);
    }
  where
    follows : (d : DrawnIds) (reply : Reply) → reply_text reply ≡ line → Answer before (steps.Frame frame) d.ids reply → AnswerFrame before frame None reply → Follows before g work work next next (steps.Frame frame) outs.Any d reply
    follows d (replies.Attached link given) l a f =
        let fit = fits-attached h g (λ t. ap (λ w. kept w t) x.work) x.links x.opened (fits-stands h before s) in
        record {
          stands =
              stands-view g _ (IsLegal-snoc before (entry_of (steps.Frame frame) d (replies.Attached link given)) s.legal a) fit.tied
              (view-attached before (entry_of (steps.Frame frame) d (replies.Attached link given)) (view_of_held g) link given s.legal refl (λ t. refl) (λ t. refl) (λ t. ap (is_some_id t) e) (λ k. refl)
              (record {
                number = f.1;
                live = λ t. ap (λ w. kept w t) x.work ∙ s.live t;
                links = λ j. ap is_some (x.links j) ∙ in_updated (h.opened == j) (Some []) (ids_on h.links.entries j) ∙ ap (λ n. cond (n == j) true (is_in h.links.entries j)) s.opened ∙ ap (λ b. cond (attached_count before == j) true b) (s.links j);
                opened = x.opened ∙ ap (λ n. n + 1) s.opened;
              }));
          drew = none_drew next d.ids a.0;
          outs = refl;
          work = none_handed work _ (hands-other_frame before frame (not_plain_attach frame e c));
        }
    follows d (replies.AttachRefused error) l a f = absurd (refused_apart error h.opened (sym (text_refused error) ∙ l ∙ same))
    follows d (replies.Frames answers) l a f = let y = f.0 in absurd (cc (y, c))
    follows d _ l a f = absurd f

-- a line that is another than that of the next link
pub attach-other : (h : Held) (frame : Frame) (line : List ℕ) → txn frame ≡ None → is_coordinator_attach frame ≡ true → (line ≡ codes "attached " ++ decimal h.opened → ⊥) → is_some (refusal_of_attach line) ≡ true → JudgesHere h h (steps.Frame frame) line (Some outs.Nothing)
attach-other h frame line e c other refused work next before s = by_case (refusal_of_attach line) refl
  where
    follows : (d : DrawnIds) (reply : Reply) → reply_text reply ≡ line → Answer before (steps.Frame frame) d.ids reply → AnswerFrame before frame None reply → Follows before h work work next next (steps.Frame frame) outs.Nothing d reply
    follows d (replies.Attached link given) l a f = absurd (other (sym l ∙ text_attached link given ∙ ap (λ n. codes "attached " ++ decimal n) (f.1 ∙ sym s.opened)))
    follows d (replies.AttachRefused error) l a f = record {
      stands = stays h before (steps.Frame frame) d (replies.AttachRefused error) s a (record { attaches = λ k. refl; closes = λ k. refl; attached = refl }) (λ t. refl) (λ t. refl) (λ t. ap (is_some_id t) e);
      drew = none_drew next d.ids a.0;
      outs = (refl, refl);
      work = none_handed work _ (hands-other_frame before frame (not_plain_attach frame e c));
    }
    follows d (replies.Frames answers) l a f = let y = f.0 in absurd (cc (y, c))
    follows d _ l a f = absurd f

    by_case : (o : Option StopCode) → refusal_of_attach line ≡ o → Accepts before h work work next next (steps.Frame frame) line outs.Nothing
    by_case None n = absurd (cc (ap is_some n, refused))
    by_case (Some code) y =
        let found = attach-found line code y in
        record {
          drawn = nothing_drawn;
          reply = replies.AttachRefused found.0;
          tells = record { answer = frame_from before frame [] (replies.AttachRefused found.0) None e refl c; next = tt; line = text_refused found.0 ∙ found.1 };
          each = λ d reply t. follows d reply t.line t.answer (frame_to before frame d.ids reply None e t.answer);
        }

pub attach-no : (h g : Held) (frame : Frame) (line : List ℕ) → txn frame ≡ None → is_coordinator_attach frame ≡ true → (line ≡ codes "attached " ++ decimal h.opened → ⊥) → is_some (refusal_of_attach line) ≡ false → JudgesHere h g (steps.Frame frame) line None
attach-no h g frame line e c other none work next before s d reply t = by_reply reply t.line (frame_to before frame d.ids reply None e t.answer)
  where
    by_reply : (r : Reply) → reply_text r ≡ line → AnswerFrame before frame None r → ⊥
    by_reply (replies.Attached link given) l f = other (sym l ∙ text_attached link given ∙ ap (λ n. codes "attached " ++ decimal n) (f.1 ∙ sym s.opened))
    by_reply (replies.AttachRefused error) l f = cc (ap is_some (sym (ap refusal_of_attach (sym (text_refused error) ∙ l)) ∙ attach-told error), none)
    by_reply (replies.Frames answers) l f = let y = f.0 in cc (y, c)
    by_reply _ l f = absurd f
