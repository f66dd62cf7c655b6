-- What the record says is kept, with one entry more.
use Rattle.std.proofs.Common.{◌≡◌, ℕ, ◌+◌, Bool, true, false, cond, not, ◌&&◌, Option, Some, None, List, [], ◌∷◌, ◌++◌, length, refl, sym, ◌∙◌, ap, subst, arith, append-nil, add-zero}
use Rattle.std.specs.Prelude.{◌==◌, is_some, nat_eq}
use Rattle.std.proofs.lemmas.Bool.{ne_eqb, eqb-true, eq-eqb, and_right}
use Rattle.amqp_resource_record.specs.declared.entry.Entry.{Entry}
use Rattle.amqp_txn_types.specs.declared.performatives.Frame.{Frame}
use Rattle.amqp_resource_held.specs.declared.held.Held.{Held}
use Rattle.amqp_resource_record.specs.Legal.{IsLegal}
use Rattle.amqp_resource_log.specs.Live.{kept, with_frame, Kept}
use Rattle.amqp_resource_record.specs.declared.step.Step.{Step}
use Rattle.amqp_txn_types.specs.declared.id.TransactionId.{TransactionId}
use Rattle.amqp_resource_record.specs.Links.{attached_count, is_open}
use Rattle.amqp_resource_record.specs.Entries.{declares, discharges, is_under, attaches, closes, is_attached, step_link, reply_attaches}
use Rattle.amqp_resource_record.specs.Live.{home, is_link, is_live, is_open_at, undischarged, since}
use Rattle.amqp_txn_types.specs.Ids.{same_id}
use Rattle.amqp_resource_record.specs.declared.step.Step.TheVariants as steps
use Rattle.amqp_resource_record.specs.declared.reply.Reply.TheVariants as replies
use Rattle.amqp_resource_record.specs.Hands.{frames_of, frame_of_step}
use Rattle.amqp_resource_record.proofs.Living.{live-at, live_undischarged, live-other, live-same}
use Rattle.amqp_resource_record.proofs.Looking.{is_open-other, is_open_at-other, is_open-closed, home-declared, home-other, undischarged-declared, frames_of-declared, frames_of-other}
use Rattle.amqp_resource_record.proofs.Whole.{IsLegal-nil, count-snoc, is_open-attached, homes_attached}
use Rattle.std.specs.HashSet.{keys}
use Rattle.std.specs.Map.{lookup}
use Rattle.std.specs.Option.{option_map}
use Rattle.amqp_resource_held.proofs.Views.{live-record, stands-view, view-moved, view-stands}
use Rattle.amqp_resource_held.proofs.Kept.{tied_same}
use Rattle.amqp_resource_held.specs.Held.{OpenLinks, SameHeld, Stands, ids_on, is_among, is_in, is_kept_on, kept_by, unless_on}
use Rattle.amqp_resource_held.specs.Draws.{is_kept}
use Rattle.amqp_resource_held.specs.Views.{SameLinks, SameView, View, view_of_held, view_of_record}
use Rattle.amqp_resource_held.specs.Changes.{Arrives, Attaches, Closes, Declares, Ends}

abbrev pub more_frames : Bool → Step → Option Kept → Option Kept
more_frames b s None = None
more_frames b s (Some kept) = Some (kept.0, kept.1 ++ cond b (frame_of_step (Some s)) [])

-- what is kept after such an entry
pub kept_by-same : (r : List Entry) (e : Entry) (t : TransactionId) → declares t e ≡ false → discharges t e ≡ false → (undischarged r t ≡ true → is_open_at (r ++ e ∷ []) (home r t) ≡ is_open_at r (home r t)) → kept_by (r ++ e ∷ []) t ≡ more_frames (is_under t e) e.step (kept_by r t)
kept_by-same r e t d x o = ap (λ b. cond b (Some (home (r ++ e ∷ []) t, frames_of (r ++ e ∷ []) t)) None) (live-same r e t d x o) ∙ by_case (is_live r t) refl
  where
    by_case : (b : Bool) → is_live r t ≡ b → cond (is_live r t) (Some (home (r ++ e ∷ []) t, frames_of (r ++ e ∷ []) t)) None ≡ more_frames (is_under t e) e.step (kept_by r t)
    by_case true h =
        ap (λ b. cond b (Some (home (r ++ e ∷ []) t, frames_of (r ++ e ∷ []) t)) None) h
        ∙ ap (λ k. Some (k, frames_of (r ++ e ∷ []) t)) (home-other r e t d)
        ∙ ap (λ fs. Some (home r t, fs)) (frames_of-other r e t d (live_undischarged r t h))
        ∙ sym (ap (λ b. more_frames (is_under t e) e.step (cond b (Some (home r t, frames_of r t)) None)) h)
    by_case false h =
        ap (λ b. cond b (Some (home (r ++ e ∷ []) t, frames_of (r ++ e ∷ []) t)) None) h
        ∙ sym (ap (λ b. more_frames (is_under t e) e.step (cond b (Some (home r t, frames_of r t)) None)) h)

more_none : (s : Step) (o : Option Kept) → more_frames false s o ≡ o
more_none s None = refl
more_none s (Some kept) = ap (λ fs. Some (kept.0, fs)) (append-nil kept.1)

pub kept_by-quiet : (r : List Entry) (e : Entry) (t : TransactionId) → declares t e ≡ false → discharges t e ≡ false → is_under t e ≡ false → (undischarged r t ≡ true → is_open_at (r ++ e ∷ []) (home r t) ≡ is_open_at r (home r t)) → kept_by (r ++ e ∷ []) t ≡ kept_by r t
kept_by-quiet r e t d x u o = kept_by-same r e t d x o ∙ ap (λ b. more_frames b e.step (kept_by r t)) u ∙ more_none e.step (kept_by r t)

-- an accepted discharge
pub kept_by-discharged : (r : List Entry) (e : Entry) (t : TransactionId) → declares t e ≡ false → discharges t e ≡ true → kept_by (r ++ e ∷ []) t ≡ None
kept_by-discharged r e t d x =
    ap (λ b. cond b (Some (home (r ++ e ∷ []) t, frames_of (r ++ e ∷ []) t)) None)
    (live-other r e t d ∙ ap (λ b. (undischarged r t && not b) && is_open_at (r ++ e ∷ []) (home r t)) x ∙ ap (λ b. b && is_open_at (r ++ e ∷ []) (home r t)) (and_right (undischarged r t) false refl))

eqb_sym : (a b : ℕ) → (a == b) ≡ (b == a)
eqb_sym a b = by_case (a == b) (b == a) refl refl
  where
    by_case : (x y : Bool) → (a == b) ≡ x → (b == a) ≡ y → (a == b) ≡ (b == a)
    by_case true y h g = h ∙ sym (eq-eqb b a (sym (eqb-true a b h)))
    by_case false true h g = eq-eqb a b (sym (eqb-true b a g)) ∙ sym g
    by_case false false h g = h ∙ sym g

unless_held : (l b : Bool) (k : ℕ) (o : Option ℕ) (fs : List Frame) → is_link k o ≡ b → unless_on k (cond l (Some (o, fs)) None) ≡ cond b None (cond l (Some (o, fs)) None)
unless_held true b k o fs h = ap (λ x. cond x None (Some (o, fs))) h
unless_held false true k o fs h = refl
unless_held false false k o fs h = refl

-- a closed link is the home, or another
closed_at : (r : List Entry) (e : Entry) (k : ℕ) (o : Option ℕ) → ((j : ℕ) → closes j e ≡ (k == j)) → is_link k o ≡ true → is_open_at (r ++ e ∷ []) o ≡ false
closed_at r e k None c h = cc h
closed_at r e k (Some j) c h = is_open-closed r e j (c j ∙ eqb_sym k j ∙ h)

away_at : (k j : ℕ) (o : Option ℕ) → is_link k o ≡ false → o ≡ Some j → (k == j) ≡ false
away_at k j o n h = eqb_sym k j ∙ sym (ap (is_link k) h) ∙ n

-- a closed link
pub kept_by-closed : (r : List Entry) (e : Entry) (k : ℕ) (t : TransactionId) → declares t e ≡ false → discharges t e ≡ false → is_under t e ≡ false → ((j : ℕ) → attaches j e ≡ false) → ((j : ℕ) → closes j e ≡ (k == j)) → kept_by (r ++ e ∷ []) t ≡ unless_on k (kept_by r t)
kept_by-closed r e k t d x u a c = by_case (is_link k (home r t)) refl
  where
    unless_kept : (b : Bool) → is_link k (home r t) ≡ b → unless_on k (kept_by r t) ≡ cond b None (kept_by r t)
    unless_kept b h = unless_held (is_live r t) b k (home r t) (frames_of r t) h

    by_case : (b : Bool) → is_link k (home r t) ≡ b → kept_by (r ++ e ∷ []) t ≡ unless_on k (kept_by r t)
    by_case false h = kept_by-quiet r e t d x u (λ q. is_open_at-other r e (home r t) (λ j _. a j) (λ j y. c j ∙ away_at k j (home r t) h y)) ∙ sym (unless_kept false h)
    by_case true h =
        ap (λ b. cond b (Some (home (r ++ e ∷ []) t, frames_of (r ++ e ∷ []) t)) None)
        (live-other r e t d ∙ ap (λ b. (undischarged r t && not (discharges t e)) && b) (closed_at r e k (home r t) c h) ∙ and_right (undischarged r t && not (discharges t e)) false refl)
        ∙ sym (unless_kept true h)

-- a declare on a link that is open
pub kept_by-declared : (r : List Entry) (e : Entry) (t : TransactionId) → declares t e ≡ true → is_open_at (r ++ e ∷ []) (step_link e.step) ≡ true → kept_by (r ++ e ∷ []) t ≡ Some (step_link e.step, [])
kept_by-declared r e t d o =
    ap (λ b. cond b (Some (home (r ++ e ∷ []) t, frames_of (r ++ e ∷ []) t)) None)
    (live-at (r ++ e ∷ []) t ∙ ap (λ b. b && is_open_at (r ++ e ∷ []) (home (r ++ e ∷ []) t)) (undischarged-declared r e t d) ∙ ap (is_open_at (r ++ e ∷ [])) (home-declared r e t d) ∙ o)
    ∙ ap (λ k. Some (k, frames_of (r ++ e ∷ []) t)) (home-declared r e t d) ∙ ap (λ fs. Some (step_link e.step, fs)) (frames_of-declared r e t d)

-- ---- the view of a record with one entry more

-- an entry that says nothing of links
pub record LeavesLinks (e : Entry) : Type 0 where
  pub attaches : (k : ℕ) → attaches k e ≡ false
  pub closes : (k : ℕ) → closes k e ≡ false
  pub attached : is_attached e.reply ≡ false

quiet_count : (r : List Entry) (e : Entry) → is_attached e.reply ≡ false → attached_count (r ++ e ∷ []) ≡ attached_count r
quiet_count r e h = count-snoc r e ∙ ap (λ b. attached_count r + cond b 1 0) h ∙ add-zero (attached_count r)

open-left : (r : List Entry) (e : Entry) → LeavesLinks e → (o : Option ℕ) → is_open_at (r ++ e ∷ []) o ≡ is_open_at r o
open-left r e q o = is_open_at-other r e o (λ k _. q.attaches k) (λ k _. q.closes k)

links-left : (r : List Entry) (e : Entry) (w : View) → LeavesLinks e → SameLinks (view_of_record r) w → SameLinks (view_of_record (r ++ e ∷ [])) w
links-left r e w q s = record {
  links = λ k. s.links k ∙ sym (is_open-other r e k (q.attaches k) (q.closes k));
  opened = s.opened ∙ sym (quiet_count r e q.attached);
}

-- an entry that says nothing of ids either
pub view-quiet : (r : List Entry) (e : Entry) (w : View) → LeavesLinks e → ((t : TransactionId) → declares t e ≡ false) → ((t : TransactionId) → discharges t e ≡ false) → ((t : TransactionId) → is_under t e ≡ false) → SameView (view_of_record r) w → SameView (view_of_record (r ++ e ∷ [])) w
view-quiet r e w q de di un s = record {
  live = λ t. s.live t ∙ sym (kept_by-quiet r e t (de t) (di t) (un t) (λ _. open-left r e q (home r t)));
  links = links-left r e w q s.links;
}

with_more : (b : Bool) (frame : Frame) (o : Option Kept) → more_frames b (steps.Frame frame) o ≡ cond b (with_frame o frame) o
with_more true frame None = refl
with_more false frame None = refl
with_more true frame (Some kept) = refl
with_more false frame (Some kept) = ap (λ fs. Some (kept.0, fs)) (append-nil kept.1)

-- a frame under an id
pub view-post : (r : List Entry) (e : Entry) (w : View) (frame : Frame) (u : TransactionId) → LeavesLinks e → ((t : TransactionId) → declares t e ≡ false) → ((t : TransactionId) → discharges t e ≡ false) → e.step ≡ steps.Frame frame → ((t : TransactionId) → is_under t e ≡ same_id t u) → Arrives (view_of_record r) w frame u → SameView (view_of_record (r ++ e ∷ [])) w
view-post r e w frame u q de di es ue x = record {
  live = λ t.
      x.live t
      ∙ sym (kept_by-same r e t (de t) (di t) (λ _. open-left r e q (home r t))
      ∙ ap (λ b. more_frames b e.step (kept_by r t)) (ue t) ∙ ap (λ y. more_frames (same_id t u) y (kept_by r t)) es ∙ with_more (same_id t u) frame (kept_by r t));
  links = links-left r e w q x.links;
}

-- an id that ended
pub view-ended : (r : List Entry) (e : Entry) (w : View) (k : ℕ) (u : TransactionId) → LeavesLinks e → ((t : TransactionId) → declares t e ≡ false) → ((t : TransactionId) → discharges t e ≡ same_id t u) → ((t : TransactionId) → is_under t e ≡ false) → Ends k (view_of_record r) w u → SameView (view_of_record (r ++ e ∷ [])) w
view-ended r e w k u q de di un x = record { live = λ t. x.live t ∙ by_case t (same_id t u) refl; links = links-left r e w q x.links }
  where
    by_case : (t : TransactionId) (b : Bool) → same_id t u ≡ b → cond {A = Option Kept} (same_id t u) None (kept_by r t) ≡ kept_by (r ++ e ∷ []) t
    by_case t true y = ap (λ b. cond b None (kept_by r t)) y ∙ sym (kept_by-discharged r e t (de t) (di t ∙ y))
    by_case t false y =
        ap (λ b. cond b None (kept_by r t)) y
        ∙ sym (kept_by-quiet r e t (de t) (di t ∙ y) (un t) (λ _. open-left r e q (home r t)))

-- a link that was attached
pub view-attached : (r : List Entry) (e : Entry) (w : View) (link : ℕ) (given : List Frame) → IsLegal r → e.reply ≡ replies.Attached link given → ((t : TransactionId) → declares t e ≡ false) → ((t : TransactionId) → discharges t e ≡ false) → ((t : TransactionId) → is_under t e ≡ false) → ((k : ℕ) → closes k e ≡ false) → Attaches (view_of_record r) w link → SameView (view_of_record (r ++ e ∷ [])) w
view-attached r e w link given legal er de di un cl x = record {
  live = λ t. x.live t ∙ sym (kept_by-quiet r e t (de t) (di t) (un t) (λ y. is_open_at-other r e (home r t) (λ k q. apart t k y q) (λ k _. cl k)));
  links = record {
    links = λ k. x.links k ∙ by_case k (attached_count r == k) refl;
    opened = x.opened ∙ sym (count-snoc r e ∙ ap (λ y. attached_count r + cond (is_attached y) 1 0) er);
  };
}
  where
    says : (k : ℕ) → attaches k e ≡ (attached_count r == k)
    says k = ap (reply_attaches k) er ∙ ap (λ n. n == k) x.number

    apart : (t : TransactionId) (k : ℕ) → undischarged r t ≡ true → home r t ≡ Some k → attaches k e ≡ false
    apart t k y q = says k ∙ ne_eqb (attached_count r) k (λ z. omega (arith, homes_attached r t k legal y q, z))

    by_case : (k : ℕ) (b : Bool) → (attached_count r == k) ≡ b → cond (attached_count r == k) true (is_open r k) ≡ is_open (r ++ e ∷ []) k
    by_case k true y =
        ap (λ b. cond b true (is_open r k)) y
        ∙ sym (ap (is_open (r ++ e ∷ [])) (sym (x.number ∙ eqb-true (attached_count r) k y)) ∙ is_open-attached r e link given legal er x.number)
    by_case k false y = ap (λ b. cond b true (is_open r k)) y ∙ sym (is_open-other r e k (says k ∙ y) (cl k))

-- a link that ended or was closed
pub view-closed : (r : List Entry) (e : Entry) (w : View) (k : ℕ) → ((t : TransactionId) → declares t e ≡ false) → ((t : TransactionId) → discharges t e ≡ false) → ((t : TransactionId) → is_under t e ≡ false) → ((j : ℕ) → attaches j e ≡ false) → ((j : ℕ) → closes j e ≡ (k == j)) → is_attached e.reply ≡ false → Closes k (view_of_record r) w → SameView (view_of_record (r ++ e ∷ [])) w
view-closed r e w k de di un at cl ia x = record {
  live = λ t. x.live t ∙ sym (kept_by-closed r e k t (de t) (di t) (un t) at cl);
  links = record {
    links = λ j. x.links j ∙ by_case j (k == j) refl;
    opened = x.opened ∙ sym (quiet_count r e ia);
  };
}
  where
    by_case : (j : ℕ) (b : Bool) → (k == j) ≡ b → cond (k == j) false (is_open r j) ≡ is_open (r ++ e ∷ []) j
    by_case j true y = ap (λ b. cond b false (is_open r j)) y ∙ sym (is_open-closed r e j (cl j ∙ y))
    by_case j false y = ap (λ b. cond b false (is_open r j)) y ∙ sym (is_open-other r e j (at j) (cl j ∙ y))

-- an id that was declared
pub view-declared : (r : List Entry) (e : Entry) (w : View) (k : ℕ) (u : TransactionId) → LeavesLinks e → step_link e.step ≡ Some k → is_open r k ≡ true → ((t : TransactionId) → declares t e ≡ same_id t u) → ((t : TransactionId) → discharges t e ≡ false) → ((t : TransactionId) → is_under t e ≡ false) → Declares k (view_of_record r) w e.drawn.ids u → SameView (view_of_record (r ++ e ∷ [])) w
view-declared r e w k u q on op de di un x = record { live = λ t. x.live t ∙ by_case t (same_id t u) refl; links = links-left r e w q x.links }
  where
    by_case : (t : TransactionId) (b : Bool) → same_id t u ≡ b → cond (same_id t u) (Some (Some k, [])) (kept_by r t) ≡ kept_by (r ++ e ∷ []) t
    by_case t true y =
        ap (λ b. cond b (Some (Some k, [])) (kept_by r t)) y
        ∙ sym (kept_by-declared r e t (de t ∙ y) (open-left r e q (step_link e.step) ∙ ap (is_open_at r) on ∙ op) ∙ ap (λ o. Some (o, [])) on)
    by_case t false y =
        ap (λ b. cond b (Some (Some k, [])) (kept_by r t)) y
        ∙ sym (kept_by-quiet r e t (de t ∙ y) (di t) (un t) (λ _. open-left r e q (home r t)))

-- nothing kept stands for the empty record
none_live : (t : TransactionId) → is_live [] t ≡ false
unfolding is_live undischarged since
none_live t = refl

none_open : (k : ℕ) → is_open [] k ≡ false
unfolding is_open
none_open k = refl

pub stands-new : (h : Held) → ((t : TransactionId) → kept h.work t ≡ None) → h.links.entries ≡ [] → h.opened ≡ 0 → Stands h []
stands-new h l k o = record {
  legal = IsLegal-nil;
  tied = λ j t. ap (λ ks. is_among t (ids_on ks j)) k ∙ sym (ap (is_kept_on j) (l t));
  live = λ t. l t ∙ sym (ap (λ b. cond b (Some (home [] t, frames_of [] t)) None) (none_live t));
  links = λ j. ap (λ ks. is_in ks j) k ∙ sym (none_open j);
  opened = o;
}

-- ---- a session that keeps nothing

no_links : {S : Type 0} (ks : OpenLinks S) → ((k : ℕ) → is_in ks k ≡ false) → length ks ≡ 0
no_links [] h = refl
no_links (k ∷ ks) h = let here : is_in (k ∷ ks) k.0 ≡ true = ap (λ b. is_some (option_map keys (cond b (Some k.1) (lookup (nat_eq k.0) ks)))) (eq-eqb k.0 k.0 refl) in cc (here, h k.0)

pub new-live : (h : Held) → Stands h [] → (t : TransactionId) → kept h.work t ≡ None
new-live h s t = s.live t ∙ ap (λ b. cond b (Some (home [] t, frames_of [] t)) None) (none_live t)

pub new-links : (h : Held) → Stands h [] → length h.links.entries ≡ 0
new-links h s = no_links h.links.entries (λ k. s.links k ∙ none_open k)

pub no_items : {A : Type 0} (xs : List A) → length xs ≡ 0 → xs ≡ []
no_items [] e = refl
no_items (x ∷ xs) e = absurd (omega arith)

-- ---- a session that stands for a record

-- what is kept is live
pub kept_live : (h : Held) (r : List Entry) (t : TransactionId) → Stands h r → is_kept h.work t ≡ is_live r t
kept_live h r t s = ap is_some (s.live t) ∙ live-record r t

-- what is kept may stand in other memory
pub stands-moved : (h g : Held) (r : List Entry) → Stands h r → SameHeld h g → Stands g r
stands-moved h g r s same =
    stands-view g r s.legal (tied_same h g same s.tied) (let P : View → Type 0 = λ v. SameView v (view_of_held g) in subst P (view-stands h r s) (view-moved h g same))
