-- What is kept goes on to fit together.
use Rattle.std.proofs.Common.{◌≡◌, ℕ, ◌+◌, ◌≤◌, Bool, true, false, cond, Option, Some, None, List, [], refl, sym, ◌∙◌, ap, arith, subst}
use Rattle.std.specs.Prelude.{◌==◌, is_some}
use Rattle.std.proofs.lemmas.Bool.{ne_eqb}
use Rattle.amqp_resource_record.specs.declared.entry.Entry.{Entry}
use Rattle.amqp_txn_types.specs.declared.performatives.Frame.{Frame}
use Rattle.amqp_resource_held.specs.declared.held.Held.{Held}
use Rattle.amqp_txn_types.specs.declared.id.TransactionId.{TransactionId}
use Rattle.amqp_resource_record.specs.Links.{is_open}
use Rattle.amqp_resource_log.specs.Live.{kept, with_frame, Kept}
use Rattle.amqp_txn_types.specs.Ids.{same_id}
use Rattle.amqp_resource_record.proofs.Whole.{open_below}
use Rattle.amqp_resource_held.specs.Held.{SameHeld, Stands, Tied, ids_on, is_among, is_in, is_kept_on}
use Rattle.amqp_resource_held.specs.Changes.{Ended, Fits}
use Rattle.amqp_resource_held.proofs.Kept.{in_updated, tied_opened, tied_same}

pub fits_by : (h g : Held) → Tied g → ((k : ℕ) → is_in g.links.entries k ≡ is_in h.links.entries k) → g.opened ≡ h.opened → Fits h → Fits g
fits_by h g tied links opened f = record { tied = tied; links = λ k l. links k ∙ f.links k (subst (λ (n : ℕ). n ≤ k) opened l) }

pub fits-same : (h g : Held) → SameHeld h g → Fits h → Fits g
fits-same h g same f = fits_by h g (tied_same h g same f.tied) (λ k. ap is_some (same.links k)) same.opened f

-- a frame more changes no holder
tied-post : (h g : Held) (u : TransactionId) (frame : Frame) → Tied h → ((t : TransactionId) → kept g.work t ≡ cond (same_id t u) (with_frame (kept h.work t) frame) (kept h.work t)) → ((k : ℕ) → ids_on g.links.entries k ≡ ids_on h.links.entries k) → Tied g
tied-post h g u frame tied lg kg k t = ap (is_among t) (kg k) ∙ tied k t ∙ sym (ap (is_kept_on k) (lg t) ∙ same_holder (same_id t u) (kept h.work t))
  where
    same_holder : (b : Bool) (o : Option Kept) → is_kept_on k (cond b (with_frame o frame) o) ≡ is_kept_on k o
    same_holder true None = refl
    same_holder true (Some kept) = refl
    same_holder false o = refl

pub fits-posted : (h g : Held) (u : TransactionId) (frame : Frame) → ((t : TransactionId) → kept g.work t ≡ cond (same_id t u) (with_frame (kept h.work t) frame) (kept h.work t)) → ((k : ℕ) → ids_on g.links.entries k ≡ ids_on h.links.entries k) → g.opened ≡ h.opened → Fits h → Fits g
fits-posted h g u frame lg kg og f = fits_by h g (tied-post h g u frame f.tied lg kg) (λ k. ap is_some (kg k)) og f

no_ids : (t : TransactionId) (ids : Option (List TransactionId)) → is_some ids ≡ false → is_among t ids ≡ false
no_ids t None n = refl
no_ids t (Some ids) n = cc n

pub fits-attached : (h g : Held) → ((t : TransactionId) → kept g.work t ≡ kept h.work t) → ((k : ℕ) → ids_on g.links.entries k ≡ cond (h.opened == k) (Some []) (ids_on h.links.entries k)) → g.opened ≡ h.opened + 1 → Fits h → Fits g
fits-attached h g lg kg og f = record {
  tied = tied_opened h g f.tied (λ t. sym (f.tied h.opened t) ∙ no_ids t (ids_on h.links.entries h.opened) (f.links h.opened (omega arith))) lg kg;
  links = λ k l. ap is_some (kg k) ∙ in_updated (h.opened == k) (Some []) (ids_on h.links.entries k)
      ∙ ap (λ b. cond b true (is_in h.links.entries k)) (ne_eqb h.opened k (λ y. omega (arith, l, og, y))) ∙ f.links k (omega (arith, l, og));
}

never : (b : Bool) → cond b false false ≡ false
never true = refl
never false = refl

pub fits-closed : (h g : Held) (link : ℕ) → (Tied h → Tied g) → ((k : ℕ) → is_in g.links.entries k ≡ cond (link == k) false (is_in h.links.entries k)) → g.opened ≡ h.opened → Fits h → Fits g
fits-closed h g link tied links opened f = record {
  tied = tied f.tied;
  links = λ k l. links k ∙ ap (cond (link == k) false) (f.links k (subst (λ (n : ℕ). n ≤ k) opened l)) ∙ never (link == k);
}

pub fits-declared : (h g : Held) → (Tied h → Tied g) → ((k : ℕ) → is_in g.links.entries k ≡ is_in h.links.entries k) → g.opened ≡ h.opened → Fits h → Fits g
fits-declared h g tied links opened f = fits_by h g (tied f.tied) links opened f

pub fits-ended : (h g : Held) (id : TransactionId) → Ended h g id → Fits h → Fits g
fits-ended h g id x f = fits_by h g (x.tied f.tied) x.links x.opened f

-- a record's
pub fits-stands : (h : Held) (r : List Entry) → Stands h r → Fits h
fits-stands h r s = record { tied = s.tied; links = λ k l. s.links k ∙ closed k l (is_open r k) refl }
  where
    closed : (k : ℕ) → h.opened ≤ k → (b : Bool) → is_open r k ≡ b → is_open r k ≡ false
    closed k l true o = let a = open_below r k s.legal o in let e = s.opened in absurd (omega (arith, a, l, e))
    closed k l false o = o
