-- Where an id was declared.
use Rattle.std.proofs.Common.{◌≡◌, ℕ, Bool, true, false, Option, Some, None, List, [], ◌∷◌, ◌++◌, length, refl, sym, ◌∙◌, ap}
use Rattle.std.specs.Prelude.{slice_get}
use Rattle.amqp_txn_types.specs.declared.id.TransactionId.{TransactionId}
use Rattle.amqp_resource_record.specs.declared.entry.Entry.{Entry}
use Rattle.amqp_resource_record.specs.declared.step.Step.{Step}
use Rattle.amqp_resource_record.specs.declared.step.Step.TheVariants as steps
use Rattle.amqp_resource_record.specs.declared.reply.Reply.{Reply}
use Rattle.amqp_resource_record.specs.declared.reply.Reply.TheVariants as replies
use Rattle.amqp_resource_record.specs.Entries.{declares, reply_declares, step_link}
use Rattle.amqp_resource_record.specs.Links.{is_open}
use Rattle.amqp_resource_record.specs.Live.{home, is_live, is_open_at, since, undischarged, undischarged_from}
use Rattle.amqp_resource_record.specs.Homes.{DeclaredAt, DeclaredAtHome, HasOpenHome}
use Rattle.amqp_resource_record.specs.Answers.{Answer}
use Rattle.amqp_resource_record.specs.Legal.{IsLegal}
use Rattle.amqp_resource_record.proofs.Ids.{same_id-eq}
use Rattle.amqp_resource_record.proofs.Places.{slice_get-append, slice_get-at}
use Rattle.amqp_resource_record.proofs.Looking.{since-below, since-declared, since-other, home-declared, home-other}
use Rattle.amqp_resource_record.proofs.Living.{live_open, live_undischarged}
use Rattle.amqp_resource_record.proofs.Whole.{declared_control, legal_induction}

open_home : (r : List Entry) (o : Option ℕ) → is_open_at r o ≡ true → (k : ℕ) × (o ≡ Some k) × (is_open r k ≡ true)
open_home r None h = cc h
open_home r (Some k) h = (k, refl, h)

-- a live id has an open home
pub live_home : (r : List Entry) (t : TransactionId) → is_live r t ≡ true → HasOpenHome r t
live_home r t l = open_home r (home r t) (live_open r t l)

-- a reply that declares an id is that to a control message
declares_on : (r : List Entry) (s : Step) (d : List TransactionId) (reply : Reply) (t : TransactionId) → Answer r s d reply → reply_declares t reply ≡ true → (k : ℕ) × (payload : List ℕ) × (s ≡ steps.Control k payload) × (reply ≡ replies.Declared t)
declares_on r s d (replies.Declared u) t a h =
    let at = declared_control r s d u a in (at.0, at.1, at.2, ap (λ x. replies.Declared x) (sym (same_id-eq t u h)))
declares_on r s d _ t a h = cc h

on_link : (s : Step) (k : ℕ) (payload : List ℕ) → s ≡ steps.Control k payload → step_link s ≡ Some k
on_link s k payload h = ap step_link h

-- each id that was declared was declared on its home
abbrev pub AllDeclaredAt : List Entry → Type 0
AllDeclaredAt r = (t : TransactionId) (n : ℕ) → since r t ≡ Some n → DeclaredAt r t n

none_declared : AllDeclaredAt []
unfolding since
none_declared t n h = cc h

more_declared : (r : List Entry) (e : Entry) → AllDeclaredAt r → Answer r e.step e.drawn.ids e.reply → AllDeclaredAt (r ++ e ∷ [])
more_declared r e p a t n h = by_case (declares t e) refl
  where
    by_case : (b : Bool) → declares t e ≡ b → DeclaredAt (r ++ e ∷ []) t n
    by_case true d =
        let on = declares_on r e.step e.drawn.ids e.reply t a d in
        let place : length r ≡ n = let same : Some (length r) ≡ Some n = sym (since-declared r e t d) ∙ h in cc same in
        let link : home (r ++ e ∷ []) t ≡ Some on.0 = home-declared r e t d ∙ on_link e.step on.0 on.1 on.2 in
        let at : slice_get (r ++ e ∷ []) n ≡ Some e = ap (slice_get (r ++ e ∷ [])) (sym place) ∙ slice_get-at r [] e in
        (on.0, e, link, at, (on.1, on.2, on.3))
    by_case false d =
        let before : since r t ≡ Some n = sym (since-other r e t d) ∙ h in
        let old = p t n before in
        (old.0, old.1, home-other r e t d ∙ old.2, slice_get-append r (e ∷ []) n (since-below r t n before) ∙ old.3, old.4)

some_since : (r : List Entry) (t : TransactionId) (o : Option ℕ) → undischarged_from r t o ≡ true → (n : ℕ) × (o ≡ Some n)
some_since r t None h = cc h
some_since r t (Some n) h = (n, refl)

live_since : (r : List Entry) (t : TransactionId) → undischarged r t ≡ true → (n : ℕ) × (since r t ≡ Some n)
unfolding undischarged
live_since r t h = some_since r t (since r t) h

-- the entry that declared a live id last is a control message on its home
pub declared_home : (r : List Entry) (t : TransactionId) → IsLegal r → is_live r t ≡ true → DeclaredAtHome r t
declared_home r t l h =
    let at = live_since r t (live_undischarged r t h) in
    (at.0, at.1, legal_induction AllDeclaredAt none_declared more_declared r l t at.0 at.1)
