-- What is kept after one change.
use Rattle.std.proofs.Common.{◌≡◌, ℕ, Bool, true, false, cond, ◌&&◌, ◌||◌, Option, Some, None, List, [], refl, sym, ◌∙◌, ap}
use Rattle.std.specs.Prelude.{◌==◌, nat_eq, is_some}
use Rattle.std.specs.List.{list_any}
use Rattle.std.specs.Option.{option_map}
use Rattle.std.specs.Map.{lookup}
use Rattle.std.specs.HashSet.{HashSet, keys}
use Rattle.std.proofs.lemmas.Bool.{eqb-true, and_right}
use Rattle.amqp_resource_held.specs.declared.held.Held.{Held}
use Rattle.amqp_resource_log.specs.Live.{Live, home_of, kept, Kept}
use Rattle.amqp_txn_types.specs.declared.id.TransactionId.{TransactionId}
use Rattle.amqp_resource_record.specs.Live.{is_link}
use Rattle.amqp_txn_types.specs.Ids.{same_id}
use Rattle.amqp_resource_record.proofs.Ids.{same_id-eq, same_id-sym}
use Rattle.amqp_resource_held.specs.Held.{OpenLinks, SameHeld, Tied, ids_on, is_among, is_kept_on, kept_without, unless_on}

-- ---- one kept-up changed

mapped : {A B : Type 0} (f : A → B) (b : Bool) (x y : Option A) → option_map f (cond b x y) ≡ cond b (option_map f x) (option_map f y)
mapped f true x y = refl
mapped f false x y = refl

pub ids_updated : {S : Type 0} (old new : OpenLinks S) (link : ℕ) (w : Option (HashSet TransactionId S)) → ((k : ℕ) → lookup (nat_eq k) new ≡ cond (nat_eq link k) w (lookup (nat_eq k) old)) → (k : ℕ) → ids_on new k ≡ cond (link == k) (option_map keys w) (ids_on old k)
ids_updated old new link w u k = ap (option_map keys) (u k) ∙ mapped keys (nat_eq link k) w (lookup (nat_eq k) old)

-- one kept-up, at two names of one id
pub kept_same : (live : Live) (t u : TransactionId) → same_id t u ≡ true → kept live t ≡ kept live u
kept_same live t u s = ap (kept live) (same_id-eq t u s)

-- ---- an id let go

-- one more let go after some
pub gone_more : {X : Type 0} (a s : Bool) (o : Option X) → cond s None (cond a None o) ≡ cond (a || s) None o
gone_more true true o = refl
gone_more true false o = refl
gone_more false true o = refl
gone_more false false o = refl

none_twice : (b : Bool) → cond (b && true) false b ≡ false
none_twice true = refl
none_twice false = refl

one_more : (b : Bool) → cond (b && true) true false ≡ b
one_more true = refl
one_more false = refl

apart : (b c x : Bool) → c ≡ false → (y : Bool) → cond (b && c) x y ≡ y
apart b c x e y = ap (λ d. cond (b && d) x y) e ∙ ap (λ d. cond d x y) (and_right b false refl)

-- the link of a home, if there is one
abbrev pub home_on : ℕ → Option (Option ℕ) → Bool
home_on k None = false
home_on k (Some home) = is_link k home

on_home : (k : ℕ) (o : Option Kept) → is_kept_on k o ≡ home_on k (option_map home_of o)
on_home k None = refl
on_home k (Some one) = refl

pub live_home : (o : Option Kept) → is_some o ≡ is_some (option_map home_of o)
live_home None = refl
live_home (Some one) = refl

pub tied_taken : (h g : Held) (id : TransactionId) (home : Option ℕ) → option_map home_of (kept h.work id) ≡ Some home → ((t : TransactionId) → kept g.work t ≡ kept_without id h.work t) → ((k : ℕ) → (t : TransactionId) → is_among t (ids_on g.links.entries k) ≡ cond (is_link k home && same_id id t) false (is_among t (ids_on h.links.entries k))) → Tied h → Tied g
tied_taken h g id home at lg kg tied k t = kg k t ∙ ap (cond (is_link k home && same_id id t) false) (tied k t) ∙ by_case (same_id t id) refl ∙ sym (ap (is_kept_on k) (lg t))
  where
    by_case : (b : Bool) → same_id t id ≡ b → cond (is_link k home && same_id id t) false (is_kept_on k (kept h.work t)) ≡ is_kept_on k (kept_without id h.work t)
    by_case true s =
        ap (λ b. cond (is_link k home && b) false (is_kept_on k (kept h.work t))) (same_id-sym id t ∙ s)
        ∙ ap (λ b. cond (is_link k home && true) false b) (ap (is_kept_on k) (kept_same h.work t id s) ∙ on_home k (kept h.work id) ∙ ap (home_on k) at)
        ∙ none_twice (is_link k home) ∙ sym (ap (λ b. is_kept_on k (cond b None (kept h.work t))) s)
    by_case false s =
        apart (is_link k home) (same_id id t) false (same_id-sym id t ∙ s) (is_kept_on k (kept h.work t))
        ∙ sym (ap (λ b. is_kept_on k (cond b None (kept h.work t))) s)

-- ---- an id declared

pub tied_declared : (h g : Held) (id : TransactionId) (link : ℕ) (new : Kept) → new.0 ≡ Some link → kept h.work id ≡ None → ((t : TransactionId) → kept g.work t ≡ cond (same_id t id) (Some new) (kept h.work t)) → ((k : ℕ) → (t : TransactionId) → is_among t (ids_on g.links.entries k) ≡ cond (link == k && same_id id t) true (is_among t (ids_on h.links.entries k))) → Tied h → Tied g
tied_declared h g id link new on unused lg kg tied k t = kg k t ∙ ap (cond (link == k && same_id id t) true) (tied k t) ∙ by_case (same_id t id) refl ∙ sym (ap (is_kept_on k) (lg t))
  where
    by_case : (b : Bool) → same_id t id ≡ b → cond (link == k && same_id id t) true (is_kept_on k (kept h.work t)) ≡ is_kept_on k (cond (same_id t id) (Some new) (kept h.work t))
    by_case true s =
        ap (λ b. cond (link == k && b) true (is_kept_on k (kept h.work t))) (same_id-sym id t ∙ s)
        ∙ ap (λ o. cond (link == k && true) true (is_kept_on k o)) (kept_same h.work t id s ∙ unused)
        ∙ one_more (link == k) ∙ sym (ap (λ b. is_kept_on k (cond b (Some new) (kept h.work t))) s ∙ ap (is_link k) on)
    by_case false s =
        apart (link == k) (same_id id t) true (same_id-sym id t ∙ s) (is_kept_on k (kept h.work t))
        ∙ sym (ap (λ b. is_kept_on k (cond b (Some new) (kept h.work t))) s)

-- ---- a link ended

unless_kept : (k : ℕ) (o : Option Kept) → cond (is_kept_on k o) None o ≡ unless_on k o
unless_kept k None = refl
unless_kept k (Some kept) = refl

-- what the ids of a link leave that are let go
pub kept_ended : (h : Held) (g : Live) (link : ℕ) → Tied h → ((t : TransactionId) → kept g t ≡ cond (is_among t (ids_on h.links.entries link)) None (kept h.work t)) → (t : TransactionId) → kept g t ≡ unless_on link (kept h.work t)
kept_ended h g link tied lg t = lg t ∙ ap (λ b. cond b None (kept h.work t)) (tied link t) ∙ unless_kept link (kept h.work t)

-- what the ids that a link had leave
pub kept_dropped : {S : Type 0} (old new : Live) (links : OpenLinks S) (link : ℕ) (found : HashSet TransactionId S) (ids : List TransactionId) → Some found ≡ lookup (nat_eq link) links → ids ≡ found.keys → ((t : TransactionId) → kept new t ≡ cond (list_any (same_id t) ids) None (kept old t)) → (t : TransactionId) → kept new t ≡ cond (is_among t (ids_on links link)) None (kept old t)
kept_dropped old new links link found ids at same dropped t =
    dropped t ∙ ap (λ (xs : List TransactionId). cond (list_any (same_id t) xs) None (kept old t)) same
    ∙ ap (λ o. cond (is_among t (option_map keys o)) None (kept old t)) at

gone_on : (k : ℕ) (o : Option Kept) → is_kept_on k (unless_on k o) ≡ false
gone_on k None = refl
gone_on k (Some kept) = by_case (is_link k kept.0) refl
  where
    by_case : (b : Bool) → is_link k kept.0 ≡ b → is_kept_on k (cond (is_link k kept.0) None (Some kept)) ≡ false
    by_case true e = ap (λ b. is_kept_on k (cond b None (Some kept))) e
    by_case false e = ap (λ b. is_kept_on k (cond b None (Some kept))) e ∙ e

on_other : (k link : ℕ) (o : Option ℕ) → (link == k) ≡ false → is_link link o ≡ true → is_link k o ≡ false
on_other k link None n e = refl
on_other k link (Some j) n e = ap (λ i. i == k) (eqb-true j link e) ∙ n

kept_on_other : (k link : ℕ) (o : Option Kept) → (link == k) ≡ false → is_kept_on k (unless_on link o) ≡ is_kept_on k o
kept_on_other k link None n = refl
kept_on_other k link (Some kept) n = by_case (is_link link kept.0) refl
  where
    by_case : (b : Bool) → is_link link kept.0 ≡ b → is_kept_on k (cond (is_link link kept.0) None (Some kept)) ≡ is_link k kept.0
    by_case true e = ap (λ b. is_kept_on k (cond b None (Some kept))) e ∙ sym (on_other k link kept.0 n e)
    by_case false e = ap (λ b. is_kept_on k (cond b None (Some kept))) e

pub tied_ended : (h g : Held) (link : ℕ) → ((t : TransactionId) → kept g.work t ≡ unless_on link (kept h.work t)) → ((k : ℕ) → ids_on g.links.entries k ≡ cond (link == k) None (ids_on h.links.entries k)) → Tied h → Tied g
tied_ended h g link lg kg tied k t = ap (is_among t) (kg k) ∙ by_case (link == k) refl ∙ sym (ap (is_kept_on k) (lg t))
  where
    by_case : (b : Bool) → (link == k) ≡ b → is_among t (cond (link == k) None (ids_on h.links.entries k)) ≡ is_kept_on k (unless_on link (kept h.work t))
    by_case true e =
        ap (λ b. is_among t (cond b None (ids_on h.links.entries k))) e
        ∙ sym (ap (λ j. is_kept_on k (unless_on j (kept h.work t))) (eqb-true link k e) ∙ gone_on k (kept h.work t))
    by_case false e =
        ap (λ b. is_among t (cond b None (ids_on h.links.entries k))) e ∙ tied k t
        ∙ sym (kept_on_other k link (kept h.work t) e)

pub in_updated : {X : Type 0} (b : Bool) (x o : Option X) → is_some (cond b x o) ≡ cond b (is_some x) (is_some o)
in_updated true x o = refl
in_updated false x o = refl

-- ---- what is tied

-- what is kept may stand in other memory
pub tied_same : (h g : Held) → SameHeld h g → Tied h → Tied g
tied_same h g same tied k t = ap (is_among t) (same.links k) ∙ tied k t ∙ sym (ap (is_kept_on k) (same.live t))

-- a link is opened, on which nothing was declared
pub tied_opened : (h g : Held) → Tied h → ((t : TransactionId) → is_kept_on h.opened (kept h.work t) ≡ false) → ((t : TransactionId) → kept g.work t ≡ kept h.work t) → ((k : ℕ) → ids_on g.links.entries k ≡ cond (h.opened == k) (Some []) (ids_on h.links.entries k)) → Tied g
tied_opened h g tied none lg kg k t = ap (is_among t) (kg k) ∙ by_case (h.opened == k) refl ∙ sym (ap (is_kept_on k) (lg t))
  where
    by_case : (b : Bool) → (h.opened == k) ≡ b → is_among t (cond (h.opened == k) (Some []) (ids_on h.links.entries k)) ≡ is_kept_on k (kept h.work t)
    by_case true x =
        ap (λ b. is_among t (cond b (Some []) (ids_on h.links.entries k))) x
        ∙ sym (ap (λ j. is_kept_on j (kept h.work t)) (sym (eqb-true h.opened k x)) ∙ none t)
    by_case false x = ap (λ b. is_among t (cond b (Some []) (ids_on h.links.entries k))) x ∙ tied k t

-- an id is allocated, on no link
pub tied_added : (h g : Held) (id : TransactionId) → kept h.work id ≡ None → ((t : TransactionId) → kept g.work t ≡ cond (same_id t id) (Some (None, [])) (kept h.work t)) → ((k : ℕ) → ids_on g.links.entries k ≡ ids_on h.links.entries k) → Tied h → Tied g
tied_added h g id unused lg kg tied k t = ap (is_among t) (kg k) ∙ tied k t ∙ by_case (same_id t id) refl ∙ sym (ap (is_kept_on k) (lg t))
  where
    by_case : (b : Bool) → same_id t id ≡ b → is_kept_on k (kept h.work t) ≡ is_kept_on k (cond (same_id t id) (Some (None, [])) (kept h.work t))
    by_case true s =
        ap (is_kept_on k) (kept_same h.work t id s ∙ unused)
        ∙ sym (ap (λ b. is_kept_on k (cond b (Some (None, [])) (kept h.work t))) s)
    by_case false s = sym (ap (λ b. is_kept_on k (cond b (Some (None, [])) (kept h.work t))) s)
