-- What a session keeps, and the record that it stands for.
use Rattle.std.specs.Prelude.{ℕ, nat_eq, ◌≡◌, ◌<◌, Bool, false, cond, Option, Some, None, List, is_some, IfSome}
use Rattle.std.specs.List.{list_any}
use Rattle.std.specs.Map.{lookup}
use Rattle.std.specs.Option.{option_map}
use Rattle.std.specs.HashSet.{HashSet, keys, spare as spare_ids}
use Rattle.amqp_resource_record.specs.declared.entry.Entry.{Entry}
use Rattle.amqp_resource_held.specs.declared.held.Held.{Held}
use Rattle.amqp_resource_record.specs.Legal.{IsLegal}
use Rattle.amqp_resource_log.specs.Live.{Live, kept, HasPlace, Kept}
use Rattle.amqp_txn_types.specs.declared.id.TransactionId.{TransactionId}
use Rattle.amqp_resource_record.specs.Links.{attached_count, is_open}
use Rattle.amqp_resource_record.specs.Live.{home, is_link, is_live}
use Rattle.amqp_txn_types.specs.Ids.{same_id}
use Rattle.amqp_resource_record.specs.Hands.{frames_of}

-- the open links, each with the live ids that were declared on it
abbrev pub OpenLinks : Type 0 → Type 0
OpenLinks S = List (ℕ × HashSet TransactionId S)

-- what is kept, without that of one id
abbrev pub kept_without : TransactionId → Live → TransactionId → Option Kept
kept_without ended live id = cond (same_id id ended) None (kept live id)

-- something is kept, and this link declared it
abbrev pub is_kept_on : ℕ → Option Kept → Bool
is_kept_on link None = false
is_kept_on link (Some kept) = is_link link kept.0

-- what is kept, unless it was declared on the link
abbrev pub unless_on : ℕ → Option Kept → Option Kept
unless_on link None = None
unless_on link (Some kept) = cond (is_link link kept.0) None (Some kept)

-- the ids of an open link
abbrev pub ids_on : {S : Type 0} → OpenLinks S → ℕ → Option (List TransactionId)
ids_on links link = option_map keys (lookup (nat_eq link) links)

-- the link is open
abbrev pub is_in : {S : Type 0} → OpenLinks S → ℕ → Bool
is_in links link = is_some (ids_on links link)

-- the id is among those of a link
abbrev pub is_among : TransactionId → Option (List TransactionId) → Bool
is_among id None = false
is_among id (Some ids) = list_any (same_id id) ids

-- the ids of each link are the live ids that were declared on it
abbrev pub Tied : Held → Type 0
Tied held =
    (k : ℕ) (t : TransactionId) → is_among t (ids_on held.links.entries k) ≡ is_kept_on k
    (kept held.work t)

-- there is room for one more live id, and for one more id of the link
pub record HasRoom (held : Held) (link : ℕ) : Type 0 where
  pub live : HasPlace held.work
  pub ids : IfSome (lookup (nat_eq link) held.links.entries) (λ ids. 0 < spare_ids ids)

-- what is kept is as it was
pub record SameHeld (old new : Held) : Type 0 where
  pub live : (t : TransactionId) → kept new.work t ≡ kept old.work t
  pub links : (k : ℕ) → ids_on new.links.entries k ≡ ids_on old.links.entries k
  pub opened : new.opened ≡ old.opened

-- what the record says that is kept for an id: the link that declared it and its frames since
abbrev pub kept_by : List Entry → TransactionId → Option Kept
kept_by entries id = cond (is_live entries id) (Some (home entries id, frames_of entries id)) None

-- what is kept stands for the record: the record is legal, each id has what the record says, and so
-- have the links
pub record Stands (held : Held) (entries : List Entry) : Type 0 where
  pub legal : IsLegal entries
  pub tied : Tied held
  pub live : (t : TransactionId) → kept held.work t ≡ kept_by entries t
  pub links : (k : ℕ) → is_in held.links.entries k ≡ is_open entries k
  pub opened : held.opened ≡ attached_count entries
