-- The live transactions of a record, and the places of the frames of each. The place of an entry is
-- its number, counted from 0.
use Rattle.std.specs.Prelude.{ℕ, suc, ◌==◌, ◌+◌, Bool, false, cond, not, ◌&&◌, Option, Some, None, List, [], ◌∷◌, drop, slice_get}
use Rattle.std.specs.List.{list_any}
use Rattle.amqp_txn_types.specs.declared.id.TransactionId.{TransactionId}
use Rattle.amqp_resource_record.specs.declared.entry.Entry.{Entry}
use Rattle.amqp_resource_record.specs.Entries.{declares, discharges, is_under, step_link}
use Rattle.amqp_resource_record.specs.Links.{is_open}

-- the last place of a list with one entry more at its front, which passes or doesn't
abbrev pub next_place : Bool → Option ℕ → Option ℕ
next_place here (Some place) = Some (suc place)
next_place here None = cond here (Some 0) None

-- the place of the last entry that passes
abbrev pub last_place : (Entry → Bool) → List Entry → Option ℕ
last_place passes [] = None
last_place passes (entry ∷ entries) = next_place (passes entry) (last_place passes entries)

-- the places of the entries that pass, rising, counted from this place
abbrev pub places_from : ℕ → (Entry → Bool) → List Entry → List ℕ
places_from place passes [] = []
places_from place passes (entry ∷ entries) =
    cond (passes entry) (place ∷ places_from (place + 1) passes entries)
    (places_from (place + 1) passes entries)

-- since: the place of the last entry that declared the id (4.2, Declaring a Transaction)
unfoldable pub since : List Entry → TransactionId → Option ℕ
since entries id = last_place (declares id) entries

-- the link that the entry names, where there is an entry and it names one
abbrev pub link_of_entry : Option Entry → Option ℕ
link_of_entry None = None
link_of_entry (Some entry) = step_link entry.step

-- the link of the entry at a place
abbrev pub home_from : List Entry → Option ℕ → Option ℕ
home_from entries None = None
home_from entries (Some place) = link_of_entry (slice_get entries place)

-- home: the link on which the id was last declared, where it was (4.2, Declaring a Transaction)
unfoldable pub home : List Entry → TransactionId → Option ℕ
home entries id = home_from entries (since entries id)

-- there is a link, and it is open
abbrev pub is_open_at : List Entry → Option ℕ → Bool
is_open_at entries None = false
is_open_at entries (Some link) = is_open entries link

-- there is a link, and it is this one
abbrev pub is_link : ℕ → Option ℕ → Bool
is_link link None = false
is_link link (Some home) = home == link

-- no entry after the place discharges the id
abbrev pub undischarged_from : List Entry → TransactionId → Option ℕ → Bool
undischarged_from entries id None = false
undischarged_from entries id (Some place) =
    not (list_any (discharges id) (drop (suc place) entries))

-- declared, and not discharged since (4.3, Discharging a Transaction)
unfoldable pub undischarged : List Entry → TransactionId → Bool
undischarged entries id = undischarged_from entries id (since entries id)

-- live id: declared, not discharged since, and its home is open; the end of a control link rolls
-- back what it declared (4.1, Transactional Messaging)
unfoldable pub is_live : List Entry → TransactionId → Bool
is_live entries id = undischarged entries id && is_open_at entries (home entries id)

-- the id is live and the link is its home, so a discharge on this link is for it (4.3)
abbrev pub is_held_on : List Entry → ℕ → TransactionId → Bool
is_held_on entries link id = is_live entries id && is_link link (home entries id)

-- the places after this one whose step is a frame under the id
abbrev pub frame_places_from : List Entry → TransactionId → Option ℕ → List ℕ
frame_places_from entries id None = []
frame_places_from entries id (Some place) =
    places_from (suc place) (is_under id) (drop (suc place) entries)

-- the places of the frames under the id since its last declare, rising (4.4, Transactional Work)
unfoldable pub frame_places : List Entry → TransactionId → List ℕ
frame_places entries id = frame_places_from entries id (since entries id)

-- the entries after the place
abbrev pub entries_from : List Entry → Option ℕ → List Entry
entries_from entries None = []
entries_from entries (Some place) = drop (suc place) entries

-- the entries after the last declare of the id
unfoldable pub entries_since : List Entry → TransactionId → List Entry
entries_since entries id = entries_from entries (since entries id)
