use Rattle.std.specs.Prelude.{ℕ, zero, suc, ◌-◌, Bool, true, false, nat_eq, nat_lt, nat_le, if◌then◌else◌, List, [], ◌∷◌, ◌++◌, length, take, drop, Option, Some, None, option_map, option_and_then, unwrap_or}
use Rattle.std.specs.Option.{option_or}
use Rattle.std.specs.List.{starts_with, list_all}
use Rattle.std.specs.Cmp.Lexicographic.{pointwise}
use Rattle.std.specs.Int.{to_be_bytes, from_be_bytes, w32, w64}
use Rattle.amqp_txn_codec.specs.declared.message.ControlMessageBody.{ControlMessageBody}
use Rattle.amqp_txn_codec.specs.declared.message.ControlMessageBody.TheVariants as messages
use Rattle.amqp_txn_codec.specs.Values.{octets_after}
use Rattle.amqp_txn_codec.specs.Sections.{Kind, leading, body, footer}
use Rattle.amqp_txn_codec.specs.Messages.{declare_list, discharge_list}

-- what was found is read on, and where nothing was found there is nothing
abbrev pub and_then : {X Y : Type 0} → Option X → (X → Option Y) → Option Y
and_then found more = option_and_then more found

-- the octets are this text
unfoldable pub same_octets : List ℕ → List ℕ → Bool
same_octets octets text = pointwise nat_eq octets text

-- what follows this text, where the octets begin with it
unfoldable pub behind_text : List ℕ → List ℕ → Option (List ℕ)
behind_text text octets =
    if starts_with nat_eq octets text then Some (drop (length text) octets) else None

-- the next so many octets, and what follows them
unfoldable pub cut : ℕ → List ℕ → Option (List ℕ × List ℕ)
cut count octets =
    if nat_le count (length octets) then Some (take count octets, drop count octets) else None

-- a number in one octet, and what follows it
unfoldable pub octet_at : List ℕ → Option (ℕ × List ℕ)
octet_at [] = None
octet_at (number ∷ octets) = if nat_lt number 256 then Some (number, octets) else None

-- a number in four octets, big-endian, and what follows it
unfoldable pub number_at : List ℕ → Option (ℕ × List ℕ)
number_at (first ∷ second ∷ third ∷ fourth ∷ octets) =
    if list_all (λ octet. nat_lt octet 256) (first ∷ second ∷ third ∷ fourth ∷ [])
    then Some (from_be_bytes w32 (first ∷ second ∷ third ∷ fourth ∷ []), octets)
    else None
number_at octets = None

-- what follows one value, within so many steps (part 1 of the standard, section 1.2)
unfoldable pub behind_value : ℕ → List ℕ → Option (List ℕ)
behind_value zero octets = None
behind_value (suc steps) [] = None
behind_value (suc steps) (zero ∷ octets) = and_then (behind_value steps octets) (behind_value steps)
behind_value (suc steps) (suc code ∷ octets) =
    and_then (octets_after (suc code) octets) (λ count.
    option_map (λ parts. parts.1) (cut count octets))

-- what follows a descriptor of this kind, in any of its four spellings
unfoldable pub behind_descriptor : Kind → List ℕ → Option (List ℕ)
behind_descriptor kind octets =
    option_or (behind_text (0x53 ∷ kind.0 ∷ []) octets)
    (option_or (behind_text (0x80 ∷ to_be_bytes w64 kind.0) octets)
    (option_or (behind_text (0xa3 ∷ length kind.1 ∷ kind.1) octets)
    (behind_text (0xb3 ∷ to_be_bytes w32 (length kind.1) ++ kind.1) octets)))

-- what follows a section of this kind: 0, a descriptor and a value
unfoldable pub behind_section : Kind → List ℕ → Option (List ℕ)
behind_section kind octets =
    and_then (behind_text (0 ∷ []) octets) (λ inner.
    and_then (behind_descriptor kind inner) (λ value.
    behind_value (length value) value))

-- what follows the sections of these kinds, each skipped where there is one
unfoldable pub behind_skipped : List Kind → List ℕ → List ℕ
behind_skipped [] octets = octets
behind_skipped (kind ∷ kinds) octets =
    behind_skipped kinds (unwrap_or (behind_section kind octets) octets)

-- a list whose size and count are such numbers, each of so many octets: the count, the fields, and
-- what follows the list
unfoldable pub sized_list : (List ℕ → Option (ℕ × List ℕ)) → ℕ → List ℕ
    → Option (ℕ × List ℕ × List ℕ)
sized_list number width octets =
    and_then (number octets) (λ size.
    and_then (number size.1) (λ count.
    if nat_le width size.0
    then option_map (λ parts. (count.0, parts.0, parts.1)) (cut (size.0 - width) count.1)
    else None))

-- a list in any of its three forms
unfoldable pub list_at : List ℕ → Option (ℕ × List ℕ × List ℕ)
list_at octets =
    option_or (option_map (λ others. (0, [], others)) (behind_text (0x45 ∷ []) octets))
    (option_or (and_then (behind_text (0xc0 ∷ []) octets) (sized_list octet_at 1))
    (and_then (behind_text (0xd0 ∷ []) octets) (sized_list number_at 4)))

-- an id behind its length, which is such a number and at most 32, and what follows it
unfoldable pub sized_id : (List ℕ → Option (ℕ × List ℕ)) → List ℕ → Option (List ℕ × List ℕ)
sized_id number octets =
    and_then (number octets) (λ size. if nat_le size.0 32 then cut size.0 size.1 else None)

-- an id as a binary in either of its two forms, and what follows it
unfoldable pub id_at : List ℕ → Option (List ℕ × List ℕ)
id_at octets =
    option_or (and_then (behind_text (0xa0 ∷ []) octets) (sized_id octet_at))
    (and_then (behind_text (0xb0 ∷ []) octets) (sized_id number_at))

-- an id with nothing behind it
unfoldable pub id_alone : List ℕ → Option (List ℕ)
id_alone octets =
    and_then (id_at octets) (λ found. if same_octets found.1 [] then Some found.0 else None)

-- whether a discharge fails the transaction
unfoldable pub fail_of : List ℕ → Option (Option Bool)
fail_of octets =
    if same_octets octets (0x40 ∷ []) then Some None else
    if same_octets octets (0x41 ∷ []) then Some (Some true) else
    if same_octets octets (0x56 ∷ 1 ∷ []) then Some (Some true) else
    if same_octets octets (0x42 ∷ []) then Some (Some false) else
    if same_octets octets (0x56 ∷ 0 ∷ []) then Some (Some false) else None

-- the global id of a declare, whose list has none or one field (part 4 of the standard, section
-- 4.5.2)
unfoldable pub declare_of : ℕ → List ℕ → Option (Option (List ℕ))
declare_of zero fields = if same_octets fields [] then Some None else None
declare_of (suc zero) fields =
    if same_octets fields (0x40 ∷ []) then Some None else option_map Some (id_alone fields)
declare_of (suc (suc count)) fields = None

-- the id and the fail of a discharge, whose list has one or two fields (part 4 of the standard,
-- section 4.5.3)
unfoldable pub discharge_of : ℕ → List ℕ → Option (List ℕ × Option Bool)
discharge_of zero fields = None
discharge_of (suc zero) fields = option_map (λ id. (id, None)) (id_alone fields)
discharge_of (suc (suc zero)) fields =
    and_then (id_at fields) (λ found.
    option_map (λ fail. (found.0, fail)) (fail_of found.1))
discharge_of (suc (suc (suc count))) fields = None

-- the declare in a list that a declare's descriptor leads, and what follows the list
unfoldable pub declare_at : List ℕ → Option (ControlMessageBody × List ℕ)
declare_at octets =
    and_then (behind_descriptor declare_list octets) (λ described.
    and_then (list_at described) (λ found.
    option_map (λ id. (messages.Declare (record { global_id = id }), found.2))
    (declare_of found.0 found.1)))

-- the discharge in a list that a discharge's descriptor leads, and what follows the list
unfoldable pub discharge_at : List ℕ → Option (ControlMessageBody × List ℕ)
discharge_at octets =
    and_then (behind_descriptor discharge_list octets) (λ described.
    and_then (list_at described) (λ found.
    option_map
    (λ fields. (messages.Discharge (record { txn_id = fields.0; fail = fields.1 }), found.2))
    (discharge_of found.0 found.1)))

-- the message in the amqp-value section, and what follows the section
unfoldable pub body_at : List ℕ → Option (ControlMessageBody × List ℕ)
body_at octets =
    and_then (behind_text (0 ∷ []) octets) (λ inner.
    and_then (behind_descriptor body inner) (λ value.
    and_then (behind_text (0 ∷ []) value) (λ described.
    option_or (declare_at described) (discharge_at described))))

-- the message that the octets spell: some sections are skipped, then comes the body, and a footer
-- at most (part 3 of the standard, section 3.2)
unfoldable pub message_of : List ℕ → Option ControlMessageBody
message_of octets =
    and_then (body_at (behind_skipped leading octets)) (λ found.
    if same_octets (behind_skipped (footer ∷ []) found.1) [] then Some found.0 else None)
