use Rattle.std.proofs.Common.{◌≡◌, ℕ, zero, suc, ◌+◌, ◌-◌, ◌/◌, ◌<◌, ◌≤◌, ◌^◌, ◌⊎◌, inl, inr, Bool, true, false, List, [], ◌∷◌, ◌++◌, length, take, drop, Option, Some, None, refl, sym, ap, subst, ◌∙◌, append_assoc, arith, length-append, nat_eq, nat_le, nat_lt, option_map, unwrap_or, true≢false, if◌then◌else◌, get_or, IfSome}
use Rattle.std.specs.Option.{option_or}
use Rattle.std.specs.List.{starts_with, list_all}
use Rattle.std.specs.Cmp.Lexicographic.{same_text, nat_list_eq_equiv}
use Rattle.std.specs.Int.{to_be_bytes, from_be_bytes, w32, w64}
use Rattle.std.proofs.lemmas.Bool.Decides.{nat_tests}
use Rattle.std.proofs.lemmas.List.{take-append-drop, length-take-le, append-nil}
use Rattle.std.proofs.lemmas.Nat.{be_bytes_4, from_be_bytes-to_be_bytes_4}
use Rattle.std.proofs.Math.Seq.{take-append_seam, drop-append_seam}
use Rattle.amqp_txn_codec.specs.declared.message.ControlMessageBody.{ControlMessageBody}
use Rattle.amqp_txn_codec.specs.declared.message.ControlMessageBody.TheVariants as messages
use Rattle.amqp_txn_codec.specs.declared.message.Declare.{Declare}
use Rattle.amqp_txn_codec.specs.declared.message.Discharge.{Discharge}
use Rattle.amqp_txn_codec.specs.Values.{octets_after, width_of, IsValue, plain, described}
use Rattle.amqp_txn_codec.specs.Sections.{Kind, IsDescriptor, by_octet, by_number, by_name, by_long_name, leading, body, footer}
use Rattle.amqp_txn_codec.specs.Fields.{IsId, short, long, IsGlobalId, null, some_id, IsFail, unsaid, yes, long_yes, no, long_no, IsList, empty, short_list, long_list, IsDeclare, no_field, global_id, IsDischarge, only_id, id_and_fail}
use Rattle.amqp_txn_codec.specs.Messages.{declare_list, discharge_list, SpellsMessage}
use Rattle.amqp_txn_codec.specs.Walks.{Finds, LeavesAfter, AfterDescriptor, AfterSection, TakesOptional, AfterId, AfterList, FoundOctet, FoundNumber, FoundId, FoundCut, FoundList, FoundFields, message_kind, FoundKind, AfterBody, GivesMessage, declare, discharge, WalksTo}
use Rattle.amqp_txn_codec.specs.Reading.{and_then, same_octets, behind_text, cut, octet_at, number_at, behind_value, behind_descriptor, behind_section, behind_skipped, sized_list, list_at, sized_id, id_at, id_alone, fail_of, declare_of, discharge_of, declare_at, discharge_at, body_at, message_of}
use Rattle.amqp_txn_codec.specs.Canon.{canon, HoldsShortIds}
use Rattle.amqp_txn_codec.proofs.Messages.{canon-spells}
use Rattle.amqp_txn_codec.proofs.Values.{octets_by-more, zero_is_not_plain, described-out, plain-out}
use Rattle.amqp_txn_codec.proofs.Sections.{apart, octet-found, number-found, name-found}
use Rattle.amqp_txn_codec.proofs.Leading.{Takes, takes-skips, leading-only}
use Rattle.amqp_txn_codec.proofs.Spellings.{list-empty, short-listed, long-listed, short-found, long-found, id-alone, discharge-fails}
use Rattle.amqp_txn_codec.proofs.Bodies.{kind-one, body-begins, end-is, end-only}
use Rattle.amqp_txn_codec.proofs.Wholes.{WalkedList, WalkedBody, walk-spells, spelled-walks}

-- what the steps of a reader found, taken apart
and-in : {X Y : Type 0} (o : Option X) (f : X → Option Y) (y : Y) → and_then o f ≡ Some y → (x : X) × (o ≡ Some x) × (f x ≡ Some y)
and-in None f y h = cc
and-in (Some x) f y h = (x, refl, h)

or-in : {X : Type 0} (o p : Option X) (x : X) → option_or o p ≡ Some x → (o ≡ Some x) ⊎ (p ≡ Some x)
or-in None p x h = inr h
or-in (Some y) p x h = inl h

map-in : {X Y : Type 0} (o : Option X) (f : X → Y) (y : Y) → option_map f o ≡ Some y → (x : X) × (o ≡ Some x) × (f x ≡ y)
map-in None f y h = cc
map-in (Some x) f y h = (x, refl, cc)

if-in : {X : Type 0} (b : Bool) (o p : Option X) (x : X) → (if b then o else p) ≡ Some x → ((b ≡ true) × (o ≡ Some x)) ⊎ ((b ≡ false) × (p ≡ Some x))
if-in true o p x h = inl (refl, h)
if-in false o p x h = inr (refl, h)

only-in : {X : Type 0} (b : Bool) (o : Option X) (x : X) → (if b then o else None) ≡ Some x → (b ≡ true) × (o ≡ Some x)
only-in true o x h = (refl, h)
only-in false o x h = cc

some-in : {X : Type 0} (x y : X) → Some x ≡ Some y → x ≡ y
some-in x y h = cc

-- and put together
and-out : {X Y : Type 0} (o : Option X) (f : X → Option Y) (x : X) (y : Y) → o ≡ Some x → f x ≡ Some y → and_then o f ≡ Some y
and-out o f x y e h = rw e h

or-first : {X : Type 0} (o p : Option X) (x : X) → o ≡ Some x → option_or o p ≡ Some x
or-first o p x e = rw e refl

or-second : {X : Type 0} (o p : Option X) (x : X) → o ≡ None → p ≡ Some x → option_or o p ≡ Some x
or-second o p x e h = rw e h

map-out : {X Y : Type 0} (o : Option X) (f : X → Y) (x : X) → o ≡ Some x → option_map f o ≡ Some (f x)
map-out o f x e = rw e refl

if-out : {X : Type 0} (b : Bool) (o p : Option X) (x : X) → b ≡ true → o ≡ Some x → (if b then o else p) ≡ Some x
if-out b o p x e h = rw e h

none-by : {X : Type 0} (o : Option X) → ((x : X) → o ≡ Some x → ⊥) → o ≡ None
none-by None h = refl
none-by (Some x) h = absurd (h x refl)

finds-by : {X : Type 0} (P : X → Type 0) (o : Option X) → ((x : X) → o ≡ Some x → P x) → ((x : X) → P x → o ≡ Some x) → Finds P o
finds-by P None to back = λ x p. cc (back x p)
finds-by P (Some x) to back = to x refl

-- tests of texts
is-in : (octets text : List ℕ) → same_octets octets text ≡ true → octets ≡ text
unfolding same_octets
is-in octets text h = same_text octets text (sym h)

is-out : (octets text : List ℕ) → octets ≡ text → same_octets octets text ≡ true
unfolding same_octets
is-out octets text e = rw e (nat_list_eq_equiv.refl text)

-- what follows a text
behind-in : (text octets rest : List ℕ) → behind_text text octets ≡ Some rest → octets ≡ text ++ rest
unfolding behind_text
behind-in text octets rest h =
    let found = only-in _ _ rest h in
    let front : text ≡ take (length text) octets = same_text text (take (length text) octets) (sym found.0) in
    let back : drop (length text) octets ≡ rest = some-in (drop (length text) octets) rest found.1 in
    sym (take-append-drop (length text) octets) ∙ ap (λ (l : List ℕ). l ++ drop (length text) octets) (sym front) ∙ ap (λ (l : List ℕ). text ++ l) back

behind-out : (text octets rest : List ℕ) → octets ≡ text ++ rest → behind_text text octets ≡ Some rest
unfolding behind_text
behind-out text octets rest e =
    let front : take (length text) octets ≡ text = rw e (take-append_seam text rest) in
    let back : drop (length text) octets ≡ rest = rw e (drop-append_seam text rest) in
    if-out (starts_with nat_eq octets text) (Some (drop (length text) octets)) None rest (rw front (nat_list_eq_equiv.refl text)) (ap (λ (l : List ℕ). Some l) back)

behind-none : (text octets : List ℕ) → starts_with nat_eq octets text ≡ false → behind_text text octets ≡ None
unfolding behind_text
behind-none text octets e = rw e refl

-- the next octets
cut-in : (n : ℕ) (octets : List ℕ) (found : List ℕ × List ℕ) → cut n octets ≡ Some found → (n ≤ length octets) × (take n octets ≡ found.0) × (drop n octets ≡ found.1)
unfolding cut
cut-in n octets found h =
    let both = only-in (nat_le n (length octets)) (Some (take n octets, drop n octets)) found h in
    let same : (take n octets, drop n octets) ≡ found = some-in (take n octets, drop n octets) found both.1 in
    let test = both.0 in
    (grind (arith, nat_tests), ap (λ (p : List ℕ × List ℕ). p.0) same, ap (λ (p : List ℕ × List ℕ). p.1) same)

cut-out : (n : ℕ) (front rest : List ℕ) → length front ≡ n → cut n (front ++ rest) ≡ Some (front, rest)
unfolding cut
cut-out n front rest e =
    let fits : n ≤ length (front ++ rest) = omega (arith, length-append front rest) in
    let test : nat_le n (length (front ++ rest)) ≡ true = grind (arith, nat_tests) in
    let a : take n (front ++ rest) ≡ front = rw (← e) (take-append_seam front rest) in
    let b : drop n (front ++ rest) ≡ rest = rw (← e) (drop-append_seam front rest) in
    rw (test, a, b) refl

-- numbers
octet-in : (octets : List ℕ) (found : ℕ × List ℕ) → octet_at octets ≡ Some found → FoundOctet octets found
unfolding octet_at
octet-in [] found h = cc
octet-in (n ∷ octets) found h =
    let both = only-in (nat_lt n 256) (Some (n, octets)) found h in
    let same : (n, octets) ≡ found = some-in (n, octets) found both.1 in
    let test = both.0 in
    let low : n < 256 = grind (arith, nat_tests) in
    subst (FoundOctet (n ∷ octets)) same (refl, low)

octet-out : (n : ℕ) (rest : List ℕ) → n < 2 ^ 8 → octet_at (n ∷ rest) ≡ Some (n, rest)
unfolding octet_at
octet-out n rest low =
    let test : nat_lt n 256 ≡ true = grind (arith, nat_tests) in
    rw test refl

number-in : (octets : List ℕ) (found : ℕ × List ℕ) → number_at octets ≡ Some found → FoundNumber octets found
unfolding number_at
number-in (a ∷ b ∷ c ∷ d ∷ octets) found h =
    let front : List ℕ = a ∷ b ∷ c ∷ d ∷ [] in
    let both = only-in (list_all (λ (octet : ℕ). nat_lt octet 256) front) (Some (from_be_bytes w32 front, octets)) found h in
    let same : (from_be_bytes w32 front, octets) ≡ found = some-in (from_be_bytes w32 front, octets) found both.1 in
    let low = four-low a b c d both.0 in
    let spelled : to_be_bytes w32 (from_be_bytes w32 front) ≡ front = be_bytes_4 front (from_be_bytes w32 front) refl low refl in
    let bound : from_be_bytes w32 front < 2 ^ 32 = omega (arith, low 0, low 1, low 2, low 3) in
    subst (FoundNumber (a ∷ b ∷ c ∷ d ∷ octets)) same (sym (ap (λ (l : List ℕ). l ++ octets) spelled), bound)
  where
    four-low : (a b c d : ℕ) → list_all (λ (octet : ℕ). nat_lt octet 256) (a ∷ b ∷ c ∷ d ∷ []) ≡ true → (i : ℕ) → get_or (a ∷ b ∷ c ∷ d ∷ []) i 0 < 256
    four-low a b c d h zero = grind (arith, nat_tests)
    four-low a b c d h (suc zero) = grind (arith, nat_tests)
    four-low a b c d h (suc (suc zero)) = grind (arith, nat_tests)
    four-low a b c d h (suc (suc (suc zero))) = grind (arith, nat_tests)
    four-low a b c d h (suc (suc (suc (suc i)))) = omega arith
number-in (a ∷ b ∷ c ∷ []) found h = cc
number-in (a ∷ b ∷ []) found h = cc
number-in (a ∷ []) found h = cc
number-in [] found h = cc

number-out : (n : ℕ) (rest : List ℕ) → n < 2 ^ 32 → number_at (to_be_bytes w32 n ++ rest) ≡ Some (n, rest)
unfolding number_at
number-out n rest low =
    let back : from_be_bytes w32 (to_be_bytes w32 n) ≡ n = from_be_bytes-to_be_bytes_4 n low in
    let test : list_all (λ (octet : ℕ). nat_lt octet 256) (to_be_bytes w32 n) ≡ true = grind (arith, nat_tests) in
    if-out _ _ _ (n, rest) test (ap (λ (k : ℕ). Some (k, rest)) back)

-- a value
value-in : (steps : ℕ) (octets rest : List ℕ) → behind_value steps octets ≡ Some rest → LeavesAfter 1 octets rest
unfolding behind_value
value-in zero octets rest h = cc
value-in (suc steps) [] rest h = cc
value-in (suc steps) (zero ∷ octets) rest h =
    let two = and-in _ _ rest h in
    let first = value-in steps octets two.0 two.1 in
    let second = value-in steps two.0 rest two.2 in
    described-out 0 octets rest (first.0, first.1, first.2, first.3, subst (λ (l : List ℕ). LeavesAfter 1 l rest) (sym first.4) second)
value-in (suc steps) (suc code ∷ octets) rest h =
    let sized = and-in _ _ rest h in
    let parts = map-in _ _ rest sized.2 in
    let found = cut-in sized.0 octets parts.0 parts.1 in
    plain-out 0 (suc code) octets rest (record { size = sized.0; says = sized.1; fits = found.0; more = found.2 ∙ parts.2 })

value-out : (steps : ℕ) (value rest : List ℕ) → IsValue value → length value ≤ steps → behind_value steps (value ++ rest) ≡ Some rest
unfolding behind_value
value-out zero value rest (plain c octets w) h = absurd (omega arith)
value-out zero value rest (described d v hd hv) h = absurd (omega arith)
value-out (suc steps) value rest (plain zero octets w) h = absurd (zero_is_not_plain octets (length octets) w)
value-out (suc steps) value rest (plain (suc c) octets w) h =
    let says : octets_after (suc c) (octets ++ rest) ≡ Some (length octets) = octets_by-more (width_of (suc c / 16)) octets rest (length octets) w in
    and-out _ _ (length octets) rest says
    (map-out _ _ (octets, rest) (cut-out (length octets) octets rest refl))
value-out (suc steps) value rest (described d v hd hv) h =
    let low : length d ≤ steps = omega (arith, length-append d v) in
    let low2 : length v ≤ steps = omega (arith, length-append d v) in
    let first : behind_value steps ((d ++ v) ++ rest) ≡ Some (v ++ rest) = rw append_assoc (value-out steps d (v ++ rest) hd low) in
    and-out _ _ (v ++ rest) rest first (value-out steps v rest hv low2)

-- a descriptor
descriptor-in : (kind : Kind) (octets rest : List ℕ) → behind_descriptor kind octets ≡ Some rest → AfterDescriptor kind.0 kind.1 octets rest
unfolding behind_descriptor
descriptor-in kind octets rest h = one (or-in _ _ rest h)
  where
    three : (behind_text (0xa3 ∷ length kind.1 ∷ kind.1) octets ≡ Some rest) ⊎ (behind_text (0xb3 ∷ to_be_bytes w32 (length kind.1) ++ kind.1) octets ≡ Some rest) → AfterDescriptor kind.0 kind.1 octets rest
    three (inl e) = name-found kind.0 kind.1 octets rest (behind-in (0xa3 ∷ length kind.1 ∷ kind.1) octets rest e)
    three (inr e) = record {
      spelling = 0xb3 ∷ to_be_bytes w32 (length kind.1) ++ kind.1;
      descriptor = by_long_name kind.0 kind.1;
      front = behind-in (0xb3 ∷ to_be_bytes w32 (length kind.1) ++ kind.1) octets rest e;
    }

    two : (behind_text (0x80 ∷ to_be_bytes w64 kind.0) octets ≡ Some rest) ⊎ (option_or (behind_text (0xa3 ∷ length kind.1 ∷ kind.1) octets) (behind_text (0xb3 ∷ to_be_bytes w32 (length kind.1) ++ kind.1) octets) ≡ Some rest) → AfterDescriptor kind.0 kind.1 octets rest
    two (inl e) = number-found kind.0 kind.1 octets rest (behind-in (0x80 ∷ to_be_bytes w64 kind.0) octets rest e)
    two (inr e) = three (or-in _ _ rest e)

    one : (behind_text (0x53 ∷ kind.0 ∷ []) octets ≡ Some rest) ⊎ (option_or (behind_text (0x80 ∷ to_be_bytes w64 kind.0) octets) (option_or (behind_text (0xa3 ∷ length kind.1 ∷ kind.1) octets) (behind_text (0xb3 ∷ to_be_bytes w32 (length kind.1) ++ kind.1) octets)) ≡ Some rest) → AfterDescriptor kind.0 kind.1 octets rest
    one (inl e) = octet-found kind.0 kind.1 octets rest (behind-in (0x53 ∷ kind.0 ∷ []) octets rest e)
    one (inr e) = two (or-in _ _ rest e)

descriptor-out : (number : ℕ) (name spelling octets rest : List ℕ) → IsDescriptor number name spelling → octets ≡ spelling ++ rest → behind_descriptor (number, name) octets ≡ Some rest
unfolding behind_descriptor
descriptor-out number name spelling octets rest (by_octet n m) e = or-first _ _ rest (behind-out (0x53 ∷ number ∷ []) octets rest e)
descriptor-out number name spelling octets rest (by_number n m) e =
    or-second _ _ rest (behind-none (0x53 ∷ number ∷ []) octets (rw e refl)) (or-first _ _ rest (behind-out (0x80 ∷ to_be_bytes w64 number) octets rest e))
descriptor-out number name spelling octets rest (by_name n m) e =
    or-second _ _ rest (behind-none (0x53 ∷ number ∷ []) octets (rw e refl))
    (or-second _ _ rest (behind-none (0x80 ∷ to_be_bytes w64 number) octets (rw e refl))
    (or-first _ _ rest (behind-out (0xa3 ∷ length name ∷ name) octets rest e)))
descriptor-out number name spelling octets rest (by_long_name n m) e =
    or-second _ _ rest (behind-none (0x53 ∷ number ∷ []) octets (rw e refl))
    (or-second _ _ rest (behind-none (0x80 ∷ to_be_bytes w64 number) octets (rw e refl))
    (or-second _ _ rest (behind-none (0xa3 ∷ length name ∷ name) octets (rw e refl)) (behind-out (0xb3 ∷ to_be_bytes w32 (length name) ++ name) octets rest e)))

-- a section
section-in : (kind : Kind) (octets rest : List ℕ) → behind_section kind octets ≡ Some rest → AfterSection kind.0 kind.1 octets rest
unfolding behind_section
section-in kind octets rest h =
    let inner = and-in _ _ rest h in
    let value = and-in _ _ rest inner.2 in
    record {
      inner = inner.0;
      value = value.0;
      begins = behind-in (0 ∷ []) octets inner.0 inner.1;
      descriptor = descriptor-in kind inner.0 value.0 value.1;
      leaves = value-in (length value.0) value.0 rest value.2;
    }

section-out : (kind : Kind) (octets rest : List ℕ) → AfterSection kind.0 kind.1 octets rest → behind_section kind octets ≡ Some rest
unfolding behind_section
section-out kind octets rest s =
    let v = s.leaves in
    let e : s.value ≡ v.0 ++ rest = v.2 ∙ ap (λ (l : List ℕ). v.0 ++ l) v.4 in
    let fits : length v.0 ≤ length s.value = omega (arith, length-append v.0 rest, ap length e) in
    let last : behind_value (length s.value) s.value ≡ Some rest = subst (λ (l : List ℕ). behind_value (length s.value) l ≡ Some rest) (sym e) (value-out (length s.value) v.0 rest v.3 fits) in
    and-out _ _ s.inner rest (behind-out (0 ∷ []) octets s.inner s.begins)
    (and-out _ _ s.value rest (descriptor-out kind.0 kind.1 s.descriptor.spelling s.inner s.value s.descriptor.descriptor s.descriptor.front) last)

section-takes : (kind : Kind) (octets : List ℕ) → TakesOptional kind octets (unwrap_or (behind_section kind octets) octets)
section-takes kind octets =
    by (behind_section kind octets) (finds-by (AfterSection kind.0 kind.1 octets) (behind_section kind octets) (section-in kind octets) (section-out kind octets))
  where
    by : (o : Option (List ℕ)) → Finds (AfterSection kind.0 kind.1 octets) o → TakesOptional kind octets (unwrap_or o octets)
    by None h = inr (refl, h)
    by (Some x) h = inl h

skipped-takes : (kinds : List Kind) (octets : List ℕ) → Takes kinds octets (behind_skipped kinds octets)
unfolding behind_skipped
skipped-takes [] octets = refl
skipped-takes (k ∷ ks) octets = (unwrap_or (behind_section k octets) octets, section-takes k octets, skipped-takes ks (unwrap_or (behind_section k octets) octets))

-- a list
record SizedList (number : List ℕ → Option (ℕ × List ℕ)) (width : ℕ) (octets : List ℕ) (found : ℕ × List ℕ × List ℕ) : Type 0 where
  size : ℕ
  count : ℕ
  counted : List ℕ
  others : List ℕ
  first : number octets ≡ Some (size, counted)
  second : number counted ≡ Some (count, others)
  fields : FoundFields size width count others found

sized_list-in : (number : List ℕ → Option (ℕ × List ℕ)) (width : ℕ) (octets : List ℕ) (found : ℕ × List ℕ × List ℕ) → sized_list number width octets ≡ Some found → SizedList number width octets found
unfolding sized_list
sized_list-in number width octets found h =
    let size = and-in (number octets) (λ (size : ℕ × List ℕ). and_then (number size.1) (λ count. if nat_le width size.0 then option_map (λ parts. (count.0, parts.0, parts.1)) (cut (size.0 - width) count.1) else None)) found h in
    let count = and-in (number size.0.1) (λ (count : ℕ × List ℕ). if nat_le width size.0.0 then option_map (λ parts. (count.0, parts.0, parts.1)) (cut (size.0.0 - width) count.1) else None) found size.2 in
    let tested = only-in (nat_le width size.0.0) (option_map (λ (parts : List ℕ × List ℕ). (count.0.0, parts.0, parts.1)) (cut (size.0.0 - width) count.0.1)) found count.2 in
    let parts = map-in (cut (size.0.0 - width) count.0.1) (λ (parts : List ℕ × List ℕ). (count.0.0, parts.0, parts.1)) found tested.1 in
    let pieces = cut-in (size.0.0 - width) count.0.1 parts.0 parts.1 in
    let test = tested.0 in
    let room : width ≤ size.0.0 = grind (arith, nat_tests) in
    let long : length parts.0.0 ≡ size.0.0 - width = ap length (sym pieces.1) ∙ length-take-le (size.0.0 - width) count.0.1 pieces.0 in
    let whole : count.0.1 ≡ parts.0.0 ++ parts.0.1 = sym (take-append-drop (size.0.0 - width) count.0.1) ∙ ap (λ (l : List ℕ). l ++ drop (size.0.0 - width) count.0.1) pieces.1 ∙ ap (λ (l : List ℕ). parts.0.0 ++ l) pieces.2 in
    let sum : length parts.0.0 + width ≡ size.0.0 = omega arith in
    record {
      size = size.0.0;
      count = count.0.0;
      counted = size.0.1;
      others = count.0.1;
      first = size.1;
      second = count.1;
      fields = subst (FoundFields size.0.0 width count.0.0 count.0.1) parts.2 (refl, whole, sum);
    }

sized_list-out : (number : List ℕ → Option (ℕ × List ℕ)) (width : ℕ) (octets counted fields rest : List ℕ) (size count : ℕ) → number octets ≡ Some (size, counted) → number counted ≡ Some (count, fields ++ rest) → length fields + width ≡ size → sized_list number width octets ≡ Some (count, fields, rest)
unfolding sized_list
sized_list-out number width octets counted fields rest size count e f sum =
    let test : nat_le width size ≡ true = grind (arith, nat_tests) in
    let long : length fields ≡ size - width = omega arith in
    and-out _ _ (size, counted) (count, fields, rest) e
    (and-out _ _ (count, fields ++ rest) (count, fields, rest) f
    (if-out _ _ _ (count, fields, rest) test
    (map-out _ _ (fields, rest) (cut-out (size - width) fields rest long))))

list-in : (octets : List ℕ) (found : ℕ × List ℕ × List ℕ) → list_at octets ≡ Some found → FoundList octets found
unfolding list_at
list-in octets found h = one (or-in _ _ found h)
  where
    two : (and_then (behind_text (0xc0 ∷ []) octets) (sized_list octet_at 1) ≡ Some found) ⊎ (and_then (behind_text (0xd0 ∷ []) octets) (sized_list number_at 4) ≡ Some found) → FoundList octets found
    two (inl e) =
        let code = and-in _ _ found e in
        let l = sized_list-in octet_at 1 code.0 found code.2 in
        short-listed octets code.0 l.counted l.others l.size l.count (Some found) (behind-in (0xc0 ∷ []) octets code.0 code.1) (octet-in code.0 (l.size, l.counted) l.first) (octet-in l.counted (l.count, l.others) l.second) l.fields
    two (inr e) =
        let code = and-in _ _ found e in
        let begins = behind-in (0xd0 ∷ []) octets code.0 code.1 in
        let l = sized_list-in number_at 4 code.0 found code.2 in
        long-listed octets (λ x f. apart 0x45 0xd0 _ _ octets refl f begins) (λ x f. apart 0xc0 0xd0 _ _ octets refl f begins) code.0 l.counted l.others l.size l.count (Some found) begins (number-in code.0 (l.size, l.counted) l.first) (number-in l.counted (l.count, l.others) l.second) l.fields

    one : (option_map (λ (others : List ℕ). (0, [], others)) (behind_text (0x45 ∷ []) octets) ≡ Some found) ⊎ (option_or (and_then (behind_text (0xc0 ∷ []) octets) (sized_list octet_at 1)) (and_then (behind_text (0xd0 ∷ []) octets) (sized_list number_at 4)) ≡ Some found) → FoundList octets found
    one (inl e) =
        let code = map-in _ _ found e in
        subst (FoundList octets) code.2 (list-empty octets code.0 (behind-in (0x45 ∷ []) octets code.0 code.1))
    one (inr e) = two (or-in _ _ found e)

list-out : (count : ℕ) (fields spelling octets rest : List ℕ) → IsList count fields spelling → octets ≡ spelling ++ rest → list_at octets ≡ Some (count, fields, rest)
unfolding list_at
list-out count fields spelling octets rest empty e = or-first _ _ (0, [], rest) (map-out _ _ rest (behind-out (0x45 ∷ []) octets rest e))
list-out count fields spelling octets rest (short_list n f a b) e =
    let inner : List ℕ = (length fields + 1) ∷ count ∷ (fields ++ rest) in
    or-second _ _ (count, fields, rest) (ap (option_map (λ (others : List ℕ). (0, [], others))) (behind-none (0x45 ∷ []) octets (rw e refl)))
    (or-first _ _ (count, fields, rest) (and-out _ _ inner (count, fields, rest) (behind-out (0xc0 ∷ []) octets inner e)
    (sized_list-out octet_at 1 inner (count ∷ (fields ++ rest)) fields rest (length fields + 1) count (octet-out (length fields + 1) (count ∷ (fields ++ rest)) a) (octet-out count (fields ++ rest) b) refl)))
list-out count fields spelling octets rest (long_list n f a b) e =
    let counted : List ℕ = to_be_bytes w32 count ++ (fields ++ rest) in
    let inner : List ℕ = to_be_bytes w32 (length fields + 4) ++ counted in
    or-second _ _ (count, fields, rest) (ap (option_map (λ (others : List ℕ). (0, [], others))) (behind-none (0x45 ∷ []) octets (rw e refl)))
    (or-second _ _ (count, fields, rest) (ap (λ (o : Option (List ℕ)). and_then o (sized_list octet_at 1)) (behind-none (0xc0 ∷ []) octets (rw e refl)))
    (and-out _ _ inner (count, fields, rest) (behind-out (0xd0 ∷ []) octets inner e)
    (sized_list-out number_at 4 inner counted fields rest (length fields + 4) count (number-out (length fields + 4) counted a) (number-out count (fields ++ rest) b) refl)))

-- an id
record SizedId (number : List ℕ → Option (ℕ × List ℕ)) (octets : List ℕ) (found : List ℕ × List ℕ) : Type 0 where
  size : ℕ
  others : List ℕ
  first : number octets ≡ Some (size, others)
  id_cut : FoundCut size others found

sized_id-in : (number : List ℕ → Option (ℕ × List ℕ)) (octets : List ℕ) (found : List ℕ × List ℕ) → sized_id number octets ≡ Some found → SizedId number octets found
unfolding sized_id
sized_id-in number octets found h =
    let size = and-in (number octets) (λ (size : ℕ × List ℕ). if nat_le size.0 32 then cut size.0 size.1 else None) found h in
    let tested = only-in (nat_le size.0.0 32) (cut size.0.0 size.0.1) found size.2 in
    let pieces = cut-in size.0.0 size.0.1 found tested.1 in
    let test = tested.0 in
    let fits : size.0.0 ≤ 32 = grind (arith, nat_tests) in
    let long : length found.0 ≡ size.0.0 = ap length (sym pieces.1) ∙ length-take-le size.0.0 size.0.1 pieces.0 in
    record {
      size = size.0.0;
      others = size.0.1;
      first = size.1;
      id_cut = record {
        short = omega arith;
        size = long;
        front = sym (take-append-drop size.0.0 size.0.1) ∙ ap (λ (l : List ℕ). l ++ drop size.0.0 size.0.1) pieces.1 ∙ ap (λ (l : List ℕ). found.0 ++ l) pieces.2;
      };
    }

sized_id-out : (number : List ℕ → Option (ℕ × List ℕ)) (octets id rest : List ℕ) → number octets ≡ Some (length id, id ++ rest) → length id ≤ 32 → sized_id number octets ≡ Some (id, rest)
unfolding sized_id
sized_id-out number octets id rest e fits =
    let test : nat_le (length id) 32 ≡ true = grind (arith, nat_tests) in
    and-out _ _ (length id, id ++ rest) (id, rest) e
    (if-out _ _ _ (id, rest) test (cut-out (length id) id rest refl))

id-in : (octets : List ℕ) (found : List ℕ × List ℕ) → id_at octets ≡ Some found → FoundId octets found
unfolding id_at
id-in octets found h = by (or-in _ _ found h)
  where
    by : (and_then (behind_text (0xa0 ∷ []) octets) (sized_id octet_at) ≡ Some found) ⊎ (and_then (behind_text (0xb0 ∷ []) octets) (sized_id number_at) ≡ Some found) → FoundId octets found
    by (inl e) =
        let code = and-in _ _ found e in
        let i = sized_id-in octet_at code.0 found code.2 in
        short-found octets code.0 i.others i.size (Some found) (behind-in (0xa0 ∷ []) octets code.0 code.1) (octet-in code.0 (i.size, i.others) i.first) i.id_cut
    by (inr e) =
        let code = and-in _ _ found e in
        let begins = behind-in (0xb0 ∷ []) octets code.0 code.1 in
        let i = sized_id-in number_at code.0 found code.2 in
        long-found octets (λ x f. apart 0xa0 0xb0 _ _ octets refl f begins) code.0 i.others i.size (Some found) begins (number-in code.0 (i.size, i.others) i.first) i.id_cut

id-out : (id spelling octets rest : List ℕ) → IsId id spelling → octets ≡ spelling ++ rest → id_at octets ≡ Some (id, rest)
unfolding id_at
id-out id spelling octets rest (short i fits) e =
    let inner : List ℕ = length id ∷ (id ++ rest) in
    let low : length id < 2 ^ 8 = omega arith in
    or-first _ _ (id, rest) (and-out _ _ inner (id, rest) (behind-out (0xa0 ∷ []) octets inner e)
    (sized_id-out octet_at inner id rest (octet-out (length id) (id ++ rest) low) fits))
id-out id spelling octets rest (long i fits) e =
    let inner : List ℕ = to_be_bytes w32 (length id) ++ (id ++ rest) in
    let low : length id < 2 ^ 32 = omega arith in
    or-second _ _ (id, rest) (ap (λ (o : Option (List ℕ)). and_then o (sized_id octet_at)) (behind-none (0xa0 ∷ []) octets (rw e refl)))
    (and-out _ _ inner (id, rest) (behind-out (0xb0 ∷ []) octets inner e)
    (sized_id-out number_at inner id rest (number-out (length id) (id ++ rest) low) fits))

alone-in : (octets id : List ℕ) → id_alone octets ≡ Some id → IsId id octets
unfolding id_alone
alone-in octets id h =
    let found = and-in _ _ id h in
    let tested = only-in _ _ id found.2 in
    let a = id-in octets found.0 found.1 in
    let here : IsId found.0.0 octets = id-alone octets found.0.0 (subst (AfterId octets found.0.0) (is-in found.0.1 [] tested.0) a) in
    subst (λ (l : List ℕ). IsId l octets) (some-in found.0.0 id tested.1) here

alone-out : (octets id : List ℕ) → IsId id octets → id_alone octets ≡ Some id
unfolding id_alone
alone-out octets id a =
    and-out _ _ (id, []) id (id-out id octets octets [] a (sym (append-nil octets)))
    (if-out _ _ _ id (is-out [] [] refl) refl)

-- a fail
fail-in : (octets : List ℕ) (fail : Option Bool) → fail_of octets ≡ Some fail → IsFail fail octets
unfolding fail_of
fail-in octets fail h = one (if-in _ _ _ fail h)
  where
    spelled : (said : Option Bool) (text : List ℕ) → IsFail said text → same_octets octets text ≡ true → Some said ≡ Some fail → IsFail fail octets
    spelled said text f e g = subst (λ (x : Option Bool). IsFail x octets) (some-in said fail g) (subst (IsFail said) (sym (is-in octets text e)) f)

    five : (same_octets octets (0x56 ∷ 0 ∷ []) ≡ true) × (Some (Some false) ≡ Some fail) → IsFail fail octets
    five e = spelled (Some false) (0x56 ∷ 0 ∷ []) long_no e.0 e.1

    four : ((same_octets octets (0x42 ∷ []) ≡ true) × (Some (Some false) ≡ Some fail)) ⊎ ((same_octets octets (0x42 ∷ []) ≡ false) × ((if same_octets octets (0x56 ∷ 0 ∷ []) then Some (Some false) else None) ≡ Some fail)) → IsFail fail octets
    four (inl e) = spelled (Some false) (0x42 ∷ []) no e.0 e.1
    four (inr e) = five (only-in _ _ fail e.1)

    three : ((same_octets octets (0x56 ∷ 1 ∷ []) ≡ true) × (Some (Some true) ≡ Some fail)) ⊎ ((same_octets octets (0x56 ∷ 1 ∷ []) ≡ false) × ((if same_octets octets (0x42 ∷ []) then Some (Some false) else (if same_octets octets (0x56 ∷ 0 ∷ []) then Some (Some false) else None)) ≡ Some fail)) → IsFail fail octets
    three (inl e) = spelled (Some true) (0x56 ∷ 1 ∷ []) long_yes e.0 e.1
    three (inr e) = four (if-in _ _ _ fail e.1)

    two : ((same_octets octets (0x41 ∷ []) ≡ true) × (Some (Some true) ≡ Some fail)) ⊎ ((same_octets octets (0x41 ∷ []) ≡ false) × ((if same_octets octets (0x56 ∷ 1 ∷ []) then Some (Some true) else (if same_octets octets (0x42 ∷ []) then Some (Some false) else (if same_octets octets (0x56 ∷ 0 ∷ []) then Some (Some false) else None))) ≡ Some fail)) → IsFail fail octets
    two (inl e) = spelled (Some true) (0x41 ∷ []) yes e.0 e.1
    two (inr e) = three (if-in _ _ _ fail e.1)

    one : ((same_octets octets (0x40 ∷ []) ≡ true) × (Some None ≡ Some fail)) ⊎ ((same_octets octets (0x40 ∷ []) ≡ false) × ((if same_octets octets (0x41 ∷ []) then Some (Some true) else (if same_octets octets (0x56 ∷ 1 ∷ []) then Some (Some true) else (if same_octets octets (0x42 ∷ []) then Some (Some false) else (if same_octets octets (0x56 ∷ 0 ∷ []) then Some (Some false) else None)))) ≡ Some fail)) → IsFail fail octets
    one (inl e) = spelled None (0x40 ∷ []) unsaid e.0 e.1
    one (inr e) = two (if-in _ _ _ fail e.1)

fail-out : (fail : Option Bool) (octets : List ℕ) → IsFail fail octets → fail_of octets ≡ Some fail
unfolding fail_of same_octets
fail-out fail octets unsaid = refl
fail-out fail octets yes = refl
fail-out fail octets long_yes = refl
fail-out fail octets no = refl
fail-out fail octets long_no = refl

-- the fields of a declare
declare-in : (count : ℕ) (fields : List ℕ) (id : Option (List ℕ)) → declare_of count fields ≡ Some id → IsDeclare count fields id
unfolding declare_of
declare-in zero fields id h =
    let tested = only-in _ _ id h in
    let here : IsDeclare 0 fields None = subst (λ (l : List ℕ). IsDeclare 0 l None) (sym (is-in fields [] tested.0)) no_field in
    subst (IsDeclare 0 fields) (some-in None id tested.1) here
declare-in (suc zero) fields id h = by (if-in _ _ _ id h)
  where
    by : ((same_octets fields (0x40 ∷ []) ≡ true) × (Some None ≡ Some id)) ⊎ ((same_octets fields (0x40 ∷ []) ≡ false) × (option_map (λ (i : List ℕ). Some i) (id_alone fields) ≡ Some id)) → IsDeclare 1 fields id
    by (inl e) =
        let here : IsGlobalId None fields = subst (IsGlobalId None) (sym (is-in fields (0x40 ∷ []) e.0)) null in
        global_id id fields (subst (λ (x : Option (List ℕ)). IsGlobalId x fields) (some-in None id e.1) here)
    by (inr e) =
        let alone = map-in _ _ id e.1 in
        global_id id fields (subst (λ (x : Option (List ℕ)). IsGlobalId x fields) alone.2 (some_id alone.0 fields (alone-in fields alone.0 alone.1)))
declare-in (suc (suc count)) fields id h = cc

id-not_null : (id octets : List ℕ) → IsId id octets → same_octets octets (0x40 ∷ []) ≡ false
unfolding same_octets
id-not_null id octets (short i fits) = refl
id-not_null id octets (long i fits) = refl

global_id-out : (id : Option (List ℕ)) (octets : List ℕ) → IsGlobalId id octets → declare_of 1 octets ≡ Some id
unfolding declare_of same_octets
global_id-out id octets null = refl
global_id-out id octets (some_id i o a) = rw (id-not_null i o a) (map-out _ _ i (alone-out o i a))

declare-out : (count : ℕ) (fields : List ℕ) (id : Option (List ℕ)) → IsDeclare count fields id → declare_of count fields ≡ Some id
unfolding declare_of same_octets
declare-out count fields id no_field = refl
declare-out count fields id (global_id i f g) = global_id-out i f g

-- the fields of a discharge
discharge-in : (count : ℕ) (fields : List ℕ) (found : List ℕ × Option Bool) → discharge_of count fields ≡ Some found → IsDischarge count fields found.0 found.1
unfolding discharge_of
discharge-in zero fields found h = cc
discharge-in (suc zero) fields found h =
    let alone = map-in _ _ found h in
    subst (λ (x : List ℕ × Option Bool). IsDischarge 1 fields x.0 x.1) alone.2 (only_id alone.0 fields (alone-in fields alone.0 alone.1))
discharge-in (suc (suc zero)) fields found h =
    let id = and-in _ _ found h in
    let fail = map-in _ _ found id.2 in
    subst (λ (x : List ℕ × Option Bool). IsDischarge 2 fields x.0 x.1) fail.2 (discharge-fails fields id.0.0 id.0.1 fail.0 (id-in fields id.0 id.1) (fail-in id.0.1 fail.0 fail.1))
discharge-in (suc (suc (suc count))) fields found h = cc

discharge-out : (count : ℕ) (fields id : List ℕ) (fail : Option Bool) → IsDischarge count fields id fail → discharge_of count fields ≡ Some (id, fail)
unfolding discharge_of
discharge-out count fields id fail (only_id i f a) = map-out _ _ id (alone-out fields id a)
discharge-out count fields id fail (id_and_fail i x f more a b) =
    and-out _ _ (id, more) (id, fail) (id-out id f (f ++ more) more a refl)
    (map-out _ _ fail (fail-out fail more b))

-- the list of a message behind its 0
declare_at-in : (octets : List ℕ) (found : ControlMessageBody × List ℕ) → declare_at octets ≡ Some found → WalkedList (0 ∷ octets) found.1 found.0
unfolding declare_at message_kind
declare_at-in octets found h =
    let kind = and-in _ _ found h in
    let list = and-in _ _ found kind.2 in
    let id = map-in _ _ found list.2 in
    subst (λ (x : ControlMessageBody × List ℕ). WalkedList (0 ∷ octets) x.1 x.0) id.2 (record {
      declares = true;
      count = list.0.0;
      fields = list.0.1;
      described = octets;
      list = kind.0;
      begins = refl;
      kind = descriptor-in declare_list octets kind.0 kind.1;
      listed = list-in kind.0 list.0 list.1;
      gives = declare list.0.0 list.0.1 id.0 (declare-in list.0.0 list.0.1 id.0 id.1);
    })

discharge_at-in : (octets : List ℕ) (found : ControlMessageBody × List ℕ) → discharge_at octets ≡ Some found → WalkedList (0 ∷ octets) found.1 found.0
unfolding discharge_at message_kind
discharge_at-in octets found h =
    let kind = and-in _ _ found h in
    let list = and-in _ _ found kind.2 in
    let fields = map-in _ _ found list.2 in
    subst (λ (x : ControlMessageBody × List ℕ). WalkedList (0 ∷ octets) x.1 x.0) fields.2 (record {
      declares = false;
      count = list.0.0;
      fields = list.0.1;
      described = octets;
      list = kind.0;
      begins = refl;
      kind = descriptor-in discharge_list octets kind.0 kind.1;
      listed = list-in kind.0 list.0 list.1;
      gives = discharge list.0.0 list.0.1 fields.0.0 fields.0.1 (discharge-in list.0.0 list.0.1 fields.0 fields.1);
    })

message_at-out : (d : Bool) (n : ℕ) (f : List ℕ) (m : ControlMessageBody) (octets list rest : List ℕ) → FoundKind octets (d, list) → AfterList list n f rest → GivesMessage d n f m → option_or (declare_at octets) (discharge_at octets) ≡ Some (m, rest)
unfolding declare_at discharge_at message_kind
message_at-out d n f m octets list rest k l (declare n2 f2 id h) =
    or-first _ _ (m, rest)
    (and-out _ _ list (m, rest) (descriptor-out declare_list.0 declare_list.1 k.spelling octets list k.descriptor k.front)
    (and-out _ _ (n, f, rest) (m, rest) (list-out n f l.spelling list rest l.listed l.front)
    (map-out _ _ id (declare-out n f id h))))
message_at-out d n f m octets list rest k l (discharge n2 f2 i x h) =
    let no_declare : behind_descriptor declare_list octets ≡ None = none-by (behind_descriptor declare_list octets) (λ (y : List ℕ) e. true≢false (kind-one octets true false y list (descriptor-in declare_list octets y e) k).0) in
    or-second _ _ (m, rest) (ap (λ (o : Option (List ℕ)). and_then o (λ (described : List ℕ). and_then (list_at described) (λ found. option_map (λ id. (messages.Declare (record { global_id = id }), found.2)) (declare_of found.0 found.1)))) no_declare)
    (and-out _ _ list (m, rest) (descriptor-out discharge_list.0 discharge_list.1 k.spelling octets list k.descriptor k.front)
    (and-out _ _ (n, f, rest) (m, rest) (list-out n f l.spelling list rest l.listed l.front)
    (map-out _ _ (i, x) (discharge-out n f i x h))))

-- the body
body-in : (octets : List ℕ) (found : ControlMessageBody × List ℕ) → body_at octets ≡ Some found → WalkedBody octets found.1 found.0
unfolding body_at
body-in octets found h =
    let inner = and-in _ _ found h in
    let value = and-in _ _ found inner.2 in
    let described = and-in _ _ found value.2 in
    let list = by described.0 (or-in (declare_at described.0) (discharge_at described.0) found described.2) in
    record {
      declares = list.declares;
      count = list.count;
      fields = list.fields;
      walked = record {
        inner = inner.0;
        value = value.0;
        described = list.described;
        list = list.list;
        begins = behind-in (0 ∷ []) octets inner.0 inner.1;
        descriptor = descriptor-in body inner.0 value.0 value.1;
        list_begins = behind-in (0 ∷ []) value.0 described.0 described.1 ∙ list.begins;
        kind = list.kind;
        listed = list.listed;
      };
      gives = list.gives;
    }
  where
    by : (inside : List ℕ) → (declare_at inside ≡ Some found) ⊎ (discharge_at inside ≡ Some found) → WalkedList (0 ∷ inside) found.1 found.0
    by inside (inl e) = declare_at-in inside found e
    by inside (inr e) = discharge_at-in inside found e

body-out : (octets rest : List ℕ) (d : Bool) (n : ℕ) (f : List ℕ) (m : ControlMessageBody) → AfterBody octets d n f rest → GivesMessage d n f m → body_at octets ≡ Some (m, rest)
unfolding body_at
body-out octets rest d n f m b g =
    and-out _ _ b.inner (m, rest) (behind-out (0 ∷ []) octets b.inner b.begins)
    (and-out _ _ b.value (m, rest) (descriptor-out body.0 body.1 b.descriptor.spelling b.inner b.value b.descriptor.descriptor b.descriptor.front)
    (and-out _ _ b.described (m, rest) (behind-out (0 ∷ []) b.value b.described b.list_begins)
    (message_at-out d n f m b.described b.list rest b.kind b.listed g)))

-- the footer
footer-takes : (octets : List ℕ) → TakesOptional footer octets (behind_skipped (footer ∷ []) octets)
unfolding behind_skipped
footer-takes octets = section-takes footer octets

-- what is read is walked to, and what is walked to is read
reading-walks : (bytes : List ℕ) (m : ControlMessageBody) → message_of bytes ≡ Some m → WalksTo bytes m
unfolding message_of
reading-walks bytes m h =
    let start = behind_skipped leading bytes in
    let found = and-in _ _ m h in
    let b = body-in start found.0 found.1 in
    let tested = only-in _ _ m found.2 in
    record {
      start = start;
      end = found.0.1;
      declares = b.declares;
      count = b.count;
      fields = b.fields;
      before = takes-skips leading bytes start (skipped-takes leading bytes);
      body_after = b.walked;
      behind = end-is found.0.1 (behind_skipped (footer ∷ []) found.0.1) (footer-takes found.0.1) (is-in (behind_skipped (footer ∷ []) found.0.1) [] tested.0);
      gives = subst (GivesMessage b.declares b.count b.fields) (some-in found.0.0 m tested.1) b.gives;
    }

walk-reads : (bytes : List ℕ) (m : ControlMessageBody) → WalksTo bytes m → message_of bytes ≡ Some m
unfolding message_of
walk-reads bytes m w =
    let start : behind_skipped leading bytes ≡ w.start = leading-only bytes (behind_skipped leading bytes) w.start (skipped-takes leading bytes) (body-begins w.start w.declares w.count w.fields w.end w.body_after) w.before in
    let found : body_at (behind_skipped leading bytes) ≡ Some (m, w.end) = ap (λ (l : List ℕ). body_at l) start ∙ body-out w.start w.end w.declares w.count w.fields m w.body_after w.gives in
    let close : behind_skipped (footer ∷ []) w.end ≡ [] = end-only w.end (behind_skipped (footer ∷ []) w.end) (footer-takes w.end) w.behind in
    and-out _ _ (m, w.end) m found
    (if-out _ _ _ m (is-out (behind_skipped (footer ∷ []) w.end) [] close) refl)

-- the message that octets spell is the one that is read from them
pub spelled-read : (bytes : List ℕ) (m : ControlMessageBody) → SpellsMessage bytes m → message_of bytes ≡ Some m
spelled-read bytes m s = walk-reads bytes m (spelled-walks bytes m s)

pub read-spells : (bytes : List ℕ) (m : ControlMessageBody) → message_of bytes ≡ Some m → SpellsMessage bytes m
read-spells bytes m h = walk-spells bytes m (reading-walks bytes m h)

pub none-read : (bytes : List ℕ) → ((m : ControlMessageBody) → SpellsMessage bytes m → ⊥) → message_of bytes ≡ None
none-read bytes h = none-by (message_of bytes) (λ m e. h m (read-spells bytes m e))

-- the canonical spelling is read
canon-reads : (m : ControlMessageBody) → HoldsShortIds m → message_of (canon m) ≡ Some m
canon-reads m short_ids = spelled-read (canon m) m (canon-spells m short_ids)

pub declare-reads : (m : ControlMessageBody) (d : Declare) (id : Option (List ℕ)) → m ≡ messages.Declare d → d.global_id ≡ id → IfSome id (λ l. length l ≤ 32) → message_of (canon m) ≡ Some m
declare-reads m d id e f fits =
    let short_id : IfSome d.global_id (λ l. length l ≤ 32) = subst (λ (o : Option (List ℕ)). IfSome o (λ l. length l ≤ 32)) (sym f) fits in
    subst (λ (l : ControlMessageBody). message_of (canon l) ≡ Some l) (sym e) (canon-reads (messages.Declare d) short_id)

pub discharge-reads : (m : ControlMessageBody) (d : Discharge) → m ≡ messages.Discharge d → length d.txn_id ≤ 32 → message_of (canon m) ≡ Some m
discharge-reads m d e fits = subst (λ (l : ControlMessageBody). message_of (canon l) ≡ Some l) (sym e) (canon-reads (messages.Discharge d) fits)
