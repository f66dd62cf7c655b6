use Rattle.std.proofs.Common.{◌≡◌, ℕ, ◌+◌, true, false, List, [], ◌∷◌, ◌++◌, length, take, drop, Option, Some, None, refl, sym, ap, subst, ◌∙◌, arith, MatchOption, option_copied, Bor, nat_eq, eqb}
use Rattle.std.proofs.lemmas.Bool.Decides.{nat_tests}
use Rattle.std.specs.Int.{to_be_bytes, w32, w64}
use Rattle.std.specs.Cmp.Lexicographic.{pointwise, same_text, nat_list_eq_equiv}
use Rattle.std.proofs.lemmas.List.{take-append-drop, append_cancel_left}
use Rattle.std.proofs.Math.Seq.{take-append_seam}
use Rattle.amqp_txn_codec.specs.Sections.{IsDescriptor, by_octet, by_number, by_name, by_long_name}
use Rattle.amqp_txn_codec.specs.Walks.{Finds, LeavesAfter, AfterDescriptor, AfterSection}

-- what is behind one octet is one list
pub behind : (a : ℕ) (x y octets : List ℕ) → octets ≡ a ∷ x → octets ≡ a ∷ y → x ≡ y
behind a x y octets e f = cc

-- one list does not begin with two octets
pub apart : (a b : ℕ) (x y octets : List ℕ) → eqb a b ≡ false → octets ≡ a ∷ x → octets ≡ b ∷ y → ⊥
apart a b x y octets differ e f =
    let same : a ≡ b = cc in
    let loop : eqb b b ≡ false = rw same at differ in
    absurd (grind (arith, nat_tests))

-- two facts that are the same at each value
pub Finds-via : {X : Type 0} (P Q : X → Type 0) → ((x : X) → P x → Q x) → ((x : X) → Q x → P x) → (r : Option X) → Finds P r → Finds Q r
Finds-via P Q to back None h = λ x q. h x (back x q)
Finds-via P Q to back (Some x) h = to x h

pub Finds-strip_prefix : (prefix octets : List ℕ) (r : Option (Bor (List ℕ))) → MatchOption r (pointwise nat_eq (take (length prefix) octets) prefix ≡ false) (λ x. (pointwise nat_eq (take (length prefix) octets) prefix ≡ true) × (x.now ≡ drop (length prefix) octets) × (length x.now + length prefix ≡ length octets)) → Finds (λ rest. octets ≡ prefix ++ rest) (option_copied r)
Finds-strip_prefix prefix octets None h = λ rest e.
    let front : take (length prefix) octets ≡ prefix = rw e (take-append_seam prefix rest) in
    let is : pointwise nat_eq prefix prefix ≡ true = nat_list_eq_equiv.refl prefix in
    let not : pointwise nat_eq prefix prefix ≡ false = rw front at h in
    cc
Finds-strip_prefix prefix octets (Some x) h =
    let front : take (length prefix) octets ≡ prefix = same_text _ _ (sym h.0) in
    sym (take-append-drop (length prefix) octets) ∙ ap (λ (l : List ℕ). l ++ drop (length prefix) octets) front ∙ ap (λ (l : List ℕ). prefix ++ l) (sym h.1)

pub both-none : (first second octets : List ℕ) → ((rest : List ℕ) → octets ≡ first ++ rest → ⊥) → (rest : List ℕ) → octets ≡ first ++ (second ++ rest) → ⊥
both-none first second octets h rest e = h (second ++ rest) e

pub both-found : (first second octets mid : List ℕ) (r : Option (List ℕ)) → octets ≡ first ++ mid → Finds (λ rest. mid ≡ second ++ rest) r → Finds (λ rest. octets ≡ first ++ (second ++ rest)) r
both-found first second octets mid r e h =
    Finds-via (λ (rest : List ℕ). mid ≡ second ++ rest) (λ (rest : List ℕ). octets ≡ first ++ (second ++ rest))
    (λ rest f. e ∙ ap (λ (l : List ℕ). first ++ l) f)
    (λ rest f. append_cancel_left first mid (second ++ rest) (sym e ∙ f)) r h

-- no spelling but the last
last-descriptor : (number : ℕ) (name octets spelling rest : List ℕ) → ((x : List ℕ) → octets ≡ 0x53 ∷ number ∷ x → ⊥) → ((x : List ℕ) → octets ≡ 0x80 ∷ (to_be_bytes w64 number ++ x) → ⊥) → ((x : List ℕ) → octets ≡ 0xa3 ∷ length name ∷ (name ++ x) → ⊥) → IsDescriptor number name spelling → octets ≡ spelling ++ rest → octets ≡ 0xb3 ∷ to_be_bytes w32 (length name) ++ (name ++ rest)
last-descriptor number name octets spelling rest a b c (by_octet n m) e = absurd (a rest e)
last-descriptor number name octets spelling rest a b c (by_number n m) e = absurd (b rest e)
last-descriptor number name octets spelling rest a b c (by_name n m) e = absurd (c rest e)
last-descriptor number name octets spelling rest a b c (by_long_name n m) e = e

pub descriptor-found : (number : ℕ) (name octets : List ℕ) (r : Option (List ℕ)) → ((x : List ℕ) → octets ≡ 0x53 ∷ number ∷ x → ⊥) → ((x : List ℕ) → octets ≡ 0x80 ∷ (to_be_bytes w64 number ++ x) → ⊥) → ((x : List ℕ) → octets ≡ 0xa3 ∷ length name ∷ (name ++ x) → ⊥) → Finds (λ rest. octets ≡ 0xb3 ∷ to_be_bytes w32 (length name) ++ (name ++ rest)) r → Finds (AfterDescriptor number name octets) r
descriptor-found number name octets r a b c h =
    Finds-via (λ (rest : List ℕ). octets ≡ 0xb3 ∷ to_be_bytes w32 (length name) ++ (name ++ rest)) (AfterDescriptor number name octets)
    (λ rest e. record { spelling = 0xb3 ∷ to_be_bytes w32 (length name) ++ name; descriptor = by_long_name number name; front = e })
    (λ rest d. last-descriptor number name octets d.spelling rest a b c d.descriptor d.front) r h

-- each of the other spellings
pub octet-found : (number : ℕ) (name octets rest : List ℕ) → octets ≡ 0x53 ∷ number ∷ rest → AfterDescriptor number name octets rest
octet-found number name octets rest e = record { spelling = 0x53 ∷ number ∷ []; descriptor = by_octet number name; front = e }

-- behind 0x53 no other spelling than that by one octet
only-octet : (number : ℕ) (name octets mid spelling rest : List ℕ) → octets ≡ 0x53 ∷ mid → IsDescriptor number name spelling → octets ≡ spelling ++ rest → mid ≡ number ∷ rest
only-octet number name octets mid spelling rest e (by_octet n m) f = behind 0x53 mid (number ∷ rest) octets e f
only-octet number name octets mid spelling rest e (by_number n m) f = absurd (apart 0x53 0x80 mid (to_be_bytes w64 number ++ rest) octets refl e f)
only-octet number name octets mid spelling rest e (by_name n m) f = absurd (apart 0x53 0xa3 mid (length name ∷ name ++ rest) octets refl e f)
only-octet number name octets mid spelling rest e (by_long_name n m) f = absurd (apart 0x53 0xb3 mid ((to_be_bytes w32 (length name) ++ name) ++ rest) octets refl e f)

pub octet-or_none : (number : ℕ) (name octets mid : List ℕ) (r : Option (List ℕ)) → octets ≡ 0x53 ∷ mid → Finds (λ rest. mid ≡ number ∷ rest) r → Finds (AfterDescriptor number name octets) r
octet-or_none number name octets mid r e h =
    Finds-via (λ (rest : List ℕ). mid ≡ number ∷ rest) (AfterDescriptor number name octets)
    (λ rest f. octet-found number name octets rest (e ∙ ap (λ (l : List ℕ). 0x53 ∷ l) f))
    (λ rest d. only-octet number name octets mid d.spelling rest e d.descriptor d.front) r h

pub number-found : (number : ℕ) (name octets rest : List ℕ) → octets ≡ 0x80 ∷ (to_be_bytes w64 number ++ rest) → AfterDescriptor number name octets rest
number-found number name octets rest e = record { spelling = 0x80 ∷ to_be_bytes w64 number; descriptor = by_number number name; front = e }

pub name-found : (number : ℕ) (name octets rest : List ℕ) → octets ≡ 0xa3 ∷ length name ∷ (name ++ rest) → AfterDescriptor number name octets rest
name-found number name octets rest e = record { spelling = 0xa3 ∷ length name ∷ name; descriptor = by_name number name; front = e }

-- a section: 0, a descriptor and a value, each of which has one end
module _ (number : ℕ) (name : List ℕ) where
  pub section-no_descriptor : (octets inner : List ℕ) → octets ≡ 0 ∷ inner → ((x : List ℕ) → AfterDescriptor number name inner x → ⊥) → (rest : List ℕ) → AfterSection number name octets rest → ⊥
  section-no_descriptor octets inner e h rest s =
      let same : s.inner ≡ inner = cc in
      h s.value (subst (λ (l : List ℕ). AfterDescriptor number name l s.value) same s.descriptor)

  -- a descriptor has one end
  same_end : (octets x y a b : List ℕ) → IsDescriptor number name a → IsDescriptor number name b → octets ≡ a ++ x → octets ≡ b ++ y → x ≡ y
  same_end octets x y a b (by_octet n m) (by_octet k l) e f = cc
  same_end octets x y a b (by_number n m) (by_number k l) e f = append_cancel_left (0x80 ∷ to_be_bytes w64 number) x y (sym e ∙ f)
  same_end octets x y a b (by_name n m) (by_name k l) e f = append_cancel_left (0xa3 ∷ length name ∷ name) x y (sym e ∙ f)
  same_end octets x y a b (by_long_name n m) (by_long_name k l) e f = append_cancel_left (0xb3 ∷ to_be_bytes w32 (length name) ++ name) x y (sym e ∙ f)
  same_end octets x y a b (by_octet n m) (by_number k l) e f = absurd (apart 0x53 0x80 _ _ octets refl e f)
  same_end octets x y a b (by_octet n m) (by_name k l) e f = absurd (apart 0x53 0xa3 _ _ octets refl e f)
  same_end octets x y a b (by_octet n m) (by_long_name k l) e f = absurd (apart 0x53 0xb3 _ _ octets refl e f)
  same_end octets x y a b (by_number n m) (by_octet k l) e f = absurd (apart 0x80 0x53 _ _ octets refl e f)
  same_end octets x y a b (by_number n m) (by_name k l) e f = absurd (apart 0x80 0xa3 _ _ octets refl e f)
  same_end octets x y a b (by_number n m) (by_long_name k l) e f = absurd (apart 0x80 0xb3 _ _ octets refl e f)
  same_end octets x y a b (by_name n m) (by_octet k l) e f = absurd (apart 0xa3 0x53 _ _ octets refl e f)
  same_end octets x y a b (by_name n m) (by_number k l) e f = absurd (apart 0xa3 0x80 _ _ octets refl e f)
  same_end octets x y a b (by_name n m) (by_long_name k l) e f = absurd (apart 0xa3 0xb3 _ _ octets refl e f)
  same_end octets x y a b (by_long_name n m) (by_octet k l) e f = absurd (apart 0xb3 0x53 _ _ octets refl e f)
  same_end octets x y a b (by_long_name n m) (by_number k l) e f = absurd (apart 0xb3 0x80 _ _ octets refl e f)
  same_end octets x y a b (by_long_name n m) (by_name k l) e f = absurd (apart 0xb3 0xa3 _ _ octets refl e f)

  pub descriptor-one_end : (octets x y : List ℕ) → AfterDescriptor number name octets x → AfterDescriptor number name octets y → x ≡ y
  descriptor-one_end octets x y d e = same_end octets x y d.spelling e.spelling d.descriptor e.descriptor d.front e.front

  pub section-found : (octets inner value : List ℕ) (r : Option (List ℕ)) → octets ≡ 0 ∷ inner → AfterDescriptor number name inner value → Finds (LeavesAfter 1 value) r → Finds (AfterSection number name octets) r
  section-found octets inner value r e d h =
      Finds-via (LeavesAfter 1 value) (AfterSection number name octets)
      (λ rest l. record { inner = inner; value = value; begins = e; descriptor = d; leaves = l })
      (λ rest s.
      let here : s.inner ≡ inner = behind 0 s.inner inner octets s.begins e in
      let there : s.value ≡ value = descriptor-one_end inner s.value value (subst (λ (l : List ℕ). AfterDescriptor number name l s.value) here s.descriptor) d in
      subst (λ (l : List ℕ). LeavesAfter 1 l rest) there s.leaves)
      r h
