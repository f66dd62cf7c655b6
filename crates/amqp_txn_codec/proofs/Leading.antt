use Rattle.std.specs.Option.{is_some}
use Rattle.std.proofs.Common.{◌≡◌, ℕ, Option, None, Some, Bor, option_copied, ◌<◌, ◌^◌, inl, inr, true, false, List, [], ◌∷◌, ◌++◌, length, refl, sym, ap, subst, ◌∙◌, arith, nat_eq, nat_lt, eqb, codes}
use Rattle.std.specs.Cmp.Lexicographic.{pointwise, nat_list_eq_equiv}
use Rattle.std.proofs.lemmas.Bool.Decides.{nat_tests}
use Rattle.std.specs.Int.{to_be_bytes, from_be_bytes, w32, w64}
use Rattle.std.proofs.lemmas.Nat.{from_be_bytes-to_be_bytes_4, from_be_bytes-to_be_bytes_8}
use Rattle.amqp_txn_codec.specs.Sections.{Kind, IsDescriptor, by_octet, by_number, by_name, by_long_name, leading, body}
use Rattle.amqp_txn_codec.specs.Walks.{Finds, LeavesAfter, AfterDescriptor, AfterSection, SkipsTo, Begins, TakesOptional}
use Rattle.amqp_txn_codec.proofs.Values.{one_front, same_front}
use Rattle.amqp_txn_codec.proofs.Sections.{behind, apart, descriptor-one_end, octet-found}

-- two kinds that no descriptor names both
pub record Apart (k l : Kind) : Type 0 where
  pub number : k.0 < 256
  pub other_number : l.0 < 256
  pub name : length k.1 < 256
  pub other_name : length l.1 < 256
  pub numbers : k.0 ≡ l.0 → ⊥
  pub names : k.1 ≡ l.1 → ⊥

abbrev tail_of : List ℕ → List ℕ
tail_of [] = []
tail_of (z ∷ zs) = zs

past_two : (a b c d : ℕ) (x y : List ℕ) → a ∷ c ∷ x ≡ b ∷ d ∷ y → (c ≡ d) × (x ≡ y)
past_two a b c d x y e = (cc, cc)

pub spelled-apart : (n k : ℕ) (m l octets x y a b : List ℕ) → Apart (n, m) (k, l) → IsDescriptor n m a → IsDescriptor k l b → octets ≡ a ++ x → octets ≡ b ++ y → ⊥
spelled-apart n k m l octets x y a b h (by_octet n2 m2) (by_octet k2 l2) e f = h.numbers cc
spelled-apart n k m l octets x y a b h (by_number n2 m2) (by_number k2 l2) e f =
    let both : 0x80 ∷ to_be_bytes w64 n ≡ 0x80 ∷ to_be_bytes w64 k = (same_front (0x80 ∷ to_be_bytes w64 n) (0x80 ∷ to_be_bytes w64 k) x y refl (sym e ∙ f)).0 in
    let tails : to_be_bytes w64 n ≡ to_be_bytes w64 k = ap tail_of both in
    let low : n < 2 ^ 64 = omega (arith, h.number) in
    let low2 : k < 2 ^ 64 = omega (arith, h.other_number) in
    h.numbers (sym (from_be_bytes-to_be_bytes_8 n low) ∙ ap (from_be_bytes w64) tails ∙ from_be_bytes-to_be_bytes_8 k low2)
spelled-apart n k m l octets x y a b h (by_name n2 m2) (by_name k2 l2) e f =
    let cut = past_two 0xa3 0xa3 (length m) (length l) (m ++ x) (l ++ y) (sym e ∙ f) in
    h.names (same_front m l x y cut.0 cut.1).0
spelled-apart n k m l octets x y a b h (by_long_name n2 m2) (by_long_name k2 l2) e f =
    let cut = same_front (0xb3 ∷ to_be_bytes w32 (length m)) (0xb3 ∷ to_be_bytes w32 (length l)) (m ++ x) (l ++ y) refl (sym e ∙ f) in
    let sizes : to_be_bytes w32 (length m) ≡ to_be_bytes w32 (length l) = ap tail_of cut.0 in
    let low : length m < 2 ^ 32 = omega (arith, h.name) in
    let low2 : length l < 2 ^ 32 = omega (arith, h.other_name) in
    let same : length m ≡ length l = sym (from_be_bytes-to_be_bytes_4 (length m) low) ∙ ap (from_be_bytes w32) sizes ∙ from_be_bytes-to_be_bytes_4 (length l) low2 in
    h.names (same_front m l x y same cut.1).0
spelled-apart n k m l octets x y a b h (by_octet n2 m2) (by_number k2 l2) e f = apart 0x53 0x80 _ _ octets refl e f
spelled-apart n k m l octets x y a b h (by_octet n2 m2) (by_name k2 l2) e f = apart 0x53 0xa3 _ _ octets refl e f
spelled-apart n k m l octets x y a b h (by_octet n2 m2) (by_long_name k2 l2) e f = apart 0x53 0xb3 _ _ octets refl e f
spelled-apart n k m l octets x y a b h (by_number n2 m2) (by_octet k2 l2) e f = apart 0x80 0x53 _ _ octets refl e f
spelled-apart n k m l octets x y a b h (by_number n2 m2) (by_name k2 l2) e f = apart 0x80 0xa3 _ _ octets refl e f
spelled-apart n k m l octets x y a b h (by_number n2 m2) (by_long_name k2 l2) e f = apart 0x80 0xb3 _ _ octets refl e f
spelled-apart n k m l octets x y a b h (by_name n2 m2) (by_octet k2 l2) e f = apart 0xa3 0x53 _ _ octets refl e f
spelled-apart n k m l octets x y a b h (by_name n2 m2) (by_number k2 l2) e f = apart 0xa3 0x80 _ _ octets refl e f
spelled-apart n k m l octets x y a b h (by_name n2 m2) (by_long_name k2 l2) e f = apart 0xa3 0xb3 _ _ octets refl e f
spelled-apart n k m l octets x y a b h (by_long_name n2 m2) (by_octet k2 l2) e f = apart 0xb3 0x53 _ _ octets refl e f
spelled-apart n k m l octets x y a b h (by_long_name n2 m2) (by_number k2 l2) e f = apart 0xb3 0x80 _ _ octets refl e f
spelled-apart n k m l octets x y a b h (by_long_name n2 m2) (by_name k2 l2) e f = apart 0xb3 0xa3 _ _ octets refl e f

pub begins-apart : (k l : Kind) (octets : List ℕ) → Apart k l → Begins k octets → Begins l octets → ⊥
begins-apart k l octets h b c =
    let same : b.inner ≡ c.inner = behind 0 b.inner c.inner octets b.begins c.begins in
    spelled-apart k.0 l.0 k.1 l.1 c.inner b.value c.value b.descriptor.spelling c.descriptor.spelling h b.descriptor.descriptor c.descriptor.descriptor (sym same ∙ b.descriptor.front) c.descriptor.front

-- a section begins where it stands
pub section-begins : (kind : Kind) (octets rest : List ℕ) → AfterSection kind.0 kind.1 octets rest → Begins kind octets
section-begins kind octets rest s = record { inner = s.inner; value = s.value; begins = s.begins; descriptor = s.descriptor }

-- and has one end
pub section-one_end : (number : ℕ) (name octets x y : List ℕ) → AfterSection number name octets x → AfterSection number name octets y → x ≡ y
section-one_end number name octets x y s t =
    let inner : s.inner ≡ t.inner = behind 0 s.inner t.inner octets s.begins t.begins in
    let value : s.value ≡ t.value = descriptor-one_end number name t.inner s.value t.value (subst (λ (l : List ℕ). AfterDescriptor number name l s.value) inner s.descriptor) t.descriptor in
    let a : LeavesAfter 1 t.value x = subst (λ (l : List ℕ). LeavesAfter 1 l x) value s.leaves in
    let b : LeavesAfter 1 t.value y = t.leaves in
    let more = one_front a.0 b.0 a.1 b.1 a.3 b.3 (sym a.2 ∙ b.2) in
    sym a.4 ∙ more.1 ∙ b.4

-- the sections taken one after another, each where there is one
abbrev pub Takes : List Kind → List ℕ → List ℕ → Type 0
Takes [] octets rest = octets ≡ rest
Takes (k ∷ ks) octets rest = (mid : List ℕ) × TakesOptional k octets mid × Takes ks mid rest

-- each kind is apart from those after it, and from the last
abbrev pub ApartFrom : Kind → List Kind → Kind → Type 0
ApartFrom k [] end = Apart k end
ApartFrom k (l ∷ ls) end = Apart k l × ApartFrom k ls end

abbrev pub AllApart : List Kind → Kind → Type 0
AllApart [] end = Unit {0}
AllApart (k ∷ ks) end = ApartFrom k ks end × AllApart ks end

pub takes-skips : (ks : List Kind) (octets rest : List ℕ) → Takes ks octets rest → SkipsTo ks octets rest
takes-skips [] octets rest t = t
takes-skips (k ∷ ks) octets rest (mid, inl s, t) = inr (mid, s, takes-skips ks mid rest t)
takes-skips (k ∷ ks) octets rest (mid, inr (same, none), t) = inl (subst (λ (l : List ℕ). SkipsTo ks l rest) same (takes-skips ks mid rest t))

-- a section of another kind is not skipped over
pub not-over : (k : Kind) (ks : List Kind) (end : Kind) (octets rest : List ℕ) → ApartFrom k ks end → Begins k octets → Begins end rest → SkipsTo ks octets rest → ⊥
not-over k [] end octets rest a b c s = begins-apart k end octets a b (subst (Begins end) (sym s) c)
not-over k (l ∷ ls) end octets rest a b c (inl s) = not-over k ls end octets rest a.1 b c s
not-over k (l ∷ ls) end octets rest a b c (inr (mid, s, t)) = begins-apart k l octets a.0 b (section-begins l octets mid s)

pub takes-only : (ks : List Kind) (end : Kind) (octets result rest : List ℕ) → AllApart ks end → Takes ks octets result → Begins end rest → SkipsTo ks octets rest → result ≡ rest
takes-only [] end octets result rest a t b s = sym t ∙ s
takes-only (k ∷ ks) end octets result rest a (mid, inl s, t) b (inl u) = absurd (not-over k ks end octets rest a.0 (section-begins k octets mid s) b u)
takes-only (k ∷ ks) end octets result rest a (mid, inl s, t) b (inr (mid2, s2, u)) =
    let same : mid2 ≡ mid = section-one_end k.0 k.1 octets mid2 mid s2 s in
    takes-only ks end mid result rest a.1 t b (subst (λ (l : List ℕ). SkipsTo ks l rest) same u)
takes-only (k ∷ ks) end octets result rest a (mid, inr (same, none), t) b (inl u) =
    takes-only ks end mid result rest a.1 t b (subst (λ (l : List ℕ). SkipsTo ks l rest) (sym same) u)
takes-only (k ∷ ks) end octets result rest a (mid, inr (same, none), t) b (inr (mid2, s2, u)) = absurd (none mid2 s2)

pub tested : (k l : Kind) → nat_lt k.0 256 ≡ true → nat_lt l.0 256 ≡ true → nat_lt (length k.1) 256 ≡ true → nat_lt (length l.1) 256 ≡ true → eqb k.0 l.0 ≡ false → pointwise nat_eq k.1 l.1 ≡ false → Apart k l
tested k l a b c d e f = record {
  number = grind (arith, nat_tests);
  other_number = grind (arith, nat_tests);
  name = grind (arith, nat_tests);
  other_name = grind (arith, nat_tests);
  numbers = λ same. absurd (grind (arith, nat_tests));
  names = λ same. by (k.1) (l.1) same f;
}
  where
    by : (m n : List ℕ) → m ≡ n → pointwise nat_eq m n ≡ false → ⊥
    by m n same f =
        let is : pointwise nat_eq n n ≡ true = nat_list_eq_equiv.refl n in
        let not : pointwise nat_eq n n ≡ false = rw same at f in
        cc

pub leading-apart : AllApart leading body
unfolding leading body
leading-apart =
    ((tested _ _ refl refl refl refl refl refl, (tested _ _ refl refl refl refl refl refl, (tested _ _ refl refl refl refl refl refl, (tested _ _ refl refl refl refl refl refl, tested _ _ refl refl refl refl refl refl)))), ((tested _ _ refl refl refl refl refl refl, (tested _ _ refl refl refl refl refl refl, (tested _ _ refl refl refl refl refl refl, tested _ _ refl refl refl refl refl refl))), ((tested _ _ refl refl refl refl refl refl, (tested _ _ refl refl refl refl refl refl, tested _ _ refl refl refl refl refl refl)), ((tested _ _ refl refl refl refl refl refl, tested _ _ refl refl refl refl refl refl), (tested _ _ refl refl refl refl refl refl, tt)))))

pub leading-only : (octets result rest : List ℕ) → Takes leading octets result → Begins body rest → SkipsTo leading octets rest → result ≡ rest
leading-only octets result rest t b s = takes-only leading body octets result rest leading-apart t b s

-- where the body begins nothing is taken
last-apart : (k : Kind) (ks : List Kind) (end : Kind) → ApartFrom k ks end → Apart k end
last-apart k [] end a = a
last-apart k (l ∷ ls) end a = last-apart k ls end a.1

takes-nothing : (ks : List Kind) (end : Kind) (octets : List ℕ) → AllApart ks end → Begins end octets → Takes ks octets octets
takes-nothing [] end octets a b = refl
takes-nothing (k ∷ ks) end octets a b =
    (octets, inr (refl, λ other s. begins-apart k end octets (last-apart k ks end a.0) (section-begins k octets other s) b), takes-nothing ks end octets a.1 b)

pub body-takes : (octets rest : List ℕ) → octets ≡ 0 ∷ 0x53 ∷ 0x77 ∷ rest → Takes leading octets octets
unfolding body
body-takes octets rest e =
    takes-nothing leading body octets leading-apart (record { inner = 0x53 ∷ 0x77 ∷ rest; value = rest; begins = e; descriptor = octet-found 0x77 (codes "amqp:amqp-value:*") (0x53 ∷ 0x77 ∷ rest) rest refl })

pub found-takes : (octets : List ℕ) (r : Option (Bor (List ℕ))) → Finds (λ rest. octets ≡ 0 ∷ 0x53 ∷ 0x77 ∷ rest) (option_copied r) → true ≡ is_some r → Takes leading octets octets
found-takes octets None h t = absurd (grind (arith, nat_tests))
found-takes octets (Some x) h t = body-takes octets x.now h

pub leading-takes : (octets a b c d e : List ℕ) → TakesOptional (0x70, codes "amqp:header:list") octets a → TakesOptional (0x71, codes "amqp:delivery-annotations:map") a b → TakesOptional (0x72, codes "amqp:message-annotations:map") b c → TakesOptional (0x73, codes "amqp:properties:list") c d → TakesOptional (0x74, codes "amqp:application-properties:map") d e → Takes leading octets e
unfolding leading
leading-takes octets a b c d e p q r s t = (a, p, (b, q, (c, r, (d, s, (e, t, refl)))))
