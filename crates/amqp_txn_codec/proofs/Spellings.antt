use Rattle.std.proofs.Common.{◌≡◌, ℕ, zero, suc, ◌+◌, ◌<◌, ◌≤◌, ◌^◌, Bool, List, [], ◌∷◌, ◌++◌, length, take, drop, Option, Some, None, refl, sym, ap, subst, ◌∙◌, arith, get_or}
use Rattle.std.specs.Int.{to_be_bytes, from_be_bytes, w32}
use Rattle.std.proofs.lemmas.List.{append-nil}
use Rattle.std.proofs.lemmas.Nat.{be_bytes_4, from_be_bytes-to_be_bytes_4}
use Rattle.amqp_txn_codec.specs.Fields.{IsId, short, long, IsGlobalId, null, some_id, IsFail, unsaid, yes, long_yes, no, long_no, IsList, empty, short_list, long_list, IsDeclare, no_field, global_id, IsDischarge, only_id, id_and_fail}
use Rattle.amqp_txn_codec.specs.Walks.{Finds, AfterId, FoundId, FoundCut, FoundOctet, FoundNumber, AfterList, FoundList, FoundFields, FoundDischarge}
use Rattle.amqp_txn_codec.proofs.Values.{same_front}
use Rattle.amqp_txn_codec.proofs.Sections.{behind, apart, Finds-via}

-- the parts of what begins with an octet, and with a number
pub behind_octet : (b c : ℕ) (x y : List ℕ) → b ∷ x ≡ c ∷ y → (b ≡ c) × (x ≡ y)
behind_octet b c x y e = (cc, cc)

pub behind_number : (m n : ℕ) (x y : List ℕ) → m < 2 ^ 32 → n < 2 ^ 32 → to_be_bytes w32 m ++ x ≡ to_be_bytes w32 n ++ y → (m ≡ n) × (x ≡ y)
behind_number m n x y low low2 e =
    let cut = same_front (to_be_bytes w32 m) (to_be_bytes w32 n) x y refl e in
    (sym (from_be_bytes-to_be_bytes_4 m low) ∙ ap (from_be_bytes w32) cut.0 ∙ from_be_bytes-to_be_bytes_4 n low2, cut.1)

-- an id has at most 32 octets
pub id-fits : (id spelling : List ℕ) → IsId id spelling → length id ≤ 32
id-fits id s (short i fits) = fits
id-fits id s (long i fits) = fits

-- an id behind 0xa0 and behind 0xb0
id-short : (octets id rest s x : List ℕ) → IsId id s → octets ≡ s ++ rest → octets ≡ 0xa0 ∷ x → x ≡ length id ∷ (id ++ rest)
id-short octets id rest s x (short i fits) e f = behind 0xa0 _ _ octets f e
id-short octets id rest s x (long i fits) e f = absurd (apart 0xa0 0xb0 _ _ octets refl f e)

id-long : (octets id rest s : List ℕ) → IsId id s → octets ≡ s ++ rest → ((x : List ℕ) → octets ≡ 0xa0 ∷ x → ⊥) → octets ≡ 0xb0 ∷ (to_be_bytes w32 (length id) ++ (id ++ rest))
id-long octets id rest s (short i fits) e h = absurd (h _ e)
id-long octets id rest s (long i fits) e h = e

module _ (octets : List ℕ) where
  pub short-none : (x : List ℕ) → octets ≡ 0xa0 ∷ x → ((found : ℕ × List ℕ) → FoundOctet x found → ⊥) → (found : List ℕ × List ℕ) → FoundId octets found → ⊥
  short-none x e h found a =
      let fits = id-fits found.0 a.spelling a.binary in
      h (length found.0, found.0 ++ found.1) (id-short octets found.0 found.1 a.spelling x a.binary a.front e, omega (arith, fits))

  pub short-found : (x others : List ℕ) (len : ℕ) (r : Option (List ℕ × List ℕ)) → octets ≡ 0xa0 ∷ x → FoundOctet x (len, others) → Finds (FoundCut len others) r → Finds (FoundId octets) r
  short-found x others len r e f h =
      Finds-via (FoundCut len others) (FoundId octets)
      (λ found c. record {
        spelling = 0xa0 ∷ length found.0 ∷ found.0;
        binary = short found.0 c.short;
        front = e ∙ ap (λ (l : List ℕ). 0xa0 ∷ l) (f.0 ∙ joined len (length found.0) others (found.0 ++ found.1) (sym c.size) c.front);
      })
      (λ found a.
      let cut = behind_octet len (length found.0) others (found.0 ++ found.1) (sym f.0 ∙ id-short octets found.0 found.1 a.spelling x a.binary a.front e) in
      record { short = id-fits found.0 a.spelling a.binary; size = sym cut.0; front = cut.1 })
      r h
    where
      joined : (a b : ℕ) (x y : List ℕ) → a ≡ b → x ≡ y → a ∷ x ≡ b ∷ y
      joined a b x y p q = cc

  module _ (not_short : (x : List ℕ) → octets ≡ 0xa0 ∷ x → ⊥) where
    pub long-unsized : (x : List ℕ) → octets ≡ 0xb0 ∷ x → ((found : ℕ × List ℕ) → FoundNumber x found → ⊥) → (found : List ℕ × List ℕ) → FoundId octets found → ⊥
    long-unsized x e h found a =
        let low : length found.0 < 2 ^ 32 = omega (arith, id-fits found.0 a.spelling a.binary) in
        h (length found.0, found.0 ++ found.1) (behind 0xb0 x _ octets e (id-long octets found.0 found.1 a.spelling a.binary a.front not_short), low)

    pub long-found : (x others : List ℕ) (len : ℕ) (r : Option (List ℕ × List ℕ)) → octets ≡ 0xb0 ∷ x → FoundNumber x (len, others) → Finds (FoundCut len others) r → Finds (FoundId octets) r
    long-found x others len r e f h =
        Finds-via (FoundCut len others) (FoundId octets)
        (λ found c. record {
          spelling = 0xb0 ∷ to_be_bytes w32 (length found.0) ++ found.0;
          binary = long found.0 c.short;
          front = e ∙ ap (λ (l : List ℕ). 0xb0 ∷ l) (f.0 ∙ rw (c.size, c.front) refl);
        })
        (λ found a.
        let fits = id-fits found.0 a.spelling a.binary in
        let low : length found.0 < 2 ^ 32 = omega (arith, fits) in
        let cut = behind_number len (length found.0) others (found.0 ++ found.1) f.1 low (sym f.0 ∙ behind 0xb0 x _ octets e (id-long octets found.0 found.1 a.spelling a.binary a.front not_short)) in
        record { short = fits; size = sym cut.0; front = cut.1 })
        r h

-- four octets are one number
pub four : (octets front rest : List ℕ) (n : ℕ) → front ≡ take 4 octets → rest ≡ drop 4 octets → length rest + 4 ≡ length octets → ((i : ℕ) → get_or octets i 0 < 256) → n ≡ from_be_bytes w32 front → octets ≡ to_be_bytes w32 n ++ rest
four (a ∷ b ∷ c ∷ d ∷ xs) front rest n f r len low is =
    let e : to_be_bytes w32 n ≡ a ∷ b ∷ c ∷ d ∷ [] = be_bytes_4 (a ∷ b ∷ c ∷ d ∷ []) n refl (bytes (low 0) (low 1) (low 2) (low 3)) (is ∙ ap (from_be_bytes w32) f) in
    sym (ap (λ (l : List ℕ). l ++ rest) e ∙ ap (λ (l : List ℕ). a ∷ b ∷ c ∷ d ∷ l) r)
  where
    bytes : a < 256 → b < 256 → c < 256 → d < 256 → (i : ℕ) → get_or (a ∷ b ∷ c ∷ d ∷ []) i 0 < 256
    bytes p q s t zero = p
    bytes p q s t (suc zero) = q
    bytes p q s t (suc (suc zero)) = s
    bytes p q s t (suc (suc (suc zero))) = t
    bytes p q s t (suc (suc (suc (suc i)))) = omega arith
four (a ∷ b ∷ c ∷ []) front rest n f r len low is = absurd (omega arith)
four (a ∷ b ∷ []) front rest n f r len low is = absurd (omega arith)
four (a ∷ []) front rest n f r len low is = absurd (omega arith)
four [] front rest n f r len low is = absurd (omega arith)

pub fail-none : (octets : List ℕ) → (octets ≡ 0x40 ∷ [] → ⊥) → (octets ≡ 0x41 ∷ [] → ⊥) → (octets ≡ 0x56 ∷ 1 ∷ [] → ⊥) → (octets ≡ 0x42 ∷ [] → ⊥) → (octets ≡ 0x56 ∷ 0 ∷ [] → ⊥) → (fail : Option Bool) → IsFail fail octets → ⊥
fail-none octets a b c d e fail f = by fail octets f a b c d e
  where
    by : (fail : Option Bool) (s : List ℕ) → IsFail fail s → (s ≡ 0x40 ∷ [] → ⊥) → (s ≡ 0x41 ∷ [] → ⊥) → (s ≡ 0x56 ∷ 1 ∷ [] → ⊥) → (s ≡ 0x42 ∷ [] → ⊥) → (s ≡ 0x56 ∷ 0 ∷ [] → ⊥) → ⊥
    by fail s unsaid a b c d e = a refl
    by fail s yes a b c d e = b refl
    by fail s long_yes a b c d e = c refl
    by fail s no a b c d e = d refl
    by fail s long_no a b c d e = e refl

-- a list behind 0xc0, and behind 0xd0
record ShortList (x : List ℕ) (count : ℕ) (fields rest : List ℕ) : Type 0 where
  sized : length fields + 1 < 2 ^ 8
  counted : count < 2 ^ 8
  whole : x ≡ (length fields + 1) ∷ count ∷ (fields ++ rest)

listed-short : (octets rest fields : List ℕ) (count : ℕ) (s x : List ℕ) → IsList count fields s → octets ≡ s ++ rest → octets ≡ 0xc0 ∷ x → ShortList x count fields rest
listed-short octets rest fields count s x empty e f = absurd (apart 0xc0 0x45 _ _ octets refl f e)
listed-short octets rest fields count s x (short_list n m a b) e f = record { sized = a; counted = b; whole = behind 0xc0 _ _ octets f e }
listed-short octets rest fields count s x (long_list n m a b) e f = absurd (apart 0xc0 0xd0 _ _ octets refl f e)

record LongList (octets : List ℕ) (count : ℕ) (fields rest : List ℕ) : Type 0 where
  sized : length fields + 4 < 2 ^ 32
  counted : count < 2 ^ 32
  whole : octets ≡ 0xd0 ∷ (to_be_bytes w32 (length fields + 4) ++ (to_be_bytes w32 count ++ (fields ++ rest)))

listed-long : (octets rest fields : List ℕ) (count : ℕ) (s : List ℕ) → IsList count fields s → octets ≡ s ++ rest → ((x : List ℕ) → octets ≡ 0x45 ∷ x → ⊥) → ((x : List ℕ) → octets ≡ 0xc0 ∷ x → ⊥) → LongList octets count fields rest
listed-long octets rest fields count s empty e g h = absurd (g _ e)
listed-long octets rest fields count s (short_list n m a b) e g h = absurd (h _ e)
listed-long octets rest fields count s (long_list n m a b) e g h = record { sized = a; counted = b; whole = e }

module _ (octets : List ℕ) where
  pub list-empty : (rest : List ℕ) → octets ≡ 0x45 ∷ rest → AfterList octets 0 [] rest
  list-empty rest e = record { spelling = 0x45 ∷ []; listed = empty; front = e }

  pub short-unsized : (x : List ℕ) → octets ≡ 0xc0 ∷ x → ((found : ℕ × List ℕ) → FoundOctet x found → ⊥) → (found : ℕ × List ℕ × List ℕ) → FoundList octets found → ⊥
  short-unsized x e h found a =
      let l = listed-short octets found.2 found.1 found.0 a.spelling x a.listed a.front e in
      h (length found.1 + 1, found.0 ∷ (found.1 ++ found.2)) (l.whole, l.sized)

  pub short-uncounted : (x y : List ℕ) (size : ℕ) → octets ≡ 0xc0 ∷ x → FoundOctet x (size, y) → ((found : ℕ × List ℕ) → FoundOctet y found → ⊥) → (found : ℕ × List ℕ × List ℕ) → FoundList octets found → ⊥
  short-uncounted x y size e f h found a =
      let l = listed-short octets found.2 found.1 found.0 a.spelling x a.listed a.front e in
      let cut = behind_octet size (length found.1 + 1) y (found.0 ∷ (found.1 ++ found.2)) (sym f.0 ∙ l.whole) in
      h (found.0, found.1 ++ found.2) (cut.1, l.counted)

  pub short-listed : (x y z : List ℕ) (size count : ℕ) (r : Option (ℕ × List ℕ × List ℕ)) → octets ≡ 0xc0 ∷ x → FoundOctet x (size, y) → FoundOctet y (count, z) → Finds (FoundFields size 1 count z) r → Finds (FoundList octets) r
  short-listed x y z size count r e f g h =
      Finds-via (FoundFields size 1 count z) (FoundList octets)
      (λ found c.
      let low : length found.1 + 1 < 2 ^ 8 = omega (arith, f.1, c.2) in
      let low2 : found.0 < 2 ^ 8 = omega (arith, g.1, c.0) in
      record {
        spelling = 0xc0 ∷ (length found.1 + 1) ∷ found.0 ∷ found.1;
        listed = short_list found.0 found.1 low low2;
        front = e ∙ ap (λ (l : List ℕ). 0xc0 ∷ l) (f.0 ∙ ap (λ (l : List ℕ). size ∷ l) g.0 ∙ three size (length found.1 + 1) count found.0 z (found.1 ++ found.2) (sym c.2) (sym c.0) c.1);
      })
      (λ found a.
      let l = listed-short octets found.2 found.1 found.0 a.spelling x a.listed a.front e in
      let cut = behind_octet size (length found.1 + 1) y (found.0 ∷ (found.1 ++ found.2)) (sym f.0 ∙ l.whole) in
      let more = behind_octet count found.0 z (found.1 ++ found.2) (sym g.0 ∙ cut.1) in
      (sym more.0, more.1, sym cut.0))
      r h
    where
      three : (a b c d : ℕ) (x y : List ℕ) → a ≡ b → c ≡ d → x ≡ y → a ∷ c ∷ x ≡ b ∷ d ∷ y
      three a b c d x y p q s = cc

  module _ (not_empty : (x : List ℕ) → octets ≡ 0x45 ∷ x → ⊥) (not_short : (x : List ℕ) → octets ≡ 0xc0 ∷ x → ⊥) where
    pub long-list_unsized : (x : List ℕ) → octets ≡ 0xd0 ∷ x → ((found : ℕ × List ℕ) → FoundNumber x found → ⊥) → (found : ℕ × List ℕ × List ℕ) → FoundList octets found → ⊥
    long-list_unsized x e h found a =
        let l = listed-long octets found.2 found.1 found.0 a.spelling a.listed a.front not_empty not_short in
        h (length found.1 + 4, to_be_bytes w32 found.0 ++ (found.1 ++ found.2)) (behind 0xd0 x _ octets e l.whole, l.sized)

    pub long-list_uncounted : (x y : List ℕ) (size : ℕ) → octets ≡ 0xd0 ∷ x → FoundNumber x (size, y) → ((found : ℕ × List ℕ) → FoundNumber y found → ⊥) → (found : ℕ × List ℕ × List ℕ) → FoundList octets found → ⊥
    long-list_uncounted x y size e f h found a =
        let l = listed-long octets found.2 found.1 found.0 a.spelling a.listed a.front not_empty not_short in
        let cut = behind_number size (length found.1 + 4) y (to_be_bytes w32 found.0 ++ (found.1 ++ found.2)) f.1 l.sized (sym f.0 ∙ behind 0xd0 x _ octets e l.whole) in
        h (found.0, found.1 ++ found.2) (cut.1, l.counted)

    pub long-listed : (x y z : List ℕ) (size count : ℕ) (r : Option (ℕ × List ℕ × List ℕ)) → octets ≡ 0xd0 ∷ x → FoundNumber x (size, y) → FoundNumber y (count, z) → Finds (FoundFields size 4 count z) r → Finds (FoundList octets) r
    long-listed x y z size count r e f g h =
        Finds-via (FoundFields size 4 count z) (FoundList octets)
        (λ found c.
        let low : length found.1 + 4 < 2 ^ 32 = omega (arith, f.1, c.2) in
        let low2 : found.0 < 2 ^ 32 = omega (arith, g.1, c.0) in
        record {
          spelling = 0xd0 ∷ to_be_bytes w32 (length found.1 + 4) ++ (to_be_bytes w32 found.0 ++ found.1);
          listed = long_list found.0 found.1 low low2;
          front = e ∙ ap (λ (l : List ℕ). 0xd0 ∷ l) (f.0 ∙ numbers size (length found.1 + 4) count found.0 y z (found.1 ++ found.2) (sym c.2) g.0 (sym c.0) c.1);
        })
        (λ found a.
        let l = listed-long octets found.2 found.1 found.0 a.spelling a.listed a.front not_empty not_short in
        let cut = behind_number size (length found.1 + 4) y (to_be_bytes w32 found.0 ++ (found.1 ++ found.2)) f.1 l.sized (sym f.0 ∙ behind 0xd0 x _ octets e l.whole) in
        let more = behind_number count found.0 z (found.1 ++ found.2) g.1 l.counted (sym g.0 ∙ cut.1) in
        (sym more.0, more.1, sym cut.0))
        r h
      where
        numbers : (a b c d : ℕ) (y z w : List ℕ) → a ≡ b → y ≡ to_be_bytes w32 c ++ z → c ≡ d → z ≡ w → to_be_bytes w32 a ++ y ≡ to_be_bytes w32 b ++ (to_be_bytes w32 d ++ w)
        numbers a b c d y z w p q s t = rw (p, q, s, t) refl

-- an id has one spelling at the front
pub id-one_end : (octets id id2 rest rest2 : List ℕ) → AfterId octets id rest → AfterId octets id2 rest2 → (id ≡ id2) × (rest ≡ rest2)
id-one_end octets id id2 rest rest2 a b = by a.spelling b.spelling a.binary b.binary a.front b.front
  where
    low : length id < 2 ^ 32
    low = omega (arith, id-fits id a.spelling a.binary)

    low2 : length id2 < 2 ^ 32
    low2 = omega (arith, id-fits id2 b.spelling b.binary)

    by : (s t : List ℕ) → IsId id s → IsId id2 t → octets ≡ s ++ rest → octets ≡ t ++ rest2 → (id ≡ id2) × (rest ≡ rest2)
    by s t (short i p) (short j q) e f =
        let cut = behind_octet (length id) (length id2) (id ++ rest) (id2 ++ rest2) (behind 0xa0 _ _ octets e f) in
        same_front id id2 rest rest2 cut.0 cut.1
    by s t (long i p) (long j q) e f =
        let cut = behind_number (length id) (length id2) (id ++ rest) (id2 ++ rest2) low low2 (behind 0xb0 _ _ octets e f) in
        same_front id id2 rest rest2 cut.0 cut.1
    by s t (short i p) (long j q) e f = absurd (apart 0xa0 0xb0 _ _ octets refl e f)
    by s t (long i p) (short j q) e f = absurd (apart 0xb0 0xa0 _ _ octets refl e f)

-- an id alone, and an id with nothing behind it
pub id-alone : (octets id : List ℕ) → AfterId octets id [] → IsId id octets
id-alone octets id a = subst (IsId id) (sym (a.front ∙ append-nil a.spelling)) a.binary

pub id-whole : (octets id : List ℕ) → IsId id octets → AfterId octets id []
id-whole octets id a = record { spelling = octets; binary = a; front = sym (append-nil octets) }

-- an id, and an id with these octets behind it
pub id-before : (id octets more : List ℕ) → IsId id octets → AfterId (octets ++ more) id more
id-before id octets more a = record { spelling = octets; binary = a; front = refl }

-- 0x40 begins no id
pub null-no_id : (id rest : List ℕ) → AfterId (0x40 ∷ []) id rest → ⊥
null-no_id id rest a = by a.spelling a.binary a.front
  where
    by : (s : List ℕ) → IsId id s → 0x40 ∷ [] ≡ s ++ rest → ⊥
    by s (short i p) e = apart 0x40 0xa0 [] _ (0x40 ∷ []) refl refl e
    by s (long i p) e = apart 0x40 0xb0 [] _ (0x40 ∷ []) refl refl e

-- a global id that is not null is an id
global-id_of : (fields : List ℕ) (found : Option (List ℕ)) → (fields ≡ 0x40 ∷ [] → ⊥) → IsGlobalId found fields → (id : List ℕ) × AfterId fields id []
global-id_of fields found n null = absurd (n refl)
global-id_of fields found n (some_id i f a) = (i, id-whole f i a)

-- the fields of a declare, by their number
pub declare-no_id : (count : ℕ) (fields : List ℕ) (found : Option (List ℕ)) → (count ≡ 0 → ⊥) → (fields ≡ 0x40 ∷ [] → ⊥) → ((x : List ℕ × List ℕ) → FoundId fields x → ⊥) → IsDeclare count fields found → ⊥
declare-no_id count fields found z n h no_field = z refl
declare-no_id count fields found z n h (global_id i f a) =
    let whole = global-id_of f i n a in
    h (whole.0, []) whole.1

pub declare-more : (count : ℕ) (fields id rest : List ℕ) (found : Option (List ℕ)) → (count ≡ 0 → ⊥) → (fields ≡ 0x40 ∷ [] → ⊥) → AfterId fields id rest → (rest ≡ [] → ⊥) → IsDeclare count fields found → ⊥
declare-more count fields id rest found z n a h no_field = z refl
declare-more count fields id rest found z n a h (global_id i f b) =
    let whole = global-id_of f i n b in
    h (id-one_end f id whole.0 rest [] a whole.1).1

pub declare-found : (fields id rest : List ℕ) → AfterId fields id rest → rest ≡ [] → IsDeclare 1 fields (Some id)
declare-found fields id rest a e = global_id (Some id) fields (some_id id fields (id-alone fields id (subst (AfterId fields id) e a)))

pub discharge-no_id : (count : ℕ) (fields : List ℕ) → ((x : List ℕ × List ℕ) → FoundId fields x → ⊥) → (found : List ℕ × Option Bool) → FoundDischarge count fields found → ⊥
discharge-no_id count fields h found d = by count fields found.0 found.1 h d
  where
    by : (count : ℕ) (fields id : List ℕ) (fail : Option Bool) → ((x : List ℕ × List ℕ) → FoundId fields x → ⊥) → IsDischarge count fields id fail → ⊥
    by count fields id fail h (only_id i f a) = h (i, []) (id-whole f i a)
    by count fields id fail h (id_and_fail i x f r a b) = h (i, r) (id-before i f r a)

pub discharge-more : (count : ℕ) (fields id rest : List ℕ) → count ≡ 1 → AfterId fields id rest → (rest ≡ [] → ⊥) → (found : List ℕ × Option Bool) → FoundDischarge count fields found → ⊥
discharge-more count fields id rest o a h found d = by count fields found.0 found.1 o a d
  where
    by : (count : ℕ) (fields id2 : List ℕ) (fail : Option Bool) → count ≡ 1 → AfterId fields id rest → IsDischarge count fields id2 fail → ⊥
    by count fields id2 fail o a (only_id i f b) = h (id-one_end fields id i rest [] a (id-whole f i b)).1
    by count fields id2 fail o a (id_and_fail i x f r b c) = omega arith

pub discharge-no_fail : (count : ℕ) (fields id rest : List ℕ) → (count ≡ 1 → ⊥) → AfterId fields id rest → ((x : Option Bool) → IsFail x rest → ⊥) → (found : List ℕ × Option Bool) → FoundDischarge count fields found → ⊥
discharge-no_fail count fields id rest o a h found d = by count fields found.0 found.1 o a d
  where
    by : (count : ℕ) (fields id2 : List ℕ) (fail : Option Bool) → (count ≡ 1 → ⊥) → AfterId fields id rest → IsDischarge count fields id2 fail → ⊥
    by count fields id2 fail o a (only_id i f b) = o refl
    by count fields id2 fail o a (id_and_fail i x f r b c) = h x (subst (IsFail x) (sym (id-one_end fields id i rest r a (id-before i f r b)).1) c)

-- the id with nothing behind it, and with a fail
pub discharge-found : (fields id rest : List ℕ) → AfterId fields id rest → rest ≡ [] → IsDischarge 1 fields id None
discharge-found fields id rest a e = only_id id fields (id-alone fields id (subst (AfterId fields id) e a))

pub discharge-fails : (fields id rest : List ℕ) (fail : Option Bool) → AfterId fields id rest → IsFail fail rest → IsDischarge 2 fields id fail
discharge-fails fields id rest fail a f = subst (λ (l : List ℕ). IsDischarge 2 l id fail) (sym a.front) (id_and_fail id fail a.spelling rest a.binary f)

-- a list has one reading at the front
pub record SameList (count count2 : ℕ) (fields fields2 rest rest2 : List ℕ) : Type 0 where
  pub counts : count ≡ count2
  pub lists : fields ≡ fields2
  pub rests : rest ≡ rest2

cut_list : (a b count count2 : ℕ) (fields fields2 rest rest2 : List ℕ) → length fields + a ≡ length fields2 + a → count ≡ count2 → fields ++ rest ≡ fields2 ++ rest2 → SameList count count2 fields fields2 rest rest2
cut_list a b count count2 fields fields2 rest rest2 n c e =
    let m : length fields ≡ length fields2 = omega arith in
    let cut = same_front fields fields2 rest rest2 m e in
    record { counts = c; lists = cut.0; rests = cut.1 }

pub list-one_end : (octets fields fields2 rest rest2 : List ℕ) (count count2 : ℕ) → AfterList octets count fields rest → AfterList octets count2 fields2 rest2 → SameList count count2 fields fields2 rest rest2
list-one_end octets fields fields2 rest rest2 count count2 a b = by fields count fields2 count2 a.spelling b.spelling a.listed b.listed a.front b.front
  where
    by : (fields : List ℕ) (count : ℕ) (fields2 : List ℕ) (count2 : ℕ) (s t : List ℕ) → IsList count fields s → IsList count2 fields2 t → octets ≡ s ++ rest → octets ≡ t ++ rest2 → SameList count count2 fields fields2 rest rest2
    by fields count fields2 count2 s t empty empty e f = record { counts = refl; lists = refl; rests = behind 0x45 _ _ octets e f }
    by fields count fields2 count2 s t (short_list n m p q) (short_list k l u v) e f =
        let one = behind_octet (length fields + 1) (length fields2 + 1) _ _ (behind 0xc0 _ _ octets e f) in
        let two = behind_octet count count2 _ _ one.1 in
        cut_list 1 1 count count2 fields fields2 rest rest2 one.0 two.0 two.1
    by fields count fields2 count2 s t (long_list n m p q) (long_list k l u v) e f =
        let one = behind_number (length fields + 4) (length fields2 + 4) (to_be_bytes w32 count ++ (fields ++ rest)) (to_be_bytes w32 count2 ++ (fields2 ++ rest2)) p u (behind 0xd0 _ _ octets e f) in
        let two = behind_number count count2 (fields ++ rest) (fields2 ++ rest2) q v one.1 in
        cut_list 4 4 count count2 fields fields2 rest rest2 one.0 two.0 two.1
    by fields count fields2 count2 s t empty (short_list k l u v) e f = absurd (apart 0x45 0xc0 _ _ octets refl e f)
    by fields count fields2 count2 s t empty (long_list k l u v) e f = absurd (apart 0x45 0xd0 _ _ octets refl e f)
    by fields count fields2 count2 s t (short_list k l u v) empty e f = absurd (apart 0xc0 0x45 _ _ octets refl e f)
    by fields count fields2 count2 s t (short_list n m p q) (long_list k l u v) e f = absurd (apart 0xc0 0xd0 _ _ octets refl e f)
    by fields count fields2 count2 s t (long_list k l u v) empty e f = absurd (apart 0xd0 0x45 _ _ octets refl e f)
    by fields count fields2 count2 s t (long_list k l u v) (short_list n m p q) e f = absurd (apart 0xd0 0xc0 _ _ octets refl e f)
