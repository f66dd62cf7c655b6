use Rattle.std.proofs.Common.{◌≡◌, ℕ, ◌+◌, ◌<◌, ◌≤◌, ◌^◌, inl, Bool, true, false, List, [], ◌∷◌, ◌++◌, length, Option, Some, None, refl, sym, ap, subst, ◌∙◌, arith, length-append, true≢false, nat_eq, IfSome}
use Rattle.std.specs.Cmp.Lexicographic.{pointwise, nat_list_eq_equiv}
use Rattle.std.proofs.lemmas.List.{append-nil}
use Rattle.amqp_txn_codec.specs.declared.message.ControlMessageBody.{ControlMessageBody}
use Rattle.amqp_txn_codec.specs.declared.message.ControlMessageBody.TheVariants as messages
use Rattle.amqp_txn_codec.specs.Sections.{Kind, by_octet, SkippedInOrder, no_more, left_out, leading, body}
use Rattle.amqp_txn_codec.specs.Fields.{short, IsList, empty, short_list, IsFail, unsaid, yes, long_yes, no, long_no, no_field, IsDischarge, only_id, id_and_fail}
use Rattle.amqp_txn_codec.specs.Messages.{declare_list, discharge_list, IsMessageList, declare, discharge, amqp_value, SpellsMessage}
use Rattle.amqp_txn_codec.specs.Canon as canonical
use Rattle.amqp_txn_codec.specs.Canon.{HoldsShortIds}
use Rattle.amqp_txn_codec.specs.Walks.{AfterId, AfterBody, GivesMessage, WalksTo}
use Rattle.amqp_txn_codec.specs.Walks as walks
use Rattle.amqp_txn_codec.proofs.Spellings.{id-one_end, id-whole, id-before, declare-found, discharge-found, discharge-fails}
use Rattle.amqp_txn_codec.proofs.Leading.{leading-apart}
use Rattle.amqp_txn_codec.proofs.Bodies.{skips-one, declare-one, body-one_end, body-begins}

texts-apart : (s t : List ℕ) → pointwise nat_eq s t ≡ false → s ≡ t → ⊥
texts-apart s t differ same =
    let is : pointwise nat_eq t t ≡ true = nat_list_eq_equiv.refl t in
    let not : pointwise nat_eq t t ≡ false = rw same at differ in
    true≢false (sym is ∙ not)

fail-one : (x y : Option Bool) (s t : List ℕ) → s ≡ t → IsFail x s → IsFail y t → x ≡ y
fail-one x y s t e unsaid unsaid = refl
fail-one x y s t e yes yes = refl
fail-one x y s t e yes long_yes = refl
fail-one x y s t e long_yes yes = refl
fail-one x y s t e long_yes long_yes = refl
fail-one x y s t e no no = refl
fail-one x y s t e no long_no = refl
fail-one x y s t e long_no no = refl
fail-one x y s t e long_no long_no = refl
fail-one x y s t e a b = absurd (texts-apart _ _ refl e)

-- the fields of a discharge give one id and one fail
discharge-one : (n k : ℕ) (f g i j : List ℕ) (x y : Option Bool) → n ≡ k → f ≡ g → IsDischarge n f i x → IsDischarge k g j y → (i ≡ j) × (x ≡ y)
discharge-one n k f g i j x y p q (only_id i1 h a) (only_id j1 l b) = ((id-one_end g i j [] [] (subst (λ (z : List ℕ). AfterId z i []) q (id-whole h i a)) (id-whole l j b)).0, refl)
discharge-one n k f g i j x y p q (only_id i1 h a) (id_and_fail j1 z l r b c) = absurd (omega arith)
discharge-one n k f g i j x y p q (id_and_fail i1 z l r b c) (only_id j1 h a) = absurd (omega arith)
discharge-one n k f g i j x y p q (id_and_fail i1 z h r a b) (id_and_fail j1 w l s c d) =
    let same = id-one_end g i j r s (subst (λ (v : List ℕ). AfterId v i r) q (id-before i h r a)) (id-before j l s c) in
    (same.0, fail-one x y r s same.1 b d)

pub message-one : (d e : Bool) (n k : ℕ) (f g : List ℕ) (m l : ControlMessageBody) → d ≡ e → n ≡ k → f ≡ g → GivesMessage d n f m → GivesMessage e k g l → m ≡ l
message-one d e n k f g m l o p q (walks.declare a b x h) (walks.declare u v y i) = ap (λ (z : Option (List ℕ)). messages.Declare (record { global_id = z })) (declare-one n k f g x y p q h i)
message-one d e n k f g m l o p q (walks.declare a b x h) (walks.discharge u v y z i) = absurd (true≢false o)
message-one d e n k f g m l o p q (walks.discharge a b x w h) (walks.declare u v y i) = absurd (true≢false (sym o))
message-one d e n k f g m l o p q (walks.discharge a b x w h) (walks.discharge u v y z i) =
    let same = discharge-one n k f g x y w z p q h i in
    rw (same.0, same.1) refl

-- octets are walked to at most one message
pub one_walk : (bytes : List ℕ) (m l : ControlMessageBody) → WalksTo bytes m → WalksTo bytes l → m ≡ l
one_walk bytes m l s t =
    let start : t.start ≡ s.start = skips-one leading body bytes t.start s.start leading-apart t.before s.before (body-begins t.start t.declares t.count t.fields t.end t.body_after) (body-begins s.start s.declares s.count s.fields s.end s.body_after) in
    let there : AfterBody s.start t.declares t.count t.fields t.end = subst (λ (z : List ℕ). AfterBody z t.declares t.count t.fields t.end) start t.body_after in
    let same = body-one_end s.start s.declares t.declares s.count t.count s.fields t.fields s.end t.end s.body_after there in
    message-one s.declares t.declares s.count t.count s.fields t.fields m l same.kinds same.counts same.lists s.gives t.gives

-- no section is skipped
none-skipped : (kinds : List Kind) → SkippedInOrder kinds []
none-skipped [] = no_more
none-skipped (k ∷ ks) = left_out k ks [] (none-skipped ks)

-- a body alone, its descriptor by the number in one octet
body-alone : (m : ControlMessageBody) (list : List ℕ) → IsMessageList m list → SpellsMessage (0 ∷ 0x53 ∷ 0x77 ∷ list) m
unfolding body
body-alone m list l = record {
  before = [];
  middle = 0 ∷ 0x53 ∷ 0x77 ∷ list;
  behind = [];
  whole = sym (append-nil (0 ∷ 0x53 ∷ 0x77 ∷ list));
  skipped = none-skipped leading;
  message_list = amqp_value m (0x53 ∷ 0x77 ∷ []) list (by_octet _ _) l;
  end = inl refl;
}

-- an id and what follows it, in a list
listed_id : (count : ℕ) (id tail : List ℕ) → count < 2 ^ 8 → length id ≤ 32 → length tail ≤ 1 → IsList count (0xa0 ∷ length id ∷ (id ++ tail)) (0xc0 ∷ (length id + length tail + 3) ∷ count ∷ 0xa0 ∷ length id ∷ (id ++ tail))
listed_id count id tail low fits little =
    let fields : List ℕ = 0xa0 ∷ length id ∷ (id ++ tail) in
    let size : length fields + 1 ≡ length id + length tail + 3 = omega (arith, length-append id tail) in
    let short_size : length fields + 1 < 2 ^ 8 = omega (arith, length-append id tail) in
    subst (λ (n : ℕ). IsList count fields (0xc0 ∷ n ∷ count ∷ fields)) size (short_list count fields short_size low)

id-first : (id : List ℕ) (tail : List ℕ) → length id ≤ 32 → AfterId (0xa0 ∷ length id ∷ (id ++ tail)) id tail
id-first id tail fits = record { spelling = 0xa0 ∷ length id ∷ id; binary = short id fits; front = refl }

canon-declare : (global_id : Option (List ℕ)) → IfSome global_id (λ id. length id ≤ 32) → SpellsMessage (canonical.canon_declare global_id) (messages.Declare (record { global_id = global_id }))
unfolding canonical.canon_declare canonical.with_id declare_list
canon-declare None fits = body-alone _ _ (declare (0x53 ∷ 0x31 ∷ []) (0x45 ∷ []) [] 0 None (by_octet _ _) empty no_field)
canon-declare (Some id) fits =
    body-alone _ _ (declare (0x53 ∷ 0x31 ∷ []) _ _ 1 (Some id) (by_octet _ _) (listed_id 1 id [] (omega arith) fits (omega arith)) (declare-found _ id [] (id-first id [] fits) refl))

canon-discharge : (id : List ℕ) (fail : Option Bool) → length id ≤ 32 → SpellsMessage (canonical.canon_discharge id fail) (messages.Discharge (record { txn_id = id; fail = fail }))
unfolding canonical.canon_discharge canonical.with_id discharge_list
canon-discharge id None fits =
    body-alone _ _ (discharge (0x53 ∷ 0x32 ∷ []) _ _ 1 id None (by_octet _ _) (listed_id 1 id [] (omega arith) fits (omega arith)) (discharge-found _ id [] (id-first id [] fits) refl))
canon-discharge id (Some true) fits =
    body-alone _ _ (discharge (0x53 ∷ 0x32 ∷ []) _ _ 2 id (Some true) (by_octet _ _) (listed_id 2 id (0x41 ∷ []) (omega arith) fits (omega arith)) (discharge-fails _ id (0x41 ∷ []) (Some true) (id-first id (0x41 ∷ []) fits) yes))
canon-discharge id (Some false) fits =
    body-alone _ _ (discharge (0x53 ∷ 0x32 ∷ []) _ _ 2 id (Some false) (by_octet _ _) (listed_id 2 id (0x42 ∷ []) (omega arith) fits (omega arith)) (discharge-fails _ id (0x42 ∷ []) (Some false) (id-first id (0x42 ∷ []) fits) no))

-- the canonical spelling spells its message
pub canon-spells : (m : ControlMessageBody) → HoldsShortIds m → SpellsMessage (canonical.canon m) m
canon-spells (messages.Declare d) fits = canon-declare d.global_id fits
canon-spells (messages.Discharge d) fits = canon-discharge d.txn_id d.fail fits
