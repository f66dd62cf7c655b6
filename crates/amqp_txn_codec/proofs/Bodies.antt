use Rattle.std.proofs.Common.{◌≡◌, ℕ, inl, inr, Bool, true, false, List, [], ◌∷◌, Option, Some, refl, sym, ap, subst, ◌∙◌, arith, codes, true≢false}
use Rattle.amqp_txn_codec.specs.declared.message.ControlMessageBody.{ControlMessageBody}
use Rattle.amqp_txn_codec.specs.Sections.{Kind, leading, body, footer}
use Rattle.amqp_txn_codec.specs.Fields.{IsDeclare, IsGlobalId, null, some_id, no_field, global_id}
use Rattle.amqp_txn_codec.specs.Messages.{declare_list, discharge_list}
use Rattle.amqp_txn_codec.specs.Walks.{Finds, AfterDescriptor, SkipsTo, Begins, TakesOptional, AfterList, FoundList, FoundDischarge, AfterId, message_kind, FoundKind, AfterBody, FoundBody, GivesMessage, declare, discharge, WalksTo}
use Rattle.amqp_txn_codec.proofs.Sections.{behind, Finds-via, descriptor-one_end}
use Rattle.amqp_txn_codec.proofs.Leading.{Apart, AllApart, tested, spelled-apart, section-begins, section-one_end, not-over}
use Rattle.amqp_txn_codec.proofs.Spellings.{list-one_end, null-no_id, id-one_end, id-whole}

kinds-apart : Apart (message_kind true) (message_kind false)
unfolding message_kind declare_list discharge_list
kinds-apart = tested _ _ refl refl refl refl refl refl

pub kind-none : (octets : List ℕ) → ((x : List ℕ) → AfterDescriptor 0x31 (codes "amqp:declare:list") octets x → ⊥) → ((x : List ℕ) → AfterDescriptor 0x32 (codes "amqp:discharge:list") octets x → ⊥) → (found : Bool × List ℕ) → FoundKind octets found → ⊥
unfolding message_kind declare_list discharge_list
kind-none octets h k found d = by found.0 d
  where
    by : (b : Bool) → FoundKind octets (b, found.1) → ⊥
    by true d = h found.1 d
    by false d = k found.1 d

pub kind-declare : (octets list : List ℕ) → AfterDescriptor 0x31 (codes "amqp:declare:list") octets list → FoundKind octets (true, list)
unfolding message_kind declare_list discharge_list
kind-declare octets list d = d

pub kind-discharge : (octets list : List ℕ) → AfterDescriptor 0x32 (codes "amqp:discharge:list") octets list → FoundKind octets (false, list)
unfolding message_kind declare_list discharge_list
kind-discharge octets list d = d

pub kind-one : (octets : List ℕ) (x y : Bool) (l m : List ℕ) → FoundKind octets (x, l) → FoundKind octets (y, m) → (x ≡ y) × (l ≡ m)
kind-one octets true true l m a b = (refl, descriptor-one_end _ _ octets l m a b)
kind-one octets false false l m a b = (refl, descriptor-one_end _ _ octets l m a b)
kind-one octets true false l m a b = absurd (spelled-apart _ _ _ _ octets l m a.spelling b.spelling kinds-apart a.descriptor b.descriptor a.front b.front)
kind-one octets false true l m a b = absurd (spelled-apart _ _ _ _ octets m l b.spelling a.spelling kinds-apart b.descriptor a.descriptor b.front a.front)

-- where a body is read so far, any body goes on there
module _ (octets : List ℕ) where
  module _ (inner : List ℕ) (e : octets ≡ 0 ∷ inner) where
    go_value : (d : Bool) (n : ℕ) (f r : List ℕ) (b : AfterBody octets d n f r) → AfterDescriptor body.0 body.1 inner b.value
    go_value d n f r b = subst (λ (l : List ℕ). AfterDescriptor body.0 body.1 l b.value) (behind 0 b.inner inner octets b.begins e) b.descriptor

    pub body-no_descriptor : ((x : List ℕ) → AfterDescriptor body.0 body.1 inner x → ⊥) → (found : Bool × ℕ × List ℕ × List ℕ) → FoundBody octets found → ⊥
    body-no_descriptor h found b = h b.value (go_value found.0 found.1 found.2 found.3 b)

    module _ (value : List ℕ) (g : AfterDescriptor body.0 body.1 inner value) where
      go_described : (d : Bool) (n : ℕ) (f r : List ℕ) (b : AfterBody octets d n f r) → value ≡ 0 ∷ b.described
      go_described d n f r b = descriptor-one_end body.0 body.1 inner value b.value g (go_value d n f r b) ∙ b.list_begins

      pub body-no_list : ((x : List ℕ) → value ≡ 0 ∷ x → ⊥) → (found : Bool × ℕ × List ℕ × List ℕ) → FoundBody octets found → ⊥
      body-no_list h found b = h b.described (go_described found.0 found.1 found.2 found.3 b)

      module _ (described : List ℕ) (k : value ≡ 0 ∷ described) where
        go_kind : (d : Bool) (n : ℕ) (f r : List ℕ) (b : AfterBody octets d n f r) → FoundKind described (d, b.list)
        go_kind d n f r b = subst (λ (l : List ℕ). FoundKind l (d, b.list)) (behind 0 b.described described value (go_described d n f r b) k) b.kind

        pub body-no_kind : ((x : Bool × List ℕ) → FoundKind described x → ⊥) → (found : Bool × ℕ × List ℕ × List ℕ) → FoundBody octets found → ⊥
        body-no_kind h found b = h (found.0, b.list) (go_kind found.0 found.1 found.2 found.3 b)

        module _ (declares : Bool) (list : List ℕ) (m : FoundKind described (declares, list)) where
          pub body-unlisted : ((x : ℕ × List ℕ × List ℕ) → FoundList list x → ⊥) → (found : Bool × ℕ × List ℕ × List ℕ) → FoundBody octets found → ⊥
          body-unlisted h found b =
              let same = kind-one described found.0 declares b.list list (go_kind found.0 found.1 found.2 found.3 b) m in
              h (found.1, found.2, found.3) (subst (λ (l : List ℕ). AfterList l found.1 found.2 found.3) same.1 b.listed)

          pub body-found : (count : ℕ) (fields rest : List ℕ) → AfterList list count fields rest → AfterBody octets declares count fields rest
          body-found count fields rest l = record { inner = inner; value = value; described = described; list = list; begins = e; descriptor = g; list_begins = k; kind = m; listed = l }

pub record SameBody (d d2 : Bool) (n n2 : ℕ) (f f2 r r2 : List ℕ) : Type 0 where
  pub kinds : d ≡ d2
  pub counts : n ≡ n2
  pub lists : f ≡ f2
  pub rests : r ≡ r2

-- a body has one reading at the front
pub body-one_end : (octets : List ℕ) (d d2 : Bool) (n n2 : ℕ) (f f2 r r2 : List ℕ) → AfterBody octets d n f r → AfterBody octets d2 n2 f2 r2 → SameBody d d2 n n2 f f2 r r2
body-one_end octets d d2 n n2 f f2 r r2 a b =
    let there = go_kind octets a.inner a.begins a.value a.descriptor a.described a.list_begins d2 n2 f2 r2 b in
    let same = kind-one a.described d d2 a.list b.list a.kind there in
    let list = list-one_end b.list f f2 r r2 n n2 (subst (λ (l : List ℕ). AfterList l n f r) same.1 a.listed) b.listed in
    record { kinds = same.0; counts = list.counts; lists = list.lists; rests = list.rests }

pub body-begins : (octets : List ℕ) (d : Bool) (n : ℕ) (f r : List ℕ) → AfterBody octets d n f r → Begins body octets
body-begins octets d n f r b = record { inner = b.inner; value = b.value; begins = b.begins; descriptor = b.descriptor }

-- the end: a footer or nothing
pub end-is : (octets rest : List ℕ) → TakesOptional footer octets rest → rest ≡ [] → SkipsTo (footer ∷ []) octets []
end-is octets rest (inl s) e = inr (rest, s, e)
end-is octets rest (inr (same, none)) e = inl (sym same ∙ e)

pub end-only : (octets rest : List ℕ) → TakesOptional footer octets rest → SkipsTo (footer ∷ []) octets [] → rest ≡ []
end-only octets rest (inl s) (inl e) = absurd (cc (s.begins, e))
end-only octets rest (inl s) (inr (mid, t, e)) = section-one_end footer.0 footer.1 octets rest mid s t ∙ e
end-only octets rest (inr (same, none)) (inl e) = same ∙ e
end-only octets rest (inr (same, none)) (inr (mid, t, e)) = absurd (none mid t)

pub message-no_discharge : (declares : Bool) (count : ℕ) (fields : List ℕ) → declares ≡ false → ((x : List ℕ × Option Bool) → FoundDischarge count fields x → ⊥) → (m : ControlMessageBody) → GivesMessage declares count fields m → ⊥
message-no_discharge declares count fields e h m (declare n f g d) = true≢false e
message-no_discharge declares count fields e h m (discharge n f i x d) = h (i, x) d

-- the walk over the whole
module _ (bytes start : List ℕ) (skips : SkipsTo leading bytes start) (only : (rest : List ℕ) → Begins body rest → SkipsTo leading bytes rest → start ≡ rest) where
  at_start : (m : ControlMessageBody) (s : WalksTo bytes m) → AfterBody start s.declares s.count s.fields s.end
  at_start m s =
      let same : start ≡ s.start = only s.start (body-begins s.start s.declares s.count s.fields s.end s.body_after) s.before in
      subst (λ (l : List ℕ). AfterBody l s.declares s.count s.fields s.end) (sym same) s.body_after

  pub spells-no_body : ((x : Bool × ℕ × List ℕ × List ℕ) → FoundBody start x → ⊥) → (m : ControlMessageBody) → WalksTo bytes m → ⊥
  spells-no_body h m s = h (s.declares, s.count, s.fields, s.end) (at_start m s)

  module _ (declares : Bool) (count : ℕ) (fields end : List ℕ) (b : AfterBody start declares count fields end) where
    same_body : (m : ControlMessageBody) (s : WalksTo bytes m) → SameBody declares s.declares count s.count fields s.fields end s.end
    same_body m s = body-one_end start declares s.declares count s.count fields s.fields end s.end b (at_start m s)

    pub spells-no_end : (SkipsTo (footer ∷ []) end [] → ⊥) → (m : ControlMessageBody) → WalksTo bytes m → ⊥
    spells-no_end h m s = h (subst (λ (l : List ℕ). SkipsTo (footer ∷ []) l []) (sym (same_body m s).rests) s.behind)

    pub spells-found : SkipsTo (footer ∷ []) end [] → (r : Option ControlMessageBody) → Finds (GivesMessage declares count fields) r → Finds (WalksTo bytes) r
    spells-found close r h =
        Finds-via (GivesMessage declares count fields) (WalksTo bytes)
        (λ m g. record { start = start; end = end; declares = declares; count = count; fields = fields; before = skips; body_after = b; behind = close; gives = g })
        (λ m s.
        let same = same_body m s in
        given s.declares declares s.count count s.fields fields m (sym same.kinds) (sym same.counts) (sym same.lists) s.gives)
        r h
      where
        given : (d e : Bool) (n k : ℕ) (f g : List ℕ) (m : ControlMessageBody) → d ≡ e → n ≡ k → f ≡ g → GivesMessage d n f m → GivesMessage e k g m
        given d e n k f g m p q s h = rw (← p, ← q, ← s) h

-- two readings of one text: the sections skipped end at one place
pub skips-one : (ks : List Kind) (end : Kind) (octets r s : List ℕ) → AllApart ks end → SkipsTo ks octets r → SkipsTo ks octets s → Begins end r → Begins end s → r ≡ s
skips-one [] end octets r s a t u b c = sym t ∙ u
skips-one (k ∷ ks) end octets r s a (inl t) (inl u) b c = skips-one ks end octets r s a.1 t u b c
skips-one (k ∷ ks) end octets r s a (inl t) (inr (mid, x, u)) b c = absurd (not-over k ks end octets r a.0 (section-begins k octets mid x) b t)
skips-one (k ∷ ks) end octets r s a (inr (mid, x, t)) (inl u) b c = absurd (not-over k ks end octets s a.0 (section-begins k octets mid x) c u)
skips-one (k ∷ ks) end octets r s a (inr (mid, x, t)) (inr (mid2, y, u)) b c =
    let same : mid2 ≡ mid = section-one_end k.0 k.1 octets mid2 mid y x in
    skips-one ks end mid r s a.1 t (subst (λ (l : List ℕ). SkipsTo ks l s) same u) b c

-- the fields of a declare give one global id
one-global_id : (s t : List ℕ) (x y : Option (List ℕ)) → s ≡ t → IsGlobalId x s → IsGlobalId y t → x ≡ y
one-global_id s t x y e null null = refl
one-global_id s t x y e null (some_id i h a) = absurd (null-no_id i [] (subst (λ (l : List ℕ). AfterId l i []) (sym e) (id-whole h i a)))
one-global_id s t x y e (some_id i h a) null = absurd (null-no_id i [] (subst (λ (l : List ℕ). AfterId l i []) e (id-whole h i a)))
one-global_id s t x y e (some_id i h a) (some_id j l b) = ap (λ (z : List ℕ). Some z) (id-one_end t i j [] [] (subst (λ (z : List ℕ). AfterId z i []) e (id-whole h i a)) (id-whole l j b)).0

pub declare-one : (n k : ℕ) (f g : List ℕ) (x y : Option (List ℕ)) → n ≡ k → f ≡ g → IsDeclare n f x → IsDeclare k g y → x ≡ y
declare-one n k f g x y p q no_field no_field = refl
declare-one n k f g x y p q no_field (global_id i h a) = absurd (omega arith)
declare-one n k f g x y p q (global_id i h a) no_field = absurd (omega arith)
declare-one n k f g x y p q (global_id i h a) (global_id j l b) = one-global_id f g x y q a b
