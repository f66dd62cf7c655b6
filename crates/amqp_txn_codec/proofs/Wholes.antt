use Rattle.std.proofs.Common.{◌≡◌, ℕ, inl, inr, Bool, true, false, List, [], ◌∷◌, ◌++◌, refl, sym, ap, subst, ◌∙◌, append_assoc}
use Rattle.std.proofs.lemmas.List.{append-nil}
use Rattle.amqp_txn_codec.specs.declared.message.ControlMessageBody.{ControlMessageBody}
use Rattle.amqp_txn_codec.specs.Sections.{Kind, IsSection, section, SkippedInOrder, no_more, left_out, skipped, IsFooterOrNone, leading, footer}
use Rattle.amqp_txn_codec.specs.Messages.{IsMessageList, declare, discharge, IsBody, amqp_value, SpellsMessage}
use Rattle.amqp_txn_codec.specs.Walks.{AfterSection, SkipsTo, AfterList, message_kind, FoundKind, AfterBody, GivesMessage, WalksTo}
use Rattle.amqp_txn_codec.specs.Walks as walks
use Rattle.amqp_txn_codec.proofs.Messages.{one_walk}
use Rattle.amqp_txn_codec.proofs.More.{walked-more}

-- the octets are a part of a kind, and the rest
abbrev pub IsFront : (List ℕ → Type 0) → List ℕ → List ℕ → Type 0
IsFront IsPart octets rest = (part : List ℕ) × IsPart part × (octets ≡ part ++ rest)

-- a spelling, and a part behind it, are one part
joined : (octets spelling others part rest : List ℕ) → octets ≡ spelling ++ others → others ≡ part ++ rest → octets ≡ (spelling ++ part) ++ rest
joined octets spelling others part rest e f = e ∙ ap (λ (l : List ℕ). spelling ++ l) f ∙ sym (append_assoc spelling part rest)

section-out : (kind : Kind) (octets rest : List ℕ) → AfterSection kind.0 kind.1 octets rest → IsFront (IsSection kind) octets rest
section-out kind octets rest s =
    let d = s.descriptor in
    let v = s.leaves in
    let value : s.value ≡ v.0 ++ rest = v.2 ∙ ap (λ (l : List ℕ). v.0 ++ l) v.4 in
    (0 ∷ d.spelling ++ v.0, section kind d.spelling v.0 d.descriptor v.3, s.begins ∙ ap (λ (l : List ℕ). 0 ∷ l) (joined s.inner d.spelling s.value v.0 rest d.front value))

pub section-back : (kind : Kind) (one rest : List ℕ) → IsSection kind one → AfterSection kind.0 kind.1 (one ++ rest) rest
section-back kind one rest (section k d v hd hv) = record {
  inner = (d ++ v) ++ rest;
  value = v ++ rest;
  begins = refl;
  descriptor = record { spelling = d; descriptor = hd; front = append_assoc d v rest };
  leaves = (v, rest, refl, hv, refl);
}

skips-out : (kinds : List Kind) (octets rest : List ℕ) → SkipsTo kinds octets rest → IsFront (SkippedInOrder kinds) octets rest
skips-out [] octets rest e = ([], no_more, e)
skips-out (k ∷ ks) octets rest (inl s) =
    let more = skips-out ks octets rest s in
    (more.0, left_out k ks more.0 more.1, more.2)
skips-out (k ∷ ks) octets rest (inr (mid, x, s)) =
    let one = section-out k octets mid x in
    let more = skips-out ks mid rest s in
    (one.0 ++ more.0, skipped k ks one.0 more.0 one.1 more.1, joined octets one.0 mid more.0 rest one.2 more.2)

skips-back : (kinds : List Kind) (before rest : List ℕ) → SkippedInOrder kinds before → SkipsTo kinds (before ++ rest) rest
skips-back kinds before rest no_more = refl
skips-back kinds before rest (left_out k ks octets s) = inl (skips-back ks octets rest s)
skips-back kinds before rest (skipped k ks one octets x s) =
    inr (octets ++ rest, subst (λ (l : List ℕ). AfterSection k.0 k.1 l (octets ++ rest)) (sym (append_assoc one octets rest)) (section-back k one (octets ++ rest) x), skips-back ks octets rest s)

pub end-out : (octets : List ℕ) → SkipsTo (footer ∷ []) octets [] → IsFooterOrNone octets
end-out octets (inl e) = inl e
end-out octets (inr (mid, x, e)) =
    let one = section-out footer octets mid x in
    inr (subst (IsSection footer) (sym (one.2 ∙ ap (λ (l : List ℕ). one.0 ++ l) e ∙ append-nil one.0)) one.1)

end-back : (octets : List ℕ) → IsFooterOrNone octets → SkipsTo (footer ∷ []) octets []
end-back octets (inl e) = inl e
end-back octets (inr x) = inr ([], subst (λ (l : List ℕ). AfterSection footer.0 footer.1 l []) (append-nil octets) (section-back footer octets [] x), refl)

-- the list of a message
list-out : (d : Bool) (n : ℕ) (f : List ℕ) (m : ControlMessageBody) (described list rest : List ℕ) → FoundKind described (d, list) → AfterList list n f rest → GivesMessage d n f m → IsFront (IsMessageList m) (0 ∷ described) rest
unfolding message_kind
list-out d n f m described list rest k l (walks.declare n2 f2 g h) =
    (0 ∷ k.spelling ++ l.spelling, declare k.spelling l.spelling f n g k.descriptor l.listed h, ap (λ (z : List ℕ). 0 ∷ z) (joined described k.spelling list l.spelling rest k.front l.front))
list-out d n f m described list rest k l (walks.discharge n2 f2 i x h) =
    (0 ∷ k.spelling ++ l.spelling, discharge k.spelling l.spelling f n i x k.descriptor l.listed h, ap (λ (z : List ℕ). 0 ∷ z) (joined described k.spelling list l.spelling rest k.front l.front))

body-out : (octets : List ℕ) (d : Bool) (n : ℕ) (f rest : List ℕ) (m : ControlMessageBody) → AfterBody octets d n f rest → GivesMessage d n f m → IsFront (IsBody m) octets rest
body-out octets d n f rest m b g =
    let list = list-out d n f m b.described b.list rest b.kind b.listed g in
    let value : b.value ≡ list.0 ++ rest = b.list_begins ∙ list.2 in
    (0 ∷ b.descriptor.spelling ++ list.0, amqp_value m b.descriptor.spelling list.0 b.descriptor.descriptor list.1, b.begins ∙ ap (λ (z : List ℕ). 0 ∷ z) (joined b.inner b.descriptor.spelling b.value list.0 rest b.descriptor.front value))

-- the list of a message as it is walked
pub record WalkedList (octets rest : List ℕ) (m : ControlMessageBody) : Type 0 where
  pub declares : Bool
  pub count : ℕ
  pub fields : List ℕ
  pub described : List ℕ
  pub list : List ℕ
  pub begins : octets ≡ 0 ∷ described
  pub kind : FoundKind described (declares, list)
  pub listed : AfterList list count fields rest
  pub gives : GivesMessage declares count fields m

list-back : (m : ControlMessageBody) (one rest : List ℕ) → IsMessageList m one → WalkedList (one ++ rest) rest m
unfolding message_kind
list-back m one rest (declare d l f n g hd hl h) = record {
  declares = true;
  count = n;
  fields = f;
  described = (d ++ l) ++ rest;
  list = l ++ rest;
  begins = refl;
  kind = record { spelling = d; descriptor = hd; front = append_assoc d l rest };
  listed = record { spelling = l; listed = hl; front = refl };
  gives = walks.declare n f g h;
}
list-back m one rest (discharge d l f n i x hd hl h) = record {
  declares = false;
  count = n;
  fields = f;
  described = (d ++ l) ++ rest;
  list = l ++ rest;
  begins = refl;
  kind = record { spelling = d; descriptor = hd; front = append_assoc d l rest };
  listed = record { spelling = l; listed = hl; front = refl };
  gives = walks.discharge n f i x h;
}

-- the body as it is walked
pub record WalkedBody (octets rest : List ℕ) (m : ControlMessageBody) : Type 0 where
  pub declares : Bool
  pub count : ℕ
  pub fields : List ℕ
  pub walked : AfterBody octets declares count fields rest
  pub gives : GivesMessage declares count fields m

body-back : (m : ControlMessageBody) (one rest : List ℕ) → IsBody m one → WalkedBody (one ++ rest) rest m
body-back m one rest (amqp_value m2 d list hd hl) =
    let l = list-back m list rest hl in
    record {
      declares = l.declares;
      count = l.count;
      fields = l.fields;
      walked = record {
        inner = (d ++ list) ++ rest;
        value = list ++ rest;
        described = l.described;
        list = l.list;
        begins = refl;
        descriptor = record { spelling = d; descriptor = hd; front = append_assoc d list rest };
        list_begins = l.begins;
        kind = l.kind;
        listed = l.listed;
      };
      gives = l.gives;
    }

-- what is walked is the grammar of whole octets
pub walk-spells : (bytes : List ℕ) (m : ControlMessageBody) → WalksTo bytes m → SpellsMessage bytes m
walk-spells bytes m w =
    let before = skips-out leading bytes w.start w.before in
    let middle = body-out w.start w.declares w.count w.fields w.end m w.body_after w.gives in
    record {
      before = before.0;
      middle = middle.0;
      behind = w.end;
      whole = before.2 ∙ ap (λ (l : List ℕ). before.0 ++ l) middle.2;
      skipped = before.1;
      message_list = middle.1;
      end = end-out w.end w.behind;
    }

pub spelled-walks : (bytes : List ℕ) (m : ControlMessageBody) → SpellsMessage bytes m → WalksTo bytes m
spelled-walks bytes m s =
    let b = body-back m s.middle s.behind s.message_list in
    record {
      start = s.middle ++ s.behind;
      end = s.behind;
      declares = b.declares;
      count = b.count;
      fields = b.fields;
      before = subst (λ (l : List ℕ). SkipsTo leading l (s.middle ++ s.behind)) (sym s.whole) (skips-back leading s.before (s.middle ++ s.behind) s.skipped);
      body_after = b.walked;
      behind = end-back s.behind s.end;
      gives = b.gives;
    }

-- octets spell at most one message
pub one_message : (bytes : List ℕ) (m l : ControlMessageBody) → SpellsMessage bytes m → SpellsMessage bytes l → m ≡ l
one_message bytes m l s t = one_walk bytes m l (spelled-walks bytes m s) (spelled-walks bytes l t)

-- what may follow a message is a footer
pub spelled-more : (bytes more : List ℕ) (m l : ControlMessageBody) → SpellsMessage bytes m → SpellsMessage (bytes ++ more) l → (m ≡ l) × IsFooterOrNone more
spelled-more bytes more m l s t =
    let both = walked-more more bytes m l (spelled-walks bytes m s) (spelled-walks (bytes ++ more) l t) in
    (both.0, end-out more both.1)
