use Rattle.std.proofs.Common.{◌≡◌, ℕ, zero, suc, inl, inr, Bool, List, [], ◌∷◌, ◌++◌, sym, ap, subst, ◌∙◌, append_assoc}
use Rattle.amqp_txn_codec.specs.declared.message.ControlMessageBody.{ControlMessageBody}
use Rattle.amqp_txn_codec.specs.Sections.{Kind, leading, body, footer}
use Rattle.amqp_txn_codec.specs.Walks.{LeavesAfter, AfterDescriptor, AfterSection, SkipsTo, message_kind, AfterBody, WalksTo}
use Rattle.amqp_txn_codec.proofs.Leading.{leading-apart, section-one_end}
use Rattle.amqp_txn_codec.proofs.Bodies.{skips-one, body-one_end, body-begins}
use Rattle.amqp_txn_codec.proofs.Messages.{message-one}

-- what follows a text changes no reading of it
module _ (c : List ℕ) where
  parted : (octets s rest : List ℕ) → octets ≡ s ++ rest → octets ++ c ≡ s ++ (rest ++ c)
  parted octets s rest e = ap (λ (l : List ℕ). l ++ c) e ∙ append_assoc s rest c

  leaves-more : (n : ℕ) (octets rest : List ℕ) → LeavesAfter n octets rest → LeavesAfter n (octets ++ c) (rest ++ c)
  leaves-more zero octets rest e = ap (λ (l : List ℕ). l ++ c) e
  leaves-more (suc n) octets rest (value, others, e, v, more) = (value, others ++ c, parted octets value others e, v, leaves-more n others rest more)

  descriptor-more : (number : ℕ) (name octets rest : List ℕ) → AfterDescriptor number name octets rest → AfterDescriptor number name (octets ++ c) (rest ++ c)
  descriptor-more number name octets rest d = record { spelling = d.spelling; descriptor = d.descriptor; front = parted octets d.spelling rest d.front }

  section-more : (number : ℕ) (name octets rest : List ℕ) → AfterSection number name octets rest → AfterSection number name (octets ++ c) (rest ++ c)
  section-more number name octets rest s = record {
    inner = s.inner ++ c;
    value = s.value ++ c;
    begins = ap (λ (l : List ℕ). l ++ c) s.begins;
    descriptor = descriptor-more number name s.inner s.value s.descriptor;
    leaves = leaves-more 1 s.value rest s.leaves;
  }

  skips-more : (ks : List Kind) (octets rest : List ℕ) → SkipsTo ks octets rest → SkipsTo ks (octets ++ c) (rest ++ c)
  skips-more [] octets rest e = ap (λ (l : List ℕ). l ++ c) e
  skips-more (k ∷ ks) octets rest (inl s) = inl (skips-more ks octets rest s)
  skips-more (k ∷ ks) octets rest (inr (mid, x, s)) = inr (mid ++ c, section-more k.0 k.1 octets mid x, skips-more ks mid rest s)

  body-more : (octets : List ℕ) (d : Bool) (n : ℕ) (f r : List ℕ) → AfterBody octets d n f r → AfterBody (octets ++ c) d n f (r ++ c)
  body-more octets d n f r b = record {
    inner = b.inner ++ c;
    value = b.value ++ c;
    described = b.described ++ c;
    list = b.list ++ c;
    begins = ap (λ (l : List ℕ). l ++ c) b.begins;
    descriptor = descriptor-more body.0 body.1 b.inner b.value b.descriptor;
    list_begins = ap (λ (l : List ℕ). l ++ c) b.list_begins;
    kind = descriptor-more (message_kind d).0 (message_kind d).1 b.described b.list b.kind;
    listed = record { spelling = b.listed.spelling; listed = b.listed.listed; front = parted b.list b.listed.spelling r b.listed.front };
  }

  ends : (end : List ℕ) → SkipsTo (footer ∷ []) end [] → SkipsTo (footer ∷ []) (end ++ c) [] → SkipsTo (footer ∷ []) c []
  ends end (inl e) s = subst (λ (l : List ℕ). SkipsTo (footer ∷ []) l []) (ap (λ (l : List ℕ). l ++ c) e) s
  ends end (inr (mid, x, e)) (inl f) = inl (nil_of s.inner (sym s.begins ∙ f))
    where
      s : AfterSection footer.0 footer.1 (end ++ c) (mid ++ c)
      s = section-more footer.0 footer.1 end mid x

      nil_of : (l : List ℕ) → 0 ∷ l ≡ [] → c ≡ []
      nil_of l h = cc
  ends end (inr (mid, x, e)) (inr (mid2, y, f)) =
      let one : mid ++ c ≡ mid2 = section-one_end footer.0 footer.1 (end ++ c) (mid ++ c) mid2 (section-more footer.0 footer.1 end mid x) y in
      inl (ap (λ (l : List ℕ). l ++ c) (sym e) ∙ one ∙ f)

  -- a message and the same with more behind it: the more is a footer or nothing, and the message is the same
  pub walked-more : (bytes : List ℕ) (m l : ControlMessageBody) → WalksTo bytes m → WalksTo (bytes ++ c) l → (m ≡ l) × SkipsTo (footer ∷ []) c []
  walked-more bytes m l s t =
      let longer = body-more s.start s.declares s.count s.fields s.end s.body_after in
      let start : t.start ≡ s.start ++ c = skips-one leading body (bytes ++ c) t.start (s.start ++ c) leading-apart t.before (skips-more leading bytes s.start s.before) (body-begins t.start t.declares t.count t.fields t.end t.body_after) (body-begins (s.start ++ c) s.declares s.count s.fields (s.end ++ c) longer) in
      let there : AfterBody (s.start ++ c) t.declares t.count t.fields t.end = subst (λ (z : List ℕ). AfterBody z t.declares t.count t.fields t.end) start t.body_after in
      let same = body-one_end (s.start ++ c) s.declares t.declares s.count t.count s.fields t.fields (s.end ++ c) t.end longer there in
      (message-one s.declares t.declares s.count t.count s.fields t.fields m l same.kinds same.counts same.lists s.gives t.gives, ends s.end s.behind (subst (λ (z : List ℕ). SkipsTo (footer ∷ []) z []) (sym same.rests) t.behind))
