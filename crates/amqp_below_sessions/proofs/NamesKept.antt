-- What changes of links leave of the names.
use Rattle.std.proofs.Common.{ℕ, ◌≡◌, ◌≢◌, ◌<◌, Bool, true, false, Option, Some, None, List, length, inl, inr, sym, ◌∙◌, ap, refl, get_or, nat_eq, arith, IfSome}
use Rattle.std.specs.Prelude.{position}
use Rattle.std.specs.List.{position_or_len}
use Rattle.std.specs.Cmp.Lexicographic.{pointwise}
use Rattle.std.proofs.lemmas.Bool.{cases_Bool, cases_eq, cases_lt, lt-ltb, le-ltb}
use Rattle.std.proofs.lemmas.List.{get_or_past}
use Rattle.std.proofs.lemmas.List.Sums.{fails_before_first, passes_at_first, position_or_len_is}
use Rattle.std.proofs.lemmas.List.Quantifiers.{position-Some}
use Rattle.amqp_txn_types.specs.declared.performatives.Attach.{Attach}
use Rattle.amqp_txn_types.specs.declared.performatives.Detach.{Detach}
use Rattle.amqp_txn_types.specs.declared.performatives.Frame.{Frame}
use Rattle.amqp_txn_types.specs.declared.performatives.LinkFlow.{LinkFlow}
use Rattle.amqp_txn_types.specs.declared.small.InputHandle.{InputHandle}
use Rattle.amqp_txn_types.specs.declared.small.OutputHandle.{OutputHandle}
use Rattle.amqp_txn_types.specs.declared.small.ReceiverSettleMode.{ReceiverSettleMode}
use Rattle.amqp_txn_types.specs.declared.text.Text.{Text}
use Rattle.amqp_below_sessions.specs.declared.links.Link.{Link}
use Rattle.amqp_below_sessions.specs.declared.relay.NameState.TheVariants.{Unknown, Waiting, Taken}
use Rattle.amqp_below_sessions.specs.Agreement.{input_in, name_in}
use Rattle.amqp_below_sessions.specs.Links.{LinkTable, Sets, attached, has_name, link_at, link_of, name_state_of, output_named, state_by_input, state_by_link, with_flow, with_transfer}
use Rattle.amqp_below_sessions.specs.LinkMoves.{AttachesLink, Changes, DetachedAt, DetachesLink, FreesOutput, PlacedNext, names_in}
use Rattle.amqp_below_sessions.specs.Names.{Attaches, FreesLink, MayFree, Placed, SameNames, state_attached}
use Rattle.amqp_below_sessions.specs.Plain.{input_of}
use Rattle.amqp_below_sessions.proofs.Agreeing.{has_name-in, keys-kept}
use Rattle.amqp_below_sessions.proofs.Positions.{position-none, within}

-- the first place that passes
position-first : {X : Type 0} (p : X → Bool) (xs : List X) (i : ℕ) (d : X) → p d ≡ false → p (get_or xs i d) ≡ true → ((k : ℕ) → k < i → p (get_or xs k d) ≡ false) → position p xs ≡ Some i
position-first p xs i d miss hit fails =
    let in_list : i < length xs = within p xs i d miss hit in
    let at : position_or_len p xs ≡ i = position_or_len_is p xs i d (omega arith) fails (λ h. hit) in
    rw (at, lt-ltb i (length xs) in_list) refl

-- the place that passes a test is the same in lists that pass it at the same places
pub position-same : {X : Type 0} (p : X → Bool) (xs ys : List X) (d : X) → p d ≡ false → ((k : ℕ) → p (get_or ys k d) ≡ p (get_or xs k d)) → position p ys ≡ position p xs
position-same p xs ys d miss same = elim (cases_lt (position_or_len p xs) (length xs)) [
  | inl below ↦
      let there : position p xs ≡ Some (position_or_len p xs) = rw (lt-ltb (position_or_len p xs) (length xs) below) refl in
      let hit : p (get_or ys (position_or_len p xs) d) ≡ true = same (position_or_len p xs) ∙ passes_at_first p xs d below in
      position-first p ys (position_or_len p xs) d miss hit (λ k lt. same k ∙ fails_before_first p xs k d lt) ∙ sym there
  | inr past ↦
      let none : position p xs ≡ None = rw (le-ltb (position_or_len p xs) (length xs) past) refl in
      let fails : (k : ℕ) → p (get_or xs k d) ≡ false = λ k. elim (cases_lt k (position_or_len p xs)) [
        | inl lt ↦ fails_before_first p xs k d lt
        | inr ge ↦ ap p (get_or_past xs k d (omega arith)) ∙ miss
      ] in
      position-none p ys d (λ k. same k ∙ fails k) ∙ sym none
]

-- a link has the name that another shows
has_name-same : (name : Text) (a b : Option Link) → name_in a ≡ name_in b → has_name name a ≡ has_name name b
has_name-same name None None h = refl
has_name-same name None (Some b) h = absurd (cc h)
has_name-same name (Some a) None h = absurd (cc h)
has_name-same name (Some a) (Some b) h = let e : a.name ≡ b.name = cc h in ap (pointwise nat_eq name) e

-- links that show the same are known alike
state_by_link-same : (a b : Option Link) → name_in a ≡ name_in b → input_in a ≡ input_in b → state_by_link a ≡ state_by_link b
state_by_link-same None None h i = refl
state_by_link-same None (Some b) h i = absurd (cc h)
state_by_link-same (Some a) None h i = absurd (cc h)
state_by_link-same (Some a) (Some b) h i = ap state_by_input i

-- a link of one name has no other
other-name : (name other : Text) (slot : Option Link) → name_in slot ≡ Some name → other ≢ name → has_name other slot ≡ false
other-name name other slot shows ne = elim (cases_Bool (has_name other slot)) [
  | inl hit ↦ let too : name_in slot ≡ Some other = has_name-in other slot hit in let e : other ≡ name = cc (too, shows) in absurd (ne e)
  | inr miss ↦ miss
]

module _ (slots new : List (Option Link)) where
  link_of-same : (found : Option ℕ) → ((i : ℕ) → found ≡ Some i → link_at new i ≡ link_at slots i) → link_of new found ≡ link_of slots found
  link_of-same None same = refl
  link_of-same (Some i) same = same i refl

  -- where one link's change doesn't touch a name, it is known as it was
  state-elsewhere : (at : ℕ) (name : Text) → ((i : ℕ) → i ≢ at → link_at new i ≡ link_at slots i) → has_name name (link_at slots at) ≡ false → has_name name (link_at new at) ≡ false → name_state_of new name ≡ name_state_of slots name
  unfolding output_named
  state-elsewhere at name others was is =
      let same : (k : ℕ) → has_name name (link_at new k) ≡ has_name name (link_at slots k) = λ k. elim (cases_eq k at) [
        | inl e ↦ rw e (is ∙ sym was)
        | inr ne ↦ ap (has_name name) (others k ne)
      ] in
      let places : position (has_name name) new ≡ position (has_name name) slots = position-same (has_name name) slots new None refl same in
      let kept : (i : ℕ) → position (has_name name) slots ≡ Some i → link_at new i ≡ link_at slots i = λ i found.
      let hit : has_name name (link_at slots i) ≡ true = (position-Some (has_name name) slots i None found).1 in
      others i (λ e. absurd (let at_it : has_name name (link_at slots i) ≡ false = rw e was in cc (at_it, hit))) in
      ap (λ o. state_by_link (link_of new o)) places ∙ ap state_by_link (link_of-same (position (has_name name) slots) kept)

  state_of-same : ((k : ℕ) → name_in (link_at new k) ≡ name_in (link_at slots k)) → ((k : ℕ) → input_in (link_at new k) ≡ input_in (link_at slots k)) → (found : Option ℕ) → state_by_link (link_of new found) ≡ state_by_link (link_of slots found)
  state_of-same names inputs None = refl
  state_of-same names inputs (Some i) = state_by_link-same (link_at new i) (link_at slots i) (names i) (inputs i)

  -- links that show the same names and input handles
  pub names-alike : ((k : ℕ) → name_in (link_at new k) ≡ name_in (link_at slots k)) → ((k : ℕ) → input_in (link_at new k) ≡ input_in (link_at slots k)) → SameNames (names_in slots) (names_in new)
  unfolding output_named
  names-alike names inputs = record {
    known = λ name.
        let same : (k : ℕ) → has_name name (link_at new k) ≡ has_name name (link_at slots k) = λ k. has_name-same name (link_at new k) (link_at slots k) (names k) in
        let places : position (has_name name) new ≡ position (has_name name) slots = position-same (has_name name) slots new None refl same in
        ap (λ o. state_by_link (link_of new o)) places ∙ state_of-same names inputs (position (has_name name) slots);
    at = λ output. names output.0;
  }

-- a change of one link that keeps what it shows
sets-same : (slots new : List (Option Link)) (at : ℕ) (slot : Option Link) → Sets slots new at slot → name_in slot ≡ name_in (link_at slots at) → input_in slot ≡ input_in (link_at slots at) → SameNames (names_in slots) (names_in new)
sets-same slots new at slot sets named mapped =
    names-alike slots new (keys-kept name_in slots new at (ap name_in sets.changed ∙ named) sets.others) (keys-kept input_in slots new at (ap input_in sets.changed ∙ mapped) sets.others)

-- the links after a change that keeps what each shows
pub changes-same : (found : Option ℕ) (old new : LinkTable) (change : Option Link → Option Link) → ((slot : Option Link) → name_in (change slot) ≡ name_in slot) → ((slot : Option Link) → input_in (change slot) ≡ input_in slot) → Changes found old new change → SameNames (names_in old.slots) (names_in new.slots)
changes-same None old new change named mapped changes = absurd changes
changes-same (Some at) old new change named mapped changes =
    sets-same old.slots new.slots at (change (link_at old.slots at)) changes.0 (named (link_at old.slots at)) (mapped (link_at old.slots at))

pub with_flow-name : (flow : LinkFlow) (slot : Option Link) → name_in (with_flow flow slot) ≡ name_in slot
with_flow-name flow None = refl
with_flow-name flow (Some link) = refl

pub with_flow-input : (flow : LinkFlow) (slot : Option Link) → input_in (with_flow flow slot) ≡ input_in slot
with_flow-input flow None = refl
with_flow-input flow (Some link) = refl

pub with_transfer-name : (slot : Option Link) → name_in (with_transfer slot) ≡ name_in slot
with_transfer-name None = refl
with_transfer-name (Some link) = refl

pub with_transfer-input : (slot : Option Link) → input_in (with_transfer slot) ≡ input_in slot
with_transfer-input None = refl
with_transfer-input (Some link) = refl

attached-name : (input : InputHandle) (mode : ReceiverSettleMode) (slot : Option Link) → name_in (attached input mode slot) ≡ name_in slot
attached-name input mode None = refl
attached-name input mode (Some link) = refl

-- an attach of a link that waited, by the place of its name
attaches-at : (old new : LinkTable) (attach : Attach) (found : Option ℕ) → output_named old.slots attach.name ≡ found → Changes found old new (attached (input_of attach.handle) attach.rcv_settle_mode) → name_state_of new.slots attach.name ≡ Taken → name_state_of old.slots attach.name ≡ Waiting → Attaches (names_in old.slots) (names_in new.slots) attach.name
unfolding output_named
attaches-at old new attach None there changes taken waited = absurd changes
attaches-at old new attach (Some at) there changes taken waited =
    let slot : Option Link = link_at old.slots at in
    let mode : ReceiverSettleMode = attach.rcv_settle_mode in
    let had : name_in slot ≡ Some attach.name = has_name-in attach.name slot (position-Some (has_name attach.name) old.slots at None there).1 in
    let named : name_in (link_at new.slots at) ≡ name_in slot = ap name_in changes.0.changed ∙ attached-name (input_of attach.handle) mode slot in
    record {
      known = taken ∙ sym (ap state_attached waited);
      others = λ other ne. state-elsewhere old.slots new.slots at other changes.0.others (other-name attach.name other slot had ne) (other-name attach.name other (link_at new.slots at) (named ∙ had) ne);
      at = λ output. keys-kept name_in old.slots new.slots at named changes.0.others output.0;
    }

-- an attach of a link that waited
pub attaches-names : (old new : LinkTable) (attach : Attach) → AttachesLink old new attach → name_state_of old.slots attach.name ≡ Waiting → Attaches (names_in old.slots) (names_in new.slots) attach.name
attaches-names old new attach attaches waited =
    attaches-at old new attach (output_named old.slots attach.name) refl attaches.changed attaches.taken waited

-- no link has the name
unknown-state : (slots : List (Option Link)) (name : Text) → output_named slots name ≡ None → name_state_of slots name ≡ Unknown
unknown-state slots name absent = ap (λ o. state_by_link (link_of slots o)) absent

-- output handles of one number are the same
same-output : (a b : OutputHandle) → a.0 ≡ b.0 → a ≡ b
same-output a b e = ap (λ n. record { 0 = n }) e

-- a link was placed
pub placed-names : (old new : LinkTable) (link : Link) (output : OutputHandle) → output.0 ≡ old.next → PlacedNext old new link → Placed (names_in old.slots) (names_in new.slots) link.name (state_by_input link.input) output
placed-names old new link output here placed =
    let shown : name_in (link_at new.slots old.next) ≡ Some link.name = ap name_in placed.placed.changed in
    record {
      unknown = unknown-state old.slots link.name placed.unknown;
      known = placed.known;
      others = λ other ne. state-elsewhere old.slots new.slots old.next other placed.placed.others (ap (has_name other) placed.free) (other-name link.name other (link_at new.slots old.next) shown ne);
      free = ap (λ n. name_in (link_at old.slots n)) here ∙ ap name_in placed.free;
      here = ap (λ n. name_in (link_at new.slots n)) here ∙ shown;
      elsewhere = λ u ne. ap name_in (placed.placed.others u.0 (λ e. ne (same-output u output (e ∙ sym here))));
    }

-- the names after an output handle is freed, by its link
frees-by : (old new : LinkTable) (output : OutputHandle) (found : Bool) (slot : Option Link) → link_at old.slots output.0 ≡ slot → FreesOutput old new output.0 found → FreesLink (name_in slot) (names_in old.slots) (names_in new.slots) output
frees-by old new output found None there frees =
    let same : new ≡ old = frees.absent there in
    record {
      known = λ name. ap (λ t. name_state_of t.slots name) same;
      at = λ u. ap (λ t. name_in (link_at t.slots u.0)) same;
    }
frees-by old new output found (Some link) there frees =
    let had : name_in (link_at old.slots output.0) ≡ Some link.name = ap name_in there in
    record {
      known = unknown-state new.slots link.name (frees.unnamed link.name had);
      others = λ other ne. state-elsewhere old.slots new.slots output.0 other frees.freed.others (other-name link.name other (link_at old.slots output.0) had ne) (ap (has_name other) frees.freed.changed);
      here = ap name_in frees.freed.changed;
      elsewhere = λ u ne. ap name_in (frees.freed.others u.0 (λ e. ne (same-output u output e)));
    }

-- the names after an output handle is freed
pub frees-names : (old new : LinkTable) (output : OutputHandle) (found : Bool) → FreesOutput old new output.0 found → FreesLink (name_in (link_at old.slots output.0)) (names_in old.slots) (names_in new.slots) output
frees-names old new output found frees = frees-by old new output found (link_at old.slots output.0) refl frees

-- no link has the name of one that is gone
gone-name : (new : List (Option Link)) (slot : Option Link) (name : Text) → has_name name slot ≡ true → IfSome slot (λ link. output_named new link.name ≡ None) → output_named new name ≡ None
gone-name new None name hit gone = absurd (cc hit)
gone-name new (Some link) name hit gone =
    let shows : Some link.name ≡ Some name = has_name-in name (Some link) hit in
    let e : link.name ≡ name = cc shows in rw (← e) gone

-- the names after a link is detached
pub detached-names : (old new : LinkTable) (detach : Detach) (given : List Frame) (output : ℕ) → DetachedAt old new detach given output → MayFree (names_in old.slots) (names_in new.slots)
detached-names old new detach given output detached = record {
  known = λ name. elim (cases_Bool (has_name name (link_at old.slots output))) [
    | inl hit ↦ inr (unknown-state new.slots name (gone-name new.slots (link_at old.slots output) name hit detached.unnamed))
    | inr miss ↦ inl (state-elsewhere old.slots new.slots output name detached.freed.others miss (ap (has_name name) detached.freed.changed))
  ];
  at = λ u. elim (cases_eq u.0 output) [
    | inl e ↦ inr (ap (λ n. name_in (link_at new.slots n)) e ∙ ap name_in detached.freed.changed)
    | inr ne ↦ inl (ap name_in (detached.freed.others u.0 ne))
  ];
}

-- the names after a detach, which there is only where a link was found
pub detaches-names : (found : Option ℕ) (old new : LinkTable) (detach : Detach) (given : List Frame) → DetachesLink found old new detach given → MayFree (names_in old.slots) (names_in new.slots)
detaches-names None old new detach given detaches = absurd detaches
detaches-names (Some output) old new detach given detaches = detached-names old new detach given output detaches
