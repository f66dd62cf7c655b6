-- The tables of a session's links stay in agreement.
use Rattle.std.proofs.Common.{ℕ, ◌≡◌, ◌≢◌, true, false, cond, Option, Some, None, List, inl, inr, sym, ◌∙◌, ap, refl, nat_eq, ◌<◌, length, is_some, set, get_or, Bool, IsSome, option_copied, Bor}
use Rattle.std.specs.Prelude.{position}
use Rattle.std.specs.Cmp.{unsigned_ties}
use Rattle.std.specs.Cmp.Lexicographic.{pointwise, same_text, nat_list_eq_equiv}
use Rattle.std.proofs.lemmas.Cmp.{nat_eq_equiv}
use Rattle.std.proofs.lemmas.Bool.{cases_Bool, cases_eq, eqb-true}
use Rattle.std.proofs.Math.ListN.{length-set}
use Rattle.std.proofs.lemmas.List.Folds.{position_or_len-set}
use Rattle.std.proofs.lemmas.List.{get_or-set_same, get_or-set_other, set-get_or}
use Rattle.amqp_txn_types.specs.declared.text.Text.{Text}
use Rattle.amqp_txn_types.specs.declared.small.InputHandle.{InputHandle}
use Rattle.amqp_txn_types.specs.declared.small.OutputHandle.{OutputHandle}
use Rattle.amqp_below_layer.proofs.Ordered.{Exact}
use Rattle.amqp_below_sessions.specs.declared.links.Link.{Link}
use Rattle.amqp_below_sessions.specs.Links.{as_output, Finds, IsWaiting, has_name, has_input, input_order, is_input, same_input, output_named, output_mapped, link_at}
use Rattle.amqp_below_sessions.specs.Agreement.{Agree, Indexes, found_without, name_in, input_in}
use Rattle.amqp_below_sessions.proofs.Positions.{position-none, position-only, within}
use Rattle.amqp_below_sessions.proofs.Indexing.{indexes-add, indexes-drop, indexes-same, finds-position}

pub same_name-eq : (a b : Text) → pointwise nat_eq a b ≡ true → a ≡ b
same_name-eq a b h = same_text a b (sym h)

pub same_name-refl : (a : Text) → pointwise nat_eq a a ≡ true
same_name-refl a = nat_list_eq_equiv.refl a

pub same_input-eq : (a b : InputHandle) → same_input a b ≡ true → a ≡ b
same_input-eq a b h = ap (λ n. record { 0 = n }) (eqb-true a.0 b.0 h)

-- input handles are kept by the order of their numbers
pub inputs_exact : Exact input_order same_input
inputs_exact = record { ties = λ a b. unsigned_ties a.0 b.0; one = same_input-eq }

pub same_input-refl : (a : InputHandle) → same_input a a ≡ true
same_input-refl a = nat_eq_equiv.refl a.0

pub has_name-in : (name : Text) (slot : Option Link) → has_name name slot ≡ true → name_in slot ≡ Some name
has_name-in name None h = absurd (cc h)
has_name-in name (Some link) h = ap (λ n. Some n) (sym (same_name-eq name link.name h))

pub in-has_name : (name : Text) (slot : Option Link) → name_in slot ≡ Some name → has_name name slot ≡ true
in-has_name name None h = absurd (cc h)
in-has_name name (Some link) h = let e : link.name ≡ name = cc h in rw e (same_name-refl name)

is_input-in : (input : InputHandle) (kept : Option InputHandle) → is_input input kept ≡ true → kept ≡ Some input
is_input-in input None h = absurd (cc h)
is_input-in input (Some other) h = ap (λ n. Some n) (sym (same_input-eq input other h))

in-is_input : (input : InputHandle) (kept : Option InputHandle) → kept ≡ Some input → is_input input kept ≡ true
in-is_input input kept h = rw h (same_input-refl input)

has_input-in : (input : InputHandle) (slot : Option Link) → has_input input slot ≡ true → input_in slot ≡ Some input
has_input-in input None h = absurd (cc h)
has_input-in input (Some link) h = is_input-in input link.input h

in-has_input : (input : InputHandle) (slot : Option Link) → input_in slot ≡ Some input → has_input input slot ≡ true
in-has_input input None h = absurd (cc h)
in-has_input input (Some link) h = in-is_input input link.input h

module _ (slots : List (Option Link)) (by_name : Text → Option OutputHandle) (by_input : InputHandle → Option OutputHandle) (agree : Agree slots by_name by_input) where
  -- the index by name finds the link of the name
  pub finds-name : (name : Text) → by_name name ≡ as_output (output_named slots name)
  unfolding output_named
  finds-name name = finds-position slots name_in by_name (has_name name) name refl (has_name-in name) (in-has_name name) agree.names

  -- the index by input handle finds the link that it is mapped to
  pub finds-input : (input : InputHandle) → by_input input ≡ as_output (output_mapped slots input)
  unfolding output_mapped
  finds-input input = finds-position slots input_in by_input (has_input input) input refl (has_input-in input) (in-has_input input) agree.inputs

  -- a name that no link has is not in the index
  pub name-free : (name : Text) → output_named slots name ≡ None → by_name name ≡ None
  name-free name free = finds-name name ∙ ap as_output free

  -- an input handle that is mapped to no link is not in the index
  pub input-free : (input : InputHandle) → output_mapped slots input ≡ None → by_input input ≡ None
  input-free input free = finds-input input ∙ ap as_output free

-- a key that one link's change leaves is the same everywhere
pub keys-kept : {K : Type 0} (key_in : Option Link → Option K) (slots new : List (Option Link)) (at : ℕ) → key_in (link_at new at) ≡ key_in (link_at slots at) → ((i : ℕ) → i ≢ at → link_at new i ≡ link_at slots i) → (i : ℕ) → key_in (link_at new i) ≡ key_in (link_at slots i)
keys-kept key_in slots new at here others i = elim (cases_eq i at) [
  | inl e ↦ rw e here
  | inr ne ↦ ap key_in (others i ne)
]

module _ (slots new : List (Option Link)) (f f' : Text → Option OutputHandle) (g g' : InputHandle → Option OutputHandle) (at : ℕ) (old : Agree slots f g) (others : (i : ℕ) → i ≢ at → link_at new i ≡ link_at slots i) where
  names-placed : (link : Link) (key : Text) (output : OutputHandle) → key ≡ link.name → f link.name ≡ None → output.0 ≡ at → link_at slots at ≡ None → link_at new at ≡ Some link → ((q : Text) → f' q ≡ cond (pointwise nat_eq key q) (Some output) (f q)) → Indexes (λ i. name_in (link_at new i)) f'
  names-placed link key output same fresh here vacant placed updates =
      indexes-add (pointwise nat_eq) same_name-eq same_name-refl (λ i. name_in (link_at slots i)) (λ i. name_in (link_at new i)) f f' key output old.names (rw same fresh) (rw here (ap name_in vacant)) (rw here (ap name_in placed ∙ ap (λ n. Some n) (sym same))) (λ i ne. ap name_in (others i (λ e. ne (e ∙ sym here)))) updates

  inputs-added : (input : InputHandle) (output : OutputHandle) → g input ≡ None → output.0 ≡ at → input_in (link_at slots at) ≡ None → input_in (link_at new at) ≡ Some input → ((q : InputHandle) → g' q ≡ cond (same_input input q) (Some output) (g q)) → Indexes (λ i. input_in (link_at new i)) g'
  inputs-added input output fresh here vacant placed updates =
      indexes-add same_input same_input-eq same_input-refl (λ i. input_in (link_at slots i)) (λ i. input_in (link_at new i)) g g' input output old.inputs fresh (rw here vacant) (rw here placed) (λ i ne. ap input_in (others i (λ e. ne (e ∙ sym here)))) updates

  -- a link that waits is placed
  pub agree-placed : (link : Link) (key : Text) (output : OutputHandle) → key ≡ link.name → f link.name ≡ None → link.input ≡ None → output.0 ≡ at → link_at slots at ≡ None → link_at new at ≡ Some link → ((q : Text) → f' q ≡ cond (pointwise nat_eq key q) (Some output) (f q)) → ((q : InputHandle) → g' q ≡ g q) → Agree new f' g'
  agree-placed link key output same fresh waits here vacant placed updates kept = record {
    names = names-placed link key output same fresh here vacant placed updates;
    inputs = indexes-same (λ i. input_in (link_at slots i)) (λ i. input_in (link_at new i)) g g' old.inputs (keys-kept input_in slots new at (ap input_in placed ∙ waits ∙ sym (ap input_in vacant)) others) kept;
  }

  -- a link that is attached is placed
  pub agree-placed_mapped : (link : Link) (key : Text) (input : InputHandle) (output : OutputHandle) → key ≡ link.name → f link.name ≡ None → link.input ≡ Some input → g input ≡ None → output.0 ≡ at → link_at slots at ≡ None → link_at new at ≡ Some link → ((q : Text) → f' q ≡ cond (pointwise nat_eq key q) (Some output) (f q)) → ((q : InputHandle) → g' q ≡ cond (same_input input q) (Some output) (g q)) → Agree new f' g'
  agree-placed_mapped link key input output same fresh mapped unmapped here vacant placed updates maps = record {
    names = names-placed link key output same fresh here vacant placed updates;
    inputs = inputs-added input output unmapped here (ap input_in vacant) (ap input_in placed ∙ mapped) maps;
  }

  -- a link that waits is attached
  pub agree-attached : (input : InputHandle) (output : OutputHandle) → g input ≡ None → output.0 ≡ at → input_in (link_at slots at) ≡ None → name_in (link_at new at) ≡ name_in (link_at slots at) → input_in (link_at new at) ≡ Some input → ((q : Text) → f' q ≡ f q) → ((q : InputHandle) → g' q ≡ cond (same_input input q) (Some output) (g q)) → Agree new f' g'
  agree-attached input output unmapped here waits named mapped kept maps = record {
    names = indexes-same (λ i. name_in (link_at slots i)) (λ i. name_in (link_at new i)) f f' old.names (keys-kept name_in slots new at named others) kept;
    inputs = inputs-added input output unmapped here waits mapped maps;
  }

  -- the inputs without that of a link that is freed
  inputs-freed : (input : Option InputHandle) → input_in (link_at slots at) ≡ input → link_at new at ≡ None → ((q : InputHandle) → g' q ≡ found_without input q (g q)) → Indexes (λ i. input_in (link_at new i)) g'
  inputs-freed None was gone forgets = indexes-same (λ i. input_in (link_at slots i)) (λ i. input_in (link_at new i)) g g' old.inputs (keys-kept input_in slots new at (ap input_in gone ∙ sym was) others) forgets
  inputs-freed (Some input) was gone forgets = indexes-drop same_input same_input-eq same_input-refl (λ i. input_in (link_at slots i)) (λ i. input_in (link_at new i)) g g' input at old.inputs was (ap input_in gone) (λ i ne. ap input_in (others i ne)) forgets

  -- a link is freed
  pub agree-freed : (link : Link) → link_at slots at ≡ Some link → link_at new at ≡ None → ((q : Text) → f' q ≡ cond (pointwise nat_eq link.name q) None (f q)) → ((q : InputHandle) → g' q ≡ found_without link.input q (g q)) → Agree new f' g'
  agree-freed link was gone updates forgets = record {
    names = indexes-drop (pointwise nat_eq) same_name-eq same_name-refl (λ i. name_in (link_at slots i)) (λ i. name_in (link_at new i)) f f' link.name at old.names (ap name_in was) (ap name_in gone) (λ i ne. ap name_in (others i ne)) updates;
    inputs = inputs-freed link.input (ap input_in was) gone forgets;
  }

  -- a link keeps its name and its input handle
  pub agree-kept : name_in (link_at new at) ≡ name_in (link_at slots at) → input_in (link_at new at) ≡ input_in (link_at slots at) → ((q : Text) → f' q ≡ f q) → ((q : InputHandle) → g' q ≡ g q) → Agree new f' g'
  agree-kept named mapped same_names same_inputs = record {
    names = indexes-same (λ i. name_in (link_at slots i)) (λ i. name_in (link_at new i)) f f' old.names (keys-kept name_in slots new at named others) same_names;
    inputs = indexes-same (λ i. input_in (link_at slots i)) (λ i. input_in (link_at new i)) g g' old.inputs (keys-kept input_in slots new at mapped others) same_inputs;
  }

-- an output handle with a link is one of the slots
pub output-within : (slots : List (Option Link)) (at : ℕ) (link : Link) → link_at slots at ≡ Some link → at < length slots
output-within slots at link there = within is_some slots at None refl (ap is_some there)

module _ (slots : List (Option Link)) (f f' : Text → Option OutputHandle) (g g' : InputHandle → Option OutputHandle) (at : ℕ) (link slot : Link) (old : Agree slots f g) (there : link_at slots at ≡ Some link) where
  set-here : link_at (set slots at (Some slot)) at ≡ Some slot
  set-here = get_or-set_same slots at (Some slot) None (output-within slots at link there)

  set-others : (i : ℕ) → i ≢ at → link_at (set slots at (Some slot)) i ≡ link_at slots i
  set-others i ne = get_or-set_other slots at i (Some slot) None ne

  -- a link is written that keeps its name and its input handle
  pub agree-written : slot.name ≡ link.name → slot.input ≡ link.input → ((q : Text) → f' q ≡ f q) → ((q : InputHandle) → g' q ≡ g q) → Agree (set slots at (Some slot)) f' g'
  agree-written named mapped same_names same_inputs =
      agree-kept slots (set slots at (Some slot)) f f' g g' at old set-others (rw (set-here, there) (ap (λ n. Some n) named)) (rw (set-here, there) mapped) same_names same_inputs

  -- a link that waits is written with its input handle
  pub agree-mapped : (input : InputHandle) (output : OutputHandle) → g input ≡ None → output.0 ≡ at → link.input ≡ None → slot.name ≡ link.name → slot.input ≡ Some input → ((q : Text) → f' q ≡ f q) → ((q : InputHandle) → g' q ≡ cond (same_input input q) (Some output) (g q)) → Agree (set slots at (Some slot)) f' g'
  agree-mapped input output unmapped here waits named mapped same_names maps =
      agree-attached slots (set slots at (Some slot)) f f' g g' at old set-others input output unmapped here (rw there waits) (rw (set-here, there) (ap (λ n. Some n) named)) (rw set-here mapped) same_names maps

-- a link is written as it was
pub written-same : (slots : List (Option Link)) (at : ℕ) (link : Link) → link_at slots at ≡ Some link → set slots at (Some link) ≡ slots
written-same slots at link there = rw (← there) (set-get_or slots at None)

-- a link that waits has no input handle
pub waits-unmapped : (slot : Option Link) (link : Link) → slot ≡ Some link → IsWaiting slot → link.input ≡ None
waits-unmapped None link there waits = absurd waits
waits-unmapped (Some other) link there waits = let e : other ≡ link = cc there in rw (← e) waits

-- nothing changed that the tables are read by
pub agree-same : (slots new : List (Option Link)) (f f' : Text → Option OutputHandle) (g g' : InputHandle → Option OutputHandle) → Agree slots f g → new ≡ slots → ((q : Text) → f' q ≡ f q) → ((q : InputHandle) → g' q ≡ g q) → Agree new f' g'
agree-same slots new f f' g g' old same same_names same_inputs = record {
  names = indexes-same (λ i. name_in (link_at slots i)) (λ i. name_in (link_at new i)) f f' old.names (λ i. ap (λ s. name_in (link_at s i)) same) same_names;
  inputs = indexes-same (λ i. input_in (link_at slots i)) (λ i. input_in (link_at new i)) g g' old.inputs (λ i. ap (λ s. input_in (link_at s i)) same) same_inputs;
}

-- what is none as a handle is none as a number
pub no_output : (found : Option ℕ) → None ≡ as_output found → found ≡ None
no_output None h = refl
no_output (Some number) h = absurd (cc h)

-- what is some handle is its number
pub an_output : (found : Option ℕ) (output : OutputHandle) → Some output ≡ as_output found → found ≡ Some output.0
an_output None output h = absurd (cc h)
an_output (Some number) output h = let e : ◌≡◌ {A = OutputHandle} output (record { 0 = number }) = cc h in ap (λ u. Some u.0) (sym e)

-- what shows a key is some link
pub copied-some : {K : Type 0} (key_in : Option Link → Option K) (found : Option (Bor Link)) (slot : Option Link) (key : K) → key_in None ≡ None → option_copied found ≡ slot → key_in slot ≡ Some key → IsSome found
copied-some key_in None slot key none same shows = let e : key_in None ≡ Some key = rw same shows in absurd (cc (none, e))
copied-some key_in (Some link) slot key none same shows = refl

module _ (slots now : List (Option Link)) (by_name : Text → Option OutputHandle) (by_input : InputHandle → Option OutputHandle) (agree : Agree slots by_name by_input) (same : slots ≡ now) (output : OutputHandle) (link : Link) (there : link_at slots output.0 ≡ Some link) where
  -- the link of a name was found
  pub found-name : (name : Text) → by_name name ≡ Some output → Finds now (output_named now name) output link
  found-name name found = record {
    found_at = rw (← same) (an_output (output_named slots name) output (sym found ∙ finds-name slots by_name by_input agree name));
    link_is = rw (← same) there;
  }

  -- the link that an input handle is mapped to was found
  pub found-input : (input : InputHandle) → by_input input ≡ Some output → Finds now (output_mapped now input) output link
  found-input input found = record {
    found_at = rw (← same) (an_output (output_mapped slots input) output (sym found ∙ finds-input slots by_name by_input agree input));
    link_is = rw (← same) there;
  }

module _ (slots now : List (Option Link)) (by_name : Text → Option OutputHandle) (by_input : InputHandle → Option OutputHandle) (agree : Agree slots by_name by_input) (same : slots ≡ now) where
  -- no link has the name
  pub not_found-name : (name : Text) → by_name name ≡ None → output_named now name ≡ None
  not_found-name name absent = rw (← same) (no_output (output_named slots name) (sym absent ∙ finds-name slots by_name by_input agree name))

  -- the input handle is mapped to no link
  pub not_found-input : (input : InputHandle) → by_input input ≡ None → output_mapped now input ≡ None
  not_found-input input absent = rw (← same) (no_output (output_mapped slots input) (sym absent ∙ finds-input slots by_name by_input agree input))

-- what a key finds, once one link has changed: `has` tests for the key that `key_in` shows
module _ {K : Type 0} (key_in : Option Link → Option K) (has : K → Option Link → Bool) (none : (key : K) → has key None ≡ false) (has-in : (key : K) (slot : Option Link) → has key slot ≡ true → key_in slot ≡ Some key) (in-has : (key : K) (slot : Option Link) → key_in slot ≡ Some key → has key slot ≡ true) (slots new : List (Option Link)) (find : K → Option OutputHandle) (at : ℕ) (old : Indexes (λ i. key_in (link_at slots i)) find) (others : (i : ℕ) → i ≢ at → link_at new i ≡ link_at slots i) where
  -- another link with the key had it before
  was-found : (key : K) (k : ℕ) → k ≢ at → has key (link_at new k) ≡ true → find key ≡ Some (record { 0 = k })
  was-found key k ne hit =
      let was : has key (link_at slots k) ≡ true = rw (others k ne) at hit in
      old.finds key k (has-in key (link_at slots k) was)

  -- a key that no link had is that of the link that has it now
  key-now : (key : K) → find key ≡ None → key_in (link_at new at) ≡ Some key → position (has key) new ≡ Some at
  key-now key free here =
      let only : (k : ℕ) → has key (link_at new k) ≡ true → k ≡ at = λ k hit. elim (cases_eq k at) [
        | inl e ↦ e
        | inr ne ↦
            let there : find key ≡ Some (record { 0 = k }) = was-found key k ne hit in
            absurd (cc (there, free))
      ] in
      position-only (has key) new at None (none key) (in-has key (link_at new at) here) only

  -- no link has the key of a link that was freed
  key-gone : (key : K) → key_in (link_at slots at) ≡ Some key → link_at new at ≡ None → position (has key) new ≡ None
  key-gone key had gone =
      let fails : (k : ℕ) → has key (link_at new k) ≡ false = λ k. elim (cases_Bool (has key (link_at new k))) [
        | inr miss ↦ miss
        | inl hit ↦ elim (cases_eq k at) [
          | inl e ↦ let absent : has key (link_at new k) ≡ false = rw (e, gone) (none key) in absent
          | inr ne ↦
              let there : find key ≡ Some (record { 0 = k }) = was-found key k ne hit in
              let first : find key ≡ Some (record { 0 = at }) = old.finds key at had in
              let handles : ◌≡◌ {A = OutputHandle} (record { 0 = k }) (record { 0 = at }) = cc (there, first) in
              absurd (ne (ap (λ h. h.0) handles))
        ]
      ] in
      position-none (has key) new None fails

module _ (slots new : List (Option Link)) (f : Text → Option OutputHandle) (g : InputHandle → Option OutputHandle) (at : ℕ) (old : Agree slots f g) (others : (i : ℕ) → i ≢ at → link_at new i ≡ link_at slots i) where
  -- a name that no link had is that of the link that has it now
  pub named-now : (name : Text) → output_named slots name ≡ None → name_in (link_at new at) ≡ Some name → output_named new name ≡ Some at
  unfolding output_named
  named-now name free here =
      key-now name_in has_name (λ _. refl) has_name-in in-has_name slots new f at old.names others name (name-free slots f g old name free) here

  -- an input handle that was mapped to no link is mapped to the link that has it now
  pub mapped-now : (input : InputHandle) → output_mapped slots input ≡ None → input_in (link_at new at) ≡ Some input → output_mapped new input ≡ Some at
  unfolding output_mapped
  mapped-now input free here =
      key-now input_in has_input (λ _. refl) has_input-in in-has_input slots new g at old.inputs others input (input-free slots f g old input free) here

  -- no link has the name of a link that was freed
  pub unnamed-now : (name : Text) → name_in (link_at slots at) ≡ Some name → link_at new at ≡ None → output_named new name ≡ None
  unfolding output_named
  unnamed-now name had gone =
      key-gone name_in has_name (λ _. refl) has_name-in in-has_name slots new f at old.names others name had gone

  -- the input handle of a link that was freed is mapped to none
  pub unmapped-now : (input : InputHandle) → input_in (link_at slots at) ≡ Some input → link_at new at ≡ None → output_mapped new input ≡ None
  unfolding output_mapped
  unmapped-now input had gone =
      key-gone input_in has_input (λ _. refl) has_input-in in-has_input slots new g at old.inputs others input had gone

-- a link that is written with its name leaves the links by name
pub written-named : (slots : List (Option Link)) (at : ℕ) (link slot : Link) → link_at slots at ≡ Some link → slot.name ≡ link.name → (name : Text) → output_named (set slots at (Some slot)) name ≡ output_named slots name
unfolding output_named
written-named slots at link slot there named name =
    let same : has_name name (Some slot) ≡ has_name name (get_or slots at None) = rw (there, named) refl in
    rw (position_or_len-set (has_name name) slots at (Some slot) None same, length-set {A = Option Link} slots at (Some slot)) refl

-- the input handle that a link is written with is mapped to it
pub written-mapped : (slots : List (Option Link)) (f : Text → Option OutputHandle) (g : InputHandle → Option OutputHandle) (at : ℕ) (link slot : Link) → Agree slots f g → link_at slots at ≡ Some link → (input : InputHandle) → output_mapped slots input ≡ None → slot.input ≡ Some input → output_mapped (set slots at (Some slot)) input ≡ Some at
written-mapped slots f g at link slot old there input free here =
    mapped-now slots (set slots at (Some slot)) f g at old (set-others slots f f g g at link slot old there) input free (ap input_in (set-here slots f f g g at link slot old there) ∙ here)

-- the name of a link is the one that its slot shows
pub shown-name : (slot : Option Link) (link : Link) (name : Text) → slot ≡ Some link → name_in slot ≡ Some name → link.name ≡ name
shown-name slot link name there shows = let e : name_in (Some link) ≡ Some name = sym (ap name_in there) ∙ shows in cc e
