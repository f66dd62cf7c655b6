-- A test that is true exactly where two values are one, and such tests of parts put together.
use Rattle.std.proofs.Common.{◌≡◌, Bool, true, false, ◌&&◌, List, [], ◌∷◌, Option, Some, None, nat_eq, refl, sym, ◌∙◌, ap}
use mathlib.Core.Bool.{true≢false}
use mathlib.Core.Logic.{inl, inr}
use denote.Struct.Cover.{Cover-one}
use denote.Struct.Declared.{Declared as DeclaredStruct}
use denote.Struct.Field.{Field}
use denote.Struct.Values.{Values}
use denote.Enum.Declared.{Record, Declared, Choice, values_one}
use denote.Enum.Bare.{Bare, sameb, same_true, true_same}
use denote.Enum.Compared.{Each, by}
use Rattle.std.specs.Bool.{Decides, beq}
use Rattle.std.specs.Cmp.{booleans_Decides, unsigned_Decides}
use Rattle.std.specs.Cmp.Lexicographic.{pointwise}
use Rattle.std.specs.Option.{option_eq}

-- where the test is true the two are one, and it is true of a value and itself
pub record IsEquality {X : Type 0} (E : X → X → Bool) : Type 0 where
  pub one : (x y : X) → E x y ≡ true → x ≡ y
  pub same : (x : X) → E x x ≡ true

-- what a contract says of such a test
pub decides : {X : Type 0} {E : X → X → Bool} → IsEquality E → (x y : X) → Decides (E x y) (x ≡ y)
decides {X} {E} e x y = (e.one x y, λ p. ap (λ (z : X). E x z) (sym p) ∙ e.same x)

decided : {X : Type 0} {E : X → X → Bool} → ((x y : X) → Decides (E x y) (x ≡ y)) → IsEquality E
decided d = record { one = λ x y. (d x y).0; same = λ x. (d x x).1 refl }

-- ---- tests that are joined by 'and'

pub both : (s t : Bool) → (s && t) ≡ true → (s ≡ true) × (t ≡ true)
both true t h = (refl, h)
both false t h = absurd (true≢false (sym h))

pub joined : {s t : Bool} → s ≡ true → t ≡ true → (s && t) ≡ true
joined p q = λ i. p i && q i

-- ---- numbers, booleans, options, lists and pairs

pub number : IsEquality nat_eq
number = decided unsigned_Decides

pub boolean : IsEquality beq
boolean = decided booleans_Decides

module _ {X : Type 0} {E : X → X → Bool} (e : IsEquality E) where
  option_one : (x y : Option X) → option_eq E x y ≡ true → x ≡ y
  option_one None None h = refl
  option_one None (Some y) h = absurd (true≢false (sym h))
  option_one (Some x) None h = absurd (true≢false (sym h))
  option_one (Some x) (Some y) h = ap (λ (z : X). Some z) (e.one x y h)

  option_same : (x : Option X) → option_eq E x x ≡ true
  option_same None = refl
  option_same (Some x) = e.same x

  pub option : IsEquality (option_eq E)
  option = record { one = option_one; same = option_same }

  list_one : (xs ys : List X) → pointwise E xs ys ≡ true → xs ≡ ys
  list_one [] [] h = refl
  list_one [] (y ∷ ys) h = absurd (true≢false (sym h))
  list_one (x ∷ xs) [] h = absurd (true≢false (sym h))
  list_one (x ∷ xs) (y ∷ ys) h =
      let b = both (E x y) (pointwise E xs ys) h in
      λ i. e.one x y b.0 i ∷ list_one xs ys b.1 i

  list_same : (xs : List X) → pointwise E xs xs ≡ true
  list_same [] = refl
  list_same (x ∷ xs) = joined (e.same x) (list_same xs)

  pub list : IsEquality (pointwise E)
  list = record { one = list_one; same = list_same }

module _ {A B : Type 0} {E : A → A → Bool} {F : B → B → Bool} (e : IsEquality E) (f : IsEquality F) where
  pub pair : IsEquality (λ (x y : A × B). E x.0 y.0 && F x.1 y.1)
  pair = record {
    one = λ x y h. let b = both (E x.0 y.0) (F x.1 y.1) h in λ i. (e.one x.0 y.0 b.0 i, f.one x.1 y.1 b.1 i);
    same = λ x. joined (e.same x.0) (f.same x.1);
  }

-- ---- the fields of a variant or a struct, as a tuple that ends with nothing: the last is one field

pub no_field : IsEquality (λ (x y : Unit {0}). true)
no_field = record { one = λ x y h. refl; same = λ x. refl }

module _ {A : Type 0} {E : A → A → Bool} (e : IsEquality E) where
  pub one_field : IsEquality (λ (x y : A × Unit {0}). E x.0 y.0)
  one_field = record {
    one = λ x y h. λ i. (e.one x.0 y.0 h i, tt);
    same = λ x. e.same x.0;
  }

-- ---- structs

-- by a test of the fields' values, as a tuple that ends with nothing
pub structure : (T : DeclaredStruct) {E : Values T.parts → Values T.parts → Bool} → IsEquality E → IsEquality (λ (x y : T.D). E (T.as_values x) (T.as_values y))
structure T e = record {
  one = λ x y h. Cover-one T.cover T.propositions x y (e.one (T.as_values x) (T.as_values y) h);
  same = λ x. e.same (T.as_values x);
}

-- ---- enums

-- each variant's test is one of equality
abbrev pub Variants : (Fss : List (List Field)) → Each Bool Fss → Type 0
Variants [] es = Unit {0}
Variants (Fs ∷ Fss) es = IsEquality es.0 × Variants Fss es.1

choice_one : (Fss : List (List Field)) (es : Each Bool Fss) → Variants Fss es → (c d : Choice Fss) → by false false Fss es c d ≡ true → c ≡ d
choice_one [] es all c d h = absurd c
choice_one (Fs ∷ Fss) es all (inl x) (inl y) h = ap inl (all.0.one x y h)
choice_one (Fs ∷ Fss) es all (inl x) (inr y) h = absurd (true≢false (sym h))
choice_one (Fs ∷ Fss) es all (inr x) (inl y) h = absurd (true≢false (sym h))
choice_one (Fs ∷ Fss) es all (inr x) (inr y) h = ap inr (choice_one Fss es.1 all.1 x y h)

choice_same : (Fss : List (List Field)) (es : Each Bool Fss) → Variants Fss es → (c : Choice Fss) → by false false Fss es c c ≡ true
choice_same [] es all c = absurd c
choice_same (Fs ∷ Fss) es all (inl x) = all.0.same x
choice_same (Fs ∷ Fss) es all (inr x) = choice_same Fss es.1 all.1 x

pub enumeration : (N : Record) (es : Each Bool N.parts) → Variants N.parts es → IsEquality (λ (x y : N.D). by false false N.parts es (N.as_values x) (N.as_values y))
enumeration N es all = record {
  one = λ x y h. values_one N x y (choice_one N.parts es all (N.as_values x) (N.as_values y) h);
  same = λ x. choice_same N.parts es all (N.as_values x);
}

-- an enum without fields
pub bare : (D : Declared) → Bare D.parts → IsEquality (sameb D)
bare D is_bare = record { one = same_true D is_bare; same = λ x. true_same D x x refl }
