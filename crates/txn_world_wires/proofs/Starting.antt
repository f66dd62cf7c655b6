-- Two parties as they begin.
use Rattle.std.proofs.Common.{◌≡◌, ℕ, zero, suc, ◌+◌, Bool, false, Option, None, List, [], length, take, drop, refl, sym, ◌∙◌, ap, arith, subst}
use Rattle.std.specs.Prelude.{slice_get, replicate}
use Rattle.std.proofs.lemmas.List.{length-replicate, take_all}
use Rattle.amqp_resource_record.specs.declared.entry.Entry.{Entry}
use Rattle.txn_parties.specs.declared.item.Item.{Item}
use Rattle.txn_parties.specs.declared.item.Answered.{Answered}
use Rattle.txn_parties.specs.declared.item.Halt.{Halt}
use Rattle.txn_parties.specs.Exchange.{Begins, Exchange, begun}
use Rattle.txn_parties.specs.Invariant.{Keeps}
use Rattle.txn_parties.proofs.Turning.{keeps_start}
use Rattle.txn_world_wires.specs.declared.controllers.Controllers.{Controllers}
use Rattle.txn_world_wires.specs.declared.controllers.Transaction.{Transaction}
use Rattle.txn_world_wires.specs.declared.parties.Parties.{Parties}
use Rattle.txn_world_wires.specs.declared.tag.Tag.{Tag}
use Rattle.txn_world_wires.specs.Knowing.{awaited_of, has_ended, id_of, is_sent, link_of, verdict_of}
use Rattle.txn_world_wires.specs.Parties.{Begun, Sound, exchange_of}
use Rattle.txn_world_wires.specs.Table.{Tabled, awaits_one}
use Rattle.txn_world_wires.specs.Tags.{came_of}

exchange_parts : (first first2 : List Entry) (came came2 : List (Item × Entry)) (waiting waiting2 : List Item) (told told2 coming coming2 : List Answered) (cut cut2 : Bool) (stop stop2 : Option Halt) (sure : Bool) → first ≡ first2 → came ≡ came2 → waiting ≡ waiting2 → told ≡ told2 → coming ≡ coming2 → cut ≡ cut2 → stop ≡ stop2 → ◌≡◌ {A = Exchange} (record { first = first; came = came; waiting = waiting; told = told; coming = coming; cut = cut; stop = stop; sure = sure }) (record { first = first2; came = came2; waiting = waiting2; told = told2; coming = coming2; cut = cut2; stop = stop2; sure = sure })
exchange_parts first first2 came came2 waiting waiting2 told told2 coming coming2 cut cut2 stop stop2 sure a b c d e f g =
    let at_first : List Entry → Exchange = λ x. record { first = x; came = came; waiting = waiting; told = told; coming = coming; cut = cut; stop = stop; sure = sure } in
    let at_came : List (Item × Entry) → Exchange = λ x. record { first = first2; came = x; waiting = waiting; told = told; coming = coming; cut = cut; stop = stop; sure = sure } in
    let at_waiting : List Item → Exchange = λ x. record { first = first2; came = came2; waiting = x; told = told; coming = coming; cut = cut; stop = stop; sure = sure } in
    let at_told : List Answered → Exchange = λ x. record { first = first2; came = came2; waiting = waiting2; told = x; coming = coming; cut = cut; stop = stop; sure = sure } in
    let at_coming : List Answered → Exchange = λ x. record { first = first2; came = came2; waiting = waiting2; told = told2; coming = x; cut = cut; stop = stop; sure = sure } in
    let at_cut : Bool → Exchange = λ x. record { first = first2; came = came2; waiting = waiting2; told = told2; coming = coming2; cut = x; stop = stop; sure = sure } in
    let at_stop : Option Halt → Exchange = λ x. record { first = first2; came = came2; waiting = waiting2; told = told2; coming = coming2; cut = cut2; stop = x; sure = sure } in
    ap at_first a ∙ ap at_came b ∙ ap at_waiting c ∙ ap at_told d ∙ ap at_coming e ∙ ap at_cut f ∙ ap at_stop g

pub begun_is : (sure : Bool) (entries : List Entry) (p : Parties) → Begun entries p → exchange_of sure p ≡ begun sure entries
begun_is sure entries p b =
    let first : take p.attached p.entries ≡ entries = ap (λ (n : ℕ). take n p.entries) b.attached ∙ ap (λ (r : List Entry). take (length entries) r) b.entries ∙ take_all (length entries) entries (omega arith) in
    let came : came_of p.tags (drop p.attached p.entries) ≡ [] = ap (λ (t : List Tag). came_of t (drop p.attached p.entries)) b.tags in
    let told : take p.returned p.answers ≡ [] = ap (λ (n : ℕ). take n p.answers) b.returned in
    let coming : drop p.returned p.answers ≡ [] = ap (λ (n : ℕ). drop n p.answers) b.returned ∙ b.answers in
    exchange_parts (take p.attached p.entries) entries (came_of p.tags (drop p.attached p.entries)) [] p.waiting [] (take p.returned p.answers) [] (drop p.returned p.answers) [] p.cut false p.stop None sure first came b.waiting told coming b.cut b.stop

unended : (n c : ℕ) → has_ended (slice_get (replicate n false) c) ≡ false
unended zero zero = refl
unended zero (suc c) = refl
unended (suc n) zero = refl
unended (suc n) (suc c) = unended n c

no_transaction : (known : Controllers) (x : ℕ) → known.transactions ≡ [] → slice_get known.transactions x ≡ None
no_transaction known x e = ap (λ (l : List Transaction). slice_get l x) e

tabled_begun : (sure : Bool) (entries : List Entry) (known : Controllers) → known.transactions ≡ [] → known.ended ≡ replicate (length entries) false → Tabled known (begun sure entries)
tabled_begun sure entries known t e = record {
  made = ap (λ (l : List Transaction). length l) t;
  links = ap (λ (l : List Bool). length l) e ∙ length-replicate (length entries) false;
  link = λ x. ap link_of (no_transaction known x t);
  id = λ x. ap id_of (no_transaction known x t);
  verdict = λ x. ap verdict_of (no_transaction known x t);
  sent = λ x. ap is_sent (no_transaction known x t);
  ended = λ c. ap (λ (l : List Bool). has_ended (slice_get l c)) e ∙ unended (length entries) c;
  awaits = λ x a. ap (λ (o : Option Transaction). awaits_one (awaited_of o) a) (no_transaction known x t);
  fits = λ x txn f. let g = sym (no_transaction known x t) ∙ f in cc g;
}

pub begun_sound : (sure : Bool) (entries : List Entry) (p : Parties) → Begins entries → Begun entries p → Sound sure p
begun_sound sure entries p s b =
    let is = sym (begun_is sure entries p b) in
    record {
      keeps = subst Keeps is (keeps_start sure entries s);
      counted = ap (λ (r : List Entry). length r) b.entries ∙ sym (ap (λ (t : List Tag). p.attached + length t) b.tags ∙ ap (λ (n : ℕ). n + 0) b.attached ∙ add_zero (length entries));
      returned = let r = b.returned in omega (arith, r);
      table = subst (Tabled p.controllers) is (tabled_begun sure entries p.controllers b.transactions b.ended);
    }
  where
    add_zero : (n : ℕ) → n + 0 ≡ n
    add_zero n = omega arith
