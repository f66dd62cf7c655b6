-- There are at most as many events as octets, and one.
use Rattle.std.proofs.Common.{◌≡◌, ℕ, suc, ◌+◌, ◌≤◌, Option, Some, None, Result, Ok, Err, List, [], ◌∷◌, length, refl, ◌∙◌, ap, arith}
use Rattle.txn_parties.specs.declared.event.Event.{Event}
use Rattle.txn_program_agree_lines.specs.EventLines.{event_of_line, input_events}
use Rattle.txn_program_lines.specs.Cutting.{lines_of}
use Rattle.txn_program_lines.specs.Numbered.{item_then, items_from}
use Rattle.txn_program_parties.proofs.LineCount.{lines-few}

-- lines spell an item each
items-count : (spelled : List ℕ → Option Event) (n : ℕ) (lines : List (List ℕ)) (events : List Event) → items_from spelled n lines ≡ Ok events → length events ≡ length lines
unfolding items_from
items-count spelled n [] events e = let is : events ≡ [] = cc e in ap length is
items-count spelled n (line ∷ others) events e = by_line (spelled line) (items_from spelled (n + 1) others) (λ more f. items-count spelled (n + 1) others more f) e
  where
    by_line : (o : Option Event) (r : Result (List Event) ℕ) → ((more : List Event) → r ≡ Ok more → length more ≡ length others) → item_then o n r ≡ Ok events → length events ≡ length (line ∷ others)
    by_line None r rest e = cc e
    by_line (Some item) (Err bad) rest e = cc e
    by_line (Some item) (Ok more) rest e =
        let is : events ≡ item ∷ more = cc e in
        ap length is ∙ ap (λ n. suc n) (rest more refl)

pub events-few : (octets : List ℕ) (events : List Event) → input_events octets ≡ Ok events → length events ≤ length octets + 1
events-few octets events e =
    let a = items-count event_of_line 1 (lines_of octets) events e in
    let b = lines-few octets in
    omega (arith, a, b)
