-- What is read of a source and written to a sink.
use Rattle.std.proofs.Common.{◌≡◌, ◌≢◌, ℕ, ◌+◌, ◌-◌, ◌<◌, ◌≤◌, Bool, true, false, cond, ◌==◌, Option, Some, None, List, [], ◌++◌, length, take, drop, refl, sym, ◌∙◌, ap, subst, arith, append_assoc, append-nil, length-append}
use Rattle.std.proofs.lemmas.Bool.{eqb-true}
use Rattle.std.proofs.lemmas.List.{drop-drop, drop_at, length-drop, take_rest}
use Rattle.std.proofs.Math.Seq.{take-add, take-length}
use Rattle.amqp_txn_types.specs.Growing.{grown}
use Rattle.txn_program_edges.specs.Reading.{IsRead, IsTooLong}
use Rattle.txn_program_edges.specs.Writing.{Wrote, text_by}

-- one octet more than the limit was read, so the input has more octets than the limit
pub too_long : (limit : ℕ) (before after : Option (List ℕ)) (octets : List ℕ)
    → IsRead before octets after → length octets ≡ limit + 1 → IsTooLong limit before after
too_long limit None after octets read many = tt
too_long limit (Some before) after octets read many =
    let more : limit < length before =
    rw read.1 (rw (length-append octets read.0) (omega (arith, many))) in (
      more,
      read.2 ∙ sym (ap Some (ap (λ (all : List ℕ). drop (limit + 1) all) read.1
          ∙ drop_at octets read.0 (limit + 1) many)),
    )

-- a front that grew by a front of what is left of the text is a longer front
pub grown-front : (before : Option (List ℕ)) (text : List ℕ) (count more : ℕ)
    → grown (grown before (take count text)) (take more (drop count text))
    ≡ grown before (take (count + more) text)
grown-front None text count more = refl
grown-front (Some octets) text count more =
    ap Some (append_assoc octets (take count text) (take more (drop count text))
    ∙ ap (λ (front : List ℕ). octets ++ front) (sym (take-add count more text)))

-- the rest of a front's rest is the rest of a longer front
pub rest-rest : (text rest : List ℕ) (count more : ℕ) → rest ≡ drop count text
    → take (length rest - more) (drop more rest) ≡ drop (count + more) text
rest-rest text rest count more left =
    take_rest rest more ∙ ap (drop more) left ∙ drop-drop more count text

-- a longer front is within the text
pub longer_within : (text rest : List ℕ) (count more : ℕ) → rest ≡ drop count text
    → count ≤ length text → more ≤ length rest → count + more ≤ length text
longer_within text rest count more left within fits =
    let rest_is : length rest ≡ length text - count = ap length left ∙ length-drop count text in
    omega (arith, within, fits, rest_is)

-- there is room for the rest of a front's rest
pub rest_fits : (text rest : List ℕ) (count more spare after : ℕ) → rest ≡ drop count text
    → length rest ≤ spare → spare ≤ after + more
    → length (take (length rest - more) (drop more rest)) ≤ after
rest_fits text rest count more spare after left fits room =
    let shorter : length (drop more rest) ≡ length rest - more = length-drop more rest in
    rw (take_rest rest more) (omega (arith, shorter, fits, room))

-- a longer front was written
pub longer-front : (before now after : Option (List ℕ)) (text rest : List ℕ) (count more : ℕ)
    → rest ≡ drop count text → now ≡ grown before (take count text)
    → after ≡ grown now (take more rest) → after ≡ grown before (take (count + more) text)
longer-front before now after text rest count more left wrote wrote_more =
    wrote_more ∙ ap (grown now) (ap (take more) left)
    ∙ ap (λ (w : Option (List ℕ)). grown w (take more (drop count text))) wrote
    ∙ grown-front before text count more

whole_unless : (fault : Bool) (text : List ℕ)
    → cond fault (take (length text) text) text ≡ text
whole_unless true text = take-length text
whole_unless false text = refl

whole_by : (none fault : Bool) (text : List ℕ) → (none ≡ true → ⊥)
    → cond none [] (cond fault (take (length text) text) text) ≡ text
whole_by true fault text other = absurd (other refl)
whole_by false fault text other = whole_unless fault text

-- the whole text is what is written of it by any status but out of memory
pub text_by-whole : (status : ℕ) (text : List ℕ) → status ≢ 6
    → text_by status (length text) text ≡ text
text_by-whole status text other =
    whole_by (status == 6) (status == 5) text (λ is. other (eqb-true status 6 is))

-- where memory runs out nothing is written
pub wrote_nothing : (before : Option (List ℕ)) (text : List ℕ) → Wrote before before 6 text
wrote_nothing None text = record { count = 0; written = refl }
wrote_nothing (Some octets) text =
    record { count = 0; written = ap Some (sym (append-nil octets)) }

-- the text under another name
pub wrote-as : (before after : Option (List ℕ)) (status : ℕ) (text these : List ℕ)
    → text ≡ these → Wrote before after status text → Wrote before after status these
wrote-as before after status text these same wrote =
    subst (λ (t : List ℕ). Wrote before after status t) same wrote
