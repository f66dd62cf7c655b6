-- Two parties that play the events of a list, one after another.
use Rattle.std.proofs.Common.{◌≡◌, ℕ, ◌+◌, ◌≤◌, ◌<◌, Bool, Option, Ok, Err, List, [], ◌∷◌, ◌++◌, length, take, get_or, refl, sym, ◌∙◌, ap, arith, subst}
use Rattle.std.proofs.lemmas.List.{take_more}
use Rattle.amqp_txn_types.specs.declared.id.TransactionId.{TransactionId}
use Rattle.amqp_txn_types.specs.declared.items.NoMemory.{NoMemory}
use Rattle.amqp_below_layer.specs.Told.{Told}
use Rattle.txn_parties.specs.declared.event.Event.{Event}
use Rattle.txn_parties.specs.declared.event.Happened.{Happened}
use Rattle.txn_parties.specs.Exchange.{made}
use Rattle.txn_world.specs.Happening.{EventSays, TwoParties}
use Rattle.txn_program_agree.specs.Playing.{IsBegun, PlayedAll, PlayedOn, PlayedSome}
use Rattle.txn_program_agree.proofs.OneMore.{played-more, played-none}
use Rattle.txn_program_parties.proofs.OneEvent.{events_more, one_skip, past_count, skipped_few, skipped_more}

pub all-none : {S G : Type 0} (told : S → Told) (next : G → ℕ → TransactionId) (sure : Bool) (w : TwoParties S G) (events : List Event) → IsBegun sure w.sides → PlayedAll told next sure w w (take 0 events) 0
all-none told next sure w events b = record { past = []; on = played-none told next sure w b; these = refl; skips = refl }

pub made-few : {S G : Type 0} (told : S → Told) (next : G → ℕ → TransactionId) (sure : Bool) (old new : TwoParties S G) (events : List Event) (i skipped : ℕ) → i ≤ length events → PlayedAll told next sure old new (take i events) skipped → made new.sides ≤ i
made-few told next sure old new events i skipped within p =
    let few = p.on.few in
    let is = past_count p.past events i within p.these in
    omega (arith, few, is)

pub skipped-few : {S G : Type 0} (told : S → Told) (next : G → ℕ → TransactionId) (sure : Bool) (old new : TwoParties S G) (events : List Event) (i skipped : ℕ) → i ≤ length events → PlayedAll told next sure old new (take i events) skipped → skipped ≤ i
skipped-few told next sure old new events i skipped within p =
    let few = skipped_few p.past events i within p.these in
    let s = p.skips in
    omega (arith, few, s)

pub all-more : {S G : Type 0} (told : S → Told) (next : G → ℕ → TransactionId) (starts : G → Option (ℕ → TransactionId)) (sure : Bool) (old mid new : TwoParties S G) (events : List Event) (i skipped now : ℕ) (e : Event) (h : Happened) → i < length events → e ≡ get_or events i e → PlayedAll told next sure old mid (take i events) skipped → EventSays told next starts mid new e (Ok h) → now ≡ skipped + one_skip h → PlayedAll told next sure old new (take (i + 1) events) now
all-more told next starts sure old mid new events i skipped now e h within is p s counted = record {
  past = p.past ++ (e, h) ∷ [];
  on = played-more told next starts sure old mid new p.past e h p.on s;
  these = events_more p.past e h ∙ ap (λ l. l ++ e ∷ []) p.these ∙ ap (λ (x : Event). take i events ++ x ∷ []) is ∙ sym (take_more events i e within);
  skips = counted ∙ ap (λ n. n + one_skip h) p.skips ∙ sym (skipped_more p.past e h);
}

-- where memory runs out at an event, those before it were played
pub some-played : {S G : Type 0} (told : S → Told) (next : G → ℕ → TransactionId) (starts : G → Option (ℕ → TransactionId)) (sure : Bool) (old mid new : TwoParties S G) (events : List Event) (i skipped : ℕ) (e : Event) (error : NoMemory) → i ≤ length events → PlayedAll told next sure old mid (take i events) skipped → EventSays told next starts mid new e (Err error) → PlayedSome told next sure old new events
some-played {S} {G} told next starts sure old mid new events i skipped e error within p s = record {
  past = p.past;
  on = subst (λ (w : TwoParties S G). PlayedOn told next sure old w p.past) (sym s.err) p.on;
  front = p.these ∙ ap (λ n. take n events) (sym (past_count p.past events i within p.these));
}
