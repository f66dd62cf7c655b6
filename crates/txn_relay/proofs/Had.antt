-- One event more.
use Rattle.std.proofs.Common.{◌≡◌, ℕ, ◌+◌, ◌<◌, ◌≤◌, List, [], ◌∷◌, ◌++◌, append_assoc, length, take, drop, get_or, refl, sym, ◌∙◌, ap, arith, subst}
use Rattle.std.proofs.lemmas.List.{take-append-drop, take_more}
use Rattle.txn_parties.specs.declared.event.Happened.{Happened}
use Rattle.txn_program_parties.proofs.OneEvent.{events_more, one_skip, skipped_few, skipped_more}
use Rattle.txn_relay.specs.declared.event.RelayEvent.{RelayEvent}
use Rattle.txn_relay.specs.Relaying.{Draws, Happens, LeavesSome, Relaying}
use Rattle.txn_relay.specs.Playing.{Had, HadAll, HadSome}

pub had_more : (draws : Draws) (old mid new : Relaying) (past : List (RelayEvent × Happened)) (event : RelayEvent) (h : Happened) → Had draws old past mid → Happens draws mid new event h → Had draws old (past ++ (event, h) ∷ []) new
had_more draws old mid new [] event h had now = (new, subst (λ (r : Relaying). Happens draws r new event h) had now, refl)
had_more draws old mid new (first ∷ past) event h had now = (had.0, had.1, had_more draws had.0 mid new past event h had.2 now)

pub all-none : (draws : Draws) (relay : Relaying) (events : List RelayEvent) → HadAll draws relay relay (take 0 events) 0
all-none draws relay events = record { past = []; had = refl; these = refl; skips = refl }

pub all-more : (draws : Draws) (old mid new : Relaying) (events : List RelayEvent) (i skipped now : ℕ) (d : RelayEvent) (h : Happened) → i < length events → HadAll draws old mid (take i events) skipped → Happens draws mid new (get_or events i d) h → now ≡ skipped + one_skip h → HadAll draws old new (take (i + 1) events) now
all-more draws old mid new events i skipped now d h within p did counted =
    let e : RelayEvent = get_or events i d in record {
      past = p.past ++ (e, h) ∷ [];
      had = had_more draws old mid new p.past e h p.had did;
      these = events_more p.past e h ∙ ap (λ l. l ++ e ∷ []) p.these ∙ sym (take_more events i d within);
      skips = counted ∙ ap (λ n. n + one_skip h) p.skips ∙ sym (skipped_more p.past e h);
    }

pub some-had : (draws : Draws) (old mid new : Relaying) (events : List RelayEvent) (i skipped : ℕ) (d : RelayEvent) → i < length events → HadAll draws old mid (take i events) skipped → LeavesSome mid new (get_or events i d) → HadSome draws old new events
some-had draws old mid new events i skipped d within p left = record {
  past = p.past;
  event = get_or events i d;
  rest = drop (i + 1) events;
  mid = mid;
  these =
      sym (take-append-drop (i + 1) events) ∙ ap (λ l. l ++ drop (i + 1) events) (take_more events i d within)
      ∙ append_assoc (take i events) (get_or events i d ∷ []) (drop (i + 1) events) ∙ ap (λ l. l ++ get_or events i d ∷ drop (i + 1) events) (sym p.these);
  had = p.had;
  left = left;
}

pub skipped-few : (draws : Draws) (old new : Relaying) (events : List RelayEvent) (i skipped : ℕ) → i ≤ length events → HadAll draws old new (take i events) skipped → skipped ≤ i
skipped-few draws old new events i skipped within p =
    let few = skipped_few p.past events i within p.these in
    let s = p.skips in
    omega (arith, few, s)
