-- What two parties leave that played events.
use Rattle.std.proofs.Common.{◌≡◌, ℕ, Bool, false, Option, Some, None, List, [], ◌++◌, refl, sym, ◌∙◌, ap, arith, subst, take, zero-add, inl, inr}
use Rattle.std.proofs.lemmas.List.{length-map}
use Rattle.std.proofs.lemmas.List.Concat.{flat_map-append}
use Rattle.amqp_txn_types.specs.Counts.{Rose}
use Rattle.amqp_txn_types.specs.Growing.{grown}
use Rattle.amqp_txn_types.specs.declared.id.TransactionId.{TransactionId}
use Rattle.amqp_txn_types.specs.declared.performatives.Attach.{Attach}
use Rattle.amqp_txn_types.specs.declared.performatives.Frame.{Frame}
use Rattle.amqp_txn_types.proofs.Growing.{grown-grown}
use Rattle.amqp_below_layer.specs.Told.{Told}
use Rattle.amqp_below_ids.specs.Listed.{listed}
use Rattle.amqp_below_ids.proofs.Draws.{AreNext-shift, Drew-append}
use Rattle.amqp_below_recorder.specs.declared.recorder.Recorder.{Recorder}
use Rattle.amqp_below_streams.specs.Streams.{SinkTold}
use Rattle.amqp_resource_record.specs.Opened.{opened_by, opens, refuses}
use Rattle.amqp_resource_record.specs.Vetoed.{vetoes}
use Rattle.amqp_resource_record.specs.declared.entry.Entry.{Entry}
use Rattle.txn_parties.specs.Exchange.{Exchange, entries_of, record_of}
use Rattle.txn_parties.specs.Taken.{TookSince}
use Rattle.txn_parties.specs.declared.event.Event.{Event}
use Rattle.txn_parties.specs.declared.event.Happened.{Happened}
use Rattle.txn_parties.specs.declared.item.Halt.{Halt}
use Rattle.txn_parties.specs.declared.item.Item.{Item}
use Rattle.txn_parties.proofs.Agreed.{agreement}
use Rattle.txn_program_edges.specs.Writing.{EndsWith, Wrote}
use Rattle.txn_program_edges.proofs.Streaming.{wrote_nothing}
use Rattle.txn_program_runs.specs.Running.{taken_of}
use Rattle.txn_program_runs.specs.declared.step_runs.Ran.{Ran}
use Rattle.txn_program_runs.proofs.Endings.{without_fault}
use Rattle.txn_world.specs.Beginning.{Began, Untaken}
use Rattle.txn_world.specs.Happening.{TwoParties, code_of_stop}
use Rattle.txn_program_agree.specs.AgreeText.{agree_text}
use Rattle.txn_program_agree.specs.Playing.{Played, PlayedAll, PlayedOn, PlayedSome, Refused, StopTold, Unknown}
use Rattle.txn_program_parties.specs.Skipping.{events_of, skipped_in}
use Rattle.txn_program_agree.specs.Serving.{AgreesOver, ArePlayed, PlaysOut, Reached, Reaches, stop_status}
use Rattle.txn_program_agree.proofs.Ending.{reached-ends}

-- over the layer as it was before the attaches, which took, refused and vetoed nothing of it
played_since : (before start new : Told) (sure : Bool) (first : List Entry) (w : Exchange) (past : List (Event × Happened)) (drawn : List TransactionId) → Untaken before start → start.refused ≡ before.refused → Played start new sure first w past drawn → Played before new sure first w past drawn
played_since before start new sure first w past drawn u same p = record {
  follows = p.follows;
  took = subst (λ o. TookSince o w new.taken) u.taken p.took;
  refused = λ none. p.refused none ∙ ap (λ o. grown o (refuses (record_of w))) same;
  stopped = λ halt item rest e f. since item halt (p.stopped halt item rest e f);
  vetoed = p.vetoed ∙ ap (λ o. grown o (vetoes (record_of w))) u.vetoed;
  vetoes_rose = let a = u.counted in let b = p.vetoes_rose in omega (arith, a, b);
}
  where
    rose : Rose start.refusals new.refusals → Rose before.refusals new.refusals
    rose r = let l = u.later in omega (arith, r, l)

    since : (item : Item) (halt : Halt) → StopTold start new w item halt → StopTold before new w item halt
    since item halt (Unknown is) = Unknown is
    since item halt (Refused error code r more adds told) = Refused error code (rose r) more adds (told ∙ ap (λ o. grown o (refuses (record_of w) ++ more)) same)

-- and opened the links of the attaches
opened_since : (before start new : Option (List (Attach × List Frame))) (first : List Entry) (w : Exchange) → start ≡ grown before (opens first) → new ≡ grown start (opens (entries_of w.came)) → w.first ≡ first → new ≡ grown before (opens (record_of w))
opened_since before start new first w b n f =
    let parts : opens (record_of w) ≡ opens first ++ opens (entries_of w.came) = ap (λ r. opens (r ++ entries_of w.came)) f ∙ flat_map-append (λ (e : Entry). opened_by e.step e.reply) first (entries_of w.came) in
    n ∙ ap (λ o. grown o (opens (entries_of w.came))) b ∙ grown-grown before (opens first) (opens (entries_of w.came)) ∙ ap (grown before) (sym parts)

-- two parties that began and played events were reached by them
reaches : {S G : Type 0} (told : S → Told) (next : G → ℕ → TransactionId) (starts : G → Option (ℕ → TransactionId)) (below : S) (source : G) (ids : List TransactionId) (links : ℕ) (start last : TwoParties S G) (events : List Event) (status : ℕ) (past : List (Event × Happened)) → ((n : ℕ) → next source n ≡ listed ids n) → Began told false next starts below source links start → PlayedOn told next false start last past → ArePlayed status events (events_of past) → Reaches (told below) (told last.below) (listed ids) links events status last.sides (skipped_in past)
reaches told next starts below source ids links start last events status past gives b on these =
    let all = Drew-append (next source) (next start.ids) (next last.ids) [] on.drawn b.drew on.drew in
    record {
      first = start.sides.first;
      begins = b.begins;
      attaches = b.steps;
      past = past;
      these = these;
      skips = refl;
      drawn = on.drawn;
      drew = AreNext-shift (listed ids) (next source) 0 0 on.drawn (λ m. gives m ∙ ap (listed ids) (sym (zero-add m))) all.these;
      played = played_since (told below) (told start.below) (told last.below) false start.sides.first last.sides past on.drawn b.untaken b.refused on.played;
      opened = opened_since (told below).opened (told start.below).opened (told last.below).opened start.sides.first last.sides b.opened on.opened on.first;
      agree = agreement last.sides on.keeps;
    }

-- the text of all events was written
pub all-out : {S G : Type 0} (output written : SinkTold) (told : Recorder S → Told) (next : G → ℕ → TransactionId) (start last : TwoParties (Recorder S) G) (events : List Event) (skipped : ℕ) (ran : Ran S)
    → PlayedAll told next false start last events skipped
    → EndsWith output.faults written.faults (stop_status (code_of_stop last.sides.stop)) ran.status
    → Wrote output.written written.written ran.status (agree_text last.sides skipped (taken_of (told last.below)))
    → ran.driven ≡ None → ran.entries ≡ Some (record_of last.sides) → ran.below ≡ last.below
    → PlaysOut output written told next start events ran
all-out output written told next start last events skipped ran p by_table text driven entries below = record {
  last = last;
  past = p.past;
  on = p.on;
  these = inl p.these;
  by_table = by_table;
  text = subst (λ (n : ℕ). Wrote output.written written.written ran.status (agree_text last.sides n (taken_of (told last.below)))) p.skips text;
  entries = entries;
  below = below;
  driven = driven;
}

-- memory ran out before all were played
pub some-out : {S G : Type 0} (output : SinkTold) (told : Recorder S → Told) (next : G → ℕ → TransactionId) (start last : TwoParties (Recorder S) G) (events : List Event) (ran : Ran S)
    → PlayedSome told next false start last events → ran.status ≡ 6
    → ran.driven ≡ None → ran.entries ≡ Some (record_of last.sides) → ran.below ≡ last.below
    → PlaysOut output output told next start events ran
some-out output told next start last events ran p six driven entries below = record {
  last = last;
  past = p.past;
  on = p.on;
  these = inr (six, p.front ∙ ap (λ n. take n events) (sym (length-map p.past (λ (x : Event × Happened). x.0))));
  by_table = inl six;
  text = subst (λ (n : ℕ). Wrote output.written output.written n (agree_text last.sides (skipped_in p.past) (taken_of (told last.below)))) (sym six) (wrote_nothing output.written (agree_text last.sides (skipped_in p.past) (taken_of (told last.below))));
  entries = entries;
  below = below;
  driven = driven;
}

pub plays_out-agrees : {S G : Type 0} (output written : SinkTold) (told : Recorder S → Told) (next : G → ℕ → TransactionId) (starts : G → Option (ℕ → TransactionId)) (below : Recorder S) (source : G) (ids : List TransactionId) (links : ℕ) (start : TwoParties (Recorder S) G) (events : List Event) (ran : Ran S) → ((n : ℕ) → next source n ≡ listed ids n) → Began told false next starts below source links start → PlaysOut output written told next start events ran → AgreesOver output written told below ids links events ran
plays_out-agrees {S} output written told next starts below source ids links start events ran gives b out =
    let at = reaches told next starts below source ids links start out.last events ran.status out.past gives b out.on out.these in
    let back = sym out.below in
    record {
      run = record {
        came = Reached out.last.sides (skipped_in out.past);
        by_table = out.by_table;
        text = subst (λ (r : Recorder S). Wrote output.written written.written ran.status (agree_text out.last.sides (skipped_in out.past) (taken_of (told r)))) back out.text;
        leaves = (out.entries, subst (λ (r : Recorder S). Reaches (told below) (told r) (listed ids) links events ran.status out.last.sides (skipped_in out.past)) back at);
        completes = λ quiet calm. reached-ends out.last.sides (skipped_in out.past) ran.status (told below) (told ran.below) out.on.keeps (subst (λ (r : Recorder S). Reaches (told below) (told r) (listed ids) links events ran.status out.last.sides (skipped_in out.past)) back at).played.stopped quiet (without_fault output.faults written.faults (stop_status (code_of_stop out.last.sides.stop)) ran.status out.by_table calm);
      };
      driven = out.driven;
      fixed = ap (λ (r : Recorder S). (told r).fixed) out.below ∙ out.on.fixed ∙ b.untaken.fixed;
    }
