-- How a call ends during which the layer below counted no refusal.
use Rattle.std.proofs.Common.{◌≡◌, ℕ, Bool, true, false, Option, Some, None, List, ◌∷◌, refl, ◌∙◌, ap, ◌⊎◌, inl, inr}
use Rattle.amqp_txn_types.specs.Frames.{txn}
use Rattle.amqp_txn_types.specs.declared.id.TransactionId.{TransactionId}
use Rattle.amqp_txn_types.specs.declared.performatives.Frame.{Frame}
use Rattle.amqp_below_layer.specs.Told.{Told}
use Rattle.amqp_resource_record.specs.Live.{is_live}
use Rattle.amqp_resource_record.specs.declared.stop.StopCode.TheVariants as codes
use Rattle.txn_parties.specs.declared.item.Halt.{Halt}
use Rattle.txn_parties.specs.declared.item.Item.{Item}
use Rattle.txn_parties.specs.declared.item.Item.TheVariants as items
use Rattle.txn_parties.specs.Items.{step_of}
use Rattle.txn_parties.specs.Exchange.{Exchange, record_of}
use Rattle.txn_parties.specs.Invariant.{Keeps}
use Rattle.txn_parties.specs.Turns.{MayStop, StopsFrame, StopsUnder}
use Rattle.txn_program_runs.specs.Completing.{NoneRose}
use Rattle.txn_world.specs.Happening.{code_of_stop}
use Rattle.txn_program_agree.specs.Playing.{Refused, StopTold, Unknown}
use Rattle.txn_program_agree.specs.Serving.{CameEnds, Reached, StopsAtDead, stop_status}

-- of an id that isn't live, only a frame stops the session
pub stops_dead : (w : Exchange) → Keeps w → (halt : Halt) → w.stop ≡ Some halt → halt.code ≡ codes.UnknownTxnId → StopsAtDead w
stops_dead w k halt e u = let h = k.halted halt e in by_item h.item h.rest h.waits h.cause
  where
    by_live : (frame : Frame) (id : TransactionId) (rest : List Item) (b : Bool) → w.waiting ≡ items.Frame frame ∷ rest → txn frame ≡ Some id → is_live (record_of w) id ≡ b → StopsUnder b id frame halt.code → StopsAtDead w
    by_live frame id rest true waits under live c = absurd (c.1.2 u)
    by_live frame id rest false waits under live c = record { frame = frame; id = id; rest = rest; waits = waits; under = under; dead = live }

    by_txn : (frame : Frame) (rest : List Item) (o : Option TransactionId) → w.waiting ≡ items.Frame frame ∷ rest → txn frame ≡ o → StopsFrame (record_of w) frame o halt.code → StopsAtDead w
    by_txn frame rest None waits under c = absurd (c.1.2 u)
    by_txn frame rest (Some id) waits under c = by_live frame id rest (is_live (record_of w) id) waits under refl c

    by_item : (i : Item) (rest : List Item) → w.waiting ≡ i ∷ rest → MayStop w.sure (record_of w) (step_of i) halt → StopsAtDead w
    by_item (items.Frame frame) rest waits c = by_txn frame rest (txn frame) waits refl c
    by_item (items.Declare x k) rest waits c = let m = c.1 in cc (u, m)
    by_item (items.Discharge x k id rollback) rest waits c = let m = c.1 in cc (u, m)
    by_item (items.LinkEnd k) rest waits c = absurd c

-- 0 without a stop, and 1 where a frame arrived under an id that isn't live
pub reached-ends : (w : Exchange) (skipped status : ℕ) (old new : Told) → Keeps w → ((halt : Halt) (item : Item) (rest : List Item) → w.stop ≡ Some halt → w.waiting ≡ item ∷ rest → StopTold old new w item halt) → NoneRose old.refusals new.refusals → (status ≡ 6) ⊎ (status ≡ stop_status (code_of_stop w.stop)) → CameEnds (Reached w skipped) status
reached-ends w skipped status old new k told quiet (inl six) = inl six
reached-ends w skipped status old new k told quiet (inr is) = by_stop w.stop refl is
  where
    by_cause : (halt : Halt) (item : Item) → w.stop ≡ Some halt → status ≡ stop_status (Some halt.code) → StopTold old new w item halt → CameEnds (Reached w skipped) status
    by_cause halt item e s (Unknown u) = inr (inr (s ∙ ap (λ c. stop_status (Some c)) u, stops_dead w k halt e u))
    by_cause halt item e s (Refused error code rose more adds is) = absurd (quiet rose)

    by_stop : (o : Option Halt) → w.stop ≡ o → status ≡ stop_status (code_of_stop o) → CameEnds (Reached w skipped) status
    by_stop None e s = inr (inl (s, e))
    by_stop (Some halt) e s = let h = k.halted halt e in by_cause halt h.item e s (told halt h.item h.rest e h.waits)
