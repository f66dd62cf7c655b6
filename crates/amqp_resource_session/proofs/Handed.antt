-- What a step hands, by a view and by a record.
use Rattle.std.proofs.Common.{◌≡◌, ℕ, Bool, true, false, cond, not, ◌&&◌, Option, Some, None, List, [], ◌∷◌, map, refl, sym, ◌∙◌, ap}
use Rattle.std.proofs.lemmas.Bool.{and_parts}
use Rattle.amqp_txn_codec.specs.declared.message.ControlMessageBody.{ControlMessageBody}
use Rattle.amqp_txn_codec.specs.declared.message.Discharge.{Discharge}
use Rattle.amqp_resource_record.specs.declared.entry.Entry.{Entry}
use Rattle.amqp_txn_types.specs.declared.performatives.Frame.{Frame}
use Rattle.amqp_resource_record.specs.declared.step.Step.{Step}
use Rattle.amqp_txn_types.specs.declared.id.TransactionId.{TransactionId}
use Rattle.amqp_resource_record.specs.Hands.{hands, commits, commits_message, frames_of, if_open}
use Rattle.amqp_resource_record.specs.Live.{home, is_held_on, is_link, is_live}
use Rattle.amqp_resource_record.specs.Links.{is_open}
use Rattle.amqp_txn_types.specs.Frames.{is_plain_frame, stripped}
use Rattle.amqp_txn_codec.specs.Discharges.{is_rollback}
use Rattle.amqp_txn_codec.specs.Reading.{message_of}
use Rattle.amqp_txn_codec.specs.declared.message.ControlMessageBody.TheVariants as messages
use Rattle.amqp_resource_record.specs.declared.step.Step.TheVariants as steps
use Rattle.amqp_resource_record.proofs.Whole.{hands-plain, hands-other_frame, hands-commit, hands-no_commit}
use Rattle.amqp_resource_held.specs.Views.{View, frames_in, is_held_in, view_of_record}
use Rattle.amqp_resource_session.specs.Steps.{message_hands, step_hands}
use Rattle.amqp_resource_held.proofs.Views.{frames-record, held-record}

-- a commit of an id that the link declared
pub commit_hands : (v : View) (k : ℕ) (discharge : Discharge) → is_rollback discharge.fail ≡ false → is_held_in v k discharge.txn_id ≡ true → message_hands v k (Some (messages.Discharge discharge)) ≡ map stripped (frames_in v discharge.txn_id)
commit_hands v k discharge rb held = ap (λ b. cond (not b && is_held_in v k discharge.txn_id) (map stripped (frames_in v discharge.txn_id)) []) rb ∙ ap (λ b. cond b (map stripped (frames_in v discharge.txn_id)) []) held

-- the frames of a commit, if it is one
abbrev committed : List Entry → Option TransactionId → List Frame
committed r None = []
committed r (Some t) = map stripped (frames_of r t)

hands-commits : (r : List Entry) (k : ℕ) (payload : List ℕ) (o : Option TransactionId) → commits r (steps.Control k payload) ≡ o → committed r o ≡ hands r (steps.Control k payload)
hands-commits r k payload None e = sym (hands-no_commit r k payload e)
hands-commits r k payload (Some t) e = sym (hands-commit r k payload t e)

hands-discharge : (r : List Entry) (k : ℕ) (t : TransactionId) (commit b : Bool) → (commit && is_held_on r k t) ≡ b → cond (commit && is_held_in (view_of_record r) k t) (map stripped (frames_in (view_of_record r) t)) [] ≡ committed r (cond (commit && is_held_on r k t) (Some t) None)
hands-discharge r k t false b e = refl
hands-discharge r k t true false e =
    ap (λ c. cond c (map stripped (frames_in (view_of_record r) t)) []) (held-record r k t ∙ e) ∙ sym (ap (λ c. committed r (cond c (Some t) None)) e)
hands-discharge r k t true true e =
    ap (λ c. cond c (map stripped (frames_in (view_of_record r) t)) []) (held-record r k t ∙ e)
    ∙ ap (map stripped) (frames-record r t (and_parts (is_live r t) (is_link k (home r t)) e).0) ∙ sym (ap (λ c. committed r (cond c (Some t) None)) e)

hands-message : (r : List Entry) (k : ℕ) (b : Bool) (m : Option ControlMessageBody) → cond b (message_hands (view_of_record r) k m) [] ≡ committed r (if_open b (commits_message r k m))
hands-message r k false m = refl
hands-message r k true None = refl
hands-message r k true (Some (messages.Declare declare)) = refl
hands-message r k true (Some (messages.Discharge discharge)) = hands-discharge r k discharge.txn_id (not (is_rollback discharge.fail)) _ refl

hands-frame : (r : List Entry) (frame : Frame) (b : Bool) → is_plain_frame frame ≡ b → step_hands (view_of_record r) (steps.Frame frame) ≡ hands r (steps.Frame frame)
hands-frame r frame true e = ap (λ b. cond b (frame ∷ []) []) e ∙ sym (hands-plain r frame e)
hands-frame r frame false e = ap (λ b. cond b (frame ∷ []) []) e ∙ sym (hands-other_frame r frame e)

-- what a step hands by a record's view is what it hands by the record
pub hands-record : (r : List Entry) (s : Step) → step_hands (view_of_record r) s ≡ hands r s
hands-record r (steps.Frame frame) = hands-frame r frame (is_plain_frame frame) refl
hands-record r (steps.Control k payload) = hands-message r k (is_open r k) (message_of payload) ∙ hands-commits r k payload (commits r (steps.Control k payload)) refl
hands-record r (steps.LinkEnd k) = refl
hands-record r (steps.LocalEnd error) = refl
hands-record r (steps.RemoteEnd error) = refl
hands-record r (steps.ConnectionStop reason) = refl
