-- What a whole record handed, where it came from, and what was given back for it.
use Rattle.std.specs.Prelude.{ℕ, Bool, true, false, cond, List, [], ◌∷◌, ◌++◌, map}
use Rattle.std.specs.List.{flat_map, zip}
use Rattle.amqp_txn_types.specs.declared.performatives.Frame.{Frame}
use Rattle.amqp_txn_types.specs.Frames.{is_plain_frame}
use Rattle.amqp_below_layer.specs.declared.answers.Answers.{Answers}
use Rattle.amqp_resource_record.specs.declared.step.Step.{Step}
use Rattle.amqp_resource_record.specs.declared.step.Step.TheVariants as steps
use Rattle.amqp_resource_record.specs.declared.reply.Reply.{Reply}
use Rattle.amqp_resource_record.specs.declared.reply.Reply.TheVariants as replies
use Rattle.amqp_resource_record.specs.declared.entry.Entry.{Entry}
use Rattle.amqp_resource_record.specs.Hands.{hands, sources}

-- what is given for each entry, with the entries before it, joined; `before` comes before them all
abbrev pub joined_after : {A : Type 0} → (List Entry → Entry → List A) → List Entry → List Entry
    → List A
joined_after give before [] = []
joined_after give before (entry ∷ entries) =
    give before entry ++ joined_after give (before ++ entry ∷ []) entries

-- the reply rejects the step, which then hands nothing
abbrev pub is_rejected : Reply → Bool
is_rejected (replies.Rejected error text) = true
is_rejected _ = false

-- the frames that a step with this reply handed
abbrev pub handed_by : List Entry → Step → Reply → List Frame
handed_by entries step reply = cond (is_rejected reply) [] (hands entries step)

-- the places that these frames come from
abbrev pub sources_by : List Entry → Step → Reply → List ℕ
sources_by entries step reply = cond (is_rejected reply) [] (sources entries step)

-- work: the frames that the record handed, in order (4.4, Transactional Work)
unfoldable pub work : List Entry → List Frame
work entries = joined_after (λ before e. handed_by before e.step e.reply) [] entries

-- origins: the places that these frames come from, in the same order (4.4, Transactional Work)
unfoldable pub origins : List Entry → List ℕ
origins entries = joined_after (λ before e. sources_by before e.step e.reply) [] entries

-- what a reply says was given back: one list for a plain frame, one for each echo of a commit; an
-- accepted rollback has no echoes
abbrev pub given_by : Step → Reply → List (List Frame)
given_by (steps.Frame frame) (replies.Frames answers) =
    cond (is_plain_frame frame) (answers.given ∷ []) []
given_by (steps.Control link payload) (replies.Accepted echoes) =
    map (λ (a : Answers). a.given) echoes
given_by _ _ = []

-- what was given back for the frames that the record handed, one list for each, in order
unfoldable pub given_back : List Entry → List (List Frame)
given_back entries = flat_map (λ e. given_by e.step e.reply) entries

-- pairs: each frame that the record handed with what was given back for it (4.4)
unfoldable pub pairs : List Entry → List (Frame × List Frame)
pairs entries = zip (work entries) (given_back entries)
