-- When a layer gives the session's window: after a transfer alone.
use Rattle.std.specs.Prelude.{◌≡◌, false, None, List, [], ◌∷◌}
use Rattle.amqp_txn_types.specs.declared.performatives.Frame.{Frame}
use Rattle.amqp_txn_types.specs.Frames.{is_transfer}
use Rattle.amqp_below_layer.specs.declared.answers.Answers.{Answers}

-- the window of the session is given only after a transfer
abbrev pub WindowFits : Frame → Answers → Type 0
WindowFits frame answers = is_transfer frame ≡ false → answers.window ≡ None

-- one answer for each frame, with a window only after a transfer
abbrev pub AllWindowsFit : List Frame → List Answers → Type 0
AllWindowsFit [] [] = Unit {0}
AllWindowsFit (frame ∷ handed) (first ∷ answers) =
    WindowFits frame first × AllWindowsFit handed answers
AllWindowsFit [] (first ∷ answers) = ⊥
AllWindowsFit (frame ∷ handed) [] = ⊥
