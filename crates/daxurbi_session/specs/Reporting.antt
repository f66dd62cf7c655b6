-- The text of what the last step made, and of the frames that a commit would hand.
use Rattle.std.specs.Prelude.{ℕ, Option, Some, None, List, [], ◌++◌, codes, decimal}
use Rattle.std.specs.List.{flat_map}
use Rattle.amqp_txn_types.specs.declared.performatives.Frame.{Frame}
use Rattle.amqp_resource_record.specs.Stops.{code_of}
use Rattle.daxurbi_session.specs.declared.last_step.Ending.{Ending}
use Rattle.daxurbi_session.specs.declared.last_step.Ending.TheVariants as endings
use Rattle.daxurbi_session.specs.declared.last_step.LastStep.{LastStep}
use Rattle.txn_program_report.specs.Report.{entry_lines, frame_text, line, stop_word, taken_line}

-- how a step ended: the reply with the frames to be sent back, or why it stopped and how many of
-- its frames were handed
abbrev pub ending_text : Ending → List ℕ
ending_text (endings.Answered entry) = entry_lines entry
ending_text (endings.Stopped stop handed) =
    line (codes "stop " ++ stop_word (code_of stop)) ++ line (codes "handed " ++ decimal handed)

-- the report of the last step: how it ended, and a line for each frame that was taken
abbrev pub report_of : Option LastStep → List ℕ
report_of None = []
report_of (Some last) = ending_text last.ending ++ flat_map taken_line last.taken

-- a line for a frame
abbrev pub frame_line : Frame → List ℕ
frame_line frame = line (frame_text frame)

-- the lines of frames
abbrev pub frames_text : List Frame → List ℕ
frames_text frames = flat_map frame_line frames
