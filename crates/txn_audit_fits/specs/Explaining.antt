-- How far lines are explained.
use Rattle.std.specs.Prelude.{ℕ, ◌≡◌, ◌≤◌, ◌++◌, ◌∷◌, ◌⊎◌, Bool, true, false, List, [], length, map}
use Rattle.amqp_txn_types.specs.declared.performatives.Frame.{Frame}
use Rattle.amqp_resource_record.specs.declared.step.Step.{Step}
use Rattle.amqp_resource_record.specs.declared.entry.Entry.{Entry}
use Rattle.txn_program_lines.specs.Cutting.{lines_of}
use Rattle.txn_audit_fits.specs.declared.judged_lines.Judged.{Judged}
use Rattle.txn_audit_fits.specs.declared.judged_lines.Judged.TheVariants as judged
use Rattle.txn_audit_fits.specs.Fits.{taken_text}
use Rattle.txn_audit_fits.specs.Ending.{Ends, TellsTaken}

-- some lines before the rest are the first of those of which this is said so far, with the first of
-- the rest they aren't, and it isn't said of all the lines
pub record DepartsAt (Said : Bool → List (List ℕ) → Type 0) (lines rest : List (List ℕ)) : Type 0 where
  pub passed : List (List ℕ)
  pub parts : lines ≡ passed ++ rest
  pub begins : (more : List (List ℕ)) × Said false (passed ++ more)
  pub first : (line : List ℕ) (others more : List (List ℕ)) → rest ≡ line ∷ others →
      Said false (passed ++ (line ∷ more)) → ⊥
  pub none : Said true lines → ⊥

-- the lines are those of the frames, or were judged up to what isn't explained
abbrev pub JudgesTaken : List Frame → List (List ℕ) → Judged → Type 0
JudgesTaken frames lines (judged.Explained rest) = lines ≡ map taken_text frames
JudgesTaken frames lines (judged.Departs rest) =
    DepartsAt (λ all said. said ≡ map taken_text frames) lines (lines_of rest.now)

-- where there are so many frames, the lines tell what was taken, or were judged up to what isn't
-- explained
abbrev pub JudgesCounts : List Frame → ℕ → List (List ℕ) → Judged → Type 0
JudgesCounts frames count lines (judged.Explained rest) =
    count ≤ length frames → TellsTaken frames count lines
JudgesCounts frames count lines (judged.Departs rest) =
    count ≤ length frames →
    DepartsAt (λ all said. TellsTaken frames count said) lines (lines_of rest.now)

-- the record ends here, or so far the lines do
abbrev pub EndsHere : Bool → List Entry → List Step → List (List ℕ) → Type 0
EndsHere true before left lines = Ends before left lines
EndsHere false before left lines = (lines ≡ []) ⊎ Ends before left lines

-- the lines end the report, or were judged up to what isn't explained
abbrev pub JudgesEnd : List Entry → List Step → List (List ℕ) → Judged → Type 0
JudgesEnd before left lines (judged.Explained rest) = Ends before left lines
JudgesEnd before left lines (judged.Departs rest) =
    DepartsAt (λ all said. EndsHere all before left said) lines (lines_of rest.now)
