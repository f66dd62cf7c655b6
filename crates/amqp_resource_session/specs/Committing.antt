-- What a commit does below: its frames are reviewed together, and where they are accepted they are
-- handed one after another.
use Rattle.std.specs.Prelude.{ℕ, ◌≡◌, ◌≤◌, ⊤, Bool, true, Result, Ok, Err, List, [], ◌∷◌, length, take, map}
use Rattle.std.specs.List.{zip}
use Rattle.amqp_below_layer.specs.Windows.{AllWindowsFit}
use Rattle.amqp_below_layer.specs.declared.answers.Answers.{Answers}
use Rattle.amqp_below_sessions.specs.declared.transacting.CommitFault.{CommitFault}
use Rattle.amqp_txn_types.specs.declared.performatives.Frame.{Frame}
use Rattle.amqp_txn_types.specs.Counts.{Rose}
use Rattle.amqp_below_layer.specs.Told.{Told}
use Rattle.amqp_below_layer.specs.OneFrame.{TookFrames}
use Rattle.amqp_txn_types.specs.declared.small.TransactionError.{TransactionError}
use Rattle.amqp_txn_types.specs.Growing.{grown}
use Rattle.amqp_txn_types.specs.declared.small.TransactionError.TheVariants as transaction_errors
use Rattle.amqp_below_layer.specs.declared.inner_error.SessionInnerError.TheVariants as faults
use Rattle.amqp_below_sessions.specs.declared.transacting.CommitFault.TheVariants as commit_faults

-- what was given back
abbrev pub given_of : List Answers → List (List Frame)
given_of answers = map (λ (a : Answers). a.given) answers

-- these frames were taken, in order, each with its answers
pub record HandedSome (old new : Told) (handed : List Frame) (echoes : List Answers) : Type 0 where
  pub taken : new.taken ≡ grown old.taken (zip handed (given_of echoes))
  pub fits : AllWindowsFit handed echoes

-- none of these frames, of which there are some, was taken
pub record HandedNone (old new : Told) (handed : List Frame) : Type 0 where
  pub some : 1 ≤ length handed
  pub taken : new.taken ≡ old.taken

-- the first of these frames were taken, and then memory lacked
pub record HandedPart (old new : Told) (handed : List Frame) (at : ℕ) : Type 0 where
  pub some : 1 ≤ length handed
  pub within : at ≤ length handed
  pub took : TookFrames old.taken new.taken (take at handed)

-- by the answer: all were taken, or they were vetoed, or memory lacked below
abbrev pub HandedAll : Told → Told → List Frame
    → Result (Result (List Answers) TransactionError) CommitFault → Type 0
HandedAll old new handed (Ok (Ok echoes)) = HandedSome old new handed echoes
HandedAll old new handed (Ok (Err error)) =
    (error ≡ transaction_errors.Rollback) × HandedNone old new handed
HandedAll old new handed (Err (commit_faults.Refused error at)) =
    (error ≡ faults.NoMemory) × HandedPart old new handed at
HandedAll old new handed (Err commit_faults.NoMemory) = ⊥

-- a veto adds the frames that were reviewed
abbrev pub vetoed_of : List Frame → Result (Result (List Answers) TransactionError) CommitFault
    → List (List Frame)
vetoed_of handed (Ok (Err error)) = handed ∷ []
vetoed_of handed _ = []

-- a veto comes only where the vetoes rose, out of memory below only where the refusals did
abbrev pub HandCause : Told → Told → Result (Result (List Answers) TransactionError) CommitFault
    → Type 0
HandCause old new (Ok (Ok echoes)) = Unit {0}
HandCause old new (Ok (Err error)) = Rose old.reviews.vetoes new.reviews.vetoes
HandCause old new (Err fault) = Rose old.refusals new.refusals

-- the frames of a commit through the layer below
pub record HandsAll (old new : Told) (frames : List Frame)
    (result : Result (Result (List Answers) TransactionError) CommitFault) : Type 0 where
  pub handed : HandedAll old new frames result
  pub opened : new.opened ≡ old.opened
  pub refused : new.refused ≡ old.refused
  pub vetoed : new.reviews.vetoed ≡ grown old.reviews.vetoed (vetoed_of frames result)
  pub fixed : new.fixed ≡ old.fixed
  pub later : old.refusals ≤ new.refusals
  pub counted : old.reviews.vetoes ≤ new.reviews.vetoes
  pub cause : HandCause old new result

-- a commit that was vetoed, with a fact
abbrev pub OnVetoed : Result (Result (List Answers) TransactionError) CommitFault → Type 0 → Type 0
OnVetoed (Ok (Err transaction_errors.Rollback)) P = P
OnVetoed _ P = ⊤

-- a commit that was accepted without echoes, as one of no frames, with a fact
abbrev pub OnNoEchoes : Result (Result (List Answers) TransactionError) CommitFault → Type 0
    → Type 0
OnNoEchoes (Ok (Ok [])) P = P
OnNoEchoes _ P = ⊤

-- over a sure layer memory lacks in the review alone
abbrev pub HandsSurely : Bool → Result (Result (List Answers) TransactionError) CommitFault → Type 0
HandsSurely sure (Err (commit_faults.Refused error at)) = sure ≡ true → at ≡ 0
HandsSurely sure _ = Unit {0}
