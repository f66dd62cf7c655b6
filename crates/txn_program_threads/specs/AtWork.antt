-- A worker at its work.
use Rattle.std.specs.Prelude.{ℕ, ◌≡◌, ◌≤◌, ◌+◌, ◌*◌, length, vec_capacity}
use Rattle.txn_program_threads.specs.declared.worker.Worker.{Worker}

-- a worker is ready for so many steps of its rounds: it has room for all receipts, and one part of
-- the ledger, whose count is that of its receipts
pub record IsReady {L : Type 0} (steps rounds : ℕ) (worker : Worker L) : Type 0 where
  pub short : rounds ≤ 1000
  pub room : 1 + 4 * rounds ≤ vec_capacity worker.receipts
  pub few : length worker.receipts.items + steps ≤ 1 + 4 * rounds
  pub count : worker.share.count ≡ length worker.receipts.items
  pub parts : worker.share.parts ≡ 1

-- it is the worker of the same number, with the same room
abbrev pub SameWorker : {L : Type 0} → Worker L → Worker L → Type 0
SameWorker old new =
    (new.number ≡ old.number) × (vec_capacity new.receipts ≡ vec_capacity old.receipts)
