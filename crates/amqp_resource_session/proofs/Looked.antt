-- How many frames of transactional work there are among the entries.
use Rattle.std.proofs.Common.{◌≡◌, ◌+◌, List, [], ◌∷◌, ◌++◌, ap, ◌∙◌, add-zero}
use Rattle.std.proofs.lemmas.List.Sums.{sum_by-append, sum_by-cons}
use Rattle.amqp_resource_record.specs.declared.entry.Entry.{Entry}
use Rattle.amqp_resource_session.specs.Drive.{work_count}
use Rattle.amqp_resource_held.specs.Looks.{frames_added}

pub work_more : (r : List Entry) (e : Entry) → work_count (r ++ e ∷ []) ≡ work_count r + frames_added e.step
work_more r e =
    sum_by-append (λ (x : Entry). frames_added x.step) r (e ∷ [])
    ∙ ap (λ n. work_count r + n) (sum_by-cons (λ (x : Entry). frames_added x.step) e [] ∙ add-zero (frames_added e.step))
