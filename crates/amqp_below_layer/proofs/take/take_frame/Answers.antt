use Rattle.std.proofs.Common.{refl, sym, ◌∙◌, [], ◌∷◌, Ok, Err, arith}
use Rattle.amqp_txn_types.proofs.Growing.{grown-nil}
use Rattle.amqp_below_layer.proofs.Reviewed.{all-stay-on, one-wants, window-on}
use Rattle.amqp_below_layer.proofs.take.take_frame.Goals as goal

-- the frame was taken, and a disposition that was given back for it was refused
pub returns-in-Err-check_given-clause-told : goal.returns-in-Err-check_given-clause-told
returns-in-Err-check_given-clause-told g c =
    let called = c.in-Ok.ensures.told in
    let checked = c.in-Err-check_given.ensures.told in
    record {
      taken = (c.in-Ok.given ∷ [], refl, checked.steady.taken ∙ called.taken);
      opened = checked.steady.opened ∙ called.opened;
      refused = checked.steady.refused ∙ called.refused ∙ sym (grown-nil _);
      reviews = checked.steady.reviews ∙ called.reviews;
      fixed = checked.steady.fixed ∙ called.fixed;
      later = omega (arith, called.later, checked.steady.later);
      cause = omega (arith, checked.cause, called.later);
    }

-- the frame was refused
pub returns-in-Err-clause-on : goal.returns-in-Err-clause-on
returns-in-Err-clause-on g c rest t =
    g.S.LayerBelow.goes_on _ _ _ (Err c.in-Err.error) c.in-Err.ensures.gives rest t

-- it was taken, and a disposition that was given back for it was refused
pub returns-in-Err-check_given-clause-on : goal.returns-in-Err-check_given-clause-on
returns-in-Err-check_given-clause-on g c rest t =
    one-wants g.S.LayerBelow.takes g.S.LayerBelow.sure g.S.LayerBelow.check_gives g.S.LayerBelow.stays_on rest _ _ _
    c.in-Err-check_given.error c.in-Err-check_given.ensures.checks
    (g.S.LayerBelow.goes_on _ _ _ (Ok c.in-Ok.given) c.in-Ok.ensures.gives rest t)

-- it was taken, what was given back passed, and the window was asked for
pub returns-clause-on : goal.returns-clause-on
returns-clause-on g c rest t =
    window-on g.S.LayerBelow.takes g.S.LayerBelow.window_gives g.S.LayerBelow.window_stays_on rest _ _ _ _ c.window_after-window.ensures.gives
    (all-stay-on g.S.LayerBelow.takes g.S.LayerBelow.sure g.S.LayerBelow.check_gives g.S.LayerBelow.stays_on rest _ _ _
    c.in_default.ensures.checks (g.S.LayerBelow.goes_on _ _ _ (Ok c.in-Ok.given) c.in-Ok.ensures.gives rest t))
