use Rattle.amqp_resource_session.proofs.runs.drive_blank.Goals as goal

pub returns : goal.returns
returns g c =
    let said = c.drive_counted.ensures in
    record {
      legal = said.legal;
      at = said.at;
      steps = said.steps;
      drew = said.drew;
      start = said.start;
      done = said.done;
      cause = said.cause;
      unknown = said.unknown;
      ended = said.ended;
      taken = said.taken;
      opened = said.opened;
      refused = said.refused;
      vetoed = said.vetoed;
      surely = said.surely;
      rose = said.rose;
      vetoes_rose = said.vetoes_rose;
      later = said.later;
      counted = said.counted;
      fixed = said.fixed;
      leaves = said.leaves;
      fits = said.fits;
    }
