use Rattle.txn_program_edges.proofs.Readers.{consumes-on, keeps-on, keeps-same}
use Rattle.txn_program_edges.proofs.std_streams.read_once.Goals as goal

pub loop-init : goal.loop-init
loop-init g c = keeps-same (g.R.Read.remaining c.args.reader.now)

pub loop-preserved : goal.loop-preserved
loop-preserved g c =
    keeps-on (g.R.Read.remaining c.args.reader.now) (g.R.Read.remaining c.loop.reader)
    (g.R.Read.remaining c.read.new.self) c.loop.invariant c.in-Err.ensures.bytes

pub returns-in-Ok-clause-octets : goal.returns-in-Ok-clause-octets
returns-in-Ok-clause-octets g c = (
  consumes-on (g.R.Read.remaining c.args.reader.now) (g.R.Read.remaining c.loop.reader)
      (g.R.Read.remaining c.read.new.self) _ c.loop.invariant c.in-Ok.ensures.bytes.0,
  c.in-Ok.ensures.bytes.1,
)
