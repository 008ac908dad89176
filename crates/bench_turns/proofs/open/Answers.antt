use mathlib.Core.List.{[]}
use Rattle.openings.specs.Opening.{opening_of}
use Rattle.bench_turns.proofs.Turns.{opening_is, begun}
use Rattle.bench_turns.proofs.open.Goals as goal

pub returns : goal.returns
unfolding opening_of
returns c = begun (λ l. opening_is c.args.limit c.args.capacity (c.sized.ensures []) l.0 l.1) c.open.ensures
