use mathlib.Core.Path.{sym}
use Rattle.admission.proofs.Ends.{far_is}
use Rattle.admission.proofs.past_end.Goals as goal

pub returns : goal.returns
returns c = rw (sym c.to_nat.ensures.0) (far_is c.to_nat.result c.args.n c.to_nat.ensures.1)
