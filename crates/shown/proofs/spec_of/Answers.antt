use Rattle.shown.proofs.Shows.{dials}
use Rattle.shown.proofs.spec_of.Goals as goal

pub returns : goal.returns
returns c = dials _
