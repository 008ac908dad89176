use Rattle.shown.proofs.Shows.{shows}
use Rattle.shown.proofs.view_of.Goals as goal

pub returns : goal.returns
returns c = shows _
