use mathlib.Core.Path.{refl, ◌∙◌}
use native.Mathlib.Omega.{arith}
use Rattle.planning.specs.Answer.{plan_of}
use Rattle.planning.proofs.Laws.{append-whole}
use Rattle.planning.proofs.append.Goals as goal

pub returns : goal.returns
returns c =
    c.cut.ensures
    ∙ append-whole c.args.limit c.args.needs.held c.args.n _ _ (omega arith) c.from-limit.ensures c.from.ensures _ _ c.from-whole.ensures
    c.filled-more.ensures.value (plan_of c.args.needs) refl (omega arith)
