use mathlib.Core.Path.{refl}
use native.Mathlib.Omega.{arith}
use Rattle.planning.specs.Answer.{plan_of}
use Rattle.planning.proofs.Laws.{counts_on, at-end}
use Rattle.planning.proofs.all.Goals as goal

pub loop-n-preserved : goal.loop-n-preserved
loop-n-preserved c =
    counts_on c.args.limit c.args.lengths.now c.loop-n.n-index _ (plan_of c.loop-n.needs) (plan_of c.entry-needs.result) (omega arith) refl
    c.entry-needs.ensures.n_bound c.entry-needs.ensures.result_value c.loop-n.invariant

pub returns-clause-result_value : goal.returns-clause-result_value
returns-clause-result_value c =
    at-end c.args.limit c.args.lengths.now c.loop-n.n-index (plan_of c.loop-n.needs) (omega arith) c.loop-n.invariant
