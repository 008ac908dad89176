use Rattle.planning.specs.Answer.{plan_of}
use Rattle.planning.proofs.Laws.{Counted}
use Rattle.planning.proofs.all.Given as goal

abbrev pub invariant-loop-n : goal.invariant-loop-n
invariant-loop-n l = Counted l.limit l.lengths l.n-index (plan_of l.needs)
