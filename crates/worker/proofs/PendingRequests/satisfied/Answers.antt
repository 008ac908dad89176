use borrow.Author.Rules.{rules}
use mathlib.Core.Path.{◌≡◌, sym, ◌∙◌}
use native.Mathlib.Omega.{arith}
use lib.ListN.{length}
use Rattle.rules.specs.Limits.{max_waiters}
use Rattle.worker.specs.View.{waiters_of}
use Rattle.worker.proofs.Waiters.{completed-none, completed-more, completed_stops}
use Rattle.worker.proofs.PendingRequests.satisfied.Goals as goal

pub returns-then-not-is_satisfied-clause-value : goal.returns-then-not-is_satisfied-clause-value
unfolding waiters_of
returns-then-not-is_satisfied-clause-value c =
    let array : length c.args.self.requests ≡ max_waiters = search rules in
    let e = completed_stops c.args.size.0 c.args.finalized c.args.self.requests c.args.self.count c.loop-k.k _ (omega arith) (omega arith)
    (sym c.is_satisfied.ensures ∙ c.if-not-is_satisfied.true) in
    omega (arith, e, c.loop-k.invariant)

pub loop-k-preserved : goal.loop-k-preserved
loop-k-preserved c =
    let array : length c.args.self.requests ≡ max_waiters = search rules in
    let e = completed-more c.args.size.0 c.args.finalized c.args.self.requests c.args.self.count c.loop-k.k _ (omega arith) (omega arith)
    (sym c.is_satisfied.ensures ∙ c.if-not-is_satisfied.false) in
    omega (arith, e, c.loop-k.invariant)

pub returns-clause-value : goal.returns-clause-value
unfolding waiters_of
returns-clause-value c =
    let e = completed-none c.args.size.0 c.args.finalized c.args.self.requests c.args.self.count c.loop-k.k (omega arith) in
    omega (arith, e, c.loop-k.invariant)
