use mathlib.Core.Path.{◌≡◌}
use Prim.Native.Nat.{◌+◌}
use Rattle.worker.proofs.Waiters.{completed}
use Rattle.worker.proofs.PendingRequests.satisfied.Given as goal

abbrev pub invariant-loop-k : goal.invariant-loop-k
invariant-loop-k l =
    completed l.size.0 l.finalized l.self.requests l.self.count 0 ≡ l.k + completed l.size.0 l.finalized l.self.requests l.self.count l.k
