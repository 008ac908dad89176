use borrow.Author.Rules.{rules}
use mathlib.Core.Path.{◌≡◌, refl, ap, ◌∙◌}
use mathlib.Core.List.{map}
use Prim.Native.Nat.{◌-◌}
use native.Mathlib.Omega.{arith}
use lib.ListN.{length, take}
use Rattle.rules.specs.Limits.{max_waiters}
use Rattle.worker.specs.View.{pending_of, waiters_of}
use Rattle.worker.proofs.Waiters.{map-drop}
use Rattle.worker.proofs.Shift.{shifted}
use Rattle.worker.proofs.PendingRequests.complete.Goals as goal

pub returns-clause-result_value : goal.returns-clause-result_value
unfolding waiters_of
returns-clause-result_value c =
    let array : length c.args.self.requests ≡ max_waiters = search rules in
    let n = c.args.self.count - c.args.k in
    ap (λ l. map pending_of (take n l)) c.copy_within.ensures.after
    ∙ ap (map pending_of) (shifted c.args.self.requests c.args.k n c.args.self.count (omega arith) refl (omega arith))
    ∙ map-drop pending_of c.args.k (take c.args.self.count c.args.self.requests)
