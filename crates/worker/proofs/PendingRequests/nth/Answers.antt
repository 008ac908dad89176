use borrow.Author.Rules.{rules}
use mathlib.Core.Path.{◌≡◌, ap, ◌∙◌}
use mathlib.Core.Option.{some}
use Prim.Native.Nat.{◌<◌}
use native.Mathlib.Omega.{arith}
use lib.ListN.{length, length-take, take}
use lib.Seq.{get_or-take}
use Rattle.rules.specs.Limits.{max_waiters}
use Rattle.worker.specs.View.{pending_of, waiters_of}
use Rattle.worker.specs.declared.PendingRequest.{PendingRequest}
use Rattle.worker.proofs.Waiters.{element_map}
use Rattle.worker.proofs.PendingRequests.nth.Goals as goal

pub returns : goal.returns
unfolding waiters_of
returns c =
    let array : length c.args.self.requests ≡ max_waiters = search rules in
    let h : c.args.i < length (take c.args.self.count c.args.self.requests) = simp length-take (omega arith) in
    element_map pending_of (take c.args.self.count c.args.self.requests) c.args.i _ h ∙ ap (λ (p : PendingRequest). some (pending_of p)) (get_or-take c.args.self.count c.args.self.requests c.args.i _ (omega arith))
