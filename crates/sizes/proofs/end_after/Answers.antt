use Rattle.sizes.proofs.Taking.{goes_to-end, goes_on}
use Rattle.sizes.proofs.end_after.Goals.{else-finalized-via-then-finalized+else-not-complete, else-finalized-via-else-finalized}
use Rattle.sizes.proofs.end_after.Goals as goal

pub returns-then-not-complete : goal.returns-then-not-complete
returns-then-not-complete c =
    λ k. goes_to-end c.args.s k c.is_complete-complete.result c.is_complete-complete.ensures c.args.finalized (rw (c.if-finalized.true, c.if-not-complete.true))

pub returns : goal.returns
returns c = elim c.else-finalized.branch [
  | else-finalized-via-then-finalized+else-not-complete w ↦
      λ k. goes_on c.args.s k c.is_complete-complete.result c.is_complete-complete.ensures c.args.finalized (rw (w.if-finalized.true, w.if-not-complete.false))
  | else-finalized-via-else-finalized w ↦
      λ k. goes_on c.args.s k c.is_complete-complete.result c.is_complete-complete.ensures c.args.finalized (rw w.if-finalized.false)
]
