use Rattle.sizes.proofs.Absorbing.{absorbs-size}
use Rattle.sizes.proofs.absorb_size.Goals as goal

pub returns : goal.returns
returns c =
    rw c.absorb-worker.ensures
    (absorbs-size c.args.n c.args.finalized c.args.s c.args.store.now c.args.table.now c.requires c.ack-acked.result c.ack-acked.new.table
    (rw (c.ring_size-size.ensures c.requires.capacity_top c.requires.limit_top) at c.ack-acked.ensures) c.ack-acked.auto.table
    c.satisfied-completed.result c.satisfied-completed.ensures.value c.complete.result c.complete.ensures.result_value c.complete.ensures.count_value)
