use Rattle.cuts.proofs.Cutting.{cuts_as}
use Rattle.cuts.proofs.cut.Goals as goal

pub returns : goal.returns
returns c =
    let size = c.ring_size-size.ensures c.requires.guarded.capacity_top c.requires.guarded.limit_top in
    cuts_as c.args.s c.args.n c.args.store.now c.args.table.now c.args.out.now c.requires c.sum_at-crc32c.result (rw size at c.sum_at-crc32c.ensures) c.push-replay_buffer.result c.push-replay_buffer.new.table
    c.push-replay_buffer.ensures c.push-replay_buffer.auto.table c.copy_out.new.out (rw size at c.copy_out.ensures) c.cut_session.result c.cut_session.ensures
