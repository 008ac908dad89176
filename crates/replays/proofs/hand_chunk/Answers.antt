use Rattle.replays.proofs.Replaying.{hands_chunk_lem}
use Rattle.replays.proofs.hand_chunk.Goals as goal

pub returns : goal.returns
returns c =
    rw c.set_phase.ensures
    (hands_chunk_lem c.args.s c.args.store.now c.args.table.now c.args.at c.args.out.now c.chunk_to_replay-c.result
    c.chunk_to_replay-c.new.out (rw (c.ring_size-size.ensures c.requires.capacity_top c.requires.limit_top) at c.chunk_to_replay-c.ensures) c.chunk_to_replay-c.auto.out
    c.chunk_request-request.result c.chunk_request-request.ensures
    c.advance.result c.advance.ensures)
