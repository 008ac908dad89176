use Rattle.replay_buffer.proofs.Pushing.{pushes}
use Rattle.replay_buffer.proofs.push.Goals as goal

pub returns : goal.returns
returns c =
    pushes c.args.slots c.args.b c.args.table.now c.args.length c.args.crc32c c.put_word.new.table c.requires (rw c.pack-word.ensures at c.put_word.ensures)
