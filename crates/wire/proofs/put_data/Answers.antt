use Rattle.protobuf.proofs.Writing.{written_none}
use Rattle.wire.proofs.put_data.Goals as goal

pub returns-in-None : goal.returns-in-None
returns-in-None c = rw c.in-None.is (written_none c.args.buffer.now c.args.at)
