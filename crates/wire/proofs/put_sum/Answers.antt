use Rattle.std.proofs.Common.{arith}
use Rattle.copying.proofs.Written.{written-length}
use Rattle.wire.proofs.Writing.{sum-total, sum-written}
use Rattle.wire.proofs.put_sum.Goals as goal

pub put_head-i-requires : goal.put_head-i-requires
put_head-i-requires c =
    omega (arith, sum-total c.args.«crc32c»)

pub put_fixed32-requires : goal.put_fixed32-requires
put_fixed32-requires c =
    omega (arith, sum-total c.args.«crc32c», c.put_head-i.ensures.place, written-length c.put_head-i.ensures)

pub returns : goal.returns
returns c =
    sum-written c.args.«crc32c» c.put_head-i.ensures c.put_fixed32.ensures
