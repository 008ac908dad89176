use native.Mathlib.Omega.{arith}
use Rattle.copying.proofs.Written.{written-length}
use Rattle.protobuf.proofs.Writing.{head-length, head-written}
use Rattle.protobuf.proofs.put_head.Goals as goal

pub put_key-i-requires : goal.put_key-i-requires
put_key-i-requires c =
    omega (arith, head-length c.args.number c.args.len)

pub put_varint-requires : goal.put_varint-requires
put_varint-requires c =
    omega (arith, head-length c.args.number c.args.len, c.put_key-i.ensures.place, written-length c.put_key-i.ensures)

pub returns : goal.returns
returns c =
    head-written c.args.number c.args.len c.put_key-i.ensures c.put_varint.ensures
