use native.Mathlib.Omega.{arith}
use Rattle.copying.proofs.Written.{written-length}
use Rattle.protobuf.proofs.Writing.{fixed32-length, fixed32-written}
use Rattle.protobuf.proofs.put_fixed32.Goals as goal

pub put_key-i-requires : goal.put_key-i-requires
put_key-i-requires c =
    omega (arith, fixed32-length c.args.number c.args.v)

pub put_four-requires : goal.put_four-requires
put_four-requires c =
    omega (arith, fixed32-length c.args.number c.args.v, c.put_key-i.ensures.place, written-length c.put_key-i.ensures)

pub returns : goal.returns
returns c =
    fixed32-written c.args.number c.args.v c.put_key-i.ensures c.put_four.ensures
