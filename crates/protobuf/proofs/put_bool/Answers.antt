use native.Mathlib.Omega.{arith}
use Rattle.copying.proofs.Written.{written-length}
use Rattle.protobuf.proofs.Writing.{bool_nothing, bool_length, bool_written}
use Rattle.protobuf.proofs.put_bool.Goals as goal

pub put_key-i-requires : goal.put_key-i-requires
put_key-i-requires c =
    omega (arith, bool_length c.args.number c.args.b c.if-b.true)

pub put_varint-requires : goal.put_varint-requires
put_varint-requires c =
    let room = bool_length c.args.number c.args.b c.if-b.true in
    omega (arith, room, c.put_key-i.ensures.place, written-length c.put_key-i.ensures)

pub returns-then-b : goal.returns-then-b
returns-then-b c =
    bool_written c.args.number c.args.b c.if-b.true c.put_key-i.ensures c.put_varint.ensures

pub returns : goal.returns
returns c =
    bool_nothing c.args.number c.args.b c.args.buffer.now c.args.at c.if-b.false
