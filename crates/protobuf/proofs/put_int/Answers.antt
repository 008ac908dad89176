use native.Mathlib.Omega.{arith}
use borrow.Author.Rules.{rules}
use Rattle.copying.proofs.Written.{written-length}
use Rattle.protobuf.proofs.Writing.{int_nothing, int-length, int-written}
use Rattle.protobuf.proofs.put_int.Goals as goal

pub returns-then-absent : goal.returns-then-absent
returns-then-absent c =
    int_nothing c.args.number c.args.n c.args.buffer.now c.args.at (search rules)

pub put_key-i-requires : goal.put_key-i-requires
put_key-i-requires c =
    omega (arith, int-length c.args.number c.args.n (search rules))

pub put_varint-requires : goal.put_varint-requires
put_varint-requires c =
    let room = int-length c.args.number c.args.n (search rules) in
    omega (arith, room, c.put_key-i.ensures.place, written-length c.put_key-i.ensures)

pub returns : goal.returns
returns c =
    int-written c.args.number c.args.n (search rules)
    c.put_key-i.ensures c.put_varint.ensures
