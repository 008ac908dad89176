use native.Mathlib.Omega.{arith}
use borrow.Author.Rules.{rules}
use Rattle.copying.proofs.Written.{written-length}
use Rattle.protobuf.proofs.Writing.{bytes-nothing, bytes-length, bytes-written}
use Rattle.protobuf.proofs.put_bytes.Goals as goal

pub returns-then-is_empty : goal.returns-then-is_empty
returns-then-is_empty c =
    bytes-nothing c.args.number c.args.src.now c.args.buffer.now c.args.at (search rules)

pub put_head-i-requires : goal.put_head-i-requires
put_head-i-requires c =
    omega (arith, bytes-length c.args.number c.args.src.now (search rules))

pub put_all-requires : goal.put_all-requires
put_all-requires c =
    let room = bytes-length c.args.number c.args.src.now (search rules) in
    omega (arith, room, c.put_head-i.ensures.place, written-length c.put_head-i.ensures)

pub returns : goal.returns
returns c =
    bytes-written c.args.number c.args.src.now (search rules)
    c.put_head-i.ensures c.put_all.ensures
