use Rattle.std.proofs.Common.{take, arith, length-take-le}
use Rattle.wire.proofs.Writing.{data_length}
use Rattle.wire.proofs.data_len.Goals as goal

pub returns-in-Some-clause-value : goal.returns-in-Some-clause-value
returns-in-Some-clause-value c =
    let d = c.in-Some.d in
    rw c.in-Some.is (
    λ lent h.
    let content = take d.length lent in
    let inner = c.message_len-inner.ensures.value content d.crc32c (length-take-le d.length lent h) in
    omega (arith, data_length content d.crc32c c.message_len-inner.result inner, c.varint_len.ensures)
    )
