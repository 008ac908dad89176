use Rattle.std.proofs.Common.{arith}
use Rattle.wire.proofs.Writing.{request-length}
use Rattle.wire.proofs.encoded_len.Goals as goal

pub returns : goal.returns
returns c =
    λ lent h. omega (
      arith,
      c.data_len.ensures.value lent h,
      request-length c.args.request lent c.bits.result c.bits.ensures,
      c.flag_len.ensures.by_index 7 (omega arith),
      c.flag_len-2.ensures.by_index 8 (omega arith),
      c.flag_len-3.ensures.by_index 9 (omega arith),
    )
