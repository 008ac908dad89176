use native.Mathlib.Omega.{arith}
use Rattle.protobuf_format.proofs.Varint.{groups_of_most, length_few, length-many}
use Rattle.protobuf.proofs.varint_len.Goals as goal

pub overflow_add-count : goal.overflow_add-count
overflow_add-count c = omega (arith, groups_of_most 10 c.args.n)

pub loop-rest-preserved : goal.loop-rest-preserved
loop-rest-preserved c = omega (arith, length-many c.loop-rest.rest (omega arith) (omega arith))

pub returns : goal.returns
returns c = omega (arith, length_few c.loop-rest.rest (omega arith))
