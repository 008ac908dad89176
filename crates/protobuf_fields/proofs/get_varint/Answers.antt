use Rattle.std.proofs.Common.{arith}
use Rattle.protobuf_format.specs.Varint.{varint}
use Rattle.protobuf_fields.proofs.Groups.{last_byte, none_behind}
use Rattle.protobuf_fields.proofs.get_varint.Goals as goal

pub returns-then-b-lt-MORE : goal.returns-then-b-lt-MORE
unfolding varint
returns-then-b-lt-MORE c = last_byte _ _ 10 _ (omega arith) c.if-s-at.false c.from-b.ensures c.if-b-lt-MORE.true

pub returns-in_err-n : goal.returns-in_err-n
unfolding varint
returns-in_err-n c =
    none_behind _ _ 10 c.from-b.result _ _ (omega arith) c.if-s-at.false c.from-b.ensures c.if-b-lt-MORE.false c.from_residual.ensures.0 c.in_err-n.ensures
