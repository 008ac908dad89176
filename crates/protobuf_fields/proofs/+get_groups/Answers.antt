use Rattle.std.proofs.Common.{arith}
use Rattle.protobuf_fields.proofs.Groups.{last_byte, none_behind}
use Rattle.protobuf_fields.proofs.+get_groups.Goals as goal

pub returns-then-b-lt-MORE : goal.returns-then-b-lt-MORE
returns-then-b-lt-MORE t c = last_byte _ _ _ _ (omega arith) c.if-s-at.false c.from-b.ensures c.if-b-lt-MORE.true

pub returns-in_err-n : goal.returns-in_err-n
returns-in_err-n t c =
    none_behind _ _ _ c.from-b.result _ _ (omega arith) c.if-s-at.false c.from-b.ensures c.if-b-lt-MORE.false c.from_residual.ensures.0 c.in_err-n.ensures
