use Rattle.std.proofs.Common.{rules}
use Rattle.protobuf_fields.proofs.Wire.{int_none, bytes_none}
use Rattle.protobuf_fields.proofs.get_value.Goals as goal

pub returns-in_err-n-in-0 : goal.returns-in_err-n-in-0
returns-in_err-n-in-0 c = int_none _ _ _ _ _ (search rules) c.from_residual.ensures.0 c.in_err-n-in-0.ensures

pub returns-in_err-count-in-2 : goal.returns-in_err-count-in-2
returns-in_err-count-in-2 c = bytes_none _ _ _ _ _ (search rules) c.from_residual-in_err-count-in-2.ensures.0 c.in_err-count-in-2.ensures
