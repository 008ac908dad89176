use Rattle.std.proofs.Common.{rules}
use Rattle.protobuf_fields.proofs.Wire.{no_key, no_value_behind}
use Rattle.protobuf_fields.proofs.get_field.Goals as goal

pub returns-in_err-key : goal.returns-in_err-key
returns-in_err-key c = no_key _ _ _ _ c.from_residual.ensures.0 c.in_err-key.ensures

pub returns-in_err-value : goal.returns-in_err-value
returns-in_err-value c =
    no_value_behind _ _ _ _ (search rules) (search rules) c.in_ok-key.ensures _ _ c.from_residual-in_err-value.ensures.0 c.in_err-value.ensures
