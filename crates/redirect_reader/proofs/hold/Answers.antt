use Rattle.redirect_reader.proofs.Handles.{not_taken}
use Rattle.redirect_reader.proofs.hold.Goals as goal

pub returns-in_err-bytes_of : goal.returns-in_err-bytes_of
returns-in_err-bytes_of c = not_taken _ _ _ _ c.from_residual.ensures.0 c.if-field-eq-HANDLE_BYTES.true c.in_err-bytes_of.ensures
