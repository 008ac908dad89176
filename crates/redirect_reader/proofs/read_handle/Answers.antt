use Rattle.redirect_reader.proofs.Handles.{holding_malformed, holding_stop}
use Rattle.redirect_reader.proofs.read_handle.Goals as goal

pub returns-in_err-field : goal.returns-in_err-field
returns-in_err-field c = holding_malformed c.loop-field.invariant _ _ c.from_residual.ensures.0 c.in_err-field.ensures.0

pub returns-in_err-p : goal.returns-in_err-p
returns-in_err-p c =
    holding_stop c.loop-field.invariant (rw c.in-Some.is at c.in_ok-field.ensures.0) _ _ c.from_residual-in_err-p.ensures.0 c.in_err-p.ensures
