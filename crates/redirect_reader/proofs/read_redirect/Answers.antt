use Rattle.redirect_reader.proofs.Redirects.{going_malformed, going_stop}
use Rattle.redirect_reader.proofs.read_redirect.Goals as goal

pub returns-in_err-field : goal.returns-in_err-field
returns-in_err-field c = going_malformed c.loop-field.invariant _ _ c.from_residual.ensures.0 c.in_err-field.ensures.0

pub returns-in_err-m : goal.returns-in_err-m
returns-in_err-m c =
    going_stop c.loop-field.invariant (rw c.in-Some.is at c.in_ok-field.ensures.0) _ _ c.from_residual-in_err-m.ensures.0 c.in_err-m.ensures
