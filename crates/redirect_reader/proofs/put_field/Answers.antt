use Rattle.redirect_reader.proofs.Redirects.{token_malformed, handle_malformed, generation_malformed}
use Rattle.redirect_reader.proofs.put_field.Goals as goal

pub returns-in_err-bytes_of-in-1 : goal.returns-in_err-bytes_of-in-1
returns-in_err-bytes_of-in-1 c = token_malformed c.args.s.now c.args.m c.args.field _ _ c.from_residual.ensures.0 c.in-1.is c.in_err-bytes_of-in-1.ensures

pub returns-in_err-bytes_of-in-2 : goal.returns-in_err-bytes_of-in-2
returns-in_err-bytes_of-in-2 c =
    handle_malformed c.args.s.now c.args.m c.args.field _ _ c.from_residual-in_err-bytes_of-in-2.ensures.0 c.in-2.is c.in_err-bytes_of-in-2.ensures

pub returns-in_err-int_of-in-3 : goal.returns-in_err-int_of-in-3
returns-in_err-int_of-in-3 c =
    generation_malformed c.args.s.now c.args.m c.args.field _ _ c.from_residual-in_err-int_of-in-3.ensures.0 c.in-3.is c.in_err-int_of-in-3.ensures
