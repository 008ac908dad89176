use mathlib.Core.Path.{sym, ap, ◌∙◌}
use Rattle.retry_redirect.specs.View.{result_of}
use Rattle.reconnects.proofs.Judging.{goes_on, rules_end}
use Rattle.reconnects.proofs.on_verdict.Goals as goal

pub returns-in-Ok : goal.returns-in-Ok
returns-in-Ok c =
    λ runs.
    rw (c.renew.ensures, c.set_connector-after.ensures.value)
    (goes_on c.args.s c.args.redirect c.args.verdict c.count_redirect-counted.result c.count_redirect-counted.ensures.result_value c.count_redirect-counted.ensures.spec_fits runs
    (sym c.on_error.ensures ∙ ap result_of c.in-Ok.is))

pub returns-in-Err : goal.returns-in-Err
returns-in-Err c =
    λ runs.
    rules_end c.args.s c.args.redirect c.args.verdict c.count_redirect-counted.result c.count_redirect-counted.ensures.result_value c.count_redirect-counted.ensures.spec_fits runs
    _ c.end.result (sym c.on_error.ensures ∙ ap result_of c.in-Err.is)
    (rw (c.renew-in-Err.ensures, c.set_connector-after.ensures.value) at c.end.ensures)
