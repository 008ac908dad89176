use mathlib.Core.Path.{◌≡◌, sym, ◌∙◌}
use native.Mathlib.Omega.{arith}
use Rattle.std.specs.Prelude.{Err}
use Rattle.bidi_write.specs.View.{break_of}
use Rattle.reconnects.proofs.Judging.{fail_short, fail_refuses, fail_goes}
use Rattle.reconnects.proofs.Detail.{malformed_as, long_as, short_as, rerouted_as}
use Rattle.reconnects.proofs.failed_attempt.Goals as goal

pub returns-in_err-failed_attempt : goal.returns-in_err-failed_attempt
returns-in_err-failed_attempt c =
    λ store table out.
    let refused : c.from_residual.result ≡ Err c.in_err-failed_attempt.field-0.0 = grind arith in
    rw refused
    (fail_refuses c.args.s c.phase_number.result c.args.verdict c.phase_number.ensures c.is_verdict.result c.is_verdict.ensures
    (break_of c.args.b c.args.detail.now) c.is_malformed.result (malformed_as c.read_detail-d.ensures c.is_malformed.ensures) c.too_long.result (long_as c.read_detail-d.ensures c.too_long.ensures)
    store table out _ (sym c.failed_attempt.ensures ∙ c.in_err-failed_attempt.was))

pub handle_redirect-rerouted-requires : goal.handle_redirect-rerouted-requires
handle_redirect-rerouted-requires c =
    short_as c.read_detail-d.ensures c.too_long.ensures
    (fail_short c.phase_number.result c.is_verdict.result c.is_malformed.result c.too_long.result (sym c.failed_attempt.ensures ∙ c.in_ok-failed_attempt.was))

pub returns : goal.returns
returns c =
    λ store table out.
    fail_goes c.args.s c.phase_number.result c.args.verdict c.phase_number.ensures c.is_verdict.result c.is_verdict.ensures
    (break_of c.args.b c.args.detail.now) c.is_malformed.result (malformed_as c.read_detail-d.ensures c.is_malformed.ensures) c.too_long.result (long_as c.read_detail-d.ensures c.too_long.ensures)
    store table out c.handle_redirect-rerouted.result c.on_verdict.result (sym c.failed_attempt.ensures ∙ c.in_ok-failed_attempt.was)
    (c.handle_redirect-rerouted.ensures.result_value ∙ rerouted_as c.read_detail-d.ensures _) c.handle_redirect-rerouted.ensures.spec_fits
    (rw (c.renew-after.ensures, c.set_connector.ensures.value, c.is_redirect.ensures c.args.detail.now) at c.on_verdict.ensures)
