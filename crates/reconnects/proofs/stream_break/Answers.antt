use borrow.Author.Tests.{eq-eqb, ne_eqb}
use mathlib.Core.Path.{◌≡◌, sym, ◌∙◌}
use native.Mathlib.Omega.{arith}
use Rattle.std.specs.Prelude.{Err}
use Rattle.bidi_write.specs.View.{break_of}
use Rattle.reconnects.proofs.Breaking.{break-short, reconnected_as, break-refuses, break-finishes, break-closes, break-awaits}
use Rattle.reconnects.proofs.Detail.{malformed_as, long_as, short_as}
use Rattle.reconnects.proofs.stream_break.Goals as goal

pub returns-in_err-stream_break : goal.returns-in_err-stream_break
returns-in_err-stream_break c =
    λ store table out.
    let refused : c.from_residual.result ≡ Err c.in_err-stream_break.field-0.0 = grind arith in
    rw refused
    (break-refuses c.args.s store table out c.phase_number-phase.result c.phase_number-phase.ensures (break_of c.args.b c.args.detail.now)
    c.is_malformed.result (malformed_as c.read_detail-d.ensures c.is_malformed.ensures) c.too_long.result (long_as c.read_detail-d.ensures c.too_long.ensures)
    _ (sym c.stream_break.ensures ∙ c.in_err-stream_break.was))

pub returns-then-is_complete : goal.returns-then-is_complete
returns-then-is_complete c =
    λ store table out.
    break-finishes c.args.s store table out c.phase_number-phase.result c.phase_number-phase.ensures (break_of c.args.b c.args.detail.now)
    c.is_malformed.result (malformed_as c.read_detail-d.ensures c.is_malformed.ensures) c.too_long.result (long_as c.read_detail-d.ensures c.too_long.ensures)
    (sym c.stream_break.ensures ∙ c.in_ok-stream_break.was) c.is_complete.result c.is_complete.ensures
    c.end.result c.if-is_complete.true c.end.ensures

pub returns-then-phase-eq-CLOSING : goal.returns-then-phase-eq-CLOSING
returns-then-phase-eq-CLOSING c =
    λ store table out.
    break-closes c.args.s store table out c.phase_number-phase.result c.phase_number-phase.ensures (break_of c.args.b c.args.detail.now)
    c.is_malformed.result (malformed_as c.read_detail-d.ensures c.is_malformed.ensures) c.too_long.result (long_as c.read_detail-d.ensures c.too_long.ensures)
    (sym c.stream_break.ensures ∙ c.in_ok-stream_break.was) c.is_complete.result c.is_complete.ensures c.if-is_complete.false
    c.closing_cause.result c.end-then-phase-eq-CLOSING.result (eq-eqb _ 5 c.if-phase-eq-CLOSING.true) (c.closing_cause.ensures c.args.detail.now) c.end-then-phase-eq-CLOSING.ensures

pub reconnect-connector-requires : goal.reconnect-connector-requires
reconnect-connector-requires c =
    short_as c.read_detail-d.ensures c.too_long.ensures
    (break-short c.phase_number-phase.result c.is_malformed.result c.too_long.result (sym c.stream_break.ensures ∙ c.in_ok-stream_break.was))

pub returns : goal.returns
returns c =
    λ store table out.
    let redirect_is = c.is_redirect-redirect.ensures c.args.detail.now in
    rw c.await_verdict.ensures
    (break-awaits c.args.s store table out c.phase_number-phase.result c.phase_number-phase.ensures (break_of c.args.b c.args.detail.now)
    c.is_malformed.result (malformed_as c.read_detail-d.ensures c.is_malformed.ensures) c.too_long.result (long_as c.read_detail-d.ensures c.too_long.ensures)
    (sym c.stream_break.ensures ∙ c.in_ok-stream_break.was) c.is_complete.result c.is_complete.ensures c.if-is_complete.false
    c.reconnect-connector.result c.is_redirect-redirect.result (ne_eqb _ 5 c.if-phase-eq-CLOSING.false) redirect_is
    (reconnected_as c.read_detail-d.ensures redirect_is _ _ c.reconnect-connector.ensures.result_value) c.reconnect-connector.ensures.spec_fits)
