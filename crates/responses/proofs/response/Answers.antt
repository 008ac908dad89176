use mathlib.Core.Path.{◌≡◌}
use native.Mathlib.Omega.{arith}
use Rattle.bidi_write.specs.View.{response_of}
use Rattle.responses.proofs.Responding.{response_rules, refuses_as, short, fits_still, accepts_as}
use Rattle.std.specs.Prelude.{Err}
use Rattle.responses.proofs.response.Goals as goal

pub returns-in_err-admit : goal.returns-in_err-admit
returns-in_err-admit c =
    let refused : c.from_residual.result ≡ Err c.in_err-admit.field-0.0 = grind arith in
    rw refused (refuses_as (response_rules (response_of c.args.m c.args.handle.now)) c.args.s c.args.store.now c.args.table.now c.admit.result (rw (c.is_streaming-wrong_phase.ensures, c.phase_number.ensures) at c.admit.ensures) _ c.in_err-admit.was)

pub prepare_response-t-requires : goal.prepare_response-t-requires
prepare_response-t-requires c =
    short (response_rules (response_of c.args.m c.args.handle.now)) c.args.s c.args.store.now c.args.table.now c.admit.result (rw (c.is_streaming-wrong_phase.ensures, c.phase_number.ensures) at c.admit.ensures) c.in_ok-admit.was

pub handle_response_success-taken-requires : goal.handle_response_success-taken-requires
handle_response_success-taken-requires c =
    fits_still (response_rules (response_of c.args.m c.args.handle.now)) c.args.s c.args.store.now c.args.table.now c.admit.result (rw (c.is_streaming-wrong_phase.ensures, c.phase_number.ensures) at c.admit.ensures) c.in_ok-admit.was
    c.prepare_response-t.result c.prepare_response-t.ensures

pub returns : goal.returns
returns c =
    accepts_as (response_rules (response_of c.args.m c.args.handle.now)) c.args.s c.args.store.now c.args.table.now c.admit.result (rw (c.is_streaming-wrong_phase.ensures, c.phase_number.ensures) at c.admit.ensures) c.in_ok-admit.was
    c.prepare_response-t.result c.prepare_response-t.ensures c.handle_response_success-taken.result c.handle_response_success-taken.new.table c.handle_response_success-taken.ensures c.answer_response.result c.answer_response.ensures
