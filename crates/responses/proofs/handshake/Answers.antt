use mathlib.Core.Path.{◌≡◌}
use native.Mathlib.Omega.{arith}
use Rattle.bidi_write.specs.View.{response_of}
use Rattle.responses.proofs.Responding.{handshake_rules, refuses_as, short, fits_still, accepts_as}
use Rattle.std.specs.Prelude.{Err}
use Rattle.responses.proofs.handshake.Goals as goal

pub returns-in_err-admit : goal.returns-in_err-admit
returns-in_err-admit c =
    let refused : c.from_residual.result ≡ Err c.in_err-admit.field-0.0 = grind arith in
    rw refused (refuses_as (handshake_rules (response_of c.args.m c.args.handle.now)) c.args.s c.args.store.now c.args.table.now c.admit.result (rw c.phase_number-wrong_phase.ensures at c.admit.ensures) _ c.in_err-admit.was)

pub prepare_handshake-t-requires : goal.prepare_handshake-t-requires
prepare_handshake-t-requires c =
    short (handshake_rules (response_of c.args.m c.args.handle.now)) c.args.s c.args.store.now c.args.table.now c.admit.result (rw c.phase_number-wrong_phase.ensures at c.admit.ensures) c.in_ok-admit.was

pub handle_response_success-taken-requires : goal.handle_response_success-taken-requires
handle_response_success-taken-requires c =
    fits_still (handshake_rules (response_of c.args.m c.args.handle.now)) c.args.s c.args.store.now c.args.table.now c.admit.result (rw c.phase_number-wrong_phase.ensures at c.admit.ensures) c.in_ok-admit.was
    c.prepare_handshake-t.result c.prepare_handshake-t.ensures

pub returns : goal.returns
returns c =
    accepts_as (handshake_rules (response_of c.args.m c.args.handle.now)) c.args.s c.args.store.now c.args.table.now c.admit.result (rw c.phase_number-wrong_phase.ensures at c.admit.ensures) c.in_ok-admit.was
    c.prepare_handshake-t.result c.prepare_handshake-t.ensures c.handle_response_success-taken.result c.handle_response_success-taken.new.table c.handle_response_success-taken.ensures c.answer_handshake.result c.answer_handshake.ensures
