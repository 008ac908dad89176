use mathlib.Core.Path.{◌≡◌, sym, ◌∙◌}
use native.Mathlib.Omega.{arith}
use Rattle.std.specs.Prelude.{Err}
use Rattle.replays.proofs.Unsending.{unsent-refuses, unsent_accepts}
use Rattle.replays.proofs.send_failed.Goals as goal

pub returns-in_err-send_failed : goal.returns-in_err-send_failed
returns-in_err-send_failed c =
    λ store table out.
    let refused : c.from_residual.result ≡ Err c.in_err-send_failed.field-0.0 = grind arith in
    rw refused
    (unsent-refuses c.args.s store table out c.phase_number.result c.phase_number.ensures
    c.is_nothing.result c.is_nothing.ensures _ (sym c.send_failed.ensures ∙ c.in_err-send_failed.was))

pub returns : goal.returns
returns c =
    λ store table out.
    rw (c.renew.ensures, c.stop_replay.ensures, c.set_mark.ensures.value)
    (unsent_accepts c.args.s store table out c.phase_number.result c.phase_number.ensures
    c.is_nothing.result c.is_nothing.ensures c.mark_after-mark.result
    (sym c.send_failed.ensures ∙ c.in_ok-send_failed.was) c.mark_after-mark.ensures)
