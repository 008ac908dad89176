use mathlib.Core.Path.{◌≡◌, sym, ◌∙◌}
use native.Mathlib.Omega.{arith}
use Rattle.std.specs.Prelude.{Err}
use Rattle.transport.proofs.Closing.{close-refuses, close_accepts}
use Rattle.transport.proofs.close.close.Goals as goal

pub returns-in_err-close : goal.returns-in_err-close
returns-in_err-close c =
    λ store table out.
    let refused : c.from_residual.result ≡ Err c.in_err-close.field-0.0 = grind arith in
    rw refused
    (close-refuses c.args.s store table out c.phase_number.result c.phase_number.ensures _
    (rw c.is_full.ensures at (sym c.close.ensures ∙ c.in_err-close.was)))

pub returns : goal.returns
returns c =
    λ store table out.
    rw c.set_phase.ensures
    (close_accepts c.args.s store table out c.phase_number.result c.phase_number.ensures
    (rw c.is_full.ensures at (sym c.close.ensures ∙ c.in_ok-close.was)))
