use mathlib.Core.Path.{◌≡◌}
use native.Mathlib.Omega.{arith}
use Rattle.std.specs.Prelude.{Err}
use Rattle.session.proofs.stream_break.Goals as goal

pub returns-in_err-r : goal.returns-in_err-r
returns-in_err-r c =
    λ store table out.
    let refused : c.from_residual.result ≡ Err c.in_err-r.field-0.0 = grind arith in
    rw refused (rw c.in_err-r.was at (c.stream_break.ensures store table out))
