use mathlib.Core.Path.{◌≡◌, sym, ◌∙◌}
use native.Mathlib.Omega.{arith}
use Rattle.std.specs.Prelude.{Err}
use Rattle.reconnects.proofs.Judging.{judge-refuses, judge_goes}
use Rattle.reconnects.proofs.judge.Goals as goal

pub returns-in_err-judge : goal.returns-in_err-judge
returns-in_err-judge c =
    λ store table out.
    let refused : c.from_residual.result ≡ Err c.in_err-judge.field-0.0 = grind arith in
    rw refused
    (judge-refuses c.args.s c.phase_number.result c.args.verdict c.phase_number.ensures c.is_verdict.result c.is_verdict.ensures
    store table out _ (sym c.judge.ensures ∙ c.in_err-judge.was))

pub returns : goal.returns
returns c =
    λ store table out.
    judge_goes c.args.s c.phase_number.result c.args.verdict c.phase_number.ensures c.is_verdict.result c.is_verdict.ensures
    store table out c.on_verdict.result (sym c.judge.ensures ∙ c.in_ok-judge.was)
    (rw c.is_on_redirect.ensures at c.on_verdict.ensures)
