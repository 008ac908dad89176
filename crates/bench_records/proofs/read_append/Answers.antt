use mathlib.Core.Path.{sym}
use native.Mathlib.Omega.{arith}
use Rattle.std.proofs.lemmas.Result.{err_from_is_err_and}
use Rattle.bench_records.proofs.Fields.{appended, append-cut}
use Rattle.bench_records.proofs.read_append.Goals as goal

pub returns-in_err-reaches-clause-input_value : goal.returns-in_err-reaches-clause-input_value
returns-in_err-reaches-clause-input_value c =
    let p = err_from_is_err_and c.from_residual.result c.from_residual.ensures.1 in
    let e = c.in_err-reaches.ensures in
    rw (p.1, p.2, e.0) (sym (append-cut c.args.input.now (omega arith)))

pub returns-in_err-reaches-2-clause-input_value : goal.returns-in_err-reaches-2-clause-input_value
returns-in_err-reaches-2-clause-input_value c =
    let p = err_from_is_err_and c.from_residual-in_err-reaches-2.result c.from_residual-in_err-reaches-2.ensures.1 in
    let e = c.in_err-reaches-2.ensures in
    rw (p.1, p.2, e.0) (sym (append-cut c.args.input.now (rw c.u16_at.ensures at e.1)))

pub returns-clause-input_value : goal.returns-clause-input_value
returns-clause-input_value c =
    appended c.args.input.now c.u16_at.result (omega (arith, c.in_ok-reaches-2.ensures)) c.u16_at.ensures
