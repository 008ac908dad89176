use mathlib.Core.Path.{sym}
use native.Mathlib.Omega.{arith}
use Rattle.std.proofs.lemmas.Result.{err_from_is_err_and}
use Rattle.bench_records.proofs.Fields.{opened, open_cut}
use Rattle.bench_records.proofs.read_open.Goals as goal

pub returns-in_err-reaches-clause-input_value : goal.returns-in_err-reaches-clause-input_value
returns-in_err-reaches-clause-input_value c =
    let p = err_from_is_err_and c.from_residual.result c.from_residual.ensures.1 in
    let e = c.in_err-reaches.ensures in
    rw (p.1, p.2, e.0) (sym (open_cut c.args.input.now (omega arith)))

pub returns-clause-input_value : goal.returns-clause-input_value
returns-clause-input_value c =
    opened c.args.input.now c.u16_at-c.result c.u32_at-capacity.result c.size_at-p.result.0 (omega (arith, c.in_ok-reaches.ensures))
    c.u16_at-c.ensures c.u32_at-capacity.ensures c.size_at-p.ensures
