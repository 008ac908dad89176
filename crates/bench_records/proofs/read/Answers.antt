use mathlib.Core.Path.{◌≡◌, refl, sym, ◌∙◌}
use mathlib.Core.List.{[], ◌∷◌}
use Prim.Native.Nat.{ℕ, ◌/◌, ◌%◌, ◌≤◌, ◌<◌}
use Prim.Native.String.{String}
use native.Mathlib.Omega.{arith}
use borrow.Author.Rules.{rules}
use Rattle.std.proofs.lemmas.Result.{err_from_is_err_and}
use lib.ListN.{length, take, drop, get_or}
use Rattle.rules.specs.Message.{Bytes}
use Rattle.text.specs.Ascii.{ascii}
use Rattle.little_endian.specs.Little.{little}
use Rattle.bench_records.specs.Record.{RS, HS, format, after, reading}
use Rattle.bench_records.proofs.Fields.{sized, size-cut, judged, verdict-cut, no_mark, marked, mark_cut}
use Rattle.bench_records.proofs.read.Goals as goal

abbrev mark : String → ℕ
mark s = little (ascii s)

-- what follows the mark that was met
met : (s : Bytes) (r k : ℕ) → 2 ≤ length s → get_or s 0 0 < 256 → get_or s 1 0 < 256 → r ≡ little (take 2 s) → r ≡ k
    → reading s ≡ after format (k % 256 ∷ k / 256 ∷ []) (drop 2 s)
met s r k h x y m e = marked s k h x y (sym e ∙ m)

pub returns-in_err-reaches-clause-input_value : goal.returns-in_err-reaches-clause-input_value
returns-in_err-reaches-clause-input_value c =
    let p = err_from_is_err_and c.from_residual.result c.from_residual.ensures.1 in
    let e = c.in_err-reaches.ensures in
    rw (p.1, p.2, e.0) (sym (mark_cut c.args.input.now (omega arith)))

pub returns-in_err-size-in-21330-clause-input_value : goal.returns-in_err-size-in-21330-clause-input_value
returns-in_err-size-in-21330-clause-input_value c =
    let p = err_from_is_err_and c.from_residual-in_err-size-in-21330.result c.from_residual-in_err-size-in-21330.ensures.1 in
    let e = c.in_err-size-in-21330.ensures in
    rw (p.1, p.2, e.0) (sym ((met c.args.input.now c.u16_at.result (mark "RS") c.in_ok-reaches.ensures (search rules) (search rules) c.u16_at.ensures c.in-21330.is) ∙ size-cut RS c.args.input.now e.1))

pub returns-in_err-size-in-21320-clause-input_value : goal.returns-in_err-size-in-21320-clause-input_value
returns-in_err-size-in-21320-clause-input_value c =
    let p = err_from_is_err_and c.from_residual-in_err-size-in-21320.result c.from_residual-in_err-size-in-21320.ensures.1 in
    let e = c.in_err-size-in-21320.ensures in
    rw (p.1, p.2, e.0) (sym ((met c.args.input.now c.u16_at.result (mark "HS") c.in_ok-reaches.ensures (search rules) (search rules) c.u16_at.ensures c.in-21320.is) ∙ size-cut HS c.args.input.now e.1))

pub returns-in_err-reaches-in-17750-clause-input_value : goal.returns-in_err-reaches-in-17750-clause-input_value
returns-in_err-reaches-in-17750-clause-input_value c =
    let p = err_from_is_err_and c.from_residual-in_err-reaches-in-17750.result c.from_residual-in_err-reaches-in-17750.ensures.1 in
    let e = c.in_err-reaches-in-17750.ensures in
    rw (p.1, p.2, e.0) (sym ((met c.args.input.now c.u16_at.result (mark "VE") c.in_ok-reaches.ensures (search rules) (search rules) c.u16_at.ensures c.in-17750.is) ∙ verdict-cut c.args.input.now e.1))

pub returns-in-20559-clause-input_value : goal.returns-in-20559-clause-input_value
returns-in-20559-clause-input_value c = c.read_open.ensures.input_value ∙ sym (met c.args.input.now c.u16_at.result (mark "OP") c.in_ok-reaches.ensures (search rules) (search rules) c.u16_at.ensures c.in-20559.is)

pub returns-in-20545-clause-input_value : goal.returns-in-20545-clause-input_value
returns-in-20545-clause-input_value c = c.read_append.ensures.input_value ∙ sym (met c.args.input.now c.u16_at.result (mark "AP") c.in_ok-reaches.ensures (search rules) (search rules) c.u16_at.ensures c.in-20545.is)

pub returns-in-19526-clause-input_value : goal.returns-in-19526-clause-input_value
returns-in-19526-clause-input_value c = sym (met c.args.input.now c.u16_at.result (mark "FL") c.in_ok-reaches.ensures (search rules) (search rules) c.u16_at.ensures c.in-19526.is)

pub returns-in-18758-clause-input_value : goal.returns-in-18758-clause-input_value
returns-in-18758-clause-input_value c = sym (met c.args.input.now c.u16_at.result (mark "FI") c.in_ok-reaches.ensures (search rules) (search rules) c.u16_at.ensures c.in-18758.is)

pub returns-in-19523-clause-input_value : goal.returns-in-19523-clause-input_value
returns-in-19523-clause-input_value c = sym (met c.args.input.now c.u16_at.result (mark "CL") c.in_ok-reaches.ensures (search rules) (search rules) c.u16_at.ensures c.in-19523.is)

pub returns-in-21058-clause-input_value : goal.returns-in-21058-clause-input_value
returns-in-21058-clause-input_value c = sym (met c.args.input.now c.u16_at.result (mark "BR") c.in_ok-reaches.ensures (search rules) (search rules) c.u16_at.ensures c.in-21058.is)

pub returns-in-22606-clause-input_value : goal.returns-in-22606-clause-input_value
returns-in-22606-clause-input_value c = sym (met c.args.input.now c.u16_at.result (mark "NX") c.in_ok-reaches.ensures (search rules) (search rules) c.u16_at.ensures c.in-22606.is)

pub returns-in_ok-size-in-21330-clause-input_value : goal.returns-in_ok-size-in-21330-clause-input_value
returns-in_ok-size-in-21330-clause-input_value c = sized RS c.args.input.now _ c.in_ok-size-in-21330.ensures.0 c.in_ok-size-in-21330.ensures.1 ∙ sym (met c.args.input.now c.u16_at.result (mark "RS") c.in_ok-reaches.ensures (search rules) (search rules) c.u16_at.ensures c.in-21330.is)

pub returns-in_ok-size-in-21320-clause-input_value : goal.returns-in_ok-size-in-21320-clause-input_value
returns-in_ok-size-in-21320-clause-input_value c = sized HS c.args.input.now _ c.in_ok-size-in-21320.ensures.0 c.in_ok-size-in-21320.ensures.1 ∙ sym (met c.args.input.now c.u16_at.result (mark "HS") c.in_ok-reaches.ensures (search rules) (search rules) c.u16_at.ensures c.in-21320.is)

pub returns-in_ok-reaches-in-17750-clause-input_value : goal.returns-in_ok-reaches-in-17750-clause-input_value
returns-in_ok-reaches-in-17750-clause-input_value c = judged c.args.input.now c.in_ok-reaches-in-17750.ensures ∙ sym (met c.args.input.now c.u16_at.result (mark "VE") c.in_ok-reaches.ensures (search rules) (search rules) c.u16_at.ensures c.in-17750.is)

pub returns-in_default-clause-input_value : goal.returns-in_default-clause-input_value
returns-in_default-clause-input_value c = sym (met c.args.input.now c.u16_at.result _ c.in_ok-reaches.ensures (search rules) (search rules) c.u16_at.ensures refl ∙ no_mark c.u16_at.result (Unit {0}) format (drop 2 c.args.input.now) c.in_default.in_default-own.rest)
