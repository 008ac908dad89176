use mathlib.Core.Path.{◌≡◌}
use mathlib.Core.Bool.{true, false}
use Prim.Native.Nat.{◌<◌, ◌≤◌}
use native.Mathlib.Omega.{arith}
use lib.ListN.{length}
use Rattle.std.specs.Prelude.{Err}
use Rattle.admission.specs.Rows.{bad_limits}
use Rattle.bidi_write.specs.declared.Refusal.TheVariants as refusal
use Rattle.planning.specs.Answer.{plan_of}
use Rattle.planning.proofs.Laws.{limit_refused, entries_refused, all_planned}
use Rattle.planning.proofs.plan.Goals as goal

pub returns-in_err-refuse_if : goal.returns-in_err-refuse_if
returns-in_err-refuse_if c =
    let refused : c.from_residual.result ≡ Err refusal.Limits = grind arith in
    let bad : bad_limits c.args.limit 0 ≡ true = grind arith in
    rw refused (limit_refused c.args.limit c.args.lengths.now bad)

pub returns-in_err-refuse_if-2 : goal.returns-in_err-refuse_if-2
returns-in_err-refuse_if-2 c =
    let refused : c.from_residual-in_err-refuse_if-2.result ≡ Err refusal.TooManyEntries = grind arith in
    let good : bad_limits c.args.limit 0 ≡ false = grind arith in
    let long : 65536 < length c.args.lengths.now = grind arith in
    rw refused (entries_refused c.args.limit c.args.lengths.now good long)

pub returns : goal.returns
returns c =
    let good : bad_limits c.args.limit 0 ≡ false = grind arith in
    let short : length c.args.lengths.now ≤ 65536 = grind arith in
    all_planned c.args.limit c.args.lengths.now (plan_of c.all.result) good short c.all.ensures.result_value c.all.ensures.stored_bound
