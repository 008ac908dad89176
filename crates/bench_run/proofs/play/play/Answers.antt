use mathlib.Core.Path.{ap, ◌∙◌}
use mathlib.Core.List.{[]}
use Prim.Native.Nat.{◌+◌, ◌≤◌}
use native.Mathlib.Omega.{arith}
use borrow.Author.Rules.{rules}
use mir.Facts.{Fits-le}
use lib.ListN.{length, length-drop}
use Rattle.bench_run.proofs.Going.{from_on}
use Rattle.bench_run.proofs.Playing.{turn_fewer, turned}
use Rattle.bench_run.proofs.play.play.Goals as goal

pub overflow_add-p : goal.overflow_add-p
overflow_add-p c =
    let at = c.loop-text.p.at in
    let h : at + c.after-next.result.at ≤ length c.args.input.now = omega (arith, (c.after-next.ensures []).inside, c.loop-text.invariant.5.at_in, length-drop at c.args.input.now, ap length (from_on at c.args.input.now)) in
    Fits-le h (search rules)

pub loop-text-smaller : goal.loop-text-smaller
loop-text-smaller c =
    turn_fewer c.args.input.now c.loop-text.p.at c.loop-text.invariant.5.valid c.loop-text.invariant.4 c.in-Call.is c.call-answer.ensures (from_on c.loop-text.p.at c.args.input.now) c.after-next.ensures

pub loop-text-preserved : goal.loop-text-preserved
loop-text-preserved c = (
  c.call-answer.auto.store ∙ c.loop-text.invariant.0,
  c.call-answer.auto.table ∙ c.loop-text.invariant.1,
  c.call-answer.auto.out ∙ c.loop-text.invariant.2,
  c.put-used.auto.text ∙ c.loop-text.invariant.3,
  c.call-answer.auto.out ∙ c.loop-text.invariant.4,
  turned c.args.input.now c.loop-text.p.at c.loop-text.invariant.5.valid c.loop-text.invariant.4 c.in-Call.is c.call-answer.ensures (from_on c.loop-text.p.at c.args.input.now) c.after-next.ensures
      c.put-used.ensures c.put-used.auto.text c.call-answer.auto.out c.line.ensures c.loop-text.invariant.5,
)
