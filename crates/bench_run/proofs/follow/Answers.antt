-- The session stays valid, and the turn within the bytes at hand.
use mathlib.Core.Path.{◌≡◌, ◌∙◌}
use Prim.Native.Nat.{ℕ, ◌+◌, ◌-◌, ◌≤◌}
use native.Mathlib.Omega.{arith}
use lib.ListN.{length, take, drop, length-drop}
use lib.Seq.{length-take-le}
use Rattle.rules.specs.Message.{Bytes}
use Rattle.bench_run.proofs.Playing.{found_inside}
use Rattle.bench_run.proofs.follow.Goals as goal

-- what was played of the bytes at hand: `at` of those from `from` to `to`
module _ (xs : Bytes) (from to at : ℕ) (h : from ≤ to) (k : to ≤ length xs) (l : at ≤ length (take (to - from) (drop from xs))) where
  part-length : length (take (to - from) (drop from xs)) ≡ to - from
  part-length = length-take-le (to - from) (drop from xs) (omega (arith, length-drop from xs))

  behind : from + at ≤ to
  behind = omega (arith, part-length)

  behind-length : length (drop at (take (to - from) (drop from xs))) ≡ to - (from + at)
  behind-length = omega (arith, length-drop at (take (to - from) (drop from xs)), part-length)

pub loop-preserved : goal.loop-preserved
loop-preserved c =
    let f = c.in-Some.ensures in
    let input = c.feed.new.input in
    let k : c.in-Some.to ≤ length input = omega (arith, f.inside, c.feed.auto.input) in
    let q = c.play-q in
    record {
      input_len = c.feed.auto.input ∙ c.loop.invariant.input_len;
      out_len = q.auto.out ∙ c.loop.invariant.out_len;
      used_in = omega (arith, q.auto.text, q.ensures.used_in);
      at_in = behind input c.in-Some.from c.in-Some.to q.result.at f.from_in k q.ensures.at_in;
      end_in = k;
      turn_inside = found_inside q.result.turn _ (behind-length input c.in-Some.from c.in-Some.to q.result.at f.from_in k q.ensures.at_in) q.ensures.found;
      valid = q.ensures.valid;
    }
