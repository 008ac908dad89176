use Rattle.std.proofs.Common.{◌≡◌, ℕ, suc, ◌+◌, ◌-◌, sym, ap, ◌∙◌, arith}
use lib.Bits.{bit_xor}
use Rattle.crc32c.specs.Reg.{steps, feed}
use Rattle.crc32c.proofs.byte_step.Goals as goal

pub loop-init : goal.loop-init
unfolding feed
loop-init c = ap (λ (b : ℕ). steps 8 (bit_xor c.args.crc b)) c.from.ensures

pub loop-preserved : goal.loop-preserved
unfolding steps
loop-preserved c =
    let l = c.loop in
    let i : ℕ = l.counter in
    let e : 8 - i ≡ suc (8 - (i + 1)) = omega arith in
    ap (steps (8 - (i + 1))) c.bit_step-r.ensures ∙ sym (ap (λ (k : ℕ). steps k l.r) e) ∙ l.invariant

pub returns : goal.returns
unfolding steps
returns c =
    let l = c.loop in
    let e : 8 - l.counter ≡ 0 = omega arith in
    sym (ap (λ (k : ℕ). steps k l.r) e) ∙ l.invariant
