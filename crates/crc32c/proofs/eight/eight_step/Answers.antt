use Rattle.std.proofs.Common.{◌≡◌, ℕ, suc, ◌+◌, ◌-◌, ◌*◌, ◌/◌, ◌%◌, ◌^◌, ◌<◌, ◌≤◌, length, get_or, drop, sym, ap, ◌∙◌, ap₂, arith, drop_of_length-le}
use lib.Bits.{bit_xor}
use Rattle.crc32c.specs.Reg.{reg, zeros}
use Rattle.crc32c.proofs.Slicing.{reg_at}
use Rattle.crc32c.proofs.eight.eight_step.Goals as goal

pub loop-i-init : goal.loop-i-init
unfolding reg
loop-i-init c =
    let a = c.args in
    let l = a.bytes.now in
    let z : a.crc / 2 ^ 64 ≡ 0 = omega (arith, c.ranges.crc.fits) in
    let h : length l ≤ 8 = omega arith in
    sym (ap₂ reg z (drop_of_length-le l h))

pub loop-i-preserved : goal.loop-i-preserved
loop-i-preserved c =
    let a = c.args in
    let l = a.bytes.now in
    let i : ℕ = c.loop-i.i - 1 in
    let lt : i < length l = omega arith in
    let e : c.loop-i.i ≡ suc i = omega arith in
    let k : 7 - i + 1 ≡ length l - i = omega arith in
    let x : bit_xor (c.from-wide.result / 2 ^ (8 * i)) c.from.result % 256 ≡ bit_xor (a.crc / 2 ^ (8 * i)) (get_or l i 0) % 256 = cc in
    ap₂ bit_xor (c.loop-i.invariant ∙ ap (λ (n : ℕ). reg (a.crc / 2 ^ (8 * n)) (drop n l)) e) (c.zero_bytes-sum.ensures ∙ ap₂ zeros k x)
    ∙ sym (reg_at a.crc l i lt (c.fits-bytes i))
