-- a mask of 32 bits that wraps to 0 with the digit d leaves nothing of the polynomial where d is 0, and all of it where d is 1
use Rattle.std.proofs.Common.{◌≡◌, ℕ, ◌+◌, ◌-◌, ◌*◌, ◌/◌, ◌%◌, ◌^◌, ◌<◌, ap, ◌∙◌, subst, arith, rules}
use lib.Bits.{bit_and, bit_xor, and_zero_r, and_mask}
use Rattle.crc32c.specs.Reg.{poly, step}
use Rattle.crc32c.proofs.Xor.{digit_ind, odd_lt}
use Rattle.crc32c.proofs.bit_step.Goals as goal

masked : (d m : ℕ) → d < 2 → m < 2 ^ 32 → (m + d) % 2 ^ 32 ≡ 0 → bit_and poly m ≡ d * poly
masked d m h f =
    digit_ind (λ (u : ℕ). (m + u) % 2 ^ 32 ≡ 0 → bit_and poly m ≡ u * poly)
    (λ e. let z : m ≡ 0 = omega arith in ap (bit_and poly) z ∙ and_zero_r poly)
    (λ e. let z : m ≡ 2 ^ 32 - 1 = omega arith in ap (bit_and poly) z ∙ and_mask poly 32) d h

pub returns : goal.returns
unfolding step
returns c =
    let x : ℕ = c.args.crc in
    let m : ℕ = c.wrapping_sub_u32-mask.result in
    let wraps : (m + x % 2) % 2 ^ 32 ≡ 0 = subst (λ (d : ℕ). (m + d) % 2 ^ 32 ≡ 0) (and_mask x 1) c.wrapping_sub_u32-mask.ensures.value in
    ap (bit_xor (x / 2)) (masked (x % 2) m (odd_lt x) (search rules) wraps)
