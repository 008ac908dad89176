-- The register's steps are linear over the exclusive or.
-- Assumes nothing.
use Rattle.std.proofs.Common.{◌≡◌, ℕ, zero, suc, ◌*◌, ◌/◌, ◌%◌, ◌^◌, ◌<◌, refl, ap, ◌∙◌, ap₂, zero-lt-suc, mul-div_cancel, arith, lit<}
use native.Mathlib.Nat.{mul-mod_left}
use lib.Bits.{bit_xor, xor_lt, xor_zero_r}
use Rattle.crc32c.specs.Reg.{poly, step, steps}
use Rattle.crc32c.proofs.Xor.{odd_lt, xor_half, xor-odd, xor4, differ_mul, digit_ind}

pub step-xor : (a b : ℕ) → step (bit_xor a b) ≡ bit_xor (step a) (step b)
unfolding step
step-xor a b =
    ap₂ (λ (x y : ℕ). bit_xor x (y * poly)) (xor_half a b) (xor-odd a b)
    ∙ ap (bit_xor (bit_xor (a / 2) (b / 2))) (differ_mul (a % 2) (b % 2) poly (odd_lt a) (odd_lt b))
    ∙ xor4 (a / 2) (b / 2) (a % 2 * poly) (b % 2 * poly)

pub steps-xor : (n a b : ℕ) → steps n (bit_xor a b) ≡ bit_xor (steps n a) (steps n b)
unfolding steps
steps-xor zero a b = refl
steps-xor (suc n) a b = ap (steps n) (step-xor a b) ∙ steps-xor n (step a) (step b)

-- a register of zeros stays so
pub steps-none : steps 8 0 ≡ 0
unfolding steps step
steps-none = refl

-- an even register is only shifted
pub step_double : (v : ℕ) → step (v * 2) ≡ v
unfolding step
step_double v =
    ap₂ (λ (x y : ℕ). bit_xor x (y * poly)) (mul-div_cancel v (zero-lt-suc 1)) (mul-mod_left v 2)
    ∙ xor_zero_r v

-- a register stays within 32 digits
pub step_lt : (r : ℕ) → r < 2 ^ 32 → step r < 2 ^ 32
unfolding step
step_lt r h =
    xor_lt 32 (r / 2) (r % 2 * poly) (omega arith)
    (digit_ind (λ (x : ℕ). x * poly < 2 ^ 32) (lit< tt) (lit< tt) (r % 2) (odd_lt r))

pub steps_lt : (n r : ℕ) → r < 2 ^ 32 → steps n r < 2 ^ 32
unfolding steps
steps_lt zero r h = h
steps_lt (suc n) r h = steps_lt n (step r) (step_lt r h)
