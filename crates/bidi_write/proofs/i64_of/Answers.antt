-- from -1 down
use mathlib.Core.Path.{◌≡◌, refl, sym, ap, ◌∙◌}
use Prim.Native.Nat.{ℕ, zero, suc, ◌-◌, ◌≤◌, ◌<◌, ◌^◌}
use native.Mathlib.Omega.{arith}
use lib.IntN.{ℤ, pos, negsuc, ◌-ℤ◌}
use mir.Syntax.{w64}
use mir.Val.{to_z, SFits}
use mir.Facts.{to_z_pos, to_z-neg, to_z-of_z}
use Rattle.bidi_write.proofs.i64_of.Goals as goal

below-zero : (k : ℕ) → negsuc 0 -ℤ pos k ≡ negsuc k
below-zero zero = refl
below-zero (suc k) = ap negsuc (omega arith)

-- k below -1

minus : (k : ℕ) → k < 2 ^ 63 → negsuc 0 -ℤ to_z w64 k ≡ negsuc k
minus k h = ap (λ (z : ℤ). negsuc 0 -ℤ z) (to_z_pos w64 h) ∙ below-zero k

fits : (k : ℕ) → k < 2 ^ 63 → SFits w64 (negsuc 0 -ℤ to_z w64 k)
fits k h = rw (minus k h) (record { sfits = h })

upper : (n : ℕ) → 2 ^ 63 ≤ n → n < 2 ^ 64 → negsuc 0 -ℤ to_z w64 (0xffff_ffff_ffff_ffff - n) ≡ to_z w64 n
upper n l h =
    let k : 0xffff_ffff_ffff_ffff - n < 2 ^ 63 = omega arith in
    let e : 2 ^ 64 - suc (0xffff_ffff_ffff_ffff - n) ≡ n = omega arith in
    minus (0xffff_ffff_ffff_ffff - n) k ∙ sym (to_z-neg w64 (0xffff_ffff_ffff_ffff - n) k) ∙ ap (to_z w64) e

pub overflow_sub-result-2 : goal.overflow_sub-result-2
overflow_sub-result-2 c = fits (0xffff_ffff_ffff_ffff - c.args.n) (omega arith)

pub returns : goal.returns
returns c = to_z-of_z (fits (0xffff_ffff_ffff_ffff - c.args.n) (omega arith)) ∙ upper c.args.n (omega arith) (omega arith)
