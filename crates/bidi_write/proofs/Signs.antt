-- An offset that is not below zero.
-- Assumes nothing.
use mathlib.Core.Path.{◌≡◌, refl}
use mathlib.Core.Bool.{false}
use Prim.Native.Nat.{ℕ}
use native.Mathlib.Omega.{arith}
use lib.IntN.{ℤ, pos, negsuc}
use lib.Signed.{lt_z}
use Rattle.bidi_write.specs.Numbers.{to_ℕ}

pub pos_back : (z : ℤ) → lt_z z (pos 0) ≡ false → z ≡ pos (to_ℕ z)
pos_back (pos n) h = refl
pos_back (negsuc n) h = let e : ◌≡◌ {A = ℕ} 0 1 = cc in absurd (omega arith)
