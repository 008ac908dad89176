-- The text of a number below zero.
use mathlib.Core.Path.{◌≡◌, refl}
use mathlib.Core.Bool.{true}
use mathlib.Core.List.{◌++◌}
use Prim.Native.Nat.{ℕ}
use native.Mathlib.Omega.{arith}
use borrow.Author.Tests.{ltb-true}
use lib.IntN.{ℤ, pos, negsuc, nat_abs}
use lib.Signed.{lt_z}
use mir.Syntax.{w64}
use mir.Val.{to_z, of_z, SFits}
use mir.Facts.{to_z-of_z}
use Rattle.text.specs.Ascii.{ascii}
use Rattle.text.specs.Decimal.{number, signed}

signed_minus : (z : ℤ) → lt_z z (pos 0) ≡ true → ascii "-" ++ number (nat_abs z) ≡ signed z
signed_minus (pos n) h = absurd (omega (arith, ltb-true n 0 h))
signed_minus (negsuc n) h = refl

-- the same of a number that a variable holds, and of the number m that is its magnitude
module _ (z : ℤ) (f : SFits w64 z) (m : ℕ) (is : m ≡ nat_abs (to_z w64 (of_z w64 z))) where
  pub signed_below : lt_z (to_z w64 (of_z w64 z)) (pos 0) ≡ true → ascii "-" ++ number m ≡ signed z
  signed_below t = rw (is, to_z-of_z f) (signed_minus z (rw (to_z-of_z f) at t))
