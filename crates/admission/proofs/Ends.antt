-- "A chunk would end past 2^63 − 1."
-- Assumes nothing.
use mathlib.Core.Path.{◌≡◌, refl, sym}
use mathlib.Core.Bool.{Bool, true, false}
use Prim.Native.Nat.{ℕ, ◌+◌, ◌-◌, ◌<◌, ◌^◌}
use native.Mathlib.Omega.{arith}
use borrow.Author.Tests.{ltb-true, ltb-false, lt-ltb, le-ltb}
use lib.Dec.{ltb}

-- a difference that does not wrap tests the sum
pub far_is : (e n : ℕ) → e < 2 ^ 63 → ltb (2 ^ 63 - 1 - e) n ≡ ltb (2 ^ 63 - 1) (e + n)
far_is e n h = at (ltb (2 ^ 63 - 1 - e) n) refl
  where
    at : (b : Bool) → ltb (2 ^ 63 - 1 - e) n ≡ b → b ≡ ltb (2 ^ 63 - 1) (e + n)
    at true f = sym (lt-ltb (2 ^ 63 - 1) (e + n) (omega (arith, ltb-true (2 ^ 63 - 1 - e) n f)))
    at false f = sym (le-ltb (2 ^ 63 - 1) (e + n) (omega (arith, ltb-false (2 ^ 63 - 1 - e) n f)))
