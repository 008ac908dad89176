-- What is written reads back, and a number of joined bytes.
-- Assumes nothing.
use mathlib.Core.Path.{◌≡◌, refl, ap}
use mathlib.Core.List.{List, [], ◌∷◌, ◌++◌}
use Prim.Native.Nat.{ℕ, zero, suc, ◌+◌, ◌*◌, ◌/◌, ◌^◌, ◌<◌}
use native.Mathlib.Nat.{mul_assoc, pow-succ'}
use native.Mathlib.Omega.{arith}
use lib.ListN.{length}
use Rattle.little_endian.specs.Little.{little, digits}

pub length_digits : (k n : ℕ) → length (digits k n) ≡ k
length_digits zero n = refl
length_digits (suc k) n = ap suc (length_digits k (n / 256))

pub little-digits : (k n : ℕ) → n < 256 ^ k → little (digits k n) ≡ n
little-digits zero n h = omega arith
little-digits (suc k) n h = omega (arith, little-digits k (n / 256) (omega (arith, pow-succ' 256 k)))

pub little-append : (a b : List ℕ) → little (a ++ b) ≡ little a + 256 ^ length a * little b
little-append [] b = omega arith
little-append (x ∷ a) b =
    omega (arith, little-append a b, ap (λ (k : ℕ). k * little b) (pow-succ' 256 (length a)), mul_assoc 256 (256 ^ length a) (little b))
