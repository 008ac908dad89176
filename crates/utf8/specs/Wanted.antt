-- The state of the test, as the ranges that it wants.
use Rattle.std.specs.Prelude.{◌≡◌, List, [], ◌∷◌, ℕ, zero, suc}
use Rattle.utf8.specs.Utf8.{Range, range, tail, goes_on}
use Rattle.utf8.specs.declared.Want.{Want}

abbrev pub want_of : ℕ → ℕ → ℕ → Want
want_of n l h = record { tails = n; low = l; high = h }

abbrev pub tails_of : ℕ → List Range
tails_of zero = []
tails_of (suc n) = tail ∷ tails_of n

abbrev pub wanted : ℕ → ℕ → ℕ → List Range
wanted zero l h = []
wanted (suc n) l h = range l h ∷ tails_of n

abbrev pub ranges_of : Want → List Range
ranges_of w = wanted w.tails w.low w.high

-- a byte on from w is r
pub record Steps (w : Want) (b : ℕ) (r : Want) : Type 0 where
  pub on : (rest : List ℕ) → goes_on (ranges_of w) (b ∷ rest) ≡ goes_on (ranges_of r) rest
