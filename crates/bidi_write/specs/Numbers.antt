-- Signed numbers as natural ones, and their difference.
use Rattle.std.specs.Prelude.{◌≡◌, Bool, true, false, ℤ, pos, neg_ℤ, ◌-ℤ◌}
use Rattle.std.specs.Int.Signed.{lt_z}
pub use Rattle.rules.specs.Basics.{to_ℕ}
use Rattle.bidi_write.specs.declared.Difference.{Difference}
use Rattle.bidi_write.specs.declared.Difference.TheVariants as difference

abbrev pub difference_of : Difference → ℤ
difference_of (difference.Below n) = neg_ℤ (pos n)
difference_of (difference.AtLeast n) = pos n

abbrev pub is_below : Difference → Bool
is_below (difference.Below n) = true
is_below (difference.AtLeast n) = false

-- "compared and subtracted with exact meaning below, at and above zero"
pub record Differs (a b : ℤ) (r : Difference) : Type 0 where
  pub sign_is : is_below r ≡ lt_z a b
  pub value_is : difference_of r ≡ a -ℤ b
