-- The library's test for a prefix is the rules'.
use mathlib.Core.Path.{◌≡◌, refl, ap}
use mathlib.Core.Bool.{Bool, ◌&&◌}
use mathlib.Core.List.{[], ◌∷◌}
use lib.Dec.{eqb}
use lib.ListN.{length, take}
use lib.Pointwise.{pointwise}
use Rattle.rules.specs.Message.{Bytes}
use Rattle.rules.specs.Opening.{starts_with}

pub prefix_is : (p b : Bytes) → pointwise eqb p (take (length p) b) ≡ starts_with p b
prefix_is [] b = refl
prefix_is (x ∷ p) [] = refl
prefix_is (x ∷ p) (y ∷ b) = ap (λ (t : Bool). eqb x y && t) (prefix_is p b)
