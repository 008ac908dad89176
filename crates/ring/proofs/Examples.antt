-- A ring of four among six elements, computed.
-- Assumes nothing.
use mathlib.Core.Path.{◌≡◌, refl}
use mathlib.Core.List.{List, [], ◌∷◌}
use Prim.Native.Nat.{ℕ}
use Rattle.ring.specs.Ring.{wrapped, rot, part}

lent : List ℕ
lent = 10 ∷ 11 ∷ 12 ∷ 13 ∷ 14 ∷ 15 ∷ []

-- from place 2 on: 12, 13, and round the end 10, 11
whole : part 4 2 0 4 lent ≡ 12 ∷ 13 ∷ 10 ∷ 11 ∷ []
unfolding part rot lent
whole = refl

round_the_end : part 4 2 1 2 lent ≡ 13 ∷ 10 ∷ []
unfolding part rot lent
round_the_end = refl

-- the head two places on: what was at place 2 is at place 0
moved_on : part 4 (wrapped 4 4) 0 2 lent ≡ 10 ∷ 11 ∷ []
unfolding part rot lent
moved_on = refl
