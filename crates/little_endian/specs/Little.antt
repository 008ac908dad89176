-- Numbers as bytes, the lowest first.
use Rattle.std.specs.Prelude.{List, [], ◌∷◌, ℕ, zero, suc, ◌+◌, ◌*◌, ◌/◌, ◌%◌}

-- the number that some bytes are
abbrev pub little : List ℕ → ℕ
little [] = 0
little (b ∷ rest) = b + 256 * little rest

-- n as k bytes
abbrev pub digits : ℕ → ℕ → List ℕ
digits zero n = []
digits (suc k) n = n % 256 ∷ digits k (n / 256)
