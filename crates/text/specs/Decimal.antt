-- Numbers in decimal, as bytes.
use Rattle.std.specs.Prelude.{cond, List, [], ◌∷◌, ◌++◌, ℕ, zero, suc, ◌+◌, ◌/◌, ◌%◌, ltb, ℤ, pos, negsuc}
use Rattle.text.specs.Ascii.{ascii}

-- a number below 10 to the power of the first, in decimal; `0` is 48
abbrev pub decimal : ℕ → ℕ → List ℕ
decimal zero n = []
decimal (suc k) n = cond (ltb n 10) [] (decimal k (n / 10)) ++ ((48 + n % 10) ∷ [])

unfoldable pub number : ℕ → List ℕ
number n = decimal 20 n

abbrev pub signed : ℤ → List ℕ
signed (pos n) = number n
signed (negsuc n) = ascii "-" ++ number (suc n)
