-- A linear operator on registers, by what it does to each single digit, lowest digit first.
-- Assumes nothing.
use Rattle.std.specs.Prelude.{ℕ, zero, suc, ◌*◌, ◌/◌, ◌%◌, ◌^◌, List, [], ◌∷◌, bit_xor}
use Rattle.crc32c.specs.Reg.{steps}

-- the operator at x: the sum of the columns at the digits of x that are 1
unfoldable pub applied : List ℕ → ℕ → ℕ
applied [] x = 0
applied (m ∷ ms) x = bit_xor ((x % 2) * m) (applied ms (x / 2))

-- f, n times over
unfoldable pub iterated : (ℕ → ℕ) → ℕ → ℕ → ℕ
iterated f zero x = x
iterated f (suc n) x = iterated f n (f x)

-- f at n single digits, from the digit j on: f (2 ^ j), f (2 ^ (j + 1)), ..
unfoldable pub columns : (ℕ → ℕ) → ℕ → ℕ → List ℕ
columns f zero j = []
columns f (suc n) j = f (2 ^ j) ∷ columns f n (suc j)

-- what one zero byte does to a register, as a matrix
unfoldable pub zero_byte : List ℕ
zero_byte = columns (steps 8) 32 0
