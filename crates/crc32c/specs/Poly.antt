-- CRC32C as RFC 3720 (12.1) has it: division of polynomials over the field of two elements.
--
-- A polynomial is the list of its coefficients, that of the highest degree first, so that what is sent first stands first.
-- Two polynomials are added where both are given by equally many coefficients.
-- Assumes nothing.
use Rattle.std.specs.Prelude.{◌≡◌, ℕ, zero, suc, ◌/◌, ◌%◌, ◌^◌, ◌<◌, Bool, true, false, not, List, [], ◌∷◌, ◌++◌, map, length, replicate, refl}
use Rattle.std.specs.Bool.{xor}

infixl 40 ◌⊕◌
-- the sum
unfoldable pub ◌⊕◌ : List Bool → List Bool → List Bool
[] ⊕ q = q
(a ∷ p) ⊕ [] = a ∷ p
(a ∷ p) ⊕ (b ∷ q) = xor a b ∷ (p ⊕ q)

-- n coefficients that are 0: p ++ none n is p times x^n
unfoldable pub none : ℕ → List Bool
none n = replicate n false

-- 0 or 1 times a polynomial
unfoldable pub times : Bool → List Bool → List Bool
times true p = p
times false p = none (length p)

-- the product of q and the polynomial whose leading coefficient is 1 and whose others are g.
-- With k coefficients left in q: (b x^k + q) (1 g) = b (1 g) x^k + q (1 g)
unfoldable pub product : List Bool → List Bool → List Bool
product g [] = none (length g)
product g (b ∷ q) = (times b (true ∷ g) ++ none (length q)) ⊕ (false ∷ product g q)

-- a digit as a coefficient
abbrev pub nonzero : ℕ → Bool
nonzero zero = false
nonzero (suc n) = true

-- a number's lowest digit is 1
abbrev pub odd : ℕ → Bool
odd x = nonzero (x % 2)

-- a number's n low digits, the highest first: the digit i is the coefficient of x^i
unfoldable pub coefficients : ℕ → ℕ → List Bool
coefficients zero x = []
coefficients (suc n) x = odd (x / 2 ^ n) ∷ coefficients n x

-- a number's n low digits, the lowest first
unfoldable pub low_first : ℕ → ℕ → List Bool
low_first zero x = []
low_first (suc n) x = odd x ∷ low_first n (x / 2)

-- the message: the bytes in order, in each the least significant bit first
unfoldable pub message : List ℕ → List Bool
message [] = []
message (b ∷ bs) = low_first 8 b ++ message bs

-- the generator's coefficients: that of x^i is the digit i
abbrev pub generator : ℕ
generator = 0x11EDC6F41

-- those below the leading one, which is 1, of x^32
unfoldable pub below : List Bool
below = coefficients 32 generator

leading : coefficients 33 generator ≡ true ∷ below
unfolding coefficients below
leading = refl

-- c is the sum of the bytes bs: the message's polynomial divided by the generator, with a remainder of degree below 32
pub record Crc (bs : List ℕ) (c : ℕ) : Type 0 where
  pub quotient : List Bool
  pub remainder : List Bool
  pub long : length quotient ≡ length (message bs)
  pub short : length remainder ≡ 32
  -- the message times x^32, its first 32 coefficients complemented, is the quotient times the generator and the remainder
  pub divided : (message bs ++ none 32) ⊕ (replicate 32 true ++ none (length (message bs)))
      ≡ product below quotient ⊕ (none (length (message bs)) ++ remainder)
  -- the remainder complemented, the coefficient of x^31 in the least significant bit
  pub fits : c < 2 ^ 32
  pub complemented : low_first 32 c ≡ map not remainder
