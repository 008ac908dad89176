-- UTF-8, as the grammar in section 4 of RFC 3629 has it. No code point is computed: surrogates, overlong forms and what is above 10FFFF
-- are what its rows leave out.
use Rattle.std.specs.Prelude.{Bool, true, false, cond, ◌&&◌, List, [], ◌∷◌, ℕ, leb}

-- the bytes from low to high, both included
pub record Range : Type 0 where
  pub low : ℕ
  pub high : ℕ

abbrev pub range : ℕ → ℕ → Range
range l h = record { low = l; high = h }

abbrev pub within : Range → ℕ → Bool
within r b = leb r.low b && leb b r.high

-- a character: the range of its first byte, and those of the bytes behind it
pub record Character : Type 0 where
  pub first : Range
  pub behind : List Range

abbrev pub character : Range → List Range → Character
character r rs = record { first = r; behind = rs }

abbrev pub tail : Range  -- UTF8-tail = %x80-BF
tail = range 0x80 0xBF

-- UTF8-1 = %x00-7F
-- UTF8-2 = %xC2-DF UTF8-tail
-- UTF8-3 = %xE0 %xA0-BF UTF8-tail / %xE1-EC 2( UTF8-tail ) / %xED %x80-9F UTF8-tail / %xEE-EF 2( UTF8-tail )
-- UTF8-4 = %xF0 %x90-BF 2( UTF8-tail ) / %xF1-F3 3( UTF8-tail ) / %xF4 %x80-8F 2( UTF8-tail )
abbrev pub characters : List Character
characters =
    character (range 0x00 0x7F) []
    ∷ character (range 0xC2 0xDF) (tail ∷ [])
    ∷ character (range 0xE0 0xE0) (range 0xA0 0xBF ∷ tail ∷ [])
    ∷ character (range 0xE1 0xEC) (tail ∷ tail ∷ [])
    ∷ character (range 0xED 0xED) (range 0x80 0x9F ∷ tail ∷ [])
    ∷ character (range 0xEE 0xEF) (tail ∷ tail ∷ [])
    ∷ character (range 0xF0 0xF0) (range 0x90 0xBF ∷ tail ∷ tail ∷ [])
    ∷ character (range 0xF1 0xF3) (tail ∷ tail ∷ tail ∷ [])
    ∷ character (range 0xF4 0xF4) (range 0x80 0x8F ∷ tail ∷ tail ∷ [])
    ∷ []

-- no byte is in it
abbrev pub nowhere : Range
nowhere = range 1 0

-- where the bytes behind a first byte have to be
unfoldable pub after : List Character → ℕ → List Range
after [] b = nowhere ∷ []
after (c ∷ rows) b = cond (within c.first b) c.behind (after rows b)

-- the ranges that the character begun still wants, and then characters to the end
unfoldable pub goes_on : List Range → List ℕ → Bool
goes_on [] [] = true
goes_on (r ∷ wanted) [] = false
goes_on [] (b ∷ rest) = goes_on (after characters b) rest
goes_on (r ∷ wanted) (b ∷ rest) = cond (within r b) (goes_on wanted rest) false

-- UTF8-octets = *( UTF8-char )
abbrev pub utf8 : List ℕ → Bool
utf8 input = goes_on [] input
