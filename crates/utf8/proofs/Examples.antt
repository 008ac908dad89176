-- Bytes that are UTF-8 and bytes that are not, computed: the borders of every row of the grammar.
-- Assumes nothing.
use mathlib.Core.Path.{◌≡◌, refl}
use mathlib.Core.Bool.{true, false}
use mathlib.Core.List.{[], ◌∷◌}
use Rattle.utf8.specs.Utf8.{after, goes_on, utf8}

no_bytes : utf8 [] ≡ true
unfolding goes_on
no_bytes = refl

-- aé€😀: one to four bytes; then first and last code points of one, two, three and four bytes, and those beside the surrogates
are_utf8 :
    (utf8 (0x61 ∷ 0xC3 ∷ 0xA9 ∷ 0xE2 ∷ 0x82 ∷ 0xAC ∷ 0xF0 ∷ 0x9F ∷ 0x98 ∷ 0x80 ∷ []) ≡ true)
    × (utf8 (0x00 ∷ 0x7F ∷ []) ≡ true)
    × (utf8 (0xC2 ∷ 0x80 ∷ 0xDF ∷ 0xBF ∷ []) ≡ true)
    × (utf8 (0xE0 ∷ 0xA0 ∷ 0x80 ∷ 0xEF ∷ 0xBF ∷ 0xBF ∷ []) ≡ true)
    × (utf8 (0xED ∷ 0x9F ∷ 0xBF ∷ 0xEE ∷ 0x80 ∷ 0x80 ∷ []) ≡ true)
    × (utf8 (0xF0 ∷ 0x90 ∷ 0x80 ∷ 0x80 ∷ 0xF4 ∷ 0x8F ∷ 0xBF ∷ 0xBF ∷ []) ≡ true)
unfolding goes_on after
are_utf8 = (refl, refl, refl, refl, refl, refl)

-- overlong in two, three and four bytes
overlong :
    (utf8 (0xC0 ∷ 0x80 ∷ []) ≡ false)
    × (utf8 (0xC1 ∷ 0xBF ∷ []) ≡ false)
    × (utf8 (0xE0 ∷ 0x9F ∷ 0xBF ∷ []) ≡ false)
    × (utf8 (0xF0 ∷ 0x8F ∷ 0xBF ∷ 0xBF ∷ []) ≡ false)
unfolding goes_on after
overlong = (refl, refl, refl, refl)

-- the first and the last of them
surrogates :
    (utf8 (0xED ∷ 0xA0 ∷ 0x80 ∷ []) ≡ false)
    × (utf8 (0xED ∷ 0xBF ∷ 0xBF ∷ []) ≡ false)
unfolding goes_on after
surrogates = (refl, refl)

-- 110000, and first bytes that only higher ones could have; no byte at all
above_10_ffff :
    (utf8 (0xF4 ∷ 0x90 ∷ 0x80 ∷ 0x80 ∷ []) ≡ false)
    × (utf8 (0xF5 ∷ 0x80 ∷ 0x80 ∷ 0x80 ∷ []) ≡ false)
    × (utf8 (0xFF ∷ []) ≡ false)
    × (utf8 (256 ∷ []) ≡ false)
unfolding goes_on after
above_10_ffff = (refl, refl, refl, refl)

-- a tail alone, and behind a whole character
tail-alone :
    (utf8 (0x80 ∷ []) ≡ false)
    × (utf8 (0xBF ∷ []) ≡ false)
    × (utf8 (0xC3 ∷ 0xA9 ∷ 0xA9 ∷ []) ≡ false)
unfolding goes_on after
tail-alone = (refl, refl, refl)

-- cut off by the end, after each byte
cut_off :
    (utf8 (0xC3 ∷ []) ≡ false)
    × (utf8 (0xE2 ∷ 0x82 ∷ []) ≡ false)
    × (utf8 (0xF0 ∷ []) ≡ false)
    × (utf8 (0xF0 ∷ 0x9F ∷ []) ≡ false)
    × (utf8 (0xF0 ∷ 0x9F ∷ 0x98 ∷ []) ≡ false)
unfolding goes_on after
cut_off = (refl, refl, refl, refl, refl)

-- another byte where a tail is wanted: below the range, above it, and a whole character
no_tail :
    (utf8 (0xC3 ∷ 0x7F ∷ []) ≡ false)
    × (utf8 (0xC3 ∷ 0xC0 ∷ []) ≡ false)
    × (utf8 (0xE2 ∷ 0x82 ∷ 0x61 ∷ []) ≡ false)
    × (utf8 (0xF0 ∷ 0x9F ∷ 0x98 ∷ 0xC0 ∷ 0x80 ∷ []) ≡ false)
unfolding goes_on after
no_tail = (refl, refl, refl, refl)
