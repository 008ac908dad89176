-- A word's halves come back.
-- Assumes nothing.
use mathlib.Core.Path.{◌≡◌, refl}
use Prim.Native.Nat.{ℕ, ◌<◌, ◌^◌}
use lib.Pow.{high, low}
use Rattle.chunk_words.specs.Word.{packed, len_of, sum_of}

pub len_packed : (len sum : ℕ) → len < 2 ^ 32 → len_of (packed len sum) ≡ len
len_packed len sum h = low sum 32 h

pub sum-packed : (len sum : ℕ) → len < 2 ^ 32 → sum_of (packed len sum) ≡ sum
sum-packed len sum h = high sum 32 h

word : packed 5 0xE306_9283 ≡ 0xE306_9283_0000_0005
word = refl
