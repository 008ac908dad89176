-- A word of the chunk table: a chunk's length in the low 32 bits, its CRC32C in the high 32 bits.
use Rattle.std.specs.Prelude.{ℕ, ◌+◌, ◌*◌, ◌/◌, ◌%◌}

abbrev pub packed : ℕ → ℕ → ℕ
packed len sum = sum * 0x1_0000_0000 + len

abbrev pub len_of : ℕ → ℕ
len_of w = w % 0x1_0000_0000

abbrev pub sum_of : ℕ → ℕ
sum_of w = w / 0x1_0000_0000
