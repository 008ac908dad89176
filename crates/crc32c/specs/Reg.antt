-- The shift register on numbers: a quick way to the sum that Poly.antt defines, proved equal to it (proofs/Division.antt, Unique.antt).
-- Assumes nothing.
use Rattle.std.specs.Prelude.{ℕ, zero, suc, ◌*◌, ◌/◌, ◌%◌, List, bit_xor}
use Rattle.std.specs.List.{fold}

-- the generator's low 32 coefficients, that of x^31 lowest
abbrev pub poly : ℕ
poly = 0x82F63B78

-- the register after one more step: its low digit goes out, and the generator goes in where that digit was 1
unfoldable pub step : ℕ → ℕ
step r = bit_xor (r / 2) ((r % 2) * poly)

-- n steps
unfoldable pub steps : ℕ → ℕ → ℕ
steps zero r = r
steps (suc n) r = steps n (step r)

-- one byte
unfoldable pub feed : ℕ → ℕ → ℕ
feed r b = steps 8 (bit_xor r b)

-- the bytes of a list, in order
unfoldable pub reg : ℕ → List ℕ → ℕ
reg r bs = fold feed r bs

abbrev pub ones32 : ℕ
ones32 = 0xFFFF_FFFF

-- the register preset to ones, the bytes in order, the rest complemented
unfoldable pub crc_of : List ℕ → ℕ
crc_of bs = bit_xor (reg ones32 bs) ones32

-- what n zero bytes do to a register
unfoldable pub zeros : ℕ → ℕ → ℕ
zeros zero r = r
zeros (suc n) r = zeros n (steps 8 r)

-- two sums joined, where the second is of n bytes
unfoldable pub joined : ℕ → ℕ → ℕ → ℕ
joined a b n = bit_xor (zeros n a) b

-- the sum c of some bytes, taken further over more bytes
unfoldable pub updated : ℕ → List ℕ → ℕ
updated c bs = bit_xor (reg (bit_xor c ones32) bs) ones32
