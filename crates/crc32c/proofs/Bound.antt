-- Sums fit 32 bits.
-- Assumes nothing.
use Rattle.std.proofs.Common.{ℕ, ◌^◌, ◌<◌, List, [], ◌∷◌, arith, lit<}
use lib.Bits.{bit_xor, xor_lt}
use Rattle.crc32c.specs.Bytes.{Bytes}
use Rattle.crc32c.specs.Reg.{feed, reg, ones32, crc_of}
use Rattle.crc32c.proofs.Linear.{steps_lt}

feed_lt : (r b : ℕ) → r < 2 ^ 32 → b < 256 → feed r b < 2 ^ 32
unfolding feed
feed_lt r b hr hb = steps_lt 8 (bit_xor r b) (xor_lt 32 r b hr (omega arith))

reg_lt : (r : ℕ) (bs : List ℕ) → r < 2 ^ 32 → Bytes bs → reg r bs < 2 ^ 32
unfolding reg
reg_lt r [] hr h = hr
reg_lt r (b ∷ bs) hr h = reg_lt (feed r b) bs (feed_lt r b hr h.0) h.1

pub crc_lt : (bs : List ℕ) → Bytes bs → crc_of bs < 2 ^ 32
unfolding crc_of
crc_lt bs h = xor_lt 32 (reg ones32 bs) ones32 (reg_lt ones32 bs (lit< tt) h) (lit< tt)
