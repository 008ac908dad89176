-- Three vectors of RFC 3720, B.4, as theorems on its definition. The program `checksum` runs them all.
-- Assumes nothing.
use Rattle.std.proofs.Common.{◌≡◌, ℕ, T, ltb, List, [], ◌∷◌, replicate, refl, subst, ltb→lt}
use lib.Ieee.Fits.{and_l, and_r}
use lib.Pow.{are_bytes}
use Rattle.crc32c.specs.Bytes.{Bytes}
use Rattle.crc32c.specs.Poly.{Crc}
use Rattle.crc32c.specs.Reg.{step, steps, feed, reg, crc_of}
use Rattle.crc32c.proofs.Division.{crc_divides}

tested : (bs : List ℕ) → T (are_bytes bs) → Bytes bs
tested [] t = tt
tested (b ∷ bs) t = (ltb→lt b 256 (and_l (ltb b 256) (are_bytes bs) t), tested bs (and_r (ltb b 256) (are_bytes bs) t))

-- what the register computes is the definition's sum
computed : (bs : List ℕ) (c : ℕ) → T (are_bytes bs) → crc_of bs ≡ c → Crc bs c
computed bs c t e = subst (Crc bs) e (crc_divides bs (tested bs t))

zeros : Crc (replicate 32 0) 0x8A9136AA
unfolding crc_of reg feed steps step
zeros = computed (replicate 32 0) 0x8A9136AA tt refl

-- 00 to 1f
abbrev up : List ℕ
up =
    0 ∷ 1 ∷ 2 ∷ 3 ∷ 4 ∷ 5 ∷ 6 ∷ 7 ∷ 8 ∷ 9 ∷ 10 ∷ 11 ∷ 12 ∷ 13 ∷ 14 ∷ 15
    ∷ 16 ∷ 17 ∷ 18 ∷ 19 ∷ 20 ∷ 21 ∷ 22 ∷ 23 ∷ 24 ∷ 25 ∷ 26 ∷ 27 ∷ 28 ∷ 29 ∷ 30 ∷ 31 ∷ []

increasing : Crc up 0x46DD794E
unfolding crc_of reg feed steps step
increasing = computed up 0x46DD794E tt refl

-- an iSCSI read command
abbrev command : List ℕ
command =
    0x01 ∷ 0xC0 ∷ 0 ∷ 0 ∷ 0 ∷ 0 ∷ 0 ∷ 0 ∷ 0 ∷ 0 ∷ 0 ∷ 0 ∷ 0 ∷ 0 ∷ 0 ∷ 0
    ∷ 0x14 ∷ 0 ∷ 0 ∷ 0 ∷ 0 ∷ 0 ∷ 0x04 ∷ 0 ∷ 0 ∷ 0 ∷ 0 ∷ 0x14 ∷ 0 ∷ 0 ∷ 0 ∷ 0x18
    ∷ 0x28 ∷ 0 ∷ 0 ∷ 0 ∷ 0 ∷ 0 ∷ 0 ∷ 0 ∷ 0x02 ∷ 0 ∷ 0 ∷ 0 ∷ 0 ∷ 0 ∷ 0 ∷ 0 ∷ []

read : Crc command 0xD9963A56
unfolding crc_of reg feed steps step
read = computed command 0xD9963A56 tt refl
