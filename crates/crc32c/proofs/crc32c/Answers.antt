use Rattle.std.proofs.Common.{ℕ, sym, ap, subst}
use lib.Bits.{bit_xor}
use Rattle.crc32c.specs.Reg.{ones32, crc_of}
use Rattle.crc32c.specs.Poly.{Crc}
use Rattle.crc32c.proofs.Bytes.{bytes_of}
use Rattle.crc32c.proofs.Division.{crc_divides}
use Rattle.crc32c.proofs.crc32c.Goals as goal

pub returns-clause-divided : goal.returns-clause-divided
unfolding crc_of
returns-clause-divided c =
    let bs = c.args.bytes.now in
    subst (Crc bs) (sym (ap (λ (x : ℕ). bit_xor x ones32) c.run.ensures)) (crc_divides bs (bytes_of bs (λ i. (c.type_inv.bytes i).fits)))
