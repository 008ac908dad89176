use Rattle.std.proofs.Common.{◌≡◌, drop}
use lib.Bits.{bit_xor}
use Rattle.crc32c.specs.Matrix.{applied}
use Rattle.crc32c.proofs.apply.Given as goal

abbrev pub invariant-loop-column : goal.invariant-loop-column
invariant-loop-column l = bit_xor l.acc (applied (drop l.column-index l.op) l.rest) ≡ applied l.op l.x
