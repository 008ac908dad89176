use Rattle.std.proofs.Common.{ℕ, ◌+◌, ◌*◌, ◌/◌, ◌%◌, sym, ◌∙◌, ap₂, arith}
use lib.Bits.{bit_xor}
use Rattle.crc32c.proofs.Slicing.{halves}
use Rattle.crc32c.proofs.eight.zero_bytes.Goals as goal

pub returns : goal.returns
returns c =
    let k : ℕ = c.args.k in
    let x : ℕ = c.args.byte in
    let right = c.requires.half_byte_table.right in
    rw (c.from-x.ensures) (ap₂ bit_xor (right (2 * k + 1) (x % 16) (omega arith) (omega arith)) (right (2 * k) (x / 16) (omega arith) (omega arith)) ∙ sym (halves k x))
