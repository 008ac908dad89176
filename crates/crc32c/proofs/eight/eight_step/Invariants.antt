use Rattle.std.proofs.Common.{◌≡◌, ◌*◌, ◌/◌, ◌^◌, drop}
use Rattle.crc32c.specs.Reg.{reg}
use Rattle.crc32c.proofs.eight.eight_step.Given as goal

abbrev pub invariant-loop-i : goal.invariant-loop-i
invariant-loop-i l = l.sum ≡ reg (l.crc / 2 ^ (8 * l.i)) (drop l.i l.bytes)
