use Rattle.std.proofs.Common.{◌≡◌, ◌-◌}
use Rattle.crc32c.specs.Reg.{steps, feed}
use Rattle.crc32c.proofs.byte_step.Given as goal

abbrev pub invariant-loop : goal.invariant-loop
invariant-loop l = steps (8 - l.counter) l.r ≡ feed l.crc l.byte
