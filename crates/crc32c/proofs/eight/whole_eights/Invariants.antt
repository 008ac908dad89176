use Rattle.std.proofs.Common.{◌≡◌, take}
use Rattle.std.specs.List.{fold}
use Rattle.crc32c.specs.Reg.{reg}
use Rattle.crc32c.proofs.eight.whole_eights.Given as goal

abbrev pub invariant-loop-bytes : goal.invariant-loop-bytes
invariant-loop-bytes l = l.crc ≡ fold reg l.start (take l.bytes-index l.eights)
