use mathlib.Core.Path.{◌≡◌}
use Prim.Native.Nat.{◌+◌, ◌^◌, ◌<◌}
use lib.ListN.{length}
use lib.Seq.{sets}
use Rattle.protobuf_format.specs.Varint.{varint_of}
use Rattle.protobuf.proofs.put_varint.Given as goal

abbrev pub invariant-loop-rest : goal.invariant-loop-rest
invariant-loop-rest l =
    (sets l.buffer l.i (varint_of l.rest) ≡ sets l.initial.buffer l.at (varint_of l.n))
    × (l.i + length (varint_of l.rest) ≡ l.at + length (varint_of l.n))
    × (length l.buffer ≡ length l.initial.buffer)
    × (l.rest < 2 ^ 64)

abbrev pub decreases-loop-rest : goal.decreases-loop-rest
decreases-loop-rest l = l.rest
