use mathlib.Core.Path.{◌∙◌}
use Prim.Native.Nat.{◌+◌, ◌%◌, ◌^◌, ◌≤◌, ◌<◌}
use native.Mathlib.Omega.{arith}
use lib.ListN.{length-set}
use Rattle.protobuf_format.proofs.Varint.{groups_of_pos, length_few, length-many}
use Rattle.protobuf.proofs.Writing.{store_few, store_many}
use Rattle.protobuf.proofs.put_varint.Goals as goal

pub bounds-buffer-i : goal.bounds-buffer-i
bounds-buffer-i c = omega (arith, groups_of_pos 9 c.loop-rest.rest)

pub loop-rest-preserved : goal.loop-rest-preserved
loop-rest-preserved c =
    let rest = c.loop-rest.rest in
    let many : 128 ≤ rest = omega arith in
    let wide : rest < 2 ^ 64 = omega arith in (
      store_many rest c.loop-rest.buffer c.loop-rest.i many wide ∙ c.loop-rest.invariant.0,
      omega (arith, length-many rest many wide),
      length-set c.loop-rest.buffer c.loop-rest.i (128 + rest % 128) ∙ c.loop-rest.invariant.2,
      omega arith,
    )

pub bounds-buffer-i-2 : goal.bounds-buffer-i-2
bounds-buffer-i-2 c = omega (arith, groups_of_pos 9 c.loop-rest.rest)

pub returns : goal.returns
returns c =
    let few : c.loop-rest.rest < 128 = omega arith in
    record {
      place = omega (arith, length_few c.loop-rest.rest few);
      stored = store_few c.loop-rest.rest c.loop-rest.buffer c.loop-rest.i few ∙ c.loop-rest.invariant.0;
    }
