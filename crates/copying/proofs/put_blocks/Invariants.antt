use Rattle.std.proofs.Common.{◌≡◌, ℕ, List, ◌++◌}
use Rattle.std.specs.Slice.Iter.{chunks_rest, chunks_size}
use Rattle.copying.specs.Written.{Written}
use Rattle.copying.proofs.put_blocks.Given as goal

abbrev pub invariant-loop-block : goal.invariant-loop-block
invariant-loop-block l =
    (chunks_size l.block-iterator ≡ 2048) × ((done : List ℕ) × (l.src ≡ done ++ chunks_rest l.block-iterator) × Written done l.initial.buffer l.buffer l.at l.i)
