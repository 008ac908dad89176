use mathlib.Core.Path.{◌≡◌}
use lib.IntN.{pos, ◌+ℤ◌}
use lib.ListN.{drop}
use Rattle.ring.specs.Ring.{part}
use Rattle.replay_buffer.specs.Ack.{after, front_of}
use Rattle.replay_buffer.proofs.acknowledged.Given as goal

abbrev pub invariant-loop-i : goal.invariant-loop-i
invariant-loop-i l =
    (l.at.0 ≡ l.initial.at.0 +ℤ pos l.bytes)
    × (front_of l.persisted.0 l.initial.at.0 (part l.slots l.first 0 l.chunks l.table) ≡ after l.i l.bytes (front_of l.persisted.0 l.at.0 (drop l.i (part l.slots l.first 0 l.chunks l.table))))
