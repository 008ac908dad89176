-- The wire form of a request is a shortest message that reads as it.
-- Assumes nothing.
use mathlib.Core.Path.{refl}
use Rattle.rules.specs.Message.{Request}
use Rattle.wire_format.specs.Wire.{wire, shortest, Shortest, InRange}
use Rattle.wire_format.proofs.Back.{reads_back}
use Rattle.wire_format.proofs.Least.{least_is}

pub shortest_is : (r : Request) → InRange r → Shortest r (shortest r)
unfolding shortest
shortest_is r h = record { message = wire r; reads = reads_back r h; long = refl; least = λ b e. least_is b r e }
