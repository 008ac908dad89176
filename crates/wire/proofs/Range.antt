-- A request of the code is in range by its types.
-- Assumes nothing.
use Rattle.std.proofs.Common.{◌^◌, ◌<◌, List, length, arith, length-take}
use mir.Val.{Val}
use denote.Laws.{Is}
use denote.Builtin.{u32}
use Rattle.std.specs.contracts.option.Option as O
use Rattle.rules.specs.Message.{Bytes}
use Rattle.bidi_write.specs.View.{checksum_of, data_of, request_of}
use Rattle.std.specs.declared.option.Option as opt
use Rattle.std.specs.Prelude.{ℕ, Some, None}
use Rattle.bidi_write.specs.declared.ChecksummedData.{ChecksummedData}
use Rattle.bidi_write.specs.declared.Request.{Request}
use Rattle.bidi_write.specs.contracts.ChecksummedData as D
use Rattle.bidi_write.specs.contracts.Request as R
use Rattle.wire_format.specs.Wire.{DataInRange, SumInRange, InRange}

sum_in_range : (k : opt.Option ℕ) (v : List Val) → Is (O.the_row u32) k v → SumInRange (checksum_of k)
sum_in_range None v h = tt
sum_in_range (Some c) v h = h.1.1.1.1.0.1

data_in_range : (d : opt.Option ChecksummedData) (lent : Bytes) (v : List Val) → length lent < 2 ^ 63 → Is (O.the_row D.the_row) d v → DataInRange (data_of d lent)
data_in_range None lent v l h = tt
data_in_range (Some d) lent v l h = (omega (arith, length-take d.length lent), h.1.1.1.1.0.1.1.1.0.1)

pub in_range : (r : Request) (lent : Bytes) (v : List Val) → length lent < 2 ^ 63 → Is R.the_row r v → InRange (request_of r lent)
unfolding request_of
in_range r lent v l h =
    record {
      offset = record { sfits = omega (arith, h.1.1.0.1.1.0.1) };
      checked = data_in_range r.«data» lent _ l h.1.1.1.0;
      sum = sum_in_range r.object_checksums _ h.1.1.1.1.0;
    }
