-- How long a buffer a host has to lend: 39 bytes more than the data, where that is at most a chunk (C is at most 2,097,152).
-- Assumes nothing.
use mathlib.Core.Path.{◌≡◌, refl, ap, ◌∙◌}
use mathlib.Core.Bool.{Bool, true, false}
use mathlib.Core.List.{[], ◌∷◌}
use mathlib.Core.Option.{Option, none, some, map}
use Prim.Native.Nat.{ℕ, ◌+◌, ◌-◌, ◌*◌, ◌^◌, ◌≤◌, ◌<◌}
use native.Mathlib.Omega.{arith}
use lib.IntN.{negsuc}
use lib.ListN.{length}
use mir.Syntax.{w64}
use mir.Val.{of_z}
use mir.Facts.{sfits_to_z}
use Rattle.protobuf_format.specs.Reading.{Bytes}
use Rattle.protobuf_format.specs.Varint as varint
use Rattle.protobuf_format.specs.Varint.{varint_of}
use Rattle.protobuf_format.specs.Field.{int, bytes, fixed32, value_bytes, field_bytes, write}
use Rattle.protobuf_format.specs.Slot.{plain_int, plain_bool, plain_bytes}
use Rattle.protobuf_format.proofs.Varint.{varint_of_mono, groups_of_most, length_few}
use Rattle.rules.specs.Message as R
use Rattle.rules.specs.Message.{Request}
use Rattle.wire_format.specs.Wire.{data_of, data_fields, sums_fields, data_slot, sums_slot, with_sum, sum_alone, to_message, wire, shortest, content_length, InRange}
use Rattle.wire_format.proofs.Cost.{cost, size, cost_nil, cost-one, int_price, bytes_price, size-bytes, size-int, size-fixed32, data_cost, data_cost_lem, sums_cost, sums_cost_lem}
use Rattle.wire_format.proofs.Least.{message-cost}

bool_room : (k : ℕ) (b : Bool) → k < 16 → cost (plain_bool k b) ≤ 2
bool_room k false h = omega (arith, cost_nil)
bool_room k true h = omega (arith, cost-one k (int 1), size-int k 1, length_few (k * 8 + 0) (omega arith), length_few 1 (omega arith))

offset_room : (n : ℕ) → cost (plain_int 3 n) ≤ 11
unfolding varint.groups_of
offset_room n = omega (arith, int_price 3 n, size-int 3 n, groups_of_most 10 n)

data_room : (o : Option R.ChecksummedData) → content_length o ≤ 2097152 → cost (data_slot (map with_sum o)) ≤ content_length o + 15
unfolding varint.groups_of
data_room none h = omega (arith, cost_nil)
data_room (some d) h =
    let n : ℕ = length d.content in
    let inner : data_cost (with_sum d) ≤ n + 10 = omega (
      arith,
      data_cost_lem (with_sum d),
      bytes_price 1 d.content,
      size-bytes 1 d.content,
      varint_of_mono n 2097152 (omega arith),
      cost-one 2 (fixed32 d.crc32c),
      size-fixed32 2 d.crc32c,
    ) in
    omega (
      arith,
      cost-one 4 (bytes (write (data_fields (with_sum d)))),
      size-bytes 4 (write (data_fields (with_sum d))),
      varint_of_mono (data_cost (with_sum d)) 2097162 (omega arith),
    )

pub sum-length : (n : ℕ) → cost (sums_slot (some (sum_alone n))) ≡ 7
unfolding varint.groups_of
sum-length n =
    let inner : sums_cost (sum_alone n) ≡ 5 = omega (arith, sums_cost_lem (sum_alone n), cost-one 1 (fixed32 n), size-fixed32 1 n, cost_nil) in
    cost-one 6 (bytes (write (sums_fields (sum_alone n)))) ∙ size-bytes 6 (write (sums_fields (sum_alone n))) ∙ rw inner

sum_room : (o : Option ℕ) → cost (sums_slot (map sum_alone o)) ≤ 7
sum_room none = omega (arith, cost_nil)
sum_room (some n) = omega (arith, sum-length n)

pub shortest-room : (r : Request) → content_length r.checksummed_data ≤ 2097152 → shortest r ≤ content_length r.checksummed_data + 39
unfolding shortest wire
shortest-room r h =
    omega (
      arith,
      message-cost (to_message r),
      offset_room (of_z w64 r.write_offset),
      data_room r.checksummed_data h,
      sum_room r.object_checksum,
      bool_room 7 r.state_lookup (omega arith),
      bool_room 8 r.flush (omega arith),
      bool_room 9 r.finish_write (omega arith),
    )

-- ---- no smaller number does

-- all that a request can have, its offset below zero
abbrev pub full : Bytes → Request
full b =
    record {
      write_offset = negsuc 0;
      checksummed_data = some (record { content = b; crc32c = 0 });
      object_checksum = some 0;
      state_lookup = true;
      flush = true;
      finish_write = true;
    }

bytes-length : (k : ℕ) (b : Bytes) → 0 < length b → cost (plain_bytes k b) ≡ size k (bytes b)
bytes-length k [] h = absurd (omega arith)
bytes-length k (x ∷ b) h = cost-one k (bytes (x ∷ b))

full_data : (b : Bytes) → length b ≡ 2097152 → cost (data_slot (some (data_of b (some 0)))) ≡ length b + 15
unfolding varint.groups_of
full_data b e =
    let inner : data_cost (data_of b (some 0)) ≡ 2097162 = omega (
      arith,
      data_cost_lem (data_of b (some 0)),
      bytes-length 1 b (omega arith),
      size-bytes 1 b,
      ap (λ (n : ℕ). length (varint_of n)) e,
      cost-one 2 (fixed32 0),
      size-fixed32 2 0,
    ) in
    cost-one 4 (bytes (write (data_fields (data_of b (some 0)))))
    ∙ size-bytes 4 (write (data_fields (data_of b (some 0))))
    ∙ rw (inner, e)

full-rest : cost (plain_int 3 (of_z w64 (negsuc 0))) + cost (plain_bool 7 true) + cost (plain_bool 8 true) + cost (plain_bool 9 true) ≡ 17
unfolding write field_bytes value_bytes varint.groups_of
full-rest = refl

-- of a chunk of the greatest length
pub room-taken : (b : Bytes) → length b ≡ 2097152 → InRange (full b) × (shortest (full b) ≡ length b + 39)
unfolding shortest wire
room-taken b e = (
  record { offset = sfits_to_z {w = w64} {n = 2 ^ 64 - 1} (record { fits = omega arith }); checked = (omega arith, omega arith); sum = omega arith },
  omega (arith, message-cost (to_message (full b)), full_data b e, sum-length 0, full-rest),
)
