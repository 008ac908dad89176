use Rattle.std.proofs.Common.{◌≡◌, ℕ, ◌+◌, ◌≤◌, [], ◌∷◌, length, refl, arith}
use mathlib.Core.Option.{some}
use Rattle.protobuf_format.specs.Reading.{Bytes}
use Rattle.protobuf_format.specs.Field.{fixed32, field}
use Rattle.protobuf_format.specs.Slot.{plain_bytes}
use Rattle.protobuf.specs.Head.{head}
use Rattle.wire_format.specs.Wire.{data_of, data_slot}
use Rattle.wire_format.proofs.Cost.{cost, data_cost}
use Rattle.wire.proofs.Writing.{behind, data_total, data_written}
use Rattle.wire.proofs.put_content.Goals as goal

-- the room of the three pieces
room : (at k n : ℕ) (content : Bytes) (sum : ℕ) → n ≡ data_cost (data_of content (some sum))
    → at + cost (data_slot (some (data_of content (some sum)))) ≤ k
    → at + (length (head 4 n) + (cost (plain_bytes 1 content) + cost (field 2 (fixed32 sum) ∷ []))) ≤ k
room at k n content sum e h = omega (arith, data_total content sum n e)

pub put_head-i-requires : goal.put_head-i-requires
put_head-i-requires c =
    let a = c.args in
    let content = a.content.now in
    let sum = a.«crc32c» in
    omega (arith, room a.at (length a.buffer.now) c.message_len-inner.result content sum (c.message_len-inner.ensures.value content sum refl) c.requires)

pub put_bytes-j-requires : goal.put_bytes-j-requires
put_bytes-j-requires c =
    let a = c.args in
    let content = a.content.now in
    let sum = a.«crc32c» in
    let all = room a.at (length a.buffer.now) c.message_len-inner.result content sum (c.message_len-inner.ensures.value content sum refl) c.requires in
    omega (arith, behind _ c.put_head-i.ensures all)

pub put_fixed32-requires : goal.put_fixed32-requires
put_fixed32-requires c =
    let a = c.args in
    let content = a.content.now in
    let sum = a.«crc32c» in
    let all = room a.at (length a.buffer.now) c.message_len-inner.result content sum (c.message_len-inner.ensures.value content sum refl) c.requires in
    omega (arith, behind _ c.put_bytes-j.ensures (behind _ c.put_head-i.ensures all))

pub returns : goal.returns
returns c =
    let content = c.args.content.now in
    let sum = c.args.«crc32c» in
    data_written content sum c.message_len-inner.result (c.message_len-inner.ensures.value content sum refl)
    c.put_head-i.ensures c.put_bytes-j.ensures c.put_fixed32.ensures
