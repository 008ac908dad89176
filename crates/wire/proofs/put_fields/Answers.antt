use Rattle.std.proofs.Common.{◌≡◌, ℕ, ◌+◌, ◌≤◌, length, arith, w64, of_z}
use Rattle.protobuf_format.specs.Reading.{Bytes}
use Rattle.bidi_write.specs.View.{request_of}
use Rattle.bidi_write.specs.declared.Request.{Request}
use Rattle.wire_format.specs.Wire.{shortest}
use Rattle.wire.proofs.Writing.{behind, total, request-length, request-written}
use Rattle.wire.proofs.put_fields.Goals as goal

-- the room of the six fields
room : (r : Request) (lent buffer : Bytes) (n : ℕ) → n ≡ of_z w64 r.write_offset.0 → shortest (request_of r lent) ≤ length buffer
    → 0 + total r lent n ≤ length buffer
room r lent buffer n e h = omega (arith, request-length r lent n e)

pub put_int-a-requires : goal.put_int-a-requires
put_int-a-requires c =
    let a = c.args in
    omega (arith, room a.request a.lent.now a.buffer.now c.bits.result c.bits.ensures c.requires.1)

pub put_data-b-requires : goal.put_data-b-requires
put_data-b-requires c =
    let a = c.args in
    let all = room a.request a.lent.now a.buffer.now c.bits.result c.bits.ensures c.requires.1 in
    (c.requires.0, omega (arith, behind _ c.put_int-a.ensures all))

pub put_checksum-c-requires : goal.put_checksum-c-requires
put_checksum-c-requires c =
    let a = c.args in
    let all = room a.request a.lent.now a.buffer.now c.bits.result c.bits.ensures c.requires.1 in
    omega (arith, behind _ c.put_data-b.ensures (behind _ c.put_int-a.ensures all))

pub put_bool-d-requires : goal.put_bool-d-requires
put_bool-d-requires c =
    let a = c.args in
    let all = room a.request a.lent.now a.buffer.now c.bits.result c.bits.ensures c.requires.1 in
    omega (arith, behind _ c.put_checksum-c.ensures (behind _ c.put_data-b.ensures (behind _ c.put_int-a.ensures all)))

pub put_bool-e-requires : goal.put_bool-e-requires
put_bool-e-requires c =
    let a = c.args in
    let all = room a.request a.lent.now a.buffer.now c.bits.result c.bits.ensures c.requires.1 in
    let left = behind _ c.put_data-b.ensures (behind _ c.put_int-a.ensures all) in
    omega (arith, behind _ c.put_bool-d.ensures (behind _ c.put_checksum-c.ensures left))

pub put_bool-requires : goal.put_bool-requires
put_bool-requires c =
    let a = c.args in
    let all = room a.request a.lent.now a.buffer.now c.bits.result c.bits.ensures c.requires.1 in
    let left = behind _ c.put_data-b.ensures (behind _ c.put_int-a.ensures all) in
    omega (arith, behind _ c.put_bool-e.ensures (behind _ c.put_bool-d.ensures (behind _ c.put_checksum-c.ensures left)))

pub returns : goal.returns
returns c =
    request-written c.args.request c.args.lent.now c.bits.result c.bits.ensures
    c.put_int-a.ensures c.put_data-b.ensures c.put_checksum-c.ensures c.put_bool-d.ensures c.put_bool-e.ensures c.put_bool.ensures
