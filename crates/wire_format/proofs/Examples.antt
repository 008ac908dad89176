-- Computed examples. Readings of bytes, of which most are none that we write: beside each stands what the crate's own decoder makes of the same bytes, as
-- offset, data (content/sum), flush, state lookup, finish and object checksum. Then bytes that we write, worked out by hand from the encoding's rules.
-- Assumes nothing.
use mathlib.Core.Path.{◌≡◌, refl}
use mathlib.Core.Bool.{Bool, true, false}
use mathlib.Core.List.{[], ◌∷◌}
use mathlib.Core.Option.{Option, none, some}
use Prim.Native.Nat.{ℕ}
use lib.IntN.{ℤ, pos, negsuc}
use Rattle.protobuf_format.specs.Reading.{Bytes}
use Rattle.protobuf_format.specs.Varint.{groups, varint, groups_of}
use Rattle.protobuf_format.specs.Field.{part, read_value, read_field, read_fields, fields, value_bytes, field_bytes, write}
use Rattle.protobuf_format.specs.Message.{put, put_all, merge}
use Rattle.rules.specs.Message.{ChecksummedData, Request}
use Rattle.wire_format.specs.Message.{rows, read_message}
use Rattle.wire_format.specs.Wire.{request_in, read_request, data_fields, sums_fields, message_fields, wire}

-- what they compute with

reading : Unit {0}
unfolding read_request read_message request_in rows merge put put_all fields read_fields read_field read_value part varint groups
reading = tt

writing : Unit {0}
unfolding wire message_fields data_fields sums_fields write field_bytes value_bytes groups_of
writing = tt

-- offset, data, object checksum; state lookup, flush, finish
abbrev request : ℤ → Option ChecksummedData → Option ℕ → Bool → Bool → Bool → Request
request z d s l f e = record { write_offset = z; checksummed_data = d; object_checksum = s; state_lookup = l; flush = f; finish_write = e }

abbrev checked : Bytes → ℕ → ChecksummedData
checked b n = record { content = b; crc32c = n }

-- ---- order and repetition

-- the empty message: every field at its default
-- the crate: off=0 data=none f=0 s=0 w=0 sum=none
no_bytes : read_request [] ≡ some (request (pos 0) none none false false false)
no_bytes = unfold reading in refl

-- every field, all flags set
-- the crate: off=1 data=61/00000005 f=1 s=1 w=1 sum=00000006
every_field : read_request (0x18 ∷ 0x01 ∷ 0x22 ∷ 0x08 ∷ 0x0a ∷ 0x01 ∷ 0x61 ∷ 0x15 ∷ 0x05 ∷ 0x00 ∷ 0x00 ∷ 0x00 ∷ 0x32 ∷ 0x05 ∷ 0x0d ∷ 0x06 ∷ 0x00
    ∷ 0x00 ∷ 0x00 ∷ 0x38 ∷ 0x01 ∷ 0x40 ∷ 0x01 ∷ 0x48 ∷ 0x01 ∷ [])
    ≡ some (request (pos 1) (some (checked (0x61 ∷ []) 5)) (some 6) true true true)
every_field = unfold reading in refl

-- fields in another order
-- the crate: off=2 data=none f=1 s=0 w=0 sum=none
any_order : read_request (0x40 ∷ 0x01 ∷ 0x18 ∷ 0x02 ∷ []) ≡ some (request (pos 2) none none false true false)
any_order = unfold reading in refl

-- fields of data in another order
-- the crate: off=0 data=61/00000005 f=0 s=0 w=0 sum=none
any_order_inside : read_request (0x22 ∷ 0x08 ∷ 0x15 ∷ 0x05 ∷ 0x00 ∷ 0x00 ∷ 0x00 ∷ 0x0a ∷ 0x01 ∷ 0x61 ∷ [])
    ≡ some (request (pos 0) (some (checked (0x61 ∷ []) 5)) none false false false)
any_order_inside = unfold reading in refl

-- the last offset counts
-- the crate: off=2 data=none f=0 s=0 w=0 sum=none
last_offset : read_request (0x18 ∷ 0x01 ∷ 0x18 ∷ 0x02 ∷ []) ≡ some (request (pos 2) none none false false false)
last_offset = unfold reading in refl

-- a last offset of 0 counts too
-- the crate: off=0 data=none f=0 s=0 w=0 sum=none
last_offset_zero : read_request (0x18 ∷ 0x02 ∷ 0x18 ∷ 0x00 ∷ []) ≡ some (request (pos 0) none none false false false)
last_offset_zero = unfold reading in refl

-- the last state lookup counts, also as 0
-- the crate: off=0 data=none f=0 s=0 w=0 sum=none
last_lookup : read_request (0x38 ∷ 0x01 ∷ 0x38 ∷ 0x00 ∷ []) ≡ some (request (pos 0) none none false false false)
last_lookup = unfold reading in refl

-- the last flush counts, also as 0
-- the crate: off=0 data=none f=0 s=0 w=0 sum=none
last_flush : read_request (0x40 ∷ 0x01 ∷ 0x40 ∷ 0x00 ∷ []) ≡ some (request (pos 0) none none false false false)
last_flush = unfold reading in refl

-- the last finish counts, also as 0
-- the crate: off=0 data=none f=0 s=0 w=0 sum=none
last_finish : read_request (0x48 ∷ 0x01 ∷ 0x48 ∷ 0x00 ∷ []) ≡ some (request (pos 0) none none false false false)
last_finish = unfold reading in refl

-- ---- numbers and flags

-- a state lookup
-- the crate: off=0 data=none f=0 s=1 w=0 sum=none
lookup_alone : read_request (0x38 ∷ 0x01 ∷ []) ≡ some (request (pos 0) none none true false false)
lookup_alone = unfold reading in refl

-- a flush
-- the crate: off=0 data=none f=1 s=0 w=0 sum=none
flush-alone : read_request (0x40 ∷ 0x01 ∷ []) ≡ some (request (pos 0) none none false true false)
flush-alone = unfold reading in refl

-- a finish
-- the crate: off=0 data=none f=0 s=0 w=1 sum=none
finish_alone : read_request (0x48 ∷ 0x01 ∷ []) ≡ some (request (pos 0) none none false false true)
finish_alone = unfold reading in refl

-- a flag is set by any value but 0
-- the crate: off=0 data=none f=1 s=0 w=0 sum=none
flag-two : read_request (0x40 ∷ 0x02 ∷ []) ≡ some (request (pos 0) none none false true false)
flag-two = unfold reading in refl

-- by the highest bit of 64 alone, too
-- the crate: off=0 data=none f=1 s=0 w=0 sum=none
flag_high : read_request (0x40 ∷ 0x80 ∷ 0x80 ∷ 0x80 ∷ 0x80 ∷ 0x80 ∷ 0x80 ∷ 0x80 ∷ 0x80 ∷ 0x80 ∷ 0x01 ∷ []) ≡ some (request (pos 0) none none false true false)
flag_high = unfold reading in refl

-- a flag in more bytes than it needs
-- the crate: off=0 data=none f=1 s=0 w=0 sum=none
flag_longer : read_request (0x40 ∷ 0x81 ∷ 0x00 ∷ []) ≡ some (request (pos 0) none none false true false)
flag_longer = unfold reading in refl

-- a flag of 0 in more bytes than it needs
-- the crate: off=0 data=none f=0 s=0 w=0 sum=none
flag_longer_zero : read_request (0x40 ∷ 0x80 ∷ 0x00 ∷ []) ≡ some (request (pos 0) none none false false false)
flag_longer_zero = unfold reading in refl

-- an offset in more bytes than it needs
-- the crate: off=0 data=none f=0 s=0 w=0 sum=none
offset_longer : read_request (0x18 ∷ 0x80 ∷ 0x00 ∷ []) ≡ some (request (pos 0) none none false false false)
offset_longer = unfold reading in refl

-- the greatest offset
-- the crate: off=9223372036854775807 data=none f=0 s=0 w=0 sum=none
offset_greatest : read_request (0x18 ∷ 0xff ∷ 0xff ∷ 0xff ∷ 0xff ∷ 0xff ∷ 0xff ∷ 0xff ∷ 0xff ∷ 0x7f ∷ [])
    ≡ some (request (pos 0x7fffffffffffffff) none none false false false)
offset_greatest = unfold reading in refl

-- the least offset, in ten bytes
-- the crate: off=-9223372036854775808 data=none f=0 s=0 w=0 sum=none
offset_least : read_request (0x18 ∷ 0x80 ∷ 0x80 ∷ 0x80 ∷ 0x80 ∷ 0x80 ∷ 0x80 ∷ 0x80 ∷ 0x80 ∷ 0x80 ∷ 0x01 ∷ [])
    ≡ some (request (negsuc 0x7fffffffffffffff) none none false false false)
offset_least = unfold reading in refl

-- an offset of -1, in ten bytes
-- the crate: off=-1 data=none f=0 s=0 w=0 sum=none
offset_below : read_request (0x18 ∷ 0xff ∷ 0xff ∷ 0xff ∷ 0xff ∷ 0xff ∷ 0xff ∷ 0xff ∷ 0xff ∷ 0xff ∷ 0x01 ∷ [])
    ≡ some (request (negsuc 0) none none false false false)
offset_below = unfold reading in refl

-- a varint of eleven bytes
-- the crate: malformed
varint_eleven : read_request (0x18 ∷ 0x80 ∷ 0x80 ∷ 0x80 ∷ 0x80 ∷ 0x80 ∷ 0x80 ∷ 0x80 ∷ 0x80 ∷ 0x80 ∷ 0x80 ∷ 0x00 ∷ []) ≡ none
varint_eleven = unfold reading in refl

-- a varint over 64 bits: its tenth byte is 2
-- the crate: malformed
varint-over : read_request (0x18 ∷ 0x80 ∷ 0x80 ∷ 0x80 ∷ 0x80 ∷ 0x80 ∷ 0x80 ∷ 0x80 ∷ 0x80 ∷ 0x80 ∷ 0x02 ∷ []) ≡ none
varint-over = unfold reading in refl

-- a key in more bytes than it needs
-- the crate: off=2 data=none f=0 s=0 w=0 sum=none
key_longer : read_request (0x98 ∷ 0x00 ∷ 0x02 ∷ []) ≡ some (request (pos 2) none none false false false)
key_longer = unfold reading in refl

-- a length in more bytes than it needs
-- the crate: off=0 data=/00000005 f=0 s=0 w=0 sum=none
length_longer : read_request (0x22 ∷ 0x85 ∷ 0x00 ∷ 0x15 ∷ 0x05 ∷ 0x00 ∷ 0x00 ∷ 0x00 ∷ []) ≡ some (request (pos 0) (some (checked [] 5)) none false false false)
length_longer = unfold reading in refl

-- ---- data

-- data of no bytes whose sum is 0
-- the crate: off=0 data=/00000000 f=0 s=0 w=0 sum=none
data_empty : read_request (0x22 ∷ 0x05 ∷ 0x15 ∷ 0x00 ∷ 0x00 ∷ 0x00 ∷ 0x00 ∷ []) ≡ some (request (pos 0) (some (checked [] 0)) none false false false)
data_empty = unfold reading in refl

-- a content that is present and empty
-- the crate: off=0 data=/00000005 f=0 s=0 w=0 sum=none
content_empty : read_request (0x22 ∷ 0x07 ∷ 0x0a ∷ 0x00 ∷ 0x15 ∷ 0x05 ∷ 0x00 ∷ 0x00 ∷ 0x00 ∷ [])
    ≡ some (request (pos 0) (some (checked [] 5)) none false false false)
content_empty = unfold reading in refl

-- data in two parts, content and sum: merged
-- the crate: off=0 data=61/00000005 f=0 s=0 w=0 sum=none
data_merged : read_request (0x22 ∷ 0x03 ∷ 0x0a ∷ 0x01 ∷ 0x61 ∷ 0x22 ∷ 0x05 ∷ 0x15 ∷ 0x05 ∷ 0x00 ∷ 0x00 ∷ 0x00 ∷ [])
    ≡ some (request (pos 0) (some (checked (0x61 ∷ []) 5)) none false false false)
data_merged = unfold reading in refl

-- a second part with another content: the last counts, and the sum of the first is kept
-- the crate: off=0 data=62/00000005 f=0 s=0 w=0 sum=none
content_again : read_request (0x22 ∷ 0x08 ∷ 0x0a ∷ 0x01 ∷ 0x61 ∷ 0x15 ∷ 0x05 ∷ 0x00 ∷ 0x00 ∷ 0x00 ∷ 0x22 ∷ 0x03 ∷ 0x0a ∷ 0x01 ∷ 0x62 ∷ [])
    ≡ some (request (pos 0) (some (checked (0x62 ∷ []) 5)) none false false false)
content_again = unfold reading in refl

-- a second part with an empty content: it counts
-- the crate: off=0 data=/00000005 f=0 s=0 w=0 sum=none
content_emptied : read_request (0x22 ∷ 0x08 ∷ 0x0a ∷ 0x01 ∷ 0x61 ∷ 0x15 ∷ 0x05 ∷ 0x00 ∷ 0x00 ∷ 0x00 ∷ 0x22 ∷ 0x02 ∷ 0x0a ∷ 0x00 ∷ [])
    ≡ some (request (pos 0) (some (checked [] 5)) none false false false)
content_emptied = unfold reading in refl

-- a second part with another sum: the last counts, and the content of the first is kept
-- the crate: off=0 data=61/00000000 f=0 s=0 w=0 sum=none
sum-again : read_request (0x22 ∷ 0x08 ∷ 0x0a ∷ 0x01 ∷ 0x61 ∷ 0x15 ∷ 0x05 ∷ 0x00 ∷ 0x00 ∷ 0x00 ∷ 0x22 ∷ 0x05 ∷ 0x15 ∷ 0x00 ∷ 0x00 ∷ 0x00 ∷ 0x00 ∷ [])
    ≡ some (request (pos 0) (some (checked (0x61 ∷ []) 0)) none false false false)
sum-again = unfold reading in refl

-- a second part of no bytes changes nothing
-- the crate: off=0 data=/00000005 f=0 s=0 w=0 sum=none
data_again-empty : read_request (0x22 ∷ 0x05 ∷ 0x15 ∷ 0x05 ∷ 0x00 ∷ 0x00 ∷ 0x00 ∷ 0x22 ∷ 0x00 ∷ [])
    ≡ some (request (pos 0) (some (checked [] 5)) none false false false)
data_again-empty = unfold reading in refl

-- data without its sum is no request of ours
-- the crate: another request
data_no_sum : read_request (0x22 ∷ 0x03 ∷ 0x0a ∷ 0x01 ∷ 0x61 ∷ []) ≡ none
data_no_sum = unfold reading in refl

-- data of no bytes at all likewise
-- the crate: another request
data_nothing : read_request (0x22 ∷ 0x00 ∷ []) ≡ none
data_nothing = unfold reading in refl

-- ---- object checksums

-- an object checksum
-- the crate: off=0 data=none f=0 s=0 w=0 sum=01020304
object_sum : read_request (0x32 ∷ 0x05 ∷ 0x0d ∷ 0x04 ∷ 0x03 ∷ 0x02 ∷ 0x01 ∷ []) ≡ some (request (pos 0) none (some 0x01020304) false false false)
object_sum = unfold reading in refl

-- an object checksum of 0
-- the crate: off=0 data=none f=0 s=0 w=0 sum=00000000
object_sum-zero : read_request (0x32 ∷ 0x05 ∷ 0x0d ∷ 0x00 ∷ 0x00 ∷ 0x00 ∷ 0x00 ∷ []) ≡ some (request (pos 0) none (some 0) false false false)
object_sum-zero = unfold reading in refl

-- the last object checksum counts
-- the crate: off=0 data=none f=0 s=0 w=0 sum=00000006
object_sum-again : read_request (0x32 ∷ 0x0a ∷ 0x0d ∷ 0x05 ∷ 0x00 ∷ 0x00 ∷ 0x00 ∷ 0x0d ∷ 0x06 ∷ 0x00 ∷ 0x00 ∷ 0x00 ∷ [])
    ≡ some (request (pos 0) none (some 6) false false false)
object_sum-again = unfold reading in refl

-- object checksums in two parts: merged
-- the crate: off=0 data=none f=0 s=0 w=0 sum=00000005
object_merged : read_request (0x32 ∷ 0x05 ∷ 0x0d ∷ 0x05 ∷ 0x00 ∷ 0x00 ∷ 0x00 ∷ 0x32 ∷ 0x00 ∷ []) ≡ some (request (pos 0) none (some 5) false false false)
object_merged = unfold reading in refl

-- object checksums without a CRC32C are no request of ours
-- the crate: another request
object_empty : read_request (0x32 ∷ 0x00 ∷ []) ≡ none
object_empty = unfold reading in refl

-- an MD5 beside the CRC32C is none of ours
-- the crate: another request
object_md5 : read_request (0x32 ∷ 0x08 ∷ 0x0d ∷ 0x05 ∷ 0x00 ∷ 0x00 ∷ 0x00 ∷ 0x12 ∷ 0x01 ∷ 0x07 ∷ []) ≡ none
object_md5 = unfold reading in refl

-- before it likewise
-- the crate: another request
object_md5_before : read_request (0x32 ∷ 0x08 ∷ 0x12 ∷ 0x01 ∷ 0x07 ∷ 0x0d ∷ 0x05 ∷ 0x00 ∷ 0x00 ∷ 0x00 ∷ []) ≡ none
object_md5_before = unfold reading in refl

-- an MD5 alone is none of ours
-- the crate: another request
object_md5_alone : read_request (0x32 ∷ 0x03 ∷ 0x12 ∷ 0x01 ∷ 0x07 ∷ []) ≡ none
object_md5_alone = unfold reading in refl

-- an MD5 in a part of its own is none of ours
-- the crate: another request
object_md5_split : read_request (0x32 ∷ 0x05 ∷ 0x0d ∷ 0x05 ∷ 0x00 ∷ 0x00 ∷ 0x00 ∷ 0x32 ∷ 0x03 ∷ 0x12 ∷ 0x01 ∷ 0x07 ∷ []) ≡ none
object_md5_split = unfold reading in refl

-- an MD5 that a later empty one replaces is absent
-- the crate: off=0 data=none f=0 s=0 w=0 sum=00000005
object_md5_emptied : read_request (0x32 ∷ 0x08 ∷ 0x0d ∷ 0x05 ∷ 0x00 ∷ 0x00 ∷ 0x00 ∷ 0x12 ∷ 0x01 ∷ 0x07 ∷ 0x32 ∷ 0x02 ∷ 0x12 ∷ 0x00 ∷ [])
    ≡ some (request (pos 0) none (some 5) false false false)
object_md5_emptied = unfold reading in refl

-- ---- unknown fields are skipped

-- field 5, a varint
-- the crate: off=0 data=none f=0 s=0 w=0 sum=none
unknown-varint : read_request (0x28 ∷ 0x01 ∷ []) ≡ some (request (pos 0) none none false false false)
unknown-varint = unfold reading in refl

-- field 5, eight bytes
-- the crate: off=0 data=none f=0 s=0 w=0 sum=none
unknown-fixed64 : read_request (0x29 ∷ 0x01 ∷ 0x02 ∷ 0x03 ∷ 0x04 ∷ 0x05 ∷ 0x06 ∷ 0x07 ∷ 0x08 ∷ []) ≡ some (request (pos 0) none none false false false)
unknown-fixed64 = unfold reading in refl

-- field 5, bytes: what is in them is not read
-- the crate: off=0 data=none f=0 s=0 w=0 sum=none
unknown-bytes : read_request (0x2a ∷ 0x01 ∷ 0x07 ∷ []) ≡ some (request (pos 0) none none false false false)
unknown-bytes = unfold reading in refl

-- field 5, four bytes
-- the crate: off=0 data=none f=0 s=0 w=0 sum=none
unknown-fixed32 : read_request (0x2d ∷ 0x01 ∷ 0x02 ∷ 0x03 ∷ 0x04 ∷ []) ≡ some (request (pos 0) none none false false false)
unknown-fixed32 = unfold reading in refl

-- an unknown field between others
-- the crate: off=1 data=none f=1 s=0 w=0 sum=none
unknown_between : read_request (0x18 ∷ 0x01 ∷ 0x28 ∷ 0x01 ∷ 0x40 ∷ 0x01 ∷ []) ≡ some (request (pos 1) none none false true false)
unknown_between = unfold reading in refl

-- the highest field number, 2^29 - 1
-- the crate: off=0 data=none f=0 s=0 w=0 sum=none
unknown_highest : read_request (0xf8 ∷ 0xff ∷ 0xff ∷ 0xff ∷ 0x0f ∷ 0x01 ∷ []) ≡ some (request (pos 0) none none false false false)
unknown_highest = unfold reading in refl

-- in data: field 3, a varint
-- the crate: off=0 data=/00000005 f=0 s=0 w=0 sum=none
unknown-varint_inside : read_request (0x22 ∷ 0x07 ∷ 0x18 ∷ 0x01 ∷ 0x15 ∷ 0x05 ∷ 0x00 ∷ 0x00 ∷ 0x00 ∷ [])
    ≡ some (request (pos 0) (some (checked [] 5)) none false false false)
unknown-varint_inside = unfold reading in refl

-- in data: field 3, eight bytes
-- the crate: off=0 data=/00000005 f=0 s=0 w=0 sum=none
unknown-fixed64_inside : read_request (0x22 ∷ 0x0e ∷ 0x19 ∷ 0x01 ∷ 0x02 ∷ 0x03 ∷ 0x04 ∷ 0x05 ∷ 0x06 ∷ 0x07 ∷ 0x08 ∷ 0x15 ∷ 0x05 ∷ 0x00 ∷ 0x00 ∷ 0x00 ∷ [])
    ≡ some (request (pos 0) (some (checked [] 5)) none false false false)
unknown-fixed64_inside = unfold reading in refl

-- in data: field 3, bytes
-- the crate: off=0 data=/00000005 f=0 s=0 w=0 sum=none
unknown-bytes_inside : read_request (0x22 ∷ 0x08 ∷ 0x1a ∷ 0x01 ∷ 0x07 ∷ 0x15 ∷ 0x05 ∷ 0x00 ∷ 0x00 ∷ 0x00 ∷ [])
    ≡ some (request (pos 0) (some (checked [] 5)) none false false false)
unknown-bytes_inside = unfold reading in refl

-- in data: field 3, four bytes
-- the crate: off=0 data=/00000005 f=0 s=0 w=0 sum=none
unknown-fixed32_inside : read_request (0x22 ∷ 0x0a ∷ 0x1d ∷ 0x01 ∷ 0x02 ∷ 0x03 ∷ 0x04 ∷ 0x15 ∷ 0x05 ∷ 0x00 ∷ 0x00 ∷ 0x00 ∷ [])
    ≡ some (request (pos 0) (some (checked [] 5)) none false false false)
unknown-fixed32_inside = unfold reading in refl

-- in object checksums: field 3, a varint
-- the crate: off=0 data=none f=0 s=0 w=0 sum=00000005
unknown_in_sums : read_request (0x32 ∷ 0x07 ∷ 0x18 ∷ 0x01 ∷ 0x0d ∷ 0x05 ∷ 0x00 ∷ 0x00 ∷ 0x00 ∷ []) ≡ some (request (pos 0) none (some 5) false false false)
unknown_in_sums = unfold reading in refl

-- ---- fields that only an opening has make it another request

-- an upload id
-- the crate: another request
upload_id : read_request (0x0a ∷ 0x01 ∷ 0x61 ∷ []) ≡ none
upload_id = unfold reading in refl

-- an upload id that is empty
-- the crate: another request
upload_id_empty : read_request (0x0a ∷ 0x00 ∷ []) ≡ none
upload_id_empty = unfold reading in refl

-- a write object spec of no bytes
-- the crate: another request
write_spec : read_request (0x12 ∷ 0x00 ∷ []) ≡ none
write_spec = unfold reading in refl

-- request parameters of no bytes
-- the crate: another request
common_params : read_request (0x52 ∷ 0x00 ∷ []) ≡ none
common_params = unfold reading in refl

-- an append object spec of no bytes
-- the crate: another request
append-spec : read_request (0x5a ∷ 0x00 ∷ []) ≡ none
append-spec = unfold reading in refl

-- an upload id behind a request of ours
-- the crate: another request
upload_id_behind : read_request (0x40 ∷ 0x01 ∷ 0x0a ∷ 0x00 ∷ []) ≡ none
upload_id_behind = unfold reading in refl

-- an upload id of another wire type is malformed
-- the crate: malformed
upload_id_type : read_request (0x08 ∷ 0x00 ∷ []) ≡ none
upload_id_type = unfold reading in refl

-- ---- malformed

-- an offset as bytes
-- the crate: malformed
offset_type : read_request (0x1a ∷ 0x00 ∷ []) ≡ none
offset_type = unfold reading in refl

-- data as a varint
-- the crate: malformed
data_type : read_request (0x20 ∷ 0x00 ∷ []) ≡ none
data_type = unfold reading in refl

-- object checksums as a varint
-- the crate: malformed
sums_type : read_request (0x30 ∷ 0x00 ∷ []) ≡ none
sums_type = unfold reading in refl

-- a state lookup as four bytes
-- the crate: malformed
lookup_type : read_request (0x3d ∷ 0x00 ∷ 0x00 ∷ 0x00 ∷ 0x00 ∷ []) ≡ none
lookup_type = unfold reading in refl

-- a flush as bytes
-- the crate: malformed
flush_type : read_request (0x42 ∷ 0x00 ∷ []) ≡ none
flush_type = unfold reading in refl

-- a finish as eight bytes
-- the crate: malformed
finish_type : read_request (0x49 ∷ 0x00 ∷ 0x00 ∷ 0x00 ∷ 0x00 ∷ 0x00 ∷ 0x00 ∷ 0x00 ∷ 0x00 ∷ []) ≡ none
finish_type = unfold reading in refl

-- a content as a varint
-- the crate: malformed
content_type : read_request (0x22 ∷ 0x07 ∷ 0x08 ∷ 0x00 ∷ 0x15 ∷ 0x05 ∷ 0x00 ∷ 0x00 ∷ 0x00 ∷ []) ≡ none
content_type = unfold reading in refl

-- a sum of data as a varint
-- the crate: malformed
sum_type : read_request (0x22 ∷ 0x02 ∷ 0x10 ∷ 0x05 ∷ []) ≡ none
sum_type = unfold reading in refl

-- an object checksum as a varint
-- the crate: malformed
object_sum_type : read_request (0x32 ∷ 0x02 ∷ 0x08 ∷ 0x05 ∷ []) ≡ none
object_sum_type = unfold reading in refl

-- an MD5 as a varint
-- the crate: malformed
md5_type : read_request (0x32 ∷ 0x07 ∷ 0x10 ∷ 0x00 ∷ 0x0d ∷ 0x05 ∷ 0x00 ∷ 0x00 ∷ 0x00 ∷ []) ≡ none
md5_type = unfold reading in refl

-- A group of an unknown field is malformed here, as it is in redirects (Q-3). The crate skips it.
-- the crate: off=0 data=none f=0 s=0 w=0 sum=none
group : read_request (0x2b ∷ 0x2c ∷ []) ≡ none
group = unfold reading in refl

-- a group in data likewise
-- the crate: off=0 data=/00000005 f=0 s=0 w=0 sum=none
group_inside : read_request (0x22 ∷ 0x07 ∷ 0x1b ∷ 0x1c ∷ 0x15 ∷ 0x05 ∷ 0x00 ∷ 0x00 ∷ 0x00 ∷ []) ≡ none
group_inside = unfold reading in refl

-- a known field as a group
-- the crate: malformed
group_known : read_request (0x1b ∷ 0x1c ∷ []) ≡ none
group_known = unfold reading in refl

-- the end of a group that none began
-- the crate: malformed
group_end : read_request (0x2c ∷ []) ≡ none
group_end = unfold reading in refl

-- wire type 6
-- the crate: malformed
type_six : read_request (0x2e ∷ 0x00 ∷ []) ≡ none
type_six = unfold reading in refl

-- wire type 7
-- the crate: malformed
type_seven : read_request (0x2f ∷ 0x00 ∷ []) ≡ none
type_seven = unfold reading in refl

-- field number 0
-- the crate: malformed
number-zero : read_request (0x00 ∷ 0x00 ∷ []) ≡ none
number-zero = unfold reading in refl

-- a field number above 2^29 - 1
-- the crate: malformed
number_high : read_request (0x80 ∷ 0x80 ∷ 0x80 ∷ 0x80 ∷ 0x10 ∷ 0x00 ∷ []) ≡ none
number_high = unfold reading in refl

-- an offset that is cut off
-- the crate: malformed
cut-varint : read_request (0x18 ∷ 0x80 ∷ []) ≡ none
cut-varint = unfold reading in refl

-- a key alone
-- the crate: malformed
cut_key : read_request (0x18 ∷ []) ≡ none
cut_key = unfold reading in refl

-- a length past the end
-- the crate: malformed
cut_data : read_request (0x22 ∷ 0x01 ∷ []) ≡ none
cut_data = unfold reading in refl

-- a length past the end of data, though bytes follow
-- the crate: malformed
cut_content : read_request (0x22 ∷ 0x07 ∷ 0x15 ∷ 0x05 ∷ 0x00 ∷ 0x00 ∷ 0x00 ∷ 0x0a ∷ 0x01 ∷ 0x18 ∷ 0x01 ∷ []) ≡ none
cut_content = unfold reading in refl

-- a sum of three bytes
-- the crate: malformed
cut_sum : read_request (0x22 ∷ 0x04 ∷ 0x15 ∷ 0x05 ∷ 0x00 ∷ 0x00 ∷ []) ≡ none
cut_sum = unfold reading in refl

-- ---- writing

-- every field at its default: no bytes
written-nothing : wire (request (pos 0) none none false false false) ≡ []
written-nothing = unfold writing in refl

-- all that a request can have
written_all : wire (request (pos 1) (some (checked (0x61 ∷ []) 5)) (some 6) true true true)
    ≡ (0x18 ∷ 0x01 ∷ 0x22 ∷ 0x08 ∷ 0x0a ∷ 0x01 ∷ 0x61 ∷ 0x15 ∷ 0x05 ∷ 0x00 ∷ 0x00 ∷ 0x00 ∷ 0x32 ∷ 0x05 ∷ 0x0d ∷ 0x06 ∷ 0x00 ∷ 0x00 ∷ 0x00 ∷ 0x38 ∷ 0x01
    ∷ 0x40 ∷ 0x01 ∷ 0x48 ∷ 0x01 ∷ [])
written_all = unfold writing in refl

-- an offset of -1
written_below : wire (request (negsuc 0) none none false false false) ≡ (0x18 ∷ 0xff ∷ 0xff ∷ 0xff ∷ 0xff ∷ 0xff ∷ 0xff ∷ 0xff ∷ 0xff ∷ 0xff ∷ 0x01 ∷ [])
written_below = unfold writing in refl

-- the least offset
written-least : wire (request (negsuc 0x7fffffffffffffff) none none false false false)
    ≡ (0x18 ∷ 0x80 ∷ 0x80 ∷ 0x80 ∷ 0x80 ∷ 0x80 ∷ 0x80 ∷ 0x80 ∷ 0x80 ∷ 0x80 ∷ 0x01 ∷ [])
written-least = unfold writing in refl

-- the greatest offset
written_greatest : wire (request (pos 0x7fffffffffffffff) none none false false false)
    ≡ (0x18 ∷ 0xff ∷ 0xff ∷ 0xff ∷ 0xff ∷ 0xff ∷ 0xff ∷ 0xff ∷ 0xff ∷ 0x7f ∷ [])
written_greatest = unfold writing in refl

-- data of no bytes whose sum is 0
written_data_empty : wire (request (pos 0) (some (checked [] 0)) none false false false) ≡ (0x22 ∷ 0x05 ∷ 0x15 ∷ 0x00 ∷ 0x00 ∷ 0x00 ∷ 0x00 ∷ [])
written_data_empty = unfold writing in refl

-- an object checksum of 0
written-sum-zero : wire (request (pos 0) none (some 0) false false false) ≡ (0x32 ∷ 0x05 ∷ 0x0d ∷ 0x00 ∷ 0x00 ∷ 0x00 ∷ 0x00 ∷ [])
written-sum-zero = unfold writing in refl

-- all flags
written-flags : wire (request (pos 0) none none true true true) ≡ (0x38 ∷ 0x01 ∷ 0x40 ∷ 0x01 ∷ 0x48 ∷ 0x01 ∷ [])
written-flags = unfold writing in refl

-- a flush alone
written-flush : wire (request (pos 0) none none false true false) ≡ (0x40 ∷ 0x01 ∷ [])
written-flush = unfold writing in refl
