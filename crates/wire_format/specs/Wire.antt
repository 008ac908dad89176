-- Q-1, "Wire bytes of a request": the bytes that are a request of ours, and those that we write.
use Rattle.std.specs.Prelude.{◌≡◌, List, [], ◌∷◌, ◌++◌, ℕ, ◌^◌, ◌≤◌, ◌<◌, length}
use Rattle.std.proofs.Math.Option.{Option, none, some, map}
use Rattle.std.specs.Int.{w64}
use Rattle.std.proofs.Common.{SFits, of_z}
use Rattle.protobuf_format.specs.Reading.{Bytes, ◌>>=◌}
use Rattle.protobuf_format.specs.Field.{bytes, fixed32, Field, write}
use Rattle.protobuf_format.specs.Slot.{plain_int, plain_bool, plain_bytes, optional}
use Rattle.rules.specs.Message as R
use Rattle.rules.specs.Message.{Request}
use Rattle.wire_format.specs.Message.{ChecksummedData, ObjectChecksums, BidiWriteObjectRequest, sums_of, message_of, read_message}
pub use Rattle.wire_format.specs.Message.{data_of}

-- ---- reading

-- data has its sum
abbrev pub data_in : Option ChecksummedData → Option (Option R.ChecksummedData)
data_in none = some none
data_in (some d) = map (λ n. some (record { content = d.content; crc32c = n })) d.crc32c

-- object checksums are a CRC32C, without an MD5
abbrev pub sum_in : Option ObjectChecksums → Option (Option ℕ)
sum_in none = some none
sum_in (some s) = elim s.md5_hash [ [] ↦ map some s.crc32c | b ∷ rest ↦ none ]

unfoldable pub request_in : BidiWriteObjectRequest → Option Request
request_in m = do
  d ← data_in m.checksummed_data
  s ← sum_in m.object_checksums
  some (record {
    write_offset = m.write_offset;
    checksummed_data = d;
    object_checksum = s;
    state_lookup = m.state_lookup;
    flush = m.flush;
    finish_write = m.finish_write;
  })

-- "Reading the bytes by the protobuf rules must yield that request and no other." None where they are malformed or another request than ours.
unfoldable pub read_request : Bytes → Option Request
read_request input = read_message input >>= request_in

-- ---- writing: "Plain fields at their default are absent; a present optional field is written even as 0." Fields ascend.

unfoldable pub data_fields : ChecksummedData → List Field
data_fields d = plain_bytes 1 d.content ++ optional 2 fixed32 d.crc32c

unfoldable pub sums_fields : ObjectChecksums → List Field
sums_fields s = optional 1 fixed32 s.crc32c ++ plain_bytes 2 s.md5_hash

abbrev pub data_slot : Option ChecksummedData → List Field
data_slot = optional 4 (λ d. bytes (write (data_fields d)))

abbrev pub sums_slot : Option ObjectChecksums → List Field
sums_slot = optional 6 (λ s. bytes (write (sums_fields s)))

-- a negative offset is its two's complement in 64 bits
unfoldable pub message_fields : BidiWriteObjectRequest → List Field
message_fields m =
    plain_int 3 (of_z w64 m.write_offset)
    ++ data_slot m.checksummed_data
    ++ sums_slot m.object_checksums
    ++ plain_bool 7 m.state_lookup
    ++ plain_bool 8 m.flush
    ++ plain_bool 9 m.finish_write

abbrev pub with_sum : R.ChecksummedData → ChecksummedData
with_sum d = data_of d.content (some d.crc32c)

abbrev pub sum_alone : ℕ → ObjectChecksums
sum_alone n = sums_of (some n) []

abbrev pub to_message : Request → BidiWriteObjectRequest
to_message r =
    message_of r.write_offset (map with_sum r.checksummed_data) (map sum_alone r.object_checksum) r.state_lookup r.flush r.finish_write

-- the bytes of a request
unfoldable pub wire : Request → Bytes
wire r = write (message_fields (to_message r))

-- ---- their number

unfoldable pub shortest : Request → ℕ
shortest r = length (wire r)

-- n is the length of "the shortest such message": one of n bytes reads as r, and none that does is shorter
pub record Shortest (r : Request) (n : ℕ) : Type 0 where
  pub message : Bytes
  pub reads : read_request message ≡ some r
  pub long : length message ≡ n
  pub least : (b : Bytes) → read_request b ≡ some r → n ≤ length b

-- how many bytes of data a request has
abbrev pub content_length : Option R.ChecksummedData → ℕ
content_length none = 0
content_length (some d) = length d.content

-- ---- the requests that have a wire form: numbers have their widths, and the length of the data, merged with its sum, has 64 bits

abbrev pub DataInRange : Option R.ChecksummedData → Type 0
DataInRange none = Unit {0}
DataInRange (some d) = (length d.content < 2 ^ 63) × (d.crc32c < 2 ^ 32)

abbrev pub SumInRange : Option ℕ → Type 0
SumInRange none = Unit {0}
SumInRange (some n) = n < 2 ^ 32

pub record InRange (r : Request) : Type 0 where
  pub offset : SFits w64 r.write_offset
  pub checked : DataInRange r.checksummed_data
  pub sum : SumInRange r.object_checksum
