-- A google.storage.v2.BidiWriteObjectRequest: its messages as google.storage.v2.rs has them, and the protobuf reading of one.
use Rattle.std.specs.Prelude.{Bool, false, not, List, [], ◌∷◌, ℕ, eqb, ℤ, pos}
use Rattle.std.proofs.Math.Option.{Option, none, some, get_or}
use Rattle.std.specs.Int.{w64}
use Rattle.std.proofs.Common.{to_z}
use Rattle.protobuf_format.specs.Reading.{Bytes, ◌>>=◌}
use Rattle.protobuf_format.specs.Message.{Row, row, as_int, as_bytes, as_fixed32, merge}

pub record ChecksummedData : Type 0 where
  pub content : Bytes  -- 1, bytes
  pub crc32c : Option ℕ  -- 2, optional fixed32

pub record ObjectChecksums : Type 0 where
  pub crc32c : Option ℕ  -- 1, optional fixed32
  pub md5_hash : Bytes  -- 2, bytes

-- without the fields that only an opening has
pub record BidiWriteObjectRequest : Type 0 where
  pub write_offset : ℤ  -- 3, int64
  pub checksummed_data : Option ChecksummedData  -- 4, the one member of `data`
  pub object_checksums : Option ObjectChecksums  -- 6, message
  pub state_lookup : Bool  -- 7, bool
  pub flush : Bool  -- 8, bool
  pub finish_write : Bool  -- 9, bool

abbrev pub data_of : Bytes → Option ℕ → ChecksummedData
data_of b c = record { content = b; crc32c = c }

abbrev pub sums_of : Option ℕ → Bytes → ObjectChecksums
sums_of c b = record { crc32c = c; md5_hash = b }

abbrev pub message_of : ℤ → Option ChecksummedData → Option ObjectChecksums → Bool → Bool → Bool → BidiWriteObjectRequest
message_of z d s l f e = record { write_offset = z; checksummed_data = d; object_checksums = s; state_lookup = l; flush = f; finish_write = e }

-- ---- messages of no bytes: every field is absent

abbrev pub no_data : ChecksummedData
no_data = data_of [] none

abbrev pub no_sums : ObjectChecksums
no_sums = sums_of none []

abbrev pub no_message : BidiWriteObjectRequest
no_message = message_of (pos 0) none none false false false

-- ---- reading. "Fields may come in any order." Of a field that comes again the last counts, but an embedded message is merged with what came before.
-- A field that no row names is skipped.

abbrev pub data_rows : List (Row ChecksummedData)
data_rows = row 1 (as_bytes (λ b d. some (data_of b d.crc32c))) ∷ row 2 (as_fixed32 (λ n d. data_of d.content (some n))) ∷ []

abbrev pub sums_rows : List (Row ObjectChecksums)
sums_rows = row 1 (as_fixed32 (λ n s. sums_of (some n) s.md5_hash)) ∷ row 2 (as_bytes (λ b s. some (sums_of s.crc32c b))) ∷ []

-- a field that only an opening has: the first message (1, 2, 11), the parameters common to object requests (10)
abbrev pub foreign : ℕ → Row BidiWriteObjectRequest
foreign number = row number (λ v m. none)

abbrev pub is_true : ℕ → Bool
is_true n = not (eqb n 0)

unfoldable pub rows : List (Row BidiWriteObjectRequest)
rows =
    foreign 1
    ∷ foreign 2
    ∷ row 3 (as_int (λ n m. message_of (to_z w64 n) m.checksummed_data m.object_checksums m.state_lookup m.flush m.finish_write))
    ∷ row 4 (as_bytes (λ b m. do
      d ← merge data_rows b (get_or m.checksummed_data no_data)
      some (message_of m.write_offset (some d) m.object_checksums m.state_lookup m.flush m.finish_write)))
    ∷ row 6 (as_bytes (λ b m. do
      s ← merge sums_rows b (get_or m.object_checksums no_sums)
      some (message_of m.write_offset m.checksummed_data (some s) m.state_lookup m.flush m.finish_write)))
    ∷ row 7 (as_int (λ n m. message_of m.write_offset m.checksummed_data m.object_checksums (is_true n) m.flush m.finish_write))
    ∷ row 8 (as_int (λ n m. message_of m.write_offset m.checksummed_data m.object_checksums m.state_lookup (is_true n) m.finish_write))
    ∷ row 9 (as_int (λ n m. message_of m.write_offset m.checksummed_data m.object_checksums m.state_lookup m.flush (is_true n)))
    ∷ foreign 10
    ∷ foreign 11
    ∷ []

unfoldable pub read_message : Bytes → Option BidiWriteObjectRequest
read_message input = merge rows input no_message
