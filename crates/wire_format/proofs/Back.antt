-- The wire form of a request reads back as that request.
-- Assumes nothing.
use mathlib.Core.Path.{◌≡◌, refl, ◌∙◌}
use mathlib.Core.Bool.{Bool, true, false}
use mathlib.Core.List.{List, [], ◌∷◌, ◌++◌}
use mathlib.Core.Option.{Option, none, some, map}
use Prim.Native.Nat.{ℕ, zero, suc, ◌^◌, ◌<◌}
use native.Mathlib.Omega.{arith}
use lib.ListN.{length}
use lib.IntN.{ℤ}
use lib.Dec.{T, ltb, lit<}
use mir.Syntax.{w64}
use mir.Val.{SFits, to_z, of_z}
use mir.Facts.{Fits-of_z, to_z-of_z}
use Rattle.protobuf_format.specs.Reading.{Bytes, Every, end, also}
use Rattle.protobuf_format.specs.Field.{Value, int, bytes, fixed32, Field, field, write, ValueFits, Fits}
use Rattle.protobuf_format.specs.Message.{Row, put, put_all, merge}
use Rattle.protobuf_format.specs.Slot.{plain_int, plain_bool, plain_bytes, optional}
use Rattle.protobuf_format.proofs.Partial.{every_append}
use Rattle.protobuf_format.proofs.Message.{put_all_append, merge_back}
use Rattle.protobuf_format.proofs.Varint.{groups_of_most}
use Rattle.wire_format.proofs.Cost.{cost_nil, cost-one, bytes_price, size-bytes, size-fixed32, data_cost, data_cost_lem, sums_cost, sums_cost_lem}
use Rattle.rules.specs.Message as R
use Rattle.rules.specs.Message.{Request}
use Rattle.wire_format.specs.Message.{ChecksummedData, ObjectChecksums, BidiWriteObjectRequest, data_of, sums_of, message_of, no_data, no_sums, no_message, data_rows, sums_rows, rows, read_message}
use Rattle.wire_format.specs.Wire.{data_in, sum_in, request_in, read_request, data_fields, sums_fields, data_slot, sums_slot, message_fields, with_sum, sum_alone, to_message, wire, DataInRange, SumInRange, InRange}

-- ---- what each slot puts

then_put : {M : Type 0} (rows : List (Row M)) (a b : List Field) (m n : M) {o : Option M}
    → put_all rows a m ≡ some n → put_all rows b n ≡ o → put_all rows (a ++ b) m ≡ o
then_put rows a b m n e g = rw (put_all_append rows a b m, e) g

data_put : (b : Bytes) (c : Option ℕ) → put_all data_rows (plain_bytes 1 b ++ optional 2 fixed32 c) no_data ≡ some (data_of b c)
unfolding put put_all
data_put [] none = refl
data_put [] (some n) = refl
data_put (x ∷ b) none = refl
data_put (x ∷ b) (some n) = refl

sums_put : (c : Option ℕ) (b : Bytes) → put_all sums_rows (optional 1 fixed32 c ++ plain_bytes 2 b) no_sums ≡ some (sums_of c b)
unfolding put put_all
sums_put none [] = refl
sums_put (some n) [] = refl
sums_put none (x ∷ b) = refl
sums_put (some n) (x ∷ b) = refl

data_back : (d : ChecksummedData) → Every Fits (data_fields d) → merge data_rows (write (data_fields d)) no_data ≡ some d
unfolding data_fields
data_back d h = merge_back data_rows (data_fields d) no_data h ∙ data_put d.content d.crc32c

sums_back : (s : ObjectChecksums) → Every Fits (sums_fields s) → merge sums_rows (write (sums_fields s)) no_sums ≡ some s
unfolding sums_fields
sums_back s h = merge_back sums_rows (sums_fields s) no_sums h ∙ sums_put s.crc32c s.md5_hash

offset_put : (n : ℕ) → put_all rows (plain_int 3 n) no_message ≡ some (message_of (to_z w64 n) none none false false false)
unfolding put put_all rows
offset_put zero = refl
offset_put (suc n) = refl

abbrev OptFit : {A : Type 0} → (A → List Field) → Option A → Type 0
OptFit f none = Unit {0}
OptFit f (some a) = Every Fits (f a)

checked-put : (z : ℤ) (o : Option ChecksummedData) → OptFit data_fields o
    → put_all rows (data_slot o) (message_of z none none false false false) ≡ some (message_of z o none false false false)
unfolding put put_all rows
checked-put z none h = refl
checked-put z (some d) h = rw (data_back d h)

summed_put : (z : ℤ) (d : Option ChecksummedData) (o : Option ObjectChecksums) → OptFit sums_fields o
    → put_all rows (sums_slot o) (message_of z d none false false false) ≡ some (message_of z d o false false false)
unfolding put put_all rows
summed_put z d none h = refl
summed_put z d (some s) h = rw (sums_back s h)

lookup_put : (z : ℤ) (d : Option ChecksummedData) (s : Option ObjectChecksums) (b : Bool)
    → put_all rows (plain_bool 7 b) (message_of z d s false false false) ≡ some (message_of z d s b false false)
unfolding put put_all rows
lookup_put z d s false = refl
lookup_put z d s true = refl

flush-put : (z : ℤ) (d : Option ChecksummedData) (s : Option ObjectChecksums) (l b : Bool)
    → put_all rows (plain_bool 8 b) (message_of z d s l false false) ≡ some (message_of z d s l b false)
unfolding put put_all rows
flush-put z d s l false = refl
flush-put z d s l true = refl

finish_put : (z : ℤ) (d : Option ChecksummedData) (s : Option ObjectChecksums) (l f b : Bool)
    → put_all rows (plain_bool 9 b) (message_of z d s l f false) ≡ some (message_of z d s l f b)
unfolding put put_all rows
finish_put z d s l f false = refl
finish_put z d s l f true = refl

-- ---- what fits

fit_one : (k : ℕ) (v : Value) → T (ltb 0 k) → T (ltb k (2 ^ 29)) → ValueFits v → Every Fits (field k v ∷ [])
fit_one k v l h f = also (record { low = lit< l; high = lit< h; inside = f }) end

fit_int : (k n : ℕ) → T (ltb 0 k) → T (ltb k (2 ^ 29)) → n < 2 ^ 64 → Every Fits (plain_int k n)
fit_int k zero l h f = end
fit_int k (suc n) l h f = fit_one k (int (suc n)) l h f

fit_bool : (k : ℕ) (b : Bool) → T (ltb 0 k) → T (ltb k (2 ^ 29)) → Every Fits (plain_bool k b)
fit_bool k false l h = end
fit_bool k true l h = fit_one k (int 1) l h (omega arith)

fit_bytes : (k : ℕ) (b : Bytes) → T (ltb 0 k) → T (ltb k (2 ^ 29)) → length b < 2 ^ 64 → Every Fits (plain_bytes k b)
fit_bytes k [] l h f = end
fit_bytes k (x ∷ b) l h f = fit_one k (bytes (x ∷ b)) l h f

data_fit : (d : R.ChecksummedData) → DataInRange (some d) → Every Fits (data_fields (with_sum d))
unfolding data_fields
data_fit d h =
    every_append (fit_bytes 1 d.content tt tt (omega arith))
    (fit_one 2 (fixed32 d.crc32c) tt tt h.1)

data_short : (d : R.ChecksummedData) → DataInRange (some d) → data_cost (with_sum d) < 2 ^ 64
data_short d h =
    omega (
      arith,
      data_cost_lem (with_sum d),
      bytes_price 1 d.content,
      size-bytes 1 d.content,
      groups_of_most 10 10,
      groups_of_most 10 (length d.content),
      cost-one 2 (fixed32 d.crc32c),
      size-fixed32 2 d.crc32c,
      groups_of_most 10 21,
    )

sum_fit : (n : ℕ) → n < 2 ^ 32 → Every Fits (sums_fields (sum_alone n))
unfolding sums_fields
sum_fit n h = fit_one 1 (fixed32 n) tt tt h

sum-short : (n : ℕ) → sums_cost (sum_alone n) < 2 ^ 64
sum-short n = omega (arith, sums_cost_lem (sum_alone n), cost-one 1 (fixed32 n), size-fixed32 1 n, groups_of_most 10 13, cost_nil)

checked_fit : (o : Option R.ChecksummedData) → DataInRange o → Every Fits (data_slot (map with_sum o))
checked_fit none h = end
checked_fit (some d) h = fit_one 4 (bytes (write (data_fields (with_sum d)))) tt tt (data_short d h)

summed_fit : (o : Option ℕ) → SumInRange o → Every Fits (sums_slot (map sum_alone o))
summed_fit none h = end
summed_fit (some n) h = fit_one 6 (bytes (write (sums_fields (sum_alone n)))) tt tt (sum-short n)

message_fit : (r : Request) → InRange r → Every Fits (message_fields (to_message r))
unfolding message_fields
message_fit r h =
    every_append
    (every_append
    (every_append
    (every_append
    (every_append (fit_int 3 (of_z w64 r.write_offset) tt tt (Fits-of_z h.offset).fits)
    (checked_fit r.checksummed_data h.checked))
    (summed_fit r.object_checksum h.sum))
    (fit_bool 7 r.state_lookup tt tt))
    (fit_bool 8 r.flush tt tt))
    (fit_bool 9 r.finish_write tt tt)

-- ---- the whole message

message-put : (m : BidiWriteObjectRequest) → SFits w64 m.write_offset → OptFit data_fields m.checksummed_data → OptFit sums_fields m.object_checksums
    → put_all rows (message_fields m) no_message ≡ some m
unfolding message_fields
message-put m z d s =
    then_put rows _ (plain_bool 9 m.finish_write) no_message _
    (then_put rows _ (plain_bool 8 m.flush) no_message _
    (then_put rows _ (plain_bool 7 m.state_lookup) no_message _
    (then_put rows _ (sums_slot m.object_checksums) no_message _
    (then_put rows (plain_int 3 (of_z w64 m.write_offset)) (data_slot m.checksummed_data) no_message _
    (offset_put (of_z w64 m.write_offset) ∙ rw (to_z-of_z z))
    (checked-put m.write_offset m.checksummed_data d))
    (summed_put m.write_offset m.checksummed_data m.object_checksums s))
    (lookup_put m.write_offset m.checksummed_data m.object_checksums m.state_lookup))
    (flush-put m.write_offset m.checksummed_data m.object_checksums m.state_lookup m.flush))
    (finish_put m.write_offset m.checksummed_data m.object_checksums m.state_lookup m.flush m.finish_write)

opt_data : (o : Option R.ChecksummedData) → DataInRange o → OptFit data_fields (map with_sum o)
opt_data none h = tt
opt_data (some d) h = data_fit d h

opt_sum : (o : Option ℕ) → SumInRange o → OptFit sums_fields (map sum_alone o)
opt_sum none h = tt
opt_sum (some n) h = sum_fit n h

checked_back : (o : Option R.ChecksummedData) → data_in (map with_sum o) ≡ some o
checked_back none = refl
checked_back (some d) = refl

sum_back : (o : Option ℕ) → sum_in (map sum_alone o) ≡ some o
sum_back none = refl
sum_back (some n) = refl

request_back : (r : Request) → request_in (to_message r) ≡ some r
unfolding request_in
request_back r = rw (checked_back r.checksummed_data, sum_back r.object_checksum)

pub reads_back : (r : Request) → InRange r → read_request (wire r) ≡ some r
unfolding read_request read_message wire
reads_back r h =
    rw (
      merge_back rows (message_fields (to_message r)) no_message (message_fit r h),
      message-put (to_message r) h.offset (opt_data r.checksummed_data h.checked) (opt_sum r.object_checksum h.sum),
    )
    (request_back r)
