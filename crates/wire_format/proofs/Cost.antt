-- The lengths of fields and of the embedded messages.
-- Assumes nothing.
use mathlib.Core.Path.{◌≡◌, refl, ap, ◌∙◌}
use mathlib.Core.List.{List, [], ◌∷◌, ◌++◌}
use Prim.Native.Nat.{ℕ, zero, suc, ◌+◌, ◌*◌, ◌≤◌}
use native.Mathlib.Omega.{arith}
use lib.ListN.{length, length-append}
use Rattle.protobuf_format.specs.Reading.{Bytes}
use Rattle.protobuf_format.specs.Varint.{varint_of}
use Rattle.protobuf_format.specs.Field.{Value, int, bytes, fixed32, Field, field, value_bytes, field_bytes, write}
use Rattle.protobuf_format.specs.Slot.{plain_int, plain_bytes, optional}
use Rattle.protobuf_format.proofs.Message.{write-append}
use Rattle.wire_format.specs.Message.{ChecksummedData, ObjectChecksums}
use Rattle.wire_format.specs.Wire.{data_fields, sums_fields}

-- ---- costs

abbrev pub cost : List Field → ℕ
cost fs = length (write fs)

abbrev pub size : ℕ → Value → ℕ
size k v = length (field_bytes (field k v))

pub cost-append : (a b : List Field) → cost (a ++ b) ≡ cost a + cost b
cost-append a b = ap length (write-append a b) ∙ length-append (write a) (write b)

pub cost_nil : cost [] ≡ 0
unfolding write
cost_nil = refl

pub cost-one : (k : ℕ) (v : Value) → cost (field k v ∷ []) ≡ size k v
unfolding write
cost-one k v = rw length-append (omega arith)

pub int_price : (k n : ℕ) → cost (plain_int k n) ≤ size k (int n)
int_price k zero = omega (arith, cost_nil)
int_price k (suc n) = omega (arith, cost-one k (int (suc n)))

pub bytes_price : (k : ℕ) (b : Bytes) → cost (plain_bytes k b) ≤ size k (bytes b)
bytes_price k [] = omega (arith, cost_nil)
bytes_price k (x ∷ b) = omega (arith, cost-one k (bytes (x ∷ b)))

-- a length-delimited field, by the length of what is in it
abbrev pub embedded : ℕ → ℕ → ℕ
embedded k n = length (varint_of (k * 8 + 2)) + (length (varint_of n) + n)

pub size-bytes : (k : ℕ) (b : Bytes) → size k (bytes b) ≡ embedded k (length b)
unfolding field_bytes value_bytes
size-bytes k b = rw (length-append, length-append)

pub size-int : (k n : ℕ) → size k (int n) ≡ length (varint_of (k * 8 + 0)) + length (varint_of n)
unfolding field_bytes value_bytes
size-int k n = rw length-append

pub size-fixed32 : (k n : ℕ) → size k (fixed32 n) ≡ length (varint_of (k * 8 + 5)) + 4
unfolding field_bytes value_bytes
size-fixed32 k n = rw length-append

-- ---- the embedded messages

abbrev pub data_cost : ChecksummedData → ℕ
data_cost d = cost (data_fields d)

pub data_cost_lem : (d : ChecksummedData) → data_cost d ≡ cost (plain_bytes 1 d.content) + cost (optional 2 fixed32 d.crc32c)
unfolding data_fields
data_cost_lem d = cost-append (plain_bytes 1 d.content) (optional 2 fixed32 d.crc32c)

abbrev pub sums_cost : ObjectChecksums → ℕ
sums_cost s = cost (sums_fields s)

pub sums_cost_lem : (s : ObjectChecksums) → sums_cost s ≡ cost (optional 1 fixed32 s.crc32c) + cost (plain_bytes 2 s.md5_hash)
unfolding sums_fields
sums_cost_lem s = cost-append (optional 1 fixed32 s.crc32c) (plain_bytes 2 s.md5_hash)
