-- Fields, and a message as a list of fields. A field is its key, which holds the field's number and the value's wire type, and its value.
use Rattle.std.specs.Prelude.{Bool, cond, ◌&&◌, List, [], ◌∷◌, ◌++◌, ℕ, zero, suc, ◌+◌, ◌*◌, ◌/◌, ◌%◌, ◌^◌, ◌<◌, length, take, drop, leb, ltb, eqb}
use Rattle.std.proofs.Math.Option.{Option, none, some}
use Rattle.little_endian.specs.Little.{little, digits}
use Rattle.protobuf_format.specs.Reading.{Bytes, Reading, ◌>>=◌}
use Rattle.protobuf_format.specs.Varint.{varint, varint_of}

-- a value, by its wire type: 0 is a varint, 1 eight bytes, 2 length-delimited (a varint n and n bytes), 5 four bytes
pub data Value : Type 0 where
  int fixed64 : ℕ → Value
  bytes : Bytes → Value
  fixed32 : ℕ → Value

pub record Field : Type 0 where
  pub number : ℕ
  pub value : Value

abbrev pub field : ℕ → Value → Field
field n v = record { number = n; value = v }

-- ---- reading

-- n bytes
unfoldable pub part : ℕ → Bytes → Reading Bytes
part n input = cond (leb n (length input)) (some (take n input, drop n input)) none

-- Types 3 and 4, the ends of a group, are malformed here, as 6 and 7 are.
unfoldable pub read_value : ℕ → Bytes → Reading Value
read_value type input =
    cond (eqb type 0) (varint input >>= λ (n, rest). some (int n, rest))
    (cond (eqb type 1) (part 8 input >>= λ (b, rest). some (fixed64 (little b), rest))
    (cond (eqb type 2) (varint input >>= λ (n, behind). part n behind >>= λ (b, rest). some (bytes b, rest))
    (cond (eqb type 5) (part 4 input >>= λ (b, rest). some (fixed32 (little b), rest)) none)))

-- the numbers that a field may have
abbrev pub is_number : ℕ → Bool
is_number n = ltb 0 n && ltb n (2 ^ 29)

-- the key is a varint: the number times 8, and the type
unfoldable pub read_field : Bytes → Reading Field
read_field input = do
  (key, behind) ← varint input
  (v, rest) ← cond (is_number (key / 8)) (read_value (key % 8) behind) none
  some (field (key / 8) v, rest)

-- fewer than k fields
unfoldable pub read_fields : ℕ → Bytes → Option (List Field)
read_fields zero input = none
read_fields (suc k) [] = some []
read_fields (suc k) (b ∷ input) = do
  (f, rest) ← read_field (b ∷ input)
  fs ← read_fields k rest
  some (f ∷ fs)

-- to the end of the input, which has no more fields than bytes
unfoldable pub fields : Bytes → Option (List Field)
fields input = read_fields (suc (length input)) input

-- ---- writing

abbrev pub wire_type : Value → ℕ
wire_type (int n) = 0
wire_type (fixed64 n) = 1
wire_type (bytes b) = 2
wire_type (fixed32 n) = 5

unfoldable pub value_bytes : Value → Bytes
value_bytes (int n) = varint_of n
value_bytes (fixed64 n) = digits 8 n
value_bytes (bytes b) = varint_of (length b) ++ b
value_bytes (fixed32 n) = digits 4 n

unfoldable pub field_bytes : Field → Bytes
field_bytes f = varint_of (f.number * 8 + wire_type f.value) ++ value_bytes f.value

unfoldable pub write : List Field → Bytes
write [] = []
write (f ∷ fs) = field_bytes f ++ write fs

-- ---- what can be written

abbrev pub ValueFits : Value → Type 0
ValueFits (int n) = n < 2 ^ 64
ValueFits (fixed64 n) = n < 2 ^ 64
ValueFits (bytes b) = length b < 2 ^ 64
ValueFits (fixed32 n) = n < 2 ^ 32

pub record Fits (f : Field) : Type 0 where
  pub low : 0 < f.number
  pub high : f.number < 2 ^ 29
  pub inside : ValueFits f.value
