-- What reading a field in place answers.
use Rattle.std.specs.Prelude.{◌≡◌, ℕ, ◌+◌, ◌≤◌, ◌<◌, length, take, drop, Result, Ok, Err}
use Rattle.std.proofs.Math.Option.{none, some}
use Rattle.little_endian.specs.Little.{little}
use Rattle.protobuf_format.specs.Reading.{Bytes, Reading}
use Rattle.protobuf_format.specs.Field as F
use Rattle.protobuf_fields.specs.declared.Malformed.{Malformed}
use Rattle.protobuf_fields.specs.declared.Part.{Part}
use Rattle.protobuf_fields.specs.declared.Value.{Value}
use Rattle.protobuf_fields.specs.declared.Value.TheVariants as value
use Rattle.protobuf_fields.specs.declared.Field.{Field}

abbrev pub bytes_in : Bytes → Part → Bytes
bytes_in s p = take p.len (drop p.start s)

-- the value, read off s
abbrev pub value_in : Value → Bytes → F.Value
value_in (value.Int n) s = F.int n
value_in (value.Fixed64 start) s = F.fixed64 (little (take 8 (drop start s)))
value_in (value.Bytes p) s = F.bytes (bytes_in s p)
value_in (value.Fixed32 start) s = F.fixed32 (little (take 4 (drop start s)))

-- the field, read off s
abbrev pub field_in : Field → Bytes → F.Field
field_in f s = F.field f.number (value_in f.value s)

-- the answer as a reading of s
abbrev pub found_in : Result Field Malformed → Bytes → Reading F.Field
found_in (Ok f) s = some (field_in f s, drop f.next s)
found_in (Err e) s = none

-- the value's bytes end at the place behind the field, and start no earlier than `at`
abbrev pub ValueAhead : Value → ℕ → ℕ → Type 0
ValueAhead (value.Int n) at next = Unit {0}
ValueAhead (value.Fixed64 start) at next = (start + 8 ≡ next) × (at ≤ start)
ValueAhead (value.Bytes p) at next = (p.start + p.len ≡ next) × (at ≤ p.start)
ValueAhead (value.Fixed32 start) at next = (start + 4 ≡ next) × (at ≤ start)

-- the place behind the field lies behind `at`, and within
abbrev pub Ahead : Result Field Malformed → ℕ → ℕ → Type 0
Ahead (Ok f) at end = (at < f.next) × (f.next ≤ end) × ValueAhead f.value at f.next
Ahead (Err e) at end = Unit {0}

pub record Finds (found : Result Field Malformed) (s : Bytes) (at : ℕ) (o : Reading F.Field) : Type 0 where
  pub same : found_in found s ≡ o
  pub ahead : Ahead found at (length s)
