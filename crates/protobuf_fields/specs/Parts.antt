-- What the private functions do.
use Rattle.std.specs.Prelude.{◌≡◌, cond, ℕ, ◌+◌, ◌*◌, ◌%◌, ◌^◌, ◌≤◌, length, drop, ltb, Result, Ok, Err}
use Rattle.std.proofs.Math.Option.{none, some}
use Rattle.protobuf_format.specs.Reading.{Bytes, Reading, ◌>>=◌}
use Rattle.protobuf_format.specs.Field as F
use Rattle.protobuf_fields.specs.Found.{value_in, ValueAhead}
use Rattle.protobuf_fields.specs.declared.Malformed.{Malformed}
use Rattle.protobuf_fields.specs.declared.Value.{Value}

-- a number of 64 bits
abbrev pub small : Reading ℕ → Reading ℕ
small o = o >>= λ (n, rest). cond (ltb n (2 ^ 64)) (some (n, rest)) none

-- the byte b, which another follows, and the number behind it
abbrev pub more_of : ℕ → ℕ → Result ℕ Malformed
more_of b n = cond (ltb n (2 ^ 57)) (Ok (b % 128 + 128 * n)) (Err (record {}))

-- the answer as a reading of s
abbrev pub found_value : Result (Value × ℕ) Malformed → Bytes → Reading F.Value
found_value (Ok (v, next)) s = some (value_in v s, drop next s)
found_value (Err e) s = none

-- the place behind the value lies no earlier than `at`, and within
abbrev pub FoundAhead : Result (Value × ℕ) Malformed → ℕ → ℕ → Type 0
FoundAhead (Ok (v, next)) at end = (at ≤ next) × (next ≤ end) × ValueAhead v at next
FoundAhead (Err e) at end = Unit {0}

pub record Values (found : Result (Value × ℕ) Malformed) (s : Bytes) (at : ℕ) (o : Reading F.Value) : Type 0 where
  pub same : found_value found s ≡ o
  pub ahead : FoundAhead found at (length s)
