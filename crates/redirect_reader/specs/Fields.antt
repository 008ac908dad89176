-- What the private functions do.
use Rattle.std.specs.Prelude.{◌≡◌, [], ℕ, length, Some, None, Result, Ok, Err}
use Rattle.std.specs.Prelude as P
use Rattle.std.proofs.Math.Option.{Option, none, some, get_or}
use Rattle.protobuf_format.specs.Reading.{Bytes}
use Rattle.protobuf_format.specs.Message.{put, merge}
use Rattle.redirect_format.specs.Redirect.{handle_rows}
use Rattle.protobuf_fields.specs.Found.{bytes_in, field_in}
use Rattle.protobuf_fields.specs.declared.Malformed.{Malformed}
use Rattle.protobuf_fields.specs.declared.Part.{Part}
use Rattle.protobuf_fields.specs.declared.Value.{Value}
use Rattle.protobuf_fields.specs.declared.Value.TheVariants as value
use Rattle.protobuf_fields.specs.declared.Field.{Field}
use Rattle.redirect_reader.specs.Places.{part_in, PartFits}

-- the value's bytes lie within
abbrev pub ValueFits : Value → ℕ → Type 0
ValueFits (value.Int n) end = Unit {0}
ValueFits (value.Fixed64 start) end = Unit {0}
ValueFits (value.Bytes p) end = PartFits (Some p) end
ValueFits (value.Fixed32 start) end = Unit {0}

-- another wire type than a known field's is malformed
abbrev pub int_of : Value → Result ℕ Malformed
int_of (value.Int n) = Ok n
int_of (value.Fixed64 start) = Err (record {})
int_of (value.Bytes p) = Err (record {})
int_of (value.Fixed32 start) = Err (record {})

abbrev pub bytes_of : Value → Result Part Malformed
bytes_of (value.Int n) = Err (record {})
bytes_of (value.Fixed64 start) = Err (record {})
bytes_of (value.Bytes p) = Ok p
bytes_of (value.Fixed32 start) = Err (record {})

-- ---- the handle

-- its bytes, where `old` were there before
abbrev pub held_in : Bytes → P.Option Part → Bytes → Bytes
held_in s None old = old
held_in s (Some p) old = bytes_in s p

abbrev pub handle_in : Result (P.Option Part) Malformed → Bytes → Bytes → Option Bytes
handle_in (Ok p) s old = some (held_in s p old)
handle_in (Err e) s old = none

abbrev pub HandleFits : Result (P.Option Part) Malformed → ℕ → Type 0
HandleFits (Ok p) end = PartFits p end
HandleFits (Err e) end = Unit {0}

pub record Holds (r : Result (P.Option Part) Malformed) (p : P.Option Part) (f : Field) : Type 0 where
  pub same : (s old : Bytes) → handle_in r s old ≡ put handle_rows (field_in f s) (held_in s p old)
  pub fits : (end : ℕ) → PartFits p end → ValueFits f.value end → HandleFits r end

-- s merged into whatever handle was there before
pub record Handles (r : Result (P.Option Part) Malformed) (s : Bytes) : Type 0 where
  pub same : (old : Bytes) → handle_in r s old ≡ merge handle_rows s old
  pub fits : HandleFits r (length s)

-- p is a part of the message, and r one of the whole
pub record Nests (r p old : P.Option Part) (message : Part) : Type 0 where
  pub same : (s : Bytes) → part_in s r ≡ some (held_in (bytes_in s message) p (get_or (part_in s old) []))
  pub fits : (end : ℕ) → PartFits (Some message) end → PartFits old end → PartFits r end
