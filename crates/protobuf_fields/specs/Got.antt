-- What reading a varint in place answers.
use Rattle.std.specs.Prelude.{◌≡◌, ℕ, ◌≤◌, ◌<◌, length, drop, Result, Ok, Err}
use Rattle.std.proofs.Math.Option.{none, some}
use Rattle.protobuf_format.specs.Reading.{Bytes, Reading}
use Rattle.protobuf_fields.specs.declared.Malformed.{Malformed}

-- the answer as a reading of s
abbrev pub got_in : Result (ℕ × ℕ) Malformed → Bytes → Reading ℕ
got_in (Ok (n, next)) s = some (n, drop next s)
got_in (Err e) s = none

-- the place behind the varint lies behind `at`, and within
abbrev pub GotAhead : Result (ℕ × ℕ) Malformed → ℕ → ℕ → Type 0
GotAhead (Ok (n, next)) at end = (at < next) × (next ≤ end)
GotAhead (Err e) at end = Unit {0}

pub record Reads (got : Result (ℕ × ℕ) Malformed) (s : Bytes) (at : ℕ) (o : Reading ℕ) : Type 0 where
  pub same : got_in got s ≡ o
  pub ahead : GotAhead got at (length s)
