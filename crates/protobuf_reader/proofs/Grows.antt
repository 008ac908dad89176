-- Where steps lead: the place never falls, stays within the slice, and at a field really moves.
-- Assumes nothing.
use mathlib.Core.Path.{◌≡◌}
use mathlib.Core.Option.{none, some}
use Prim.Native.Nat.{ℕ, zero, suc, ◌+◌, ◌≤◌, ◌<◌}
use native.Mathlib.Omega.{arith}
use lib.ListN.{length, drop, length-drop}
use Rattle.protobuf_format.specs.Reading.{Bytes, Reading}
use Rattle.protobuf_format.specs.Field.{Field, field_bytes, read_field}
use Rattle.protobuf_format.proofs.Partial.{All, nothing, one, all}
use Rattle.protobuf_format.proofs.Field.{field_pos, field-least}
use Rattle.protobuf_reader.specs.Steps.{place_of, behind_of}

-- j is not before `at`, and within s if that is
pub record Grows (s : Bytes) (at j : ℕ) : Type 0 where
  pub up : at ≤ j
  pub within : at ≤ length s → j ≤ length s

abbrev Least : Bytes → Field × Bytes → Type 0
Least input r = length (field_bytes r.0) + length r.1 ≤ length input

passes : (s : Bytes) (at : ℕ) (r : Field × Bytes) → Least (drop at s) r → at < place_of (length s) at (some r)
passes s at r l = omega (arith, l, length-drop at s, field_pos r.0)

grows : (s : Bytes) (at : ℕ) (o : Reading Field) → All (Least (drop at s)) o → Grows s at (place_of (length s) at o)
grows s at none nothing = record { up = omega arith; within = λ h. h }
grows s at (some r) (one l) = record { up = omega (arith, passes s at r l); within = λ h. omega arith }

pub at_grows : (s : Bytes) (at : ℕ) → Grows s at (behind_of s at)
unfolding behind_of
at_grows s at = grows s at (read_field (drop at s)) (field-least (drop at s))

-- a field that is not malformed is passed
pub at_passes : (s : Bytes) (at : ℕ) (r : Field × Bytes) → read_field (drop at s) ≡ some r → at < behind_of s at
unfolding behind_of
at_passes s at r e = rw e (passes s at r (all (field-least (drop at s)) e))

-- ---- any number of steps

abbrev pub behind_all : ℕ → Bytes → ℕ → ℕ
behind_all zero s at = at
behind_all (suc k) s at = behind_all k s (behind_of s at)

pub at_grows_on : (k : ℕ) (s : Bytes) (at : ℕ) → Grows s at (behind_all k s at)
at_grows_on zero s at = record { up = omega arith; within = λ h. h }
at_grows_on (suc k) s at =
    let first : Grows s at (behind_of s at) = at_grows s at in
    let more : Grows s (behind_of s at) (behind_all k s (behind_of s at)) = at_grows_on k s (behind_of s at) in
    record { up = omega (arith, first.up, more.up); within = λ h. more.within (first.within h) }
