-- A step from field to field.
use Rattle.std.specs.Prelude.{◌≡◌, [], ◌∷◌, ℕ, ◌-◌, length, drop, Some, None, Result, Ok, Err}
use Rattle.std.specs.Prelude as P
use Rattle.std.proofs.Math.Option.{Option, none, some}
use Rattle.protobuf_format.specs.Reading.{Bytes, Reading}
use Rattle.protobuf_format.specs.Field as F
use Rattle.protobuf_fields.specs.Found.{found_in, Ahead}
use Rattle.protobuf_fields.specs.declared.Malformed.{Malformed}
use Rattle.protobuf_fields.specs.declared.Field.{Field}

-- ---- the field

-- a field, none at the end, or that it is malformed
abbrev pub Step : Type 0
Step = Result (P.Option Field) Malformed

-- none at the end; else the field, which is none where it is malformed
abbrev pub next_in : Bytes → Option (Reading F.Field)
next_in [] = none
next_in (b ∷ input) = some (F.read_field (b ∷ input))

-- the answer as such a reading of s
abbrev pub step_in : Step → Bytes → Option (Reading F.Field)
step_in (Ok (Some f)) s = some (found_in (Ok f) s)
step_in (Ok None) s = none
step_in (Err e) s = some none

abbrev pub StepAhead : Step → ℕ → ℕ → Type 0
StepAhead (Ok (Some f)) at end = Ahead (Ok f) at end
StepAhead (Ok None) at end = Unit {0}
StepAhead (Err e) at end = Unit {0}

pub record Steps (t : Step) (s : Bytes) (at : ℕ) : Type 0 where
  pub same : step_in t s ≡ next_in (drop at s)
  pub ahead : StepAhead t at (length s)

-- ---- the place behind it

-- what is left behind a field says where it ends
abbrev pub place_of : ℕ → ℕ → Reading F.Field → ℕ
place_of end at none = at
place_of end at (some (f, rest)) = end - length rest

-- behind the field at a place; where there is none, or it is malformed, the place itself
unfoldable pub behind_of : Bytes → ℕ → ℕ
behind_of s at = place_of (length s) at (F.read_field (drop at s))

-- the place that a step from `at` holds
abbrev pub place_in : Step → ℕ → ℕ
place_in (Ok (Some f)) at = f.next
place_in (Ok None) at = at
place_in (Err e) at = at

-- from `at` to j by a step: to the place that it holds; if it is what stands at `at`, behind that
pub record Moves (t : Step) (s : Bytes) (at j : ℕ) : Type 0 where
  pub place : j ≡ place_in t at
  pub behind : Steps t s at → j ≡ behind_of s at
