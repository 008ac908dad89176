-- What a step says of the bytes: by each way to make one, and to whoever has one.
-- Assumes nothing.
use mathlib.Core.Path.{◌≡◌, refl, sym, ap, ◌∙◌, subst}
use mathlib.Core.List.{[], ◌∷◌}
use mathlib.Core.Option.{Option, none, some}
use Rattle.std.specs.Prelude.{Some, None, Ok, Err, IsErr}
use Prim.Native.Nat.{ℕ, ◌-◌, ◌≤◌, ◌<◌}
use native.Mathlib.Omega.{arith}
use lib.ListN.{length, drop, length-drop, drop_of_length-le}
use lib.Seq.{drop-cons}
use Rattle.protobuf_format.specs.Reading.{Bytes, Reading}
use Rattle.protobuf_format.specs.Varint.{groups, varint}
use Rattle.protobuf_format.specs.Field as F
use Rattle.protobuf_format.proofs.Partial.{either}
use Rattle.protobuf_fields.specs.Found.{found_in, Finds}
use Rattle.protobuf_fields.specs.declared.Malformed.{Malformed}
use Rattle.protobuf_fields.specs.declared.Field.{Field}
use Rattle.protobuf_reader.specs.Steps.{Step, next_in, Steps, place_of, behind_of, place_in, Moves}

-- ---- steps made

pub end_made : (s : Bytes) (at : ℕ) → length s ≤ at → Steps (Ok None) s at
end_made s at h = record { same = rw (drop_of_length-le s h); ahead = tt }

inside : (s : Bytes) (at : ℕ) → at < length s → next_in (drop at s) ≡ some (F.read_field (drop at s))
inside s at h = rw (drop-cons s at 0 h)

pub field_made : (s : Bytes) (at : ℕ) (f : Field) → at < length s → Finds (Ok f) s at (F.read_field (drop at s)) → Steps (Ok (Some f)) s at
field_made s at f h r = record { same = ap (λ (o : Reading F.Field). some o) r.same ∙ sym (inside s at h); ahead = r.ahead }

pub malformed_made : (s : Bytes) (at : ℕ) (t : Step) (e : Malformed) → at < length s → IsErr t → Finds (Err e) s at (F.read_field (drop at s)) → Steps t s at
malformed_made s at (Ok x) e h i r = cc
malformed_made s at (Err x) e h i r = record { same = ap (λ (o : Reading F.Field). some o) r.same ∙ sym (inside s at h); ahead = tt }

-- ---- steps had

abbrev Is-some : {A : Type 0} → Option A → Type 0
Is-some none = ⊥
Is-some (some a) = Unit {0}

pub end_had : (s : Bytes) (at : ℕ) → Steps (Ok None) s at → length s ≤ at
end_had s at t = either at (length s) (λ h. absurd (subst Is-some (sym (t.same ∙ inside s at h)) tt)) (λ h. h)

inside_had : (s : Bytes) (at : ℕ) (o : Reading F.Field) → some o ≡ next_in (drop at s) → at < length s
inside_had s at o e = either at (length s) (λ h. h) (λ h. absurd (subst Is-some (e ∙ ap next_in (drop_of_length-le s h)) tt))

pub field_inside : (s : Bytes) (at : ℕ) (f : Field) → Steps (Ok (Some f)) s at → at < length s
field_inside s at f t = inside_had s at (found_in (Ok f) s) t.same

pub malformed_inside : (s : Bytes) (at : ℕ) (e : Malformed) → Steps (Err e) s at → at < length s
malformed_inside s at e t = inside_had s at none t.same

-- nothing left is malformed
nothing_left : F.read_field [] ≡ none
unfolding F.read_field varint groups
nothing_left = refl

abbrev inner : Option (Reading F.Field) → Reading F.Field
inner none = none
inner (some o) = o

inner-next : (input : Bytes) → inner (next_in input) ≡ F.read_field input
inner-next [] = sym nothing_left
inner-next (b ∷ input) = refl

pub field_had : (s : Bytes) (at : ℕ) (f : Field) → Steps (Ok (Some f)) s at → Finds (Ok f) s at (F.read_field (drop at s))
field_had s at f t = record { same = ap inner t.same ∙ inner-next (drop at s); ahead = t.ahead }

pub malformed_had : (s : Bytes) (at : ℕ) (e : Malformed) → Steps (Err e) s at → F.read_field (drop at s) ≡ none
malformed_had s at e t = sym (ap inner t.same ∙ inner-next (drop at s))

-- ---- the place that a step holds

left_over : (s : Bytes) (j : ℕ) → j ≤ length s → j ≡ length s - length (drop j s)
left_over s j h = rw (length-drop j s) (omega arith)

pub place_had : (s : Bytes) (at : ℕ) (t : Step) → Steps t s at → place_in t at ≡ behind_of s at
unfolding behind_of
place_had s at (Ok (Some f)) t = left_over s f.next t.ahead.1 ∙ ap (place_of (length s) at) (field_had s at f t).same
place_had s at (Ok None) t = rw (drop_of_length-le s (end_had s at t), nothing_left)
place_had s at (Err e) t = rw (malformed_had s at e t)

pub moves : (s : Bytes) (at j : ℕ) (t : Step) → j ≡ place_in t at → Moves t s at j
moves s at j t e = record { place = e; behind = λ h. e ∙ place_had s at t h }
