-- A message merged step by step: each field is put into what is there as soon as it is read, though the definition reads all fields first.
-- Assumes nothing.
use mathlib.Core.Path.{◌≡◌, refl, sym, ap, ◌∙◌}
use mathlib.Core.List.{List, ◌∷◌}
use mathlib.Core.Option.{Option, none, some}
use Rattle.std.specs.Prelude.{Some, None, Ok, Err}
use Prim.Native.Nat.{ℕ, suc, ◌-◌, ◌≤◌, ◌<◌}
use native.Mathlib.Omega.{arith}
use lib.ListN.{length, drop, get_or, drop_of_length-le}
use lib.Seq.{drop-cons}
use Rattle.protobuf_format.specs.Reading.{Bytes, Reading, ◌>>=◌}
use Rattle.protobuf_format.specs.Field as F
use Rattle.protobuf_format.specs.Message.{Row, as_int, as_bytes, put, put_all, merge}
use Rattle.protobuf_format.proofs.Partial.{then_then}
use Rattle.protobuf_format.proofs.Field.{fields_nil, fields-next}
use Rattle.protobuf_fields.specs.Found.{value_in, field_in, ValueAhead}
use Rattle.protobuf_fields.specs.declared.Malformed.{Malformed}
use Rattle.protobuf_fields.specs.declared.Part.{Part}
use Rattle.protobuf_fields.specs.declared.Value.{Value}
use Rattle.protobuf_fields.specs.declared.Value.TheVariants as value
use Rattle.protobuf_fields.specs.declared.Field.{Field}
use Rattle.protobuf_reader.specs.Steps.{Steps}
use Rattle.protobuf_reader.proofs.Answers.{end_had, field_inside, field_had, malformed_inside, malformed_had}
use Rattle.redirect_reader.specs.Fields.{ValueFits, int_of, bytes_of}

swap : {A B C : Type 0} (o : Option A) (p : Option B) (f : A → B → Option C) → (o >>= λ a. p >>= λ b. f a b) ≡ (p >>= λ b. o >>= λ a. f a b)
swap none none f = refl
swap none (some b) f = refl
swap (some a) none f = refl
swap (some a) (some b) f = refl

-- where a field was found, its value's bytes lie within
value_fits : (v : Value) (at next end : ℕ) → ValueAhead v at next → next ≤ end → ValueFits v end
value_fits (value.Int n) at next end a h = tt
value_fits (value.Fixed64 start) at next end a h = tt
value_fits (value.Bytes p) at next end a h = omega (arith, a.0)
value_fits (value.Fixed32 start) at next end a h = tt

pub found_fits : (s : Bytes) (at : ℕ) (f : Field) → Steps (Ok (Some f)) s at → ValueFits f.value (length s)
found_fits s at f t = value_fits f.value at f.next (length s) t.ahead.2 t.ahead.1

-- a field is passed, so a loop ends
pub field_less : (s : Bytes) (at : ℕ) (f : Field) → Steps (Ok (Some f)) s at → length s - f.next < length s - at
field_less s at f t = omega (arith, field_inside s at f t, t.ahead.0)

-- ---- a known field's value

pub is_int : (v : Value) (n : ℕ) → Ok n ≡ int_of v → v ≡ value.Int n
is_int (value.Int k) n e = cc
is_int (value.Fixed64 start) n e = cc
is_int (value.Bytes p) n e = cc
is_int (value.Fixed32 start) n e = cc

pub is_bytes : (v : Value) (p : Part) → Ok p ≡ bytes_of v → v ≡ value.Bytes p
is_bytes (value.Int k) p e = cc
is_bytes (value.Fixed64 start) p e = cc
is_bytes (value.Bytes q) p e = cc
is_bytes (value.Fixed32 start) p e = cc

pub no_int : {M : Type 0} (v : Value) (e : Malformed) (g : ℕ → M → M) (s : Bytes) (m : M) → Err e ≡ int_of v → none ≡ as_int g (value_in v s) m
no_int (value.Int k) e g s m h = cc
no_int (value.Fixed64 start) e g s m h = refl
no_int (value.Bytes p) e g s m h = refl
no_int (value.Fixed32 start) e g s m h = refl

pub no_bytes : {M : Type 0} (v : Value) (e : Malformed) (g : Bytes → M → Option M) (s : Bytes) (m : M) → Err e ≡ bytes_of v → none ≡ as_bytes g (value_in v s) m
no_bytes (value.Int k) e g s m h = refl
no_bytes (value.Fixed64 start) e g s m h = refl
no_bytes (value.Bytes p) e g s m h = cc
no_bytes (value.Fixed32 start) e g s m h = refl

module _ {M : Type 0} (rows : List (Row M)) where
  one-first : (m : M) (o : Reading F.Field)
      → ((o >>= λ (f, rest). F.fields rest >>= λ fs. some (f ∷ fs)) >>= λ fs. put_all rows fs m) ≡ (o >>= λ (f, rest). put rows f m >>= λ n. merge rows rest n)
  unfolding put_all merge
  one-first m none = refl
  one-first m (some (f, rest)) =
      then_then (F.fields rest) (λ fs. some (f ∷ fs)) (λ fs. put_all rows fs m) ∙ swap (F.fields rest) (put rows f m) (λ fs n. put_all rows fs n)

  merge_cons : (b : ℕ) (input : Bytes) (m : M)
      → merge rows (b ∷ input) m ≡ (F.read_field (b ∷ input) >>= λ (f, rest). put rows f m >>= λ n. merge rows rest n)
  unfolding merge
  merge_cons b input m = rw (fields-next b input) (one-first m (F.read_field (b ∷ input)))

  merge-next : (s : Bytes) (at : ℕ) (m : M) → at < length s
      → merge rows (drop at s) m ≡ (F.read_field (drop at s) >>= λ (f, rest). put rows f m >>= λ n. merge rows rest n)
  merge-next s at m h = rw (drop-cons s at 0 h) (merge_cons (get_or s at 0) (drop (suc at) s) m)

  -- ---- by the reader's steps

  module _ (s : Bytes) (at : ℕ) (m : M) where
    pub merge_end : Steps (Ok None) s at → merge rows (drop at s) m ≡ some m
    unfolding merge put_all
    merge_end t = rw (drop_of_length-le s (end_had s at t), fields_nil)

    pub merge_stop : (e : Malformed) → Steps (Err e) s at → merge rows (drop at s) m ≡ none
    merge_stop e t = rw (merge-next s at m (malformed_inside s at e t), malformed_had s at e t)

    pub merge_on : (f : Field) → Steps (Ok (Some f)) s at → merge rows (drop at s) m ≡ (put rows (field_in f s) m >>= λ n. merge rows (drop f.next s) n)
    merge_on f t =
        merge-next s at m (field_inside s at f t)
        ∙ ap (λ (o : Reading F.Field). o >>= λ (x, rest). put rows x m >>= λ n. merge rows rest n) (sym (field_had s at f t).same)
