-- What each answer of the code says of the bytes: of a value, by its wire type, and of a field.
-- Assumes nothing.
use mathlib.Core.Path.{◌≡◌, refl}
use Rattle.std.proofs.Common.{◌≢◌}
use mathlib.Core.Option.{none, some}
use Rattle.std.specs.Prelude.{Result, Ok, Err, IsErr}
use Prim.Native.Nat.{ℕ, ◌+◌, ◌-◌, ◌/◌, ◌%◌, ◌^◌, ◌≤◌, ◌<◌}
use native.Mathlib.Omega.{arith}
use borrow.Author.Tests.{lt-ltb, le-ltb, le-leb, lt-leb, ne_eqb}
use lib.ListN.{length, take, drop, length-drop}
use lib.Seq.{drop-drop}
use Rattle.protobuf_format.specs.Reading.{Bytes, Reading}
use Rattle.protobuf_format.specs.Varint.{varint}
use Rattle.protobuf_format.specs.Field as F
use Rattle.protobuf_fields.specs.Got.{Reads}
use Rattle.protobuf_fields.specs.Found.{ValueAhead, Finds}
use Rattle.protobuf_fields.specs.Parts.{Values}
use Rattle.protobuf_fields.specs.declared.Malformed.{Malformed}
use Rattle.protobuf_fields.specs.declared.Value.{Value}
use Rattle.protobuf_fields.specs.declared.Value.TheVariants as value
use Rattle.protobuf_fields.specs.declared.Field.{Field}

-- ---- parts in place, and cut

part_some : (s : Bytes) (j n : ℕ) → j ≤ length s → n ≤ length s - j → F.part n (drop j s) ≡ some (take n (drop j s), drop (j + n) s)
unfolding F.part
part_some s j n h l = rw (length-drop j s, le-leb n (length s - j) l, drop-drop n j s)

part_none : (s : Bytes) (j n : ℕ) → length s - j < n → F.part n (drop j s) ≡ none
unfolding F.part
part_none s j n l = rw (length-drop j s, lt-leb n (length s - j) l)

-- ---- a value, by its wire type

value_refused : (r : Result (Value × ℕ) Malformed) (s : Bytes) (at : ℕ) (o : Reading F.Value) → IsErr r → none ≡ o → Values r s at o
value_refused (Ok x) s at o i e = cc
value_refused (Err x) s at o i e = record { same = e; ahead = tt }

module _ (s : Bytes) (type at : ℕ) where
  pub int_none : (r : Result (Value × ℕ) Malformed) (x : Malformed) → type ≡ 0 → IsErr r → Reads (Err x) s at (varint (drop at s))
      → Values r s at (F.read_value type (drop at s))
  unfolding F.read_value
  int_none r x e i g = value_refused r s at _ i (rw (e, ← g.same))

  pub int_some : (n next : ℕ) → type ≡ 0 → Reads (Ok (n, next)) s at (varint (drop at s))
      → Values (Ok (value.Int n, next)) s at (F.read_value type (drop at s))
  unfolding F.read_value
  int_some n next e r = record { same = rw (e, ← r.same); ahead = (omega (arith, r.ahead.0), r.ahead.1, tt) }

  pub eight_none : type ≡ 1 → length s - at < 8 → Values (Err (record {})) s at (F.read_value type (drop at s))
  unfolding F.read_value
  eight_none e l = record { same = rw (e, part_none s at 8 l); ahead = tt }

  pub eight_some : type ≡ 1 → at ≤ length s → 8 ≤ length s - at → Values (Ok (value.Fixed64 at, at + 8)) s at (F.read_value type (drop at s))
  unfolding F.read_value
  eight_some e h l = record { same = rw (e, part_some s at 8 h l); ahead = (omega arith, omega arith, (refl, omega arith)) }

  pub bytes_none : (r : Result (Value × ℕ) Malformed) (x : Malformed) → type ≡ 2 → IsErr r → Reads (Err x) s at (varint (drop at s))
      → Values r s at (F.read_value type (drop at s))
  unfolding F.read_value
  bytes_none r x e i g = value_refused r s at _ i (rw (e, ← g.same))

  pub bytes_cut : (n start : ℕ) → type ≡ 2 → Reads (Ok (n, start)) s at (varint (drop at s)) → length s - start < n
      → Values (Err (record {})) s at (F.read_value type (drop at s))
  unfolding F.read_value
  bytes_cut n start e r l = record { same = rw (e, ← r.same, part_none s start n l); ahead = tt }

  pub bytes_some : (n start : ℕ) → type ≡ 2 → Reads (Ok (n, start)) s at (varint (drop at s)) → n ≤ length s - start
      → Values (Ok (value.Bytes (record { start = start; len = n }), start + n)) s at (F.read_value type (drop at s))
  unfolding F.read_value
  bytes_some n start e r l =
      record {
        same = rw (e, ← r.same, part_some s start n r.ahead.1 l);
        ahead = (omega (arith, r.ahead.0), omega (arith, r.ahead.1), (refl, omega (arith, r.ahead.0)));
      }

  pub four_none : type ≡ 5 → length s - at < 4 → Values (Err (record {})) s at (F.read_value type (drop at s))
  unfolding F.read_value
  four_none e l = record { same = rw (e, part_none s at 4 l); ahead = tt }

  pub four_some : type ≡ 5 → at ≤ length s → 4 ≤ length s - at → Values (Ok (value.Fixed32 at, at + 4)) s at (F.read_value type (drop at s))
  unfolding F.read_value
  four_some e h l = record { same = rw (e, part_some s at 4 h l); ahead = (omega arith, omega arith, (refl, omega arith)) }

  pub no_value : (type ≡ 0 → ⊥) → (type ≡ 1 → ⊥) → (type ≡ 2 → ⊥) → (type ≡ 5 → ⊥) → Values (Err (record {})) s at (F.read_value type (drop at s))
  unfolding F.read_value
  no_value a b c d = record { same = rw (ne_eqb type 0 a, ne_eqb type 1 b, ne_eqb type 2 c, ne_eqb type 5 d); ahead = tt }

-- ---- a field

further : (v : Value) (at j next : ℕ) → at < j → ValueAhead v j next → ValueAhead v at next
further (value.Int n) at j next h a = tt
further (value.Fixed64 start) at j next h a = (a.0, omega (arith, a.1))
further (value.Bytes p) at j next h a = (a.0, omega (arith, a.1))
further (value.Fixed32 start) at j next h a = (a.0, omega (arith, a.1))

field_refused : (r : Result Field Malformed) (s : Bytes) (at : ℕ) (o : Reading F.Field) → IsErr r → none ≡ o → Finds r s at o
field_refused (Ok x) s at o i e = cc
field_refused (Err x) s at o i e = record { same = e; ahead = tt }

module _ (s : Bytes) (at : ℕ) where
  pub no_key : (r : Result Field Malformed) (x : Malformed) → IsErr r → Reads (Err x) s at (varint (drop at s)) → Finds r s at (F.read_field (drop at s))
  unfolding F.read_field
  no_key r x i g = field_refused r s at _ i (rw (← g.same))

  pub number_zero : (key start : ℕ) → key / 8 ≡ 0 → Reads (Ok (key, start)) s at (varint (drop at s)) → Finds (Err (record {})) s at (F.read_field (drop at s))
  unfolding F.read_field
  number_zero key start e r = record { same = rw (← r.same, e); ahead = tt }

  pub number_high : (key start : ℕ) → 536870911 < key / 8 → Reads (Ok (key, start)) s at (varint (drop at s))
      → Finds (Err (record {})) s at (F.read_field (drop at s))
  unfolding F.read_field
  number_high key start l r = record { same = rw (← r.same, lt-ltb 0 (key / 8) (omega arith), le-ltb (key / 8) (2 ^ 29) (omega arith)); ahead = tt }

  module _ (key start : ℕ) (z : key / 8 ≢ 0) (l : key / 8 ≤ 536870911) (r : Reads (Ok (key, start)) s at (varint (drop at s))) where
    pub no_value_behind : (f : Result Field Malformed) (x : Malformed) → IsErr f → Values (Err x) s start (F.read_value (key % 8) (drop start s))
        → Finds f s at (F.read_field (drop at s))
    unfolding F.read_field
    no_value_behind f x i v = field_refused f s at _ i (rw (← r.same, lt-ltb 0 (key / 8) (omega arith), lt-ltb (key / 8) (2 ^ 29) (omega arith), ← v.same))

    pub key_value : (v : Value) (next : ℕ) → Values (Ok (v, next)) s start (F.read_value (key % 8) (drop start s))
        → Finds (Ok (record { number = key / 8; value = v; next = next })) s at (F.read_field (drop at s))
    unfolding F.read_field
    key_value v next f =
        record {
          same = rw (← r.same, lt-ltb 0 (key / 8) (omega arith), lt-ltb (key / 8) (2 ^ 29) (omega arith), ← f.same);
          ahead = (omega (arith, r.ahead.0, f.ahead.0), f.ahead.1, further v at start next r.ahead.0 f.ahead.2);
        }
