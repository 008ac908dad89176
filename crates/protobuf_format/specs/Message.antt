-- A message of a known type: its fields, in any order, are put into a record one by one. So the last one wins where a field comes again,
-- unless its row merges: an embedded message is read into what came of it before.
use Rattle.std.specs.Prelude.{cond, List, [], ◌∷◌, ℕ, eqb}
use Rattle.std.proofs.Math.Option.{Option, none, some}
use Rattle.protobuf_format.specs.Reading.{Bytes, ◌>>=◌}
use Rattle.protobuf_format.specs.Field.{Value, int, fixed64, bytes, fixed32, Field, fields}

-- a field of the type: what a value does to the message so far, or none where it is malformed
pub record Row (M : Type 0) : Type 0 where
  pub number : ℕ
  pub set : Value → M → Option M

abbrev pub row : {M : Type 0} → ℕ → (Value → M → Option M) → Row M
row n f = record { number = n; set = f }

module _ {M : Type 0} where
  -- ---- another wire type than the field's is malformed

  abbrev pub as_int : (ℕ → M → M) → Value → M → Option M
  as_int f (int n) m = some (f n m)
  as_int f (fixed64 n) m = none
  as_int f (bytes b) m = none
  as_int f (fixed32 n) m = none

  abbrev pub as_bytes : (Bytes → M → Option M) → Value → M → Option M
  as_bytes f (int n) m = none
  as_bytes f (fixed64 n) m = none
  as_bytes f (bytes b) m = f b m
  as_bytes f (fixed32 n) m = none

  abbrev pub as_fixed32 : (ℕ → M → M) → Value → M → Option M
  as_fixed32 f (int n) m = none
  as_fixed32 f (fixed64 n) m = none
  as_fixed32 f (bytes b) m = none
  as_fixed32 f (fixed32 n) m = some (f n m)

  -- ---- reading

  -- a field that no row names is skipped
  unfoldable pub put : List (Row M) → Field → M → Option M
  put [] f m = some m
  put (r ∷ rows) f m = cond (eqb r.number f.number) (r.set f.value m) (put rows f m)

  unfoldable pub put_all : List (Row M) → List Field → M → Option M
  put_all rows [] m = some m
  put_all rows (f ∷ fs) m = put rows f m >>= put_all rows fs

  -- the message so far, and what the bytes add to it
  unfoldable pub merge : List (Row M) → Bytes → M → Option M
  merge rows input m = fields input >>= λ fs. put_all rows fs m
