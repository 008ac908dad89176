-- The lower bound of a message: a cost of the message so far that each field raises by at most its own length.
-- Assumes nothing.
use mathlib.Core.Path.{◌≡◌, refl, sym, ap, ◌∙◌, subst}
use mathlib.Core.List.{List, [], ◌∷◌, ◌++◌, append_assoc}
use mathlib.Core.Option.{Option}
use Prim.Native.Nat.{ℕ, ◌+◌, ◌≤◌}
use native.Mathlib.Omega.{arith}
use borrow.Author.Tests.{eqb-true}
use lib.ListN.{length, length-append}
use lib.Dec.{eqb}
use Rattle.protobuf_format.specs.Reading.{Bytes, ◌>>=◌, Every, end, also}
use Rattle.protobuf_format.specs.Field.{Value, int, fixed64, bytes, fixed32, Field, field, field_bytes, write, Fits}
use Rattle.protobuf_format.specs.Message.{Row, row, as_int, as_bytes, as_fixed32, put, put_all, merge}
use Rattle.protobuf_format.proofs.Partial.{All, nothing, one, all_mono, all_cond, all_then, then_ext, then_then}
use Rattle.protobuf_format.proofs.Field.{fields_back, fields-least}

pub write-append : (a b : List Field) → write (a ++ b) ≡ write a ++ write b
unfolding write
write-append [] b = refl
write-append (f ∷ a) b = ap (λ (l : Bytes). field_bytes f ++ l) (write-append a b) ∙ sym (append_assoc (field_bytes f) (write a) (write b))

module _ {M : Type 0} where
  pub put_all_append : (rows : List (Row M)) (a b : List Field) (m : M) → put_all rows (a ++ b) m ≡ (put_all rows a m >>= put_all rows b)
  unfolding put_all
  put_all_append rows [] b m = refl
  put_all_append rows (f ∷ a) b m = then_ext (put rows f m) (put_all_append rows a b) ∙ sym (then_then (put rows f m) (put_all rows a) (put_all rows b))

  -- fields that fit, when they are written and read
  pub merge_back : (rows : List (Row M)) (fs : List Field) (m : M) → Every Fits fs → merge rows (write fs) m ≡ put_all rows fs m
  unfolding merge
  merge_back rows fs m h = rw (fields_back fs h)

module _ {M : Type 0} (cost : M → ℕ) where
  -- a row's field costs no more than it takes in the shortest form
  pub record Priced (r : Row M) : Type 0 where
    pub price : (v : Value) (m : M) → All (λ n. cost n ≤ cost m + length (field_bytes (field r.number v))) (r.set v m)

  put-least : (rows : List (Row M)) → Every Priced rows → (f : Field) (m : M) → All (λ n. cost n ≤ cost m + length (field_bytes f)) (put rows f m)
  unfolding put
  put-least [] end f m = one {a = m} (omega arith)
  put-least (r ∷ rows) (also p h) f m =
      all_cond (eqb r.number f.number)
      (λ e. subst (λ (k : ℕ). All (λ n. cost n ≤ cost m + length (field_bytes (field k f.value))) (r.set f.value m))
      (eqb-true r.number f.number e) (p.price f.value m))
      (λ e. put-least rows h f m)

  put_all_least : (rows : List (Row M)) → Every Priced rows → (fs : List Field) (m : M) → All (λ n. cost n ≤ cost m + length (write fs)) (put_all rows fs m)
  unfolding put_all write
  put_all_least rows h [] m = one {a = m} (omega arith)
  put_all_least rows h (f ∷ fs) m =
      all_then (put-least rows h f m) (λ n l. all_mono (put_all_least rows h fs n) (λ o g. rw length-append (omega arith)))

  pub merge-least : (rows : List (Row M)) → Every Priced rows → (input : Bytes) (m : M) → All (λ n. cost n ≤ cost m + length input) (merge rows input m)
  unfolding merge
  merge-least rows h input m =
      all_then (fields-least input) (λ fs l. all_mono (put_all_least rows h fs m) (λ n g. omega arith))

  -- ---- a row's price, by the type of its value

  pub int-row : (k : ℕ) (f : ℕ → M → M) → ((n : ℕ) (m : M) → cost (f n m) ≤ cost m + length (field_bytes (field k (int n)))) → Priced (row k (as_int f))
  int-row k f h = record { price = go }
    where
      go : (v : Value) (m : M) → All (λ n. cost n ≤ cost m + length (field_bytes (field k v))) (as_int f v m)
      go (int n) m = one (h n m)
      go (fixed64 n) m = nothing
      go (bytes b) m = nothing
      go (fixed32 n) m = nothing

  pub bytes-row : (k : ℕ) (f : Bytes → M → Option M)
      → ((b : Bytes) (m : M) → All (λ n. cost n ≤ cost m + length (field_bytes (field k (bytes b)))) (f b m)) → Priced (row k (as_bytes f))
  bytes-row k f h = record { price = go }
    where
      go : (v : Value) (m : M) → All (λ n. cost n ≤ cost m + length (field_bytes (field k v))) (as_bytes f v m)
      go (int n) m = nothing
      go (fixed64 n) m = nothing
      go (bytes b) m = h b m
      go (fixed32 n) m = nothing

  pub fixed32-row : (k : ℕ) (f : ℕ → M → M)
      → ((n : ℕ) (m : M) → cost (f n m) ≤ cost m + length (field_bytes (field k (fixed32 n)))) → Priced (row k (as_fixed32 f))
  fixed32-row k f h = record { price = go }
    where
      go : (v : Value) (m : M) → All (λ n. cost n ≤ cost m + length (field_bytes (field k v))) (as_fixed32 f v m)
      go (int n) m = nothing
      go (fixed64 n) m = nothing
      go (bytes b) m = nothing
      go (fixed32 n) m = one (h n m)
