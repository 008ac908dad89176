-- Fields: what is written reads back, and whatever reads as some fields has as many bytes as they take when written, or more.
-- Assumes nothing.
use mathlib.Core.Path.{◌≡◌, refl, sym, ap}
use mathlib.Core.List.{List, [], ◌∷◌, ◌++◌, append_assoc}
use mathlib.Core.Option.{Option, some}
use Prim.Native.Nat.{ℕ, zero, suc, ◌+◌, ◌*◌, ◌/◌, ◌%◌, ◌^◌, ◌≤◌, ◌<◌}
use native.Mathlib.Omega.{arith}
use borrow.Author.Tests.{lt-ltb, le-leb, leb-true, eqb-true}
use lib.ListN.{length, length-append, length-drop}
use lib.Seq.{take_at, drop_at, length-take-le}
use lib.Dec.{leb, eqb}
use Rattle.little_endian.specs.Little.{digits}
use Rattle.little_endian.proofs.Little.{length_digits, little-digits}
use Rattle.protobuf_format.specs.Reading.{Bytes, ◌>>=◌, Every, end, also}
use Rattle.protobuf_format.specs.Field.{Value, int, fixed64, bytes, fixed32, Field, part, read_value, is_number, read_field, read_fields, fields, wire_type, value_bytes, field_bytes, write, ValueFits, Fits}
use Rattle.protobuf_format.proofs.Partial.{All, nothing, one, all_mono, all_cond, all_then, then_same}
use Rattle.protobuf_format.proofs.Varint.{varint_back, varint-least, groups_of_pos}

-- ---- parts

part_back : (n : ℕ) (b rest : Bytes) → length b ≡ n → part n (b ++ rest) ≡ some (b, rest)
unfolding part
part_back n b rest e = rw (le-leb n (length (b ++ rest)) (omega (arith, length-append b rest)), take_at b rest n e, drop_at b rest n e)

part-least : (n : ℕ) (input : Bytes) → All (λ r. (length r.0 ≡ n) × (n + length r.1 ≤ length input)) (part n input)
unfolding part
part-least n input =
    all_cond (leb n (length input))
    (λ e.
    let h : n ≤ length input = leb-true n (length input) e in
    one (length-take-le n input h, omega (arith, length-drop n input)))
    (λ e. nothing)

-- ---- values

value_back : (v : Value) (rest : Bytes) → ValueFits v → read_value (wire_type v) (value_bytes v ++ rest) ≡ some (v, rest)
unfolding read_value value_bytes
value_back (int n) rest h = rw (varint_back n rest h)
value_back (fixed64 n) rest h =
    rw (part_back 8 (digits 8 n) rest (length_digits 8 n), little-digits 8 n h)
value_back (bytes b) rest h = rw (append_assoc, varint_back (length b) (b ++ rest) h, part_back (length b) b rest refl)
value_back (fixed32 n) rest h = rw (part_back 4 (digits 4 n) rest (length_digits 4 n), little-digits 4 n h)

type_small : (v : Value) → wire_type v < 8
type_small (int n) = omega arith
type_small (fixed64 n) = omega arith
type_small (bytes b) = omega arith
type_small (fixed32 n) = omega arith

value_least : (type : ℕ) (input : Bytes)
    → All (λ r. (wire_type r.0 ≡ type) × (length (value_bytes r.0) + length r.1 ≤ length input)) (read_value type input)
unfolding read_value value_bytes
value_least type input =
    all_cond (eqb type 0)
    (λ e. all_then (varint-least input) (λ r h. one (sym (eqb-true type 0 e), h)))
    (λ e₀. all_cond (eqb type 1)
    (λ e. all_then (part-least 8 input) (λ r h. one (sym (eqb-true type 1 e), omega (arith, h.1))))
    (λ e₁. all_cond (eqb type 2)
    (λ e. all_then (varint-least input) (λ r h. all_then (part-least r.0 r.1) (λ q g.
    one (sym (eqb-true type 2 e), rw (length-append, g.0) (omega arith)))))
    (λ e₂. all_cond (eqb type 5)
    (λ e. all_then (part-least 4 input) (λ r h. one (sym (eqb-true type 5 e), omega (arith, h.1))))
    (λ e₅. nothing))))

-- ---- one field

pub field_pos : (f : Field) → 1 ≤ length (field_bytes f)
unfolding field_bytes
field_pos f = rw length-append (omega (arith, groups_of_pos 9 (f.number * 8 + wire_type f.value)))

field_back : (f : Field) (rest : Bytes) → Fits f → read_field (field_bytes f ++ rest) ≡ some (f, rest)
unfolding read_field field_bytes
field_back f rest h =
    let n : (f.number * 8 + wire_type f.value) / 8 ≡ f.number = omega (arith, type_small f.value) in
    let t : (f.number * 8 + wire_type f.value) % 8 ≡ wire_type f.value = omega (arith, type_small f.value) in
    let w : f.number * 8 + wire_type f.value < 2 ^ 64 = omega (arith, type_small f.value) in
    let low = lt-ltb 0 f.number h.low in
    let high = lt-ltb f.number (2 ^ 29) h.high in
    let key = varint_back (f.number * 8 + wire_type f.value) (value_bytes f.value ++ rest) w in
    rw (append_assoc, key, n, t, low, high, value_back f.value rest h.inside)

pub field-least : (input : Bytes) → All (λ r. length (field_bytes r.0) + length r.1 ≤ length input) (read_field input)
unfolding read_field field_bytes
field-least input =
    all_then (varint-least input) (λ k h. all_then
    (all_cond (is_number (k.0 / 8)) (λ e. value_least (k.0 % 8) k.1) (λ e. nothing))
    (λ v g. one (rw (length-append, key k.0 (wire_type v.0) g.0) (omega arith))))
  where
    key : (k t : ℕ) → t ≡ k % 8 → k / 8 * 8 + t ≡ k
    key k t e = omega arith

-- ---- all fields

next : (k : ℕ) (input : Bytes) → 0 < length input
    → read_fields (suc k) input ≡ (read_field input >>= λ (f, rest). read_fields k rest >>= λ fs. some (f ∷ fs))
unfolding read_fields
next k [] h = absurd (omega arith)
next k (b ∷ input) h = refl

read_fields_back : (k : ℕ) (fs : List Field) → length (write fs) < k → Every Fits fs → read_fields k (write fs) ≡ some fs
unfolding read_fields write
read_fields_back zero fs l h = absurd (omega arith)
read_fields_back (suc k) [] l end = refl
read_fields_back (suc k) (f ∷ fs) l (also g h) =
    let p : 1 ≤ length (field_bytes f) = field_pos f in
    let s : length (field_bytes f ++ write fs) ≡ length (field_bytes f) + length (write fs) = length-append (field_bytes f) (write fs) in
    rw (next k (field_bytes f ++ write fs) (omega arith), field_back f (write fs) g, read_fields_back k fs (omega arith) h)

pub fields_back : (fs : List Field) → Every Fits fs → fields (write fs) ≡ some fs
unfolding fields
fields_back fs h = read_fields_back (suc (length (write fs))) fs (omega arith) h

read_fields-least : (k : ℕ) (input : Bytes) → All (λ fs. length (write fs) ≤ length input) (read_fields k input)
unfolding read_fields write
read_fields-least zero input = nothing
read_fields-least (suc k) [] = one {a = []} (omega arith)
read_fields-least (suc k) (b ∷ input) =
    all_then (field-least (b ∷ input)) (λ r h. all_then (read_fields-least k r.1) (λ fs g. one (rw length-append (omega arith))))

pub fields-least : (input : Bytes) → All (λ fs. length (write fs) ≤ length input) (fields input)
unfolding fields
fields-least input = read_fields-least (suc (length input)) input

-- ---- `fields` is the plain recursion: the number of fields that it allows for is no limit

enough : (j k : ℕ) (input : Bytes) → length input < j → length input < k → read_fields j input ≡ read_fields k input
unfolding read_fields
enough zero k input h g = absurd (omega arith)
enough (suc j) zero input h g = absurd (omega arith)
enough (suc j) (suc k) [] h g = refl
enough (suc j) (suc k) (b ∷ input) h g =
    then_same (all_mono (field-least (b ∷ input)) (λ r l. ap (λ (o : Option (List Field)). o >>= λ fs. some (r.0 ∷ fs))
    (enough j k r.1 (omega (arith, field_pos r.0)) (omega (arith, field_pos r.0)))))

pub fields_nil : fields [] ≡ some []
unfolding fields read_fields
fields_nil = refl

pub fields-next : (b : ℕ) (input : Bytes)
    → fields (b ∷ input) ≡ (read_field (b ∷ input) >>= λ (f, rest). fields rest >>= λ fs. some (f ∷ fs))
unfolding fields read_fields
fields-next b input =
    then_same (all_mono (field-least (b ∷ input)) (λ r l. ap (λ (o : Option (List Field)). o >>= λ fs. some (r.0 ∷ fs))
    (enough (suc (length input)) (suc (length r.1)) r.1 (omega (arith, field_pos r.0)) (omega arith))))
