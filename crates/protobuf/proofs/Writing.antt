-- The bytes of fields, and what writing their pieces one behind the other writes.
-- Assumes nothing.
use mathlib.Core.Path.{◌≡◌, ap, ◌∙◌}
use mathlib.Core.Bool.{Bool, true, false}
use mathlib.Core.List.{[], ◌∷◌, ◌++◌, append-nil, append_assoc}
use Prim.Native.Nat.{ℕ, zero, suc, ◌+◌, ◌*◌, ◌/◌, ◌%◌, ◌^◌, ◌≤◌, ◌<◌}
use native.Mathlib.Numerals.{add-one}
use native.Mathlib.Omega.{arith}
use lib.ListN.{length, set, length-append}
use lib.Seq.{sets}
use Rattle.std.specs.Int.{w32, to_le_bytes}
use Rattle.little_endian.specs.Little.{digits}
use Rattle.protobuf_format.proofs.Varint.{varint_of_few, varint_of-many}
use Rattle.protobuf_format.specs.Reading.{Bytes}
use Rattle.protobuf_format.specs.Varint.{varint_of}
use Rattle.protobuf_format.specs.Field.{bytes, fixed32, field, value_bytes, field_bytes, write}
use Rattle.protobuf_format.specs.Slot.{plain_int, plain_bool, plain_bytes}
use Rattle.copying.specs.Written.{Written}
use Rattle.copying.proofs.Written.{written-nothing, written_both}
use Rattle.protobuf.specs.Head.{head}

pub written_none : (buffer : Bytes) (at : ℕ) → Written (write []) buffer buffer at at
unfolding write
written_none = written-nothing

-- ---- slots

pub int_nothing : (k n : ℕ) (buffer : Bytes) (at : ℕ) → n ≡ 0 → Written (write (plain_int k n)) buffer buffer at at
unfolding write
int_nothing k n buffer at e = rw e (written-nothing buffer at)

int-bytes : (k n : ℕ) → 0 < n → write (plain_int k n) ≡ varint_of (k * 8 + 0) ++ varint_of n
unfolding write field_bytes value_bytes
int-bytes k zero h = absurd (omega arith)
int-bytes k (suc n) h = rw append-nil

pub int-length : (k n : ℕ) → 0 < n → length (write (plain_int k n)) ≡ length (varint_of (k * 8 + 0)) + length (varint_of n)
int-length k n h = ap length (int-bytes k n h) ∙ length-append (varint_of (k * 8 + 0)) (varint_of n)

pub int-written : (k n : ℕ) {x y z : Bytes} {at i j : ℕ} → 0 < n → Written (varint_of (k * 8 + 0)) x y at i → Written (varint_of n) y z i j
    → Written (write (plain_int k n)) x z at j
int-written k n h p q = rw (int-bytes k n h) (written_both p q)

fixed32-bytes : (k v : ℕ) → write (field k (fixed32 v) ∷ []) ≡ varint_of (k * 8 + 5) ++ digits 4 v
unfolding write field_bytes value_bytes
fixed32-bytes k v = rw append-nil

pub fixed32-length : (k v : ℕ) → length (write (field k (fixed32 v) ∷ [])) ≡ length (varint_of (k * 8 + 5)) + 4
fixed32-length k v = ap length (fixed32-bytes k v) ∙ length-append (varint_of (k * 8 + 5)) (digits 4 v)

pub fixed32-written : (k v : ℕ) {x y z : Bytes} {at i j : ℕ} → Written (varint_of (k * 8 + 5)) x y at i → Written (digits 4 v) y z i j
    → Written (write (field k (fixed32 v) ∷ [])) x z at j
fixed32-written k v p q = rw (fixed32-bytes k v) (written_both p q)

pub head-length : (k n : ℕ) → length (head k n) ≡ length (varint_of (k * 8 + 2)) + length (varint_of n)
unfolding head
head-length k n = length-append (varint_of (k * 8 + 2)) (varint_of n)

pub head-written : (k n : ℕ) {x y z : Bytes} {at i j : ℕ} → Written (varint_of (k * 8 + 2)) x y at i → Written (varint_of n) y z i j
    → Written (head k n) x z at j
unfolding head
head-written k n p q = written_both p q

-- a length-delimited field is its head and its bytes
pub part_bytes : (k : ℕ) (b : Bytes) → write (field k (bytes b) ∷ []) ≡ head k (length b) ++ b
unfolding write field_bytes value_bytes head
part_bytes k b = rw (append-nil, append_assoc)

bytes-bytes : (k : ℕ) (b : Bytes) → 0 < length b → write (plain_bytes k b) ≡ head k (length b) ++ b
bytes-bytes k [] h = absurd (omega arith)
bytes-bytes k (x ∷ b) h = part_bytes k (x ∷ b)

pub bytes-nothing : (k : ℕ) (b buffer : Bytes) (at : ℕ) → length b ≡ 0 → Written (write (plain_bytes k b)) buffer buffer at at
unfolding write
bytes-nothing k [] buffer at e = written-nothing buffer at
bytes-nothing k (x ∷ b) buffer at e = absurd (omega arith)

pub bytes-length : (k : ℕ) (b : Bytes) → 0 < length b → length (write (plain_bytes k b)) ≡ length (head k (length b)) + length b
bytes-length k b h = ap length (bytes-bytes k b h) ∙ length-append (head k (length b)) b

pub bytes-written : (k : ℕ) (b : Bytes) {x y z : Bytes} {at i j : ℕ} → 0 < length b → Written (head k (length b)) x y at i → Written b y z i j
    → Written (write (plain_bytes k b)) x z at j
bytes-written k b h p q = rw (bytes-bytes k b h) (written_both p q)

pub bool_nothing : (k : ℕ) (b : Bool) (buffer : Bytes) (at : ℕ) → b ≡ false → Written (write (plain_bool k b)) buffer buffer at at
unfolding write
bool_nothing k b buffer at e = rw e (written-nothing buffer at)

pub bool_length : (k : ℕ) (b : Bool) → b ≡ true → length (write (plain_bool k b)) ≡ length (varint_of (k * 8 + 0)) + length (varint_of 1)
bool_length k b e = rw e (int-length k 1 (omega arith))

pub bool_written : (k : ℕ) (b : Bool) {x y z : Bytes} {at i j : ℕ} → b ≡ true → Written (varint_of (k * 8 + 0)) x y at i → Written (varint_of 1) y z i j
    → Written (write (plain_bool k b)) x z at j
bool_written k b e p q = rw e (int-written k 1 (omega arith) p q)

-- ---- four bytes, as the library writes them

pub four-bytes : (v : ℕ) → to_le_bytes w32 v ≡ digits 4 v
four-bytes v =
    let e : v / 65536 ≡ v / 256 / 256 = omega arith in
    let f : v / 16777216 ≡ v / 256 / 256 / 256 = omega arith in
    rw (e, f)

-- ---- a varint, a group at a time

pub store_few : (n : ℕ) (buffer : Bytes) (i : ℕ) → n < 128 → set buffer i n ≡ sets buffer i (varint_of n)
store_few n buffer i h = rw (varint_of_few n h)

pub store_many : (n : ℕ) (buffer : Bytes) (i : ℕ) → 128 ≤ n → n < 2 ^ 64
    → sets (set buffer i (128 + n % 128)) (i + 1) (varint_of (n / 128)) ≡ sets buffer i (varint_of n)
store_many n buffer i l h = rw (varint_of-many n l h, add-one i)
