-- Every record whose numbers fit is read back from its own bytes, whatever follows them.
-- Assumes nothing.
use mathlib.Core.Path.{◌≡◌, refl, ap, ◌∙◌}
use mathlib.Core.List.{[], ◌∷◌, ◌++◌}
use Prim.Native.Nat.{ℕ, ◌^◌, ◌<◌}
use native.Mathlib.Omega.{arith}
use borrow.Author.Tests.{le-leb}
use lib.ListN.{length, length-append}
use lib.Seq.{take_at, drop_at}
use lib.IntN.{ℤ}
use mir.Syntax.{w64}
use mir.Val.{SFits, to_z, of_z}
use mir.Facts.{Fits-of_z, to_z-of_z}
use Rattle.rules.specs.Message.{Bytes}
use Rattle.text.specs.Ascii.{ascii}
use Rattle.little_endian.specs.Little.{little, digits}
use Rattle.little_endian.proofs.Little.{length_digits, little-digits}
use Rattle.bench_records.specs.Record.{Record, OP, AP, FL, FI, CL, RS, HS, BR, VE, NX, Reading, whole, bytes, u32, i64, format, after, reading}

-- ---- fields

-- n bytes at the front of an input
field : (n : ℕ) (then : Bytes → Bytes → Reading) (b rest : Bytes) → length b ≡ n → bytes n then (b ++ rest) ≡ then b rest
unfolding bytes
field n then b rest e =
    rw (le-leb n (length (b ++ rest)) (omega (arith, length-append b rest)), take_at b rest n e, drop_at b rest n e)

number : (k : ℕ) (then : ℕ → Bytes → Reading) (n : ℕ) (rest : Bytes) → n < 256 ^ k → bytes k (λ b. then (little b)) (digits k n ++ rest) ≡ then n rest
number k then n rest h =
    field k (λ b. then (little b)) (digits k n) rest (length_digits k n) ∙ ap (λ (m : ℕ). then m rest) (little-digits k n h)

signed : (then : ℤ → Bytes → Reading) (z : ℤ) (rest : Bytes) → SFits w64 z
    → bytes 8 (λ b. then (to_z w64 (little b))) (digits 8 (of_z w64 z) ++ rest) ≡ then z rest
signed then z rest h =
    number 8 (λ n. then (to_z w64 n)) (of_z w64 z) rest (Fits-of_z h).fits ∙ ap (λ (y : ℤ). then y rest) (to_z-of_z h)

-- ---- records

abbrev pub encode : Record → Bytes
encode (OP c capacity p) = ascii "OP" ++ (digits 2 c ++ (digits 4 capacity ++ digits 8 (of_z w64 p)))
encode (AP b) = ascii "AP" ++ (digits 2 (length b) ++ b)
encode FL = ascii "FL"
encode FI = ascii "FI"
encode CL = ascii "CL"
encode (RS n) = ascii "RS" ++ digits 8 (of_z w64 n)
encode (HS n) = ascii "HS" ++ digits 8 (of_z w64 n)
encode BR = ascii "BR"
encode (VE v) = ascii "VE" ++ digits 1 v
encode NX = ascii "NX"

-- the numbers that the fields hold
abbrev pub Fit : Record → Type 0
Fit (OP c capacity p) = (c < 2 ^ 16) × (capacity < 2 ^ 32) × SFits w64 p
Fit (AP b) = length b < 2 ^ 16
Fit FL = Unit {0}
Fit FI = Unit {0}
Fit CL = Unit {0}
Fit (RS n) = SFits w64 n
Fit (HS n) = SFits w64 n
Fit BR = Unit {0}
Fit (VE v) = v < 2 ^ 8
Fit NX = Unit {0}

mark : (a b : ℕ) (rest : Bytes) → reading (a ∷ b ∷ rest) ≡ after format (a ∷ b ∷ []) rest
unfolding reading
mark a b rest = field 2 (after format) (a ∷ b ∷ []) rest refl

pub read_back : (r : Record) (rest : Bytes) → Fit r → reading (encode r ++ rest) ≡ whole r rest
read_back (OP c capacity p) rest h =
    mark 79 80 _
    ∙ number 2 (λ c. u32 (λ n. i64 (λ p. whole (OP c n p)))) c (digits 4 capacity ++ (digits 8 (of_z w64 p) ++ rest)) h.0
    ∙ number 4 (λ n. i64 (λ p. whole (OP c n p))) capacity (digits 8 (of_z w64 p) ++ rest) h.1
    ∙ signed (λ p. whole (OP c capacity p)) p rest h.2
read_back (AP b) rest h =
    mark 65 80 _
    ∙ number 2 (λ n. bytes n (λ b. whole (AP b))) (length b) (b ++ rest) h
    ∙ field (length b) (λ b. whole (AP b)) b rest refl
read_back FL rest h = mark 70 76 rest
read_back FI rest h = mark 70 73 rest
read_back CL rest h = mark 67 76 rest
read_back (RS n) rest h = mark 82 83 _ ∙ signed (λ n. whole (RS n)) n rest h
read_back (HS n) rest h = mark 72 83 _ ∙ signed (λ n. whole (HS n)) n rest h
read_back BR rest h = mark 66 82 rest
read_back (VE v) rest h = mark 86 69 _ ∙ number 1 (λ v. whole (VE v)) v rest h
read_back NX rest h = mark 78 88 rest
