-- "The bench program": the records that it reads.
use Rattle.std.specs.Prelude.{Bool, true, false, cond, ◌&&◌, List, [], ◌∷◌, ℕ, length, take, drop, leb, eqb, ℤ}
use Prim.Native.String.{String}
use Rattle.std.specs.Int.{w64}
use Rattle.std.proofs.Common.{to_z}
use Rattle.little_endian.specs.Little.{little}
use Rattle.rules.specs.Message.{Bytes}
use Rattle.text.specs.Ascii.{ascii}

pub data Record : Type 0 where
  OP : ℕ → ℕ → ℤ → Record
  AP : Bytes → Record
  FL FI CL : Record
  RS HS : ℤ → Record
  BR : Record
  VE : ℕ → Record
  NX : Record

-- what an input begins with: a record and the rest of the input, a record that the input cuts, or no mark
pub data Reading : Type 0 where
  whole : Record → Bytes → Reading
  cut unknown : Reading

-- ---- fields. Each hands its value and the rest of the input to what reads on.

-- n bytes
unfoldable pub bytes : ℕ → (Bytes → Bytes → Reading) → Bytes → Reading
bytes n then input = cond (leb n (length input)) (then (take n input) (drop n input)) cut

-- numbers, "little-endian"
abbrev pub u8 : (ℕ → Bytes → Reading) → Bytes → Reading
u8 then = bytes 1 (λ b. then (little b))

abbrev pub u16 : (ℕ → Bytes → Reading) → Bytes → Reading
u16 then = bytes 2 (λ b. then (little b))

abbrev pub u32 : (ℕ → Bytes → Reading) → Bytes → Reading
u32 then = bytes 4 (λ b. then (little b))

-- the 64 bits as a signed number
abbrev pub i64 : (ℤ → Bytes → Reading) → Bytes → Reading
i64 then = bytes 8 (λ b. then (to_z w64 (little b)))

-- ---- the format

-- a mark, and what reads the fields that follow it
pub record Row : Type 0 where
  pub mark : Bytes
  pub fields : Bytes → Reading

abbrev pub row : String → (Bytes → Reading) → Row
row mark fields = record { mark = ascii mark; fields = fields }

-- "OP (C as u16, capacity u32, P i64), AP (u16 length, bytes), FL, FI, CL, RS and HS (i64 size), BR (end of stream), VE (u8), NX"
abbrev pub format : List Row
format =
    row "OP" (u16 (λ c. u32 (λ capacity. i64 (λ p. whole (OP c capacity p)))))
    ∷ row "AP" (u16 (λ length. bytes length (λ b. whole (AP b))))
    ∷ row "FL" (whole FL)
    ∷ row "FI" (whole FI)
    ∷ row "CL" (whole CL)
    ∷ row "RS" (i64 (λ size. whole (RS size)))
    ∷ row "HS" (i64 (λ size. whole (HS size)))
    ∷ row "BR" (whole BR)
    ∷ row "VE" (u8 (λ verdict. whole (VE verdict)))
    ∷ row "NX" (whole NX)
    ∷ []

abbrev pub same : Bytes → Bytes → Bool
same [] [] = true
same [] (b ∷ bt) = false
same (a ∷ at) [] = false
same (a ∷ at) (b ∷ bt) = eqb a b && same at bt

-- what follows a mark
abbrev pub after : List Row → Bytes → Bytes → Reading
after [] mark rest = unknown
after (r ∷ rows) mark rest = cond (same r.mark mark) (r.fields rest) (after rows mark rest)

-- "records, each begun by a two-byte mark"
unfoldable pub reading : Bytes → Reading
reading = bytes 2 (after format)
