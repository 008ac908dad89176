-- Varints, fields and messages, computed. The bytes are worked out from the encoding's rules; 300, 150 and "testing" are those of its guide.
-- Assumes nothing.
use mathlib.Core.Path.{◌≡◌, refl}
use mathlib.Core.Bool.{true, false}
use mathlib.Core.List.{List, [], ◌∷◌, ◌++◌}
use mathlib.Core.Option.{none, some}
use Prim.Native.Nat.{ℕ, zero, suc, ◌-◌, ◌^◌}
use Rattle.protobuf_format.specs.Reading.{Bytes}
use Rattle.protobuf_format.specs.Varint.{groups, varint, groups_of, varint_of}
use Rattle.protobuf_format.specs.Field.{int, fixed64, bytes, fixed32, field, part, read_value, read_field, read_fields, fields, value_bytes, field_bytes, write}
use Rattle.protobuf_format.specs.Slot.{plain_int, plain_bool, plain_bytes, optional}
use Rattle.protobuf_format.specs.Message.{Row, row, as_int, as_bytes, as_fixed32, put, put_all, merge}

-- n bytes that are b
abbrev many : ℕ → ℕ → Bytes
many zero b = []
many (suc n) b = b ∷ many n b

-- ---- varints

written :
    (varint_of 0 ≡ 0 ∷ [])
    × (varint_of 1 ≡ 1 ∷ [])
    × (varint_of 127 ≡ 127 ∷ [])
    × (varint_of 128 ≡ 128 ∷ 1 ∷ [])
    × (varint_of 300 ≡ 172 ∷ 2 ∷ [])
    × (varint_of (2 ^ 64 - 1) ≡ many 9 255 ++ (1 ∷ []))
unfolding groups_of
written = (refl, refl, refl, refl, refl, refl)

-- what follows is left
read : varint (172 ∷ 2 ∷ 7 ∷ []) ≡ some (300, 7 ∷ [])
unfolding varint groups
read = refl

-- more bytes than the number needs, up to ten
longer :
    (varint (133 ∷ 128 ∷ 0 ∷ []) ≡ some (5, []))
    × (varint (many 9 128 ++ (0 ∷ [])) ≡ some (0, []))
unfolding varint groups
longer = (refl, refl)

-- the tenth byte has the 64th bit alone
greatest :
    (varint (many 9 255 ++ (1 ∷ [])) ≡ some (2 ^ 64 - 1, []))
    × (varint (many 9 255 ++ (2 ∷ [])) ≡ none)
    × (varint (many 9 128 ++ (2 ∷ [])) ≡ none)
unfolding varint groups
greatest = (refl, refl, refl)

eleven_bytes : varint (many 10 128 ++ (0 ∷ [])) ≡ none
unfolding varint groups
eleven_bytes = refl

cut-varint : (varint [] ≡ none) × (varint (172 ∷ []) ≡ none)
unfolding varint groups
cut-varint = (refl, refl)

-- ---- fields

each_type :
    (read_field (8 ∷ 150 ∷ 1 ∷ 7 ∷ []) ≡ some (field 1 (int 150), 7 ∷ []))
    × (read_field (18 ∷ 7 ∷ 116 ∷ 101 ∷ 115 ∷ 116 ∷ 105 ∷ 110 ∷ 103 ∷ []) ≡ some (field 2 (bytes (116 ∷ 101 ∷ 115 ∷ 116 ∷ 105 ∷ 110 ∷ 103 ∷ [])), []))
    × (read_field (29 ∷ 1 ∷ 2 ∷ 0 ∷ 0 ∷ []) ≡ some (field 3 (fixed32 513), []))
    × (read_field (25 ∷ 1 ∷ 2 ∷ 0 ∷ 0 ∷ 0 ∷ 0 ∷ 0 ∷ 0 ∷ []) ≡ some (field 3 (fixed64 513), []))
unfolding varint groups part read_value read_field
each_type = (refl, refl, refl, refl)

-- the numbers 0 and 2^29 are none that a field may have, 1 and 2^29 - 1 are
numbers :
    (read_field (0 ∷ 5 ∷ []) ≡ none)
    × (read_field (8 ∷ 5 ∷ []) ≡ some (field 1 (int 5), []))
    × (read_field (248 ∷ 255 ∷ 255 ∷ 255 ∷ 15 ∷ 5 ∷ []) ≡ some (field (2 ^ 29 - 1) (int 5), []))
    × (read_field (128 ∷ 128 ∷ 128 ∷ 128 ∷ 16 ∷ 5 ∷ []) ≡ none)
unfolding varint groups part read_value read_field
numbers = (refl, refl, refl, refl)

-- a group's begin and its end, and the types 6 and 7
no_type :
    (read_field (11 ∷ many 8 12) ≡ none)
    × (read_field (many 9 12) ≡ none)
    × (read_field (14 ∷ many 8 0) ≡ none)
    × (read_field (15 ∷ many 8 0) ≡ none)
unfolding varint groups part read_value read_field
no_type = (refl, refl, refl, refl)

-- each type's value, one byte short
cut_field :
    (read_field (8 ∷ []) ≡ none)
    × (read_field (9 ∷ many 7 0) ≡ none)
    × (read_field (10 ∷ 3 ∷ many 2 0) ≡ none)
    × (read_field (13 ∷ many 3 0) ≡ none)
unfolding varint groups part read_value read_field
cut_field = (refl, refl, refl, refl)

-- a field cut behind a whole one
all_fields :
    (fields [] ≡ some [])
    × (fields (8 ∷ 5 ∷ 18 ∷ 0 ∷ []) ≡ some (field 1 (int 5) ∷ field 2 (bytes []) ∷ []))
    × (fields (8 ∷ 5 ∷ 18 ∷ []) ≡ none)
unfolding varint groups part read_value read_field read_fields fields
all_fields = (refl, refl, refl)

in_order : write (field 1 (int 5) ∷ field 2 (bytes []) ∷ []) ≡ 8 ∷ 5 ∷ 18 ∷ 0 ∷ []
unfolding groups_of value_bytes field_bytes write
in_order = refl

-- ---- defaults

absent :
    (write (plain_int 1 0) ≡ [])
    × (write (plain_bool 1 false) ≡ [])
    × (write (plain_bytes 1 []) ≡ [])
    × (write (optional 1 fixed32 none) ≡ [])
unfolding write
absent = (refl, refl, refl, refl)

present :
    (write (plain_int 1 300) ≡ 8 ∷ 172 ∷ 2 ∷ [])
    × (write (plain_bool 1 true) ≡ 8 ∷ 1 ∷ [])
    × (write (plain_bytes 1 (7 ∷ [])) ≡ 10 ∷ 1 ∷ 7 ∷ [])
    × (write (optional 1 fixed32 (some 0)) ≡ 13 ∷ 0 ∷ 0 ∷ 0 ∷ 0 ∷ [])
unfolding groups_of value_bytes field_bytes write
present = (refl, refl, refl, refl)

-- ---- messages of one number: field 1 as a varint, 2 as four bytes, 3 as a message of the same type

abbrev inner : List (Row ℕ)
inner = row 1 (as_int (λ n m. n)) ∷ row 2 (as_fixed32 (λ n m. n)) ∷ []

abbrev rows : List (Row ℕ)
rows = row 3 (as_bytes (λ b m. merge inner b m)) ∷ inner

last_wins :
    (merge rows (8 ∷ 5 ∷ 21 ∷ 6 ∷ 0 ∷ 0 ∷ 0 ∷ 8 ∷ 7 ∷ []) 0 ≡ some 7)
    × (merge rows (8 ∷ 5 ∷ 26 ∷ 2 ∷ 8 ∷ 6 ∷ []) 0 ≡ some 6)
unfolding varint groups part read_value read_field read_fields fields put put_all merge
last_wins = (refl, refl)

-- nothing in it changes nothing
merged : (merge rows [] 5 ≡ some 5) × (merge rows (26 ∷ 0 ∷ []) 5 ≡ some 5)
unfolding varint groups part read_value read_field read_fields fields put put_all merge
merged = (refl, refl)

-- field 4 is none of the type's, and is malformed all the same
skipped :
    (merge rows (8 ∷ 5 ∷ 32 ∷ 9 ∷ []) 0 ≡ some 5)
    × (merge rows (8 ∷ 5 ∷ 35 ∷ 36 ∷ []) 0 ≡ none)
unfolding varint groups part read_value read_field read_fields fields put put_all merge
skipped = (refl, refl)

other_type :
    (merge rows (10 ∷ 0 ∷ []) 0 ≡ none)
    × (merge rows (13 ∷ many 4 0) 0 ≡ none)
    × (merge rows (16 ∷ 0 ∷ []) 0 ≡ none)
    × (merge rows (24 ∷ 0 ∷ []) 0 ≡ none)
    × (merge rows (29 ∷ many 4 0) 0 ≡ none)
unfolding varint groups part read_value read_field read_fields fields put put_all merge
other_type = (refl, refl, refl, refl, refl)
