-- Places, computed.
-- Assumes nothing.
use mathlib.Core.Path.{◌≡◌, refl}
use mathlib.Core.List.{[], ◌∷◌}
use Rattle.protobuf_format.specs.Reading.{Bytes}
use Rattle.protobuf_format.specs.Varint.{groups, varint}
use Rattle.protobuf_format.specs.Field.{part, read_value, read_field}
use Rattle.protobuf_reader.specs.Steps.{behind_of}
use Rattle.protobuf_reader.proofs.Grows.{behind_all}

-- field 1 is 5, field 2 one byte, and a key without its value
abbrev three : Bytes
three = 8 ∷ 5 ∷ 18 ∷ 1 ∷ 7 ∷ 8 ∷ []

-- the third is malformed; the bytes end at 6
places :
    (behind_of three 0 ≡ 2)
    × (behind_of three 2 ≡ 5)
    × (behind_of three 5 ≡ 5)
    × (behind_of three 6 ≡ 6)
    × (behind_of three 9 ≡ 9)
    × (behind_all 2 three 0 ≡ 5)
unfolding varint groups part read_value read_field behind_of
places = (refl, refl, refl, refl, refl, refl)
