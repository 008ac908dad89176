-- A length-delimited field.
use Rattle.std.specs.Prelude.{◌++◌, ℕ, ◌+◌, ◌*◌}
use Rattle.protobuf_format.specs.Reading.{Bytes}
use Rattle.protobuf_format.specs.Varint.{varint_of}

-- what stands before its n bytes
unfoldable pub head : ℕ → ℕ → Bytes
head number n = varint_of (number * 8 + 2) ++ varint_of n
