-- The tables of the register eight bytes a turn.
use Rattle.std.specs.Prelude.{◌≡◌, ℕ, ◌+◌, ◌*◌, ◌<◌, List, slice_index}
use Rattle.crc32c.specs.Reg.{steps}

-- sixteen rows of 16, one after the other: in the row k, what 4 (k + 1) steps do to each half-byte
pub record HalfByteTable (t : List ℕ) : Type 0 where
  pub right : (k x : ℕ) → k < 16 → x < 16 → slice_index t (k * 16 + x) ≡ steps (4 * (k + 1)) x
