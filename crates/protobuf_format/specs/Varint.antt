-- Varints: groups of seven bits, the lowest group first. A byte of 128 or more says that another follows.
use Rattle.std.specs.Prelude.{cond, [], ◌∷◌, ℕ, zero, suc, ◌+◌, ◌*◌, ◌/◌, ◌%◌, ◌^◌, ltb}
use Rattle.std.proofs.Math.Option.{none, some}
use Rattle.protobuf_format.specs.Reading.{Bytes, Reading, ◌>>=◌}

-- at most k groups
unfoldable pub groups : ℕ → Bytes → Reading ℕ
groups zero input = none
groups (suc k) [] = none
groups (suc k) (b ∷ input) = cond (ltb b 128) (some (b, input)) (groups k input >>= λ (n, rest). some (b % 128 + 128 * n, rest))

-- a number of 64 bits in at most ten bytes, more than it needs too
unfoldable pub varint : Bytes → Reading ℕ
varint input = do
  (n, rest) ← groups 10 input
  cond (ltb n (2 ^ 64)) (some (n, rest)) none

-- as few groups as n needs, at most k
unfoldable pub groups_of : ℕ → ℕ → Bytes
groups_of zero n = []
groups_of (suc k) n = cond (ltb n 128) (n ∷ []) ((128 + n % 128) ∷ groups_of k (n / 128))

-- the shortest varint of a number of 64 bits
abbrev pub varint_of : ℕ → Bytes
varint_of n = groups_of 10 n
