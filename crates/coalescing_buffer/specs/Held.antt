-- Held bytes: a part of the ring, `held` bytes behind the `stored` ones.
use Rattle.std.specs.Prelude.{◌≡◌, Bool, ◌++◌, ℕ, ◌+◌, ◌-◌, min, leb, length, take, drop}
use Rattle.rules.specs.Message.{Bytes}
use Rattle.ring.specs.Ring.{part}

-- ---- one call with data d, where a chunk has at most `limit` bytes

abbrev pub takes : ℕ → Bytes → Bytes → ℕ
takes limit held d = min (length d) (limit - length held)

abbrev pub holds : ℕ → Bytes → Bytes → Bytes
holds limit held d = held ++ take (takes limit held d) d

-- what is held then is a chunk
abbrev pub cuts : ℕ → Bytes → Bytes → Bool
cuts limit held d = leb limit (length (holds limit held d))

-- the first n bytes of d are held too; the stored ones and what is lent beyond the ring are as they were
pub record Extends (size head stored held : ℕ) (d : Bytes) (n : ℕ) (before after : Bytes) : Type 0 where
  pub held_is : part size head stored (held + n) after ≡ part size head stored held before ++ take n d
  pub stored_is : part size head 0 stored after ≡ part size head 0 stored before
  pub beyond : drop size after ≡ drop size before
