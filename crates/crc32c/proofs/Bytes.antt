-- Lists of bytes: joined, and from what is known of each element of a slice.
-- Assumes nothing.
use Rattle.std.proofs.Common.{ℕ, suc, ◌<◌, List, [], ◌∷◌, ◌++◌, get_or}
use Rattle.crc32c.specs.Bytes.{Bytes}

pub bytes_of : (bs : List ℕ) → ((i : ℕ) → get_or bs i 0 < 256) → Bytes bs
bytes_of [] h = tt
bytes_of (b ∷ bs) h = (h 0, bytes_of bs (λ i. h (suc i)))

pub bytes-append : (a b : List ℕ) → Bytes a → Bytes b → Bytes (a ++ b)
bytes-append [] b ha hb = hb
bytes-append (x ∷ a) b ha hb = (ha.0, bytes-append a b ha.1 hb)
