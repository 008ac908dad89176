-- What an acknowledgement promises, and what its parts do.
use Rattle.std.specs.Prelude.{◌≡◌, Bool, true, false, List, [], ◌∷◌, ℕ, ◌+◌, ◌-◌, ◌≤◌, ℤ, pos, ◌+ℤ◌, length, drop}
use Rattle.std.specs.Int.Signed.{le_z}
use Rattle.rules.specs.Message.{Bytes}
use Rattle.rules.specs.Respond as R
use Rattle.ring.specs.Ring.{wrapped, part}
use Rattle.chunk_words.specs.Word.{len_of}
use Rattle.replay_buffer.specs.View.{Lent, words_of, queue_of, Fits, Sound}
use Rattle.replay_buffer.specs.declared.ReplayBuffer.{ReplayBuffer}
use Rattle.replay_buffer.specs.declared.Acked.{Acked}
use Rattle.replay_buffer.specs.declared.Front.{Front}

-- what a release leaves as it was, whatever the memory holds
pub record Keeps (m : Lent) (b : ReplayBuffer) (end : ℕ) (store : Bytes) (table : List ℕ) (r : ReplayBuffer) (table' : List ℕ) : Type 0 where
  pub fits : Fits m r end (length store) (length table)
  pub capacity_is : r.capacity ≡ b.capacity
  pub stored_le : r.unpersisted_bytes ≤ b.unpersisted_bytes
  pub chunks_le : r.chunks ≤ b.chunks
  pub beyond : drop m.slots table' ≡ drop m.slots table
  -- the h bytes behind the stored ones
  pub held_is : (h : ℕ) → b.unpersisted_bytes + h ≤ m.size
      → part m.size r.head r.unpersisted_bytes h store ≡ part m.size b.head b.unpersisted_bytes h store

pub record Acks (m : Lent) (b : ReplayBuffer) (end : ℕ) (store : Bytes) (table : List ℕ) (persisted : ℤ) (r : Acked) (table' : List ℕ) : Type 0 where
  pub keeps : Keeps m b end store table r.buffer table'
  -- "The number is the stored total before less the stored total after", whatever the memory holds.
  pub released_is : r.released ≡ b.unpersisted_bytes - r.buffer.unpersisted_bytes
  -- for what pushes and acknowledgements leave
  pub queue_is : (limit : ℕ) → Sound limit m b table → queue_of m r.buffer end store table' ≡ R.ack persisted (queue_of m b end store table)
  pub sound : (limit : ℕ) → Sound limit m b table → Sound limit m r.buffer table'

-- ---- its parts

abbrev pub nothing : Front
nothing = record { chunks = 0; bytes = 0 }

-- i chunks of n bytes, and then those of f
abbrev pub after : ℕ → ℕ → Front → Front
after i n f = record { chunks = i + f.chunks; bytes = n + f.bytes }

abbrev pub pick_front : Bool → Front → Front → Front
pick_front true f g = f
pick_front false f g = g

-- the chunks that end at or below p, where the words' first begins at o
abbrev pub front_of : ℤ → ℤ → List ℕ → Front
front_of p o [] = nothing
front_of p o (w ∷ ws) = pick_front (le_z (o +ℤ pos (len_of w)) p) (after 1 (len_of w) (front_of p (o +ℤ pos (len_of w)) ws)) nothing

-- f is within what is stored
pub record Stored (b : ReplayBuffer) (f : Front) : Type 0 where
  pub chunks_in : f.chunks ≤ b.chunks
  pub bytes_in : f.bytes ≤ b.unpersisted_bytes

-- the buffer less f
unfoldable pub advanced : Lent → ReplayBuffer → Front → ReplayBuffer
advanced m b f = record b {
  head = wrapped m.size (b.head + f.bytes);
  unpersisted_bytes = b.unpersisted_bytes - f.bytes;
  first = wrapped m.slots (b.first + f.chunks);
  chunks = b.chunks - f.chunks;
}

-- the first chunk, if there is one, ends above p
abbrev pub Above : ℤ → ℕ → List ℕ → Type 0
Above p o [] = Unit {0}
Above p o (w ∷ ws) = le_z (pos (o + len_of w)) p ≡ false

-- the front chunk, which ends above p, is trimmed to it
pub record Trims (m : Lent) (b : ReplayBuffer) (end : ℕ) (store : Bytes) (table : List ℕ) (p : ℤ) (r : ReplayBuffer) (table' : List ℕ) : Type 0 where
  pub keeps : Keeps m b end store table r table'
  pub queue_is : (limit : ℕ) → Sound limit m b table → Above p (end - b.unpersisted_bytes) (words_of m b table)
      → queue_of m r end store table' ≡ R.ack p (queue_of m b end store table)
  pub sound : (limit : ℕ) → Sound limit m b table → Above p (end - b.unpersisted_bytes) (words_of m b table) → Sound limit m r table'
