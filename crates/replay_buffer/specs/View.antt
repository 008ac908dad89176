-- The replay buffer of the code, with the lent store and table, as the rules' list of chunks.
use Rattle.std.specs.Prelude.{◌≡◌, List, [], ◌∷◌, ℕ, ◌+◌, ◌-◌, ◌≤◌, ◌<◌, ◌^◌, take, drop, pos}
use Rattle.rules.specs.Message.{Bytes}
use Rattle.rules.specs.Session.{ReplayChunk}
use Rattle.rules.specs.Basics.{All}
use Rattle.ring.specs.Ring.{part}
use Rattle.chunk_words.specs.Word.{len_of, sum_of}
use Rattle.replay_buffer.specs.declared.ReplayBuffer.{ReplayBuffer}

-- how the memory is lent: the ring's bytes at the front of the store, the slots at the front of the table
pub record Lent : Type 0 where
  pub size : ℕ
  pub slots : ℕ

abbrev pub lent : ℕ → ℕ → Lent
lent size slots = record { size = size; slots = slots }

-- the chunks that a table's words cut out of the bytes, the first at offset o
abbrev pub chunks_of : ℕ → List ℕ → Bytes → List ReplayChunk
chunks_of o [] bs = []
chunks_of o (w ∷ ws) bs =
    record { write_offset = pos o; bytes = take (len_of w) bs; crc32c = sum_of w } ∷ chunks_of (o + len_of w) ws (drop (len_of w) bs)

-- the bytes of the chunks that the words name
abbrev pub total : List ℕ → ℕ
total [] = 0
total (w ∷ ws) = len_of w + total ws

abbrev pub words_of : Lent → ReplayBuffer → List ℕ → List ℕ
words_of m b table = part m.slots b.first 0 b.chunks table

abbrev pub stored_of : Lent → ReplayBuffer → Bytes → Bytes
stored_of m b store = part m.size b.head 0 b.unpersisted_bytes store

-- the chunks, the last of which ends at the write offset
unfoldable pub queue_of : Lent → ReplayBuffer → ℕ → Bytes → List ℕ → List ReplayChunk
queue_of m b end store table = chunks_of (end - b.unpersisted_bytes) (words_of m b table) (stored_of m b store)

-- the numbers stay within what is lent: what a call needs to be safe, whatever the memory holds
pub record Fits (m : Lent) (b : ReplayBuffer) (end store table : ℕ) : Type 0 where
  pub store_lent : m.size ≤ store
  pub table_lent : m.slots ≤ table
  pub head_in : b.head < m.size
  pub stored_in : b.unpersisted_bytes ≤ m.size
  pub first_in : b.first < m.slots
  pub chunks_in : b.chunks ≤ m.slots
  pub started : b.unpersisted_bytes ≤ end
  pub end_in : end < 2 ^ 63
  pub size_in : m.size < 2 ^ 31

-- what pushes and acknowledgements leave: the words name the stored bytes, each at most C of them
pub record Sound (limit : ℕ) (m : Lent) (b : ReplayBuffer) (table : List ℕ) : Type 0 where
  pub stored_is : total (words_of m b table) ≡ b.unpersisted_bytes
  pub small : All (λ (w : ℕ). len_of w ≤ limit) (words_of m b table)
