-- What the reading of a chunk for a replay promises.
use Rattle.std.specs.Prelude.{◌≡◌, cond, ◌||◌, List, ◌++◌, ℕ, ◌+◌, ◌-◌, ◌≤◌, ◌<◌, leb, ltb, pos, length, take, drop, get_or}
use Rattle.std.proofs.Math.Option.{some}
use Rattle.std.proofs.Math.ListN.{get_elem?}
use Rattle.rules.specs.Message.{Bytes}
use Rattle.rules.specs.Session.{ReplayChunk}
use Rattle.ring.specs.Ring.{ring, part}
use Rattle.chunk_words.specs.Word.{len_of, sum_of}
use Rattle.replay_buffer.specs.View.{Lent, total, words_of, queue_of, Sound}
use Rattle.replay_buffer.specs.declared.ReplayBuffer.{ReplayBuffer}
use Rattle.replay_buffer.specs.declared.Chunk.{Chunk}

-- the chunk whose bytes stand at the front of an out buffer
abbrev pub chunk_in : Chunk → Bytes → ReplayChunk
chunk_in c out = record { write_offset = c.write_offset.0; bytes = take c.length out; crc32c = c.crc32c }

-- an empty chunk at 0
abbrev pub no_chunk : Chunk
no_chunk = record { write_offset = record { 0 = pos 0 }; length = 0; crc32c = 0 }

-- what is read where the word is w: a chunk that is not there, that `out` bytes don't hold, or that is not all stored is none
unfoldable pub read_at : ReplayBuffer → ℕ → ℕ → (next at out : ℕ) → Chunk
read_at b end w next at out =
    cond (leb b.chunks next || ltb out (len_of w) || ltb b.unpersisted_bytes (at + len_of w)) no_chunk
    (record { write_offset = record { 0 = pos (end - b.unpersisted_bytes + at) }; length = len_of w; crc32c = sum_of w })

-- the chunk with `next` before it, which have `at` bytes
pub record Replays (m : Lent) (b : ReplayBuffer) (end : ℕ) (store : Bytes) (table : List ℕ) (next at : ℕ) (out : Bytes) (r : Chunk) (out' : Bytes) : Type 0 where
  -- for whatever the memory holds
  pub read_is : r ≡ read_at b end (get_or (ring m.slots b.first table) next 0) next at (length out)
  pub in_out : r.length ≤ length out
  pub out_is : out' ≡ part m.size b.head at r.length store ++ drop r.length out
  -- for what pushes and acknowledgements leave
  pub chunk_is : (limit : ℕ) → Sound limit m b table → limit ≤ length out → next < b.chunks → at ≡ total (take next (words_of m b table))
      → get_elem? (queue_of m b end store table) next ≡ some (chunk_in r out')
  pub next_at : (limit : ℕ) → Sound limit m b table → limit ≤ length out → next < b.chunks → at ≡ total (take next (words_of m b table))
      → at + r.length ≡ total (take (next + 1) (words_of m b table))
