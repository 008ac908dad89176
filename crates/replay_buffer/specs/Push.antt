-- What a push promises.
use Rattle.std.specs.Prelude.{◌≡◌, List, [], ◌∷◌, ◌++◌, ℕ, ◌+◌, ◌≤◌, ◌<◌, ◌^◌, length, drop, pos}
use Rattle.rules.specs.Message.{Bytes}
use Rattle.ring.specs.Ring.{part}
use Rattle.replay_buffer.specs.View.{lent, queue_of, Fits, Sound}
use Rattle.replay_buffer.specs.declared.ReplayBuffer.{ReplayBuffer}

-- a slot is free for a chunk of n bytes, and the numbers stay in range
pub record Room (slots : ℕ) (b : ReplayBuffer) (n table : ℕ) : Type 0 where
  pub table_lent : slots ≤ table
  pub first_in : b.first < slots
  pub free : b.chunks < slots
  pub stored_in : b.unpersisted_bytes + n < 2 ^ 31

abbrev pub pushed : ReplayBuffer → ℕ → ReplayBuffer
pushed b n = record b { unpersisted_bytes = b.unpersisted_bytes + n; chunks = b.chunks + 1 }

-- a chunk of n bytes with a sum is pushed; its bytes stand behind the stored ones
pub record Pushes (slots : ℕ) (b : ReplayBuffer) (table : List ℕ) (n sum : ℕ) (r : ReplayBuffer) (table' : List ℕ) : Type 0 where
  -- for whatever the memory holds
  pub result_is : r ≡ pushed b n
  pub beyond : drop slots table' ≡ drop slots table
  pub fits : (size end store : ℕ) → Fits (lent size slots) b end store (length table) → b.unpersisted_bytes + n ≤ size → end + n < 2 ^ 63
      → Fits (lent size slots) r (end + n) store (length table)
  -- for what pushes and acknowledgements leave
  pub queue_is : (limit size end : ℕ) (store : Bytes) → Sound limit (lent size slots) b table → size ≤ length store
      → b.unpersisted_bytes + n ≤ size → b.unpersisted_bytes ≤ end
      → queue_of (lent size slots) r (end + n) store table'
      ≡ queue_of (lent size slots) b end store table
      ++ (record { write_offset = pos end; bytes = part size b.head b.unpersisted_bytes n store; crc32c = sum } ∷ [])
  pub sound : (limit size : ℕ) → Sound limit (lent size slots) b table → n ≤ limit → Sound limit (lent size slots) r table'
