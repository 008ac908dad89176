-- What an accepted opening gives and every call keeps.
use Rattle.std.specs.Prelude.{◌≡◌, Bool, true, false, List, ℕ, ◌+◌, ◌*◌, ◌<◌, ◌≤◌, ◌^◌, length, take, ℤ, pos}
use Rattle.std.specs.Int.Signed.{lt_z}
use Rattle.rules.specs.Limits.{max_chunk, max_capacity, max_waiters, max_redirects}
use Rattle.rules.specs.Message.{Bytes}
use Rattle.rules.specs.Session as R
use Rattle.bidi_write.specs.Numbers.{to_ℕ}
use Rattle.std.specs.declared.result.Result.{Result}
use Rattle.std.specs.Prelude.{Ok, Err}
use Rattle.bidi_write.specs.declared.Refusal.{Refusal}
use Rattle.bidi_write.specs.declared.Refusal.TheVariants as refusal
use Rattle.state.specs.View.{SpecFits}
use Rattle.replay_buffer.specs.View.{words_of, total, Sound}
use Rattle.replay_buffer.specs.declared.ReplayBuffer.{ReplayBuffer}
use Rattle.worker.specs.View.{waiters_of}
use Rattle.worker.specs.declared.Worker.{Worker}
use Rattle.transport.specs.View.{phase_of, ring_size, lent_of}
use Rattle.transport.specs.declared.Phase.{Phase}
use Rattle.transport.specs.declared.Phase.TheVariants as phase
use Rattle.transport.specs.declared.Session.{Session}

-- What the guard at the head of every call tests: the numbers of a record stay within a store and a table of these lengths. It is all that safety needs, for
-- a record or memory that no call left too.
pub record Guarded (limit slots held : ℕ) (offset : ℤ) (b : ReplayBuffer) (waiting store table : ℕ) : Type 0 where
  pub limit_some : 0 < limit
  pub limit_top : limit ≤ max_chunk
  pub capacity_low : 2 * limit + 1 ≤ b.capacity
  pub capacity_top : b.capacity ≤ max_capacity
  pub store_lent : ring_size limit b ≤ store
  pub table_lent : slots ≤ table
  pub head_in : b.head < ring_size limit b
  pub stored_in : b.unpersisted_bytes < b.capacity + limit
  pub held_in : held < limit
  pub first_in : b.first < slots
  pub chunks_in : b.chunks ≤ slots
  pub waiting_in : waiting ≤ max_waiters
  pub offset_in : lt_z offset (pos 0) ≡ false
  pub offset_top : to_ℕ offset < 2 ^ 63
  pub started : b.unpersisted_bytes ≤ to_ℕ offset

abbrev pub GuardedAt : Session → ℕ → ℕ → Type 0
GuardedAt s store table =
    Guarded s.limit s.slots s.held s.write_offset.0 s.worker.replay_buffer s.worker.pending_requests.count store table

abbrev pub marked : Bool → ℕ
marked true = 1
marked false = 0

-- what a replay hands out behind the chunks: the waiting requests, and a bare flush once it is marked
abbrev pub owed : Worker → ℕ
owed w = w.pending_requests.count + marked w.self_flush_outstanding

-- where a replay stands: the bytes of the chunks before the next
abbrev pub CursorAt : Phase → List ℕ → ℕ → Type 0
CursorAt phase.Live words owing = Unit {0}
CursorAt phase.Closing words owing = Unit {0}
CursorAt phase.Connecting words owing = Unit {0}
CursorAt (phase.Verdict r) words owing = Unit {0}
CursorAt (phase.Replay c) words owing = (c.bytes ≡ total (take c.next words)) × (c.next ≤ length words + owing)
CursorAt (phase.Ended c) words owing = Unit {0}

pub record Valid (s : Session) (store : Bytes) (table : List ℕ) : Type 0 where
  pub guarded : GuardedAt s (length store) (length table)
  -- as every slice's length
  pub slots_in : s.slots < 2 ^ 63
  pub sound : Sound s.limit (lent_of s) s.worker.replay_buffer table
  pub waiting_is : length (waiters_of s.worker.pending_requests) ≡ s.worker.pending_requests.count
  pub spec_fits : SpecFits s.worker.connector.spec
  -- the fourth redirect ends the session
  pub followed : R.is_ended (phase_of s.phase) ≡ false → s.worker.connector.redirects_followed ≤ max_redirects
  pub cursor : CursorAt s.phase (words_of (lent_of s) s.worker.replay_buffer table) (owed s.worker)

-- a test that decides a proposition
pub record Decides (P : Type 0) (b : Bool) : Type 0 where
  pub yes : b ≡ true → P
  pub no : b ≡ false → P → ⊥

-- what is asked before memory is touched: 7 whatever is lent, then 2 where the numbers don't fit
pub record Enters (s : Session) (store table : ℕ) (r : Result (Unit {0}) Refusal) : Type 0 where
  pub over : R.is_ended (phase_of s.phase) ≡ true → r ≡ Err refusal.Ended
  pub unfit : R.is_ended (phase_of s.phase) ≡ false → (GuardedAt s store table → ⊥) → r ≡ Err refusal.ShortMemory
  pub fits : R.is_ended (phase_of s.phase) ≡ false → GuardedAt s store table → r ≡ Ok tt
  pub goes : r ≡ Ok tt → (R.is_ended (phase_of s.phase) ≡ false) × GuardedAt s store table
