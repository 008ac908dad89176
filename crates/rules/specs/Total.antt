-- The byte total of document 01, as document 02 extends it, and the bound on stored bytes.
use Rattle.std.specs.Prelude.{◌≡◌, ◌+◌, ◌-◌, ◌≤◌}
use Rattle.rules.specs.Basics.{Option, none, some, ℕ, min, length, ℤ, pos, to_ℕ}
use Rattle.rules.specs.Message.{Bytes}
use Rattle.rules.specs.Session.{stored}
use Rattle.rules.specs.World.{World}
use Rattle.rules.specs.Program.{AlwaysSteps}
use Rattle.rules.specs.Calls.{Run, AlwaysSince}

-- ---- for any input

abbrev pub below : ℤ → ℕ → ℕ → ℕ  -- of n bytes from the offset `at` on, how many lie below p
below p at n = min n (to_ℕ p - at)

-- "released are the taken bytes whose offset is below P", "payload counted as taken". The payload lies from 0 on, what is taken after the opening b from
-- the write offset there on: two intervals, which P at the opening may keep apart.
abbrev pub below_p : Run → Run → ℕ
below_p b r =
    let p = r.session.worker.persisted_size in
    below p 0 (length b.notes.all) + below p (to_ℕ b.session.writer.write_offset) (length r.notes.all - length b.notes.all)

-- "bytes taken since opening = bytes released by reports + stored + held"
pub record Total (b r : Run) : Type 0 where
  pub total : length r.notes.all ≡ below_p b r + stored r.session + length r.session.writer.held
  -- and these are the bytes that the opening and the answers released
  pub released : r.notes.released ≡ below_p b r

-- "the byte total holds for every list of calls from an accepted opening without asking that sizes be true"
abbrev pub ByteTotal : Type 0
ByteTotal = AlwaysSince Total

-- "For any input stored never exceeds capacity + C − 1."
abbrev pub StoredBound : Type 0
StoredBound = AlwaysSince (λ b r. stored r.session ≤ b.session.worker.replay_buffer.capacity + b.session.limit - 1)

-- ---- under the server rules, where the two intervals touch

abbrev pub first_taken : Option Bytes → Bytes → ℕ  -- the offset of the first byte taken since opening
first_taken none object = length object
first_taken (some b) object = 0

pub record ServedTotal (from : ℕ) (w : World) : Type 0 where
  pub size : ℕ
  pub persisted : w.session.worker.persisted_size ≡ pos size
  pub total : length w.notes.all - from ≡ (min size (length w.notes.all) - from) + stored w.session + length w.session.writer.held
  pub released : w.notes.released ≡ min size (length w.notes.all) - from

abbrev pub ByteTotalServed : Type 0
ByteTotalServed = AlwaysSteps (λ o k w. ServedTotal (first_taken o.payload k.object) w)
