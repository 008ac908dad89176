-- Append: what its private function asks. What a caller is promised is `Promise` alone.
use Rattle.std.specs.Prelude.{◌≡◌, Bool, ◌&&◌, ℕ, ◌+◌, ◌-◌, ◌<◌, min, length, leb}
use Rattle.rules.specs.Message.{Bytes}
use Rattle.rules.specs.Session as R
use Rattle.admission.specs.Rows.{upload_tests}
use Rattle.transport.specs.View.{phase_of}
use Rattle.std.specs.declared.result.Result.{Result}
use Rattle.std.specs.Prelude.{Ok}
use Rattle.bidi_write.specs.declared.Refusal.{Refusal}
use Rattle.transport.specs.declared.Session.{Session}

abbrev pub append_tests : Session → (n out : ℕ) → Bool → Result (Unit {0}) Refusal
append_tests s n out cuts =
    upload_tests (R.phase_number (phase_of s.phase)) s.worker.finalized s.limit s.worker.replay_buffer.capacity
    s.worker.replay_buffer.unpersisted_bytes s.write_offset.0 cuts cuts (s.held + n) out
    (cuts && leb s.slots s.worker.replay_buffer.chunks)

-- an append of the first n bytes of d, which cuts a chunk or not, goes on
pub record Taking (s : Session) (d : Bytes) (out n : ℕ) (cuts : Bool) : Type 0 where
  pub some_given : 0 < length d
  pub taken : n ≡ min (length d) (s.limit - s.held)
  pub cuts_is : cuts ≡ leb s.limit (s.held + n)
  pub goes : append_tests s n out cuts ≡ Ok tt
