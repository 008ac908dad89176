-- How much was released, by the numbers of the session's record.
use Rattle.std.specs.Prelude.{◌≡◌, List, ℕ, ◌+◌}
use Rattle.rules.specs.Message.{Bytes}
use Rattle.rules.specs.Session as R
use Rattle.rules.specs.Opening as O
use Rattle.rules.specs.Released.{ReleasedBy}
use Rattle.rules.specs.Calls.{begin}
use Rattle.bidi_write.specs.View.{given}
use Rattle.transport.specs.View.{Left, released}
use Rattle.transport.specs.Claim.{Memory, view_of, ValidAt}
use Rattle.transport.specs.declared.Session.{Session}
use Rattle.claims.specs.Claim.{Begins}

abbrev pub stored_in : Session → ℕ
stored_in s = s.worker.replay_buffer.unpersisted_bytes

-- every call on a session that an opening and calls left. Says: what is known of the call.
abbrev pub AlwaysReleased : (R.Call → Memory → Bytes → Left → Bytes → List ℕ → Bytes → Type 0) → Type 0
AlwaysReleased Says =
    (c : R.Call) (m : Memory) (out : Bytes) (o : Left) (store : Bytes) (table : List ℕ) (out' : Bytes) → Says c m out o store table out'
    → ValidAt m → ReleasedBy c (released o.answer) (stored_in m.session) (stored_in o.session)

-- an accepted opening
pub record OpeningReleased (o : O.Opening) (m : Memory) (b : Begins o m) : Type 0 where
  -- "the opening does so for its payload"
  pub payload : b.opened.released + stored_in m.session ≡ O.payload_length (given b.opening.has_payload b.beside.payload)
  -- the notes of what was released begin with it
  pub noted : (begin o (view_of m)).notes.released ≡ b.opened.released

abbrev pub AlwaysOpeningReleased : Type 0
AlwaysOpeningReleased = (o : O.Opening) (m : Memory) (b : Begins o m) → OpeningReleased o m b
