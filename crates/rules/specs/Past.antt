-- A report past the end, of every call and session: document 02.
use Rattle.std.specs.Prelude.{◌≡◌, ◌&&◌}
use Rattle.rules.specs.Basics.{Bool, true, false, not, Option, none, some, [], length, ℤ, lt_z}
use Rattle.rules.specs.Spec.{AppendObjectSpec, noted}
use Rattle.rules.specs.Session.{Cause, finished, regressed, beyond, already_finalized, permanent, exhausted, given_up, stream_error, ended, Session, Call, append, flush, finalise, next_request, close, send_failed, response, handshake, break, judge, failed_attempt, Answer, refused, took, sends, waits, completes, attempt, ok, done, ends, Result, waiters}
use Rattle.rules.specs.Respond.{above_end}
use Rattle.rules.specs.Step.{step}
use Rattle.rules.specs.Notes.{accepted, brings}

abbrev pub is_past : Option ℤ → Session → Bool  -- a stated size that is not below P, and above the pushed end
is_past none s = false
is_past (some n) s = not (lt_z n s.worker.persisted_size) && above_end n s

abbrev pub is_beyond : Cause → Bool
is_beyond = elim [ finished ↦ false | regressed ↦ false | beyond ↦ true | already_finalized ↦ false | permanent ↦ false | exhausted ↦ false | given_up ↦ false | stream_error ↦ false ]

abbrev pub ends_beyond : Answer → Bool
ends_beyond = elim [ refused n ↦ false | took n r ↦ false | sends r ↦ false | waits r n ↦ false | completes k n r ↦ false | attempt n ↦ false | ok ↦ false | done ↦ false | ends c k n f ↦ is_beyond c ]

-- the spec, as a response or handshake updates it
abbrev pub spec_with : Call → AppendObjectSpec → AppendObjectSpec
spec_with (response m) a = noted m a
spec_with (handshake m) a = noted m a
spec_with (append d out) a = a
spec_with (flush out) a = a
spec_with (finalise out) a = a
spec_with (next_request out) a = a
spec_with close a = a
spec_with send_failed a = a
spec_with (break b) a = a
spec_with (judge v) a = a
spec_with (failed_attempt b v) a = a

-- "after the spec update ..; P and the store keep their contents and every waiter fails." The counters and the mark are left to `step`.
pub record Kept (c : Call) (s : Session) (r : Result) : Type 0 where
  pub phase_is : r.session.phase ≡ ended beyond
  pub spec_is : r.session.worker.connector.spec ≡ spec_with c s.worker.connector.spec
  pub persisted : r.session.worker.persisted_size ≡ s.worker.persisted_size
  pub store : r.session.worker.replay_buffer ≡ s.worker.replay_buffer
  pub writer_is : r.session.writer ≡ s.writer
  pub fails : r.answer ≡ ends beyond 0 0 (length (waiters s))
  pub none_waits : waiters r.session ≡ []

pub record PastEnd (c : Call) (s : Session) (r : Result) : Type 0 where
  -- "Such a response, or handshake, now ends the session, cause *beyond*": an accepted one, and nothing else
  pub exactly : ends_beyond r.answer ≡ (accepted r.answer && is_past (brings c).size s)
  pub kept : ends_beyond r.answer ≡ true → Kept c s r

abbrev pub BeyondExactly : Type 0
BeyondExactly = (c : Call) (s : Session) → PastEnd c s (step c s)
