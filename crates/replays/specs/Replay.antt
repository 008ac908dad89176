-- What the parts of a next request promise.
use Rattle.std.specs.Prelude.{◌≡◌, List, ◌++◌, ℕ, ◌+◌, ◌≤◌, ◌<◌, ◌^◌, length, drop}
use Rattle.std.proofs.Math.Option.{none}
use Rattle.std.proofs.Math.ListN.{get_elem?}
use Rattle.rules.specs.Message.{Bytes}
use Rattle.rules.specs.Session as R
use Rattle.rules.specs.Replay.{hands_chunk, hands_last}
use Rattle.transport.specs.View.{view, answer_of, taken_in, sent_length}
use Rattle.transport.specs.Valid.{Valid}
use Rattle.transport.specs.Promise.{sent_data, Quiet}
use Rattle.transport.specs.declared.Cursor.{Cursor}
use Rattle.transport.specs.declared.Phase.{Phase}
use Rattle.transport.specs.declared.Phase.TheVariants as phase
use Rattle.transport.specs.declared.Session.{Session}
use Rattle.std.specs.Prelude.{Ok}
use Rattle.transport.specs.declared.Outcome.{Outcome}

abbrev pub beginning : Cursor
beginning = record { next = 0; bytes = 0 }

-- where a replay stands; at its beginning in any other phase
abbrev pub cursor_of : Phase → Cursor
cursor_of phase.Live = beginning
cursor_of phase.Closing = beginning
cursor_of phase.Connecting = beginning
cursor_of (phase.Verdict r) = beginning
cursor_of (phase.Replay c) = c
cursor_of (phase.Ended c) = beginning

-- a cursor one request further, which carried so many bytes
pub record Further (at : Cursor) (bytes : ℕ) (k : Cursor) : Type 0 where
  pub next_is : at.next + 1 < 2 ^ 64 → k.next ≡ at.next + 1
  pub bytes_are : at.bytes + bytes < 2 ^ 64 → k.bytes ≡ at.bytes + bytes

-- the answer and the session after are the rule's, and the session is valid
pub record Accepts (store : Bytes) (table : List ℕ) (r : Outcome) (out' : Bytes) (result : R.Result) : Type 0 where
  pub steps : R.answers (answer_of (Ok r.answer) out') (view r.session store table) ≡ result
  pub stays : Valid r.session store table

-- the chunk at the cursor
pub record HandsChunk (s : Session) (store : Bytes) (table : List ℕ) (at : Cursor) (out : Bytes) (r : Outcome) (out' : Bytes) : Type 0 where
  pub none_taken : taken_in (Ok r.answer) ≡ 0
  pub fills : out' ≡ sent_data (Ok r.answer) out' ++ drop (sent_length (Ok r.answer)) out
  pub sent_is : length (sent_data (Ok r.answer) out') ≡ sent_length (Ok r.answer)
  pub sent_in : sent_length (Ok r.answer) ≤ length out
  pub hands : Valid s store table → s.phase ≡ phase.Replay at → at.next < s.worker.replay_buffer.chunks → s.limit ≤ length out
      → Accepts store table r out' (hands_chunk (get_elem? (R.chunks (view s store table)) at.next) at.next (view s store table))

-- what stands behind the chunks
pub record HandsRest (s : Session) (at : Cursor) (r : Outcome) : Type 0 where
  pub quiet : Quiet (Ok r.answer)
  pub hands : (store : Bytes) (table : List ℕ) (out : Bytes) → Valid s store table → s.phase ≡ phase.Replay at
      → s.worker.replay_buffer.chunks ≤ at.next → Accepts store table r out (hands_chunk none at.next (view s store table))

-- what stands behind the waiting requests
pub record HandsLast (s : Session) (at : Cursor) (r : Outcome) : Type 0 where
  pub quiet : Quiet (Ok r.answer)
  pub hands : (store : Bytes) (table : List ℕ) (out : Bytes) → Valid s store table → s.phase ≡ phase.Replay at
      → s.worker.replay_buffer.chunks ≤ at.next → Accepts store table r out (hands_last at.next (view s store table))
