-- What the parts of a response or handshake promise.
use Rattle.std.specs.Prelude.{◌≡◌, Bool, true, false, not, ◌&&◌, ◌||◌, List, ℕ}
use Rattle.rules.specs.Message.{Bytes}
use Rattle.rules.specs.Message as M
use Rattle.rules.specs.Session as R
use Rattle.connector.specs.declared.Connector.{Connector}
use Rattle.admission.specs.Rows.{message_rows}
use Rattle.transport.specs.View.{phase_of, view, answer_of}
use Rattle.transport.specs.Valid.{GuardedAt, Valid}
use Rattle.bidi_write.specs.Refusal.{Rows, checked}
use Rattle.transport.specs.Parts.{set_worker}
use Rattle.transport.specs.Promise.{Quiet}
use Rattle.std.specs.declared.result.Result.{Result}
use Rattle.std.specs.Prelude.{Ok, Err}
use Rattle.transport.specs.declared.Outcome.{Outcome}
use Rattle.bidi_write.specs.declared.Refusal.TheVariants as refusal
use Rattle.transport.specs.declared.Session.{Session}
use Rattle.sizes.specs.Size.{onward}
use Rattle.sizes.specs.declared.Settled.{Settled}
use Rattle.bidi_write.specs.declared.Cause.{Cause}
use Rattle.bidi_write.specs.declared.Refusal.{Refusal}
use Rattle.bidi_write.specs.declared.Request.{Request}
use Rattle.std.specs.declared.option.Option as opt
use Rattle.transport.specs.declared.Answer.{Answer}
use Rattle.transport.specs.declared.Answer.TheVariants as answer

-- the refusals 7, 6 and 4 of a message that comes in the right phases alone
abbrev pub receives : (R.Phase → Bool) → R.Phase → M.Response → Rows
receives right p m = message_rows (R.is_ended p) (not (right p)) (M.over M.max_handle m.write_handle)

abbrev pub is_open : R.Phase → Bool
is_open p = R.is_live p || R.is_closing p

-- what is asked before memory is touched, and then the refusals
pub record Admits (s : Session) (store table : ℕ) (tests : Rows) (r : Result (Unit {0}) Refusal) : Type 0 where
  pub over : R.is_ended (phase_of s.phase) ≡ true → r ≡ Err refusal.Ended
  pub unfit : R.is_ended (phase_of s.phase) ≡ false → (GuardedAt s store table → ⊥) → r ≡ Err refusal.ShortMemory
  pub tested : R.is_ended (phase_of s.phase) ≡ false → GuardedAt s store table → r ≡ checked tests
  pub goes : r ≡ Ok tt → (R.is_ended (phase_of s.phase) ≡ false) × GuardedAt s store table

-- the session with another connector and no own flush outstanding
abbrev pub with_connector : Connector → Session → Session
with_connector c s = set_worker (record s.worker { connector = c; self_flush_outstanding = false }) s

-- the mark is cleared, the connector changed by f, and nothing else
pub record Prepares (f : R.Connector → R.Connector) (s r : Session) : Type 0 where
  pub phase_is : r.phase ≡ s.phase
  pub slots_is : r.slots ≡ s.slots
  pub guarded : (store table : ℕ) → GuardedAt s store table → GuardedAt r store table
  pub view_is : (store : Bytes) (table : List ℕ) → view r store table
      ≡ R.set_worker (R.set_connector (f (view s store table).worker.connector) (R.set_mark false (view s store table).worker)) (view s store table)
  -- a replay's cursor would not stay
  pub stays : (store : Bytes) (table : List ℕ) → R.is_replay (phase_of s.phase) ≡ false → Valid s store table → Valid r store table

-- whether a bare flush is sent
pub record Flushes (s : Session) (r : Bool) : Type 0 where
  pub flushes : (store : Bytes) (table : List ℕ) → Valid s store table → r ≡ (R.is_live (phase_of s.phase) && R.watermark (view s store table))

-- what was settled, with a request or none
abbrev pub completes : Settled → opt.Option Request → Answer
completes k q = answer.Completes (record { waiters = k.completed; released = k.released; request = q })

-- the last step of a response or handshake, or the end, which no memory is lent to: why the session ends, if it does, and what was settled
pub record Answers (last : ℕ → ℕ → R.Session → R.Result) (w : opt.Option Cause) (k : Settled) (s : Session) (r : Outcome) : Type 0 where
  pub quiet : Quiet (Ok r.answer)
  pub answers : (store : Bytes) (table : List ℕ) (out : Bytes) → Valid s store table
      → R.answers (answer_of (Ok r.answer) out) (view r.session store table) ≡ onward w k last (view s store table)
  pub stays : (store : Bytes) (table : List ℕ) → R.is_ended (phase_of s.phase) ≡ false → Valid s store table → Valid r.session store table
