-- The session record with a part anew, and a session that ends.
use Rattle.std.specs.Prelude.{◌≡◌, Bool, List, ℕ}
use Rattle.rules.specs.Message.{Bytes}
use Rattle.rules.specs.Session as R
use Rattle.bidi_write.specs.View.{cause_of}
use Rattle.bidi_write.specs.declared.Cause.{Cause}
use Rattle.std.specs.Prelude.{Ok}
use Rattle.transport.specs.View.{view, answer_of}
use Rattle.transport.specs.Valid.{Valid}
use Rattle.transport.specs.declared.Answer.TheVariants as answer
use Rattle.transport.specs.declared.Outcome.{Outcome}
use Rattle.transport.specs.declared.Phase.{Phase}
use Rattle.transport.specs.declared.Sent.{Sent}
use Rattle.transport.specs.declared.Session.{Session}
use Rattle.connector.specs.declared.Connector.{Connector}
use Rattle.worker.specs.declared.Worker.{Worker}

abbrev pub set_phase : Phase → Sent → Session → Session
set_phase p n s = record s { phase = p; sent = n }

abbrev pub set_worker : Worker → Session → Session
set_worker w s = record s { worker = w }

-- connector, mark and phase anew
abbrev pub renewed : Connector → Bool → Phase → Sent → Session → Session
renewed c mark p n s = set_phase p n (set_worker (record s.worker { connector = c; self_flush_outstanding = mark }) s)

-- r is the session s ended, as the rules end it
pub record EndsAs (c : Cause) (completed released : ℕ) (s : Session) (r : Outcome) : Type 0 where
  pub answer_is : r.answer ≡ answer.Ends (record { cause = c; completed = completed; released = released; failed = s.worker.pending_requests.count })
  pub ends : (store : Bytes) (table : List ℕ) (out : Bytes) → Valid s store table
      → R.answers (answer_of (Ok r.answer) out) (view r.session store table) ≡ R.ending (cause_of c) completed released (view s store table)
  pub stays : (store : Bytes) (table : List ℕ) → Valid s store table → Valid r.session store table
