-- What a host sees of a session: the record's, and the rules' where an opening and calls left it.
use Rattle.std.specs.Prelude.{◌≡◌, List, ℕ, length}
use Rattle.rules.specs.Message.{Bytes}
use Rattle.rules.specs.Session as R
use Rattle.state.specs.View.{spec_of}
use Rattle.state.specs.declared.AppendObjectSpec.{AppendObjectSpec}
use Rattle.transport.specs.View.{phase_of, view}
use Rattle.transport.specs.Valid.{Valid}
use Rattle.transport.specs.declared.Session.{Session}
use Rattle.shown.specs.declared.View.{View}

pub record Shows (s : R.Session) (v : View) : Type 0 where
  pub phase : phase_of v.phase ≡ s.phase
  pub persisted_size : v.persisted_size.0 ≡ s.worker.persisted_size
  pub stored : v.stored ≡ R.stored s
  pub held : v.held ≡ length s.writer.held
  pub capacity : v.capacity ≡ s.worker.replay_buffer.capacity
  pub waiters : v.waiters ≡ length (R.waiters s)

-- what a record holds
abbrev pub viewed : Session → View
viewed s = record {
  phase = s.phase;
  persisted_size = s.worker.persisted_size;
  stored = s.worker.replay_buffer.unpersisted_bytes;
  held = s.held;
  capacity = s.worker.replay_buffer.capacity;
  waiters = s.worker.pending_requests.count;
}

pub record Shown (s : Session) (v : View) : Type 0 where
  -- for any record whatever
  pub view_is : v ≡ viewed s
  -- the rules' session, of a record that an opening and calls left
  pub shows : (store : Bytes) (table : List ℕ) → Valid s store table → Shows (view s store table) v

-- for any record whatever: the spec that a reconnect dials with is the record's, and the rules'
pub record Dials (s : Session) (spec : AppendObjectSpec) : Type 0 where
  pub spec_is : spec ≡ s.worker.connector.spec
  pub dials : (store : Bytes) (table : List ℕ) → spec_of spec ≡ (view s store table).worker.connector.spec
