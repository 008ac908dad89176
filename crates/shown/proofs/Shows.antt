-- What a host sees is the record's, and of a valid record the rules'.
-- Assumes nothing.
use mathlib.Core.Path.{refl, sym}
use mathlib.Core.List.{List}
use Prim.Native.Nat.{ℕ}
use native.Mathlib.Omega.{arith}
use Rattle.rules.specs.Message.{Bytes}
use Rattle.connector.specs.View.{connector_of}
use Rattle.ring.proofs.Laws.{length_part}
use Rattle.worker.specs.View.{worker_of}
use Rattle.transport.specs.View.{lent_of, view}
use Rattle.transport.specs.Valid.{Valid}
use Rattle.transport.specs.declared.Session.{Session}
use Rattle.transport.proofs.Numbers.{stored_is, waiters_are}
use Rattle.shown.specs.Shown.{Shows, viewed, Shown, Dials}

shows_rules : (s : Session) (store : Bytes) (table : List ℕ) → Valid s store table → Shows (view s store table) (viewed s)
unfolding view worker_of
shows_rules s store table v = record {
  phase = refl;
  persisted_size = refl;
  stored = sym (stored_is s store table v);
  held = sym (length_part (lent_of s).size s.worker.replay_buffer.head store v.guarded.store_lent
      s.worker.replay_buffer.unpersisted_bytes s.held (omega (arith, v.guarded)));
  capacity = refl;
  waiters = sym (waiters_are s store table v);
}

pub shows : (s : Session) → Shown s (viewed s)
shows s = record { view_is = refl; shows = shows_rules s }

pub dials : (s : Session) → Dials s s.worker.connector.spec
unfolding view worker_of connector_of
dials s = record { spec_is = refl; dials = λ store table. refl }
