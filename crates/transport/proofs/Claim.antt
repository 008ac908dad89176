-- Demand 3, what is stated more than it, the byte total, the copies that a host needs, and for any input what holds of the calls alone, for any list of which
-- only the promises are known.
-- Assumes nothing.
use mathlib.Core.Path.{◌≡◌, sym, ap, ◌∙◌, subst}
use Prim.Native.Nat.{ℕ, ◌+◌, ◌-◌, ◌≤◌}
use Rattle.rules.specs.Session as R
use Rattle.rules.specs.Step.{step}
use Rattle.rules.specs.Opening.{Opening, opened, opens}
use Rattle.rules.specs.Demand3.{Holds}
use Rattle.rules.specs.More.{HoldsMore}
use Rattle.rules.specs.Total as total
use Rattle.rules.specs.Released.{Accounted, MayDrop}
use Rattle.rules.specs.Calls.{begin, HoldsCalled, left_by}
use Rattle.rules.proofs.Program as rules
use Rattle.rules.proofs.Bound.{stored_bound}
use Rattle.worker.specs.View.{worker_of}
use Rattle.transport.specs.View.{view}
use Rattle.transport.specs.Claim.{Memory, view_of, ValidAt, Does, Promises, Begins, Always, AlwaysCalled, StoredBound}
use Rattle.transport.proofs.Numbers.{stored_is}

pub keeps : (c : R.Call) (m : Memory) (a : R.Answer) (m' : Memory) → Does Promises c m a m' → ValidAt m
    → ValidAt m' × (R.answers a (view_of m') ≡ step c (view_of m))
keeps c m a m' d p = (d.says.stays p, ap (λ (x : R.Answer). R.answers x (view_of m')) (sym d.answer_is) ∙ d.says.steps p)

pub begun : (o : Opening) (m : Memory) → Begins o m → ValidAt m × (opens o ≡ opened (view_of m))
begun o m b = (b.valid, b.opens_is)

pub program_demand3 : Always (λ o k w. Holds w)
program_demand3 = rules.program_demand3 view_of (Does Promises) Begins ValidAt keeps begun

pub program_more_than_demand3 : Always (λ o k w. HoldsMore w)
program_more_than_demand3 = rules.program_more view_of (Does Promises) Begins ValidAt keeps begun

pub program_byte_total_served : Always (λ o k w. total.ServedTotal (total.first_taken o.payload k.object) w)
program_byte_total_served = rules.program_byte_total_served view_of (Does Promises) Begins ValidAt keeps begun

pub program_copies_needed : Always (λ o k w. MayDrop (total.first_taken o.payload k.object) w)
program_copies_needed = rules.program_copies_needed view_of (Does Promises) Begins ValidAt keeps begun

-- ---- for any input

pub program_calls_hold : AlwaysCalled (λ _ r. HoldsCalled r)
program_calls_hold = rules.program_calls_hold view_of (Does Promises) Begins ValidAt keeps begun

pub program_byte_total : AlwaysCalled total.Total
program_byte_total = rules.program_byte_total view_of (Does Promises) Begins ValidAt keeps begun

pub program_released-total : AlwaysCalled (λ _ r. Accounted r)
program_released-total = rules.program_released-total view_of (Does Promises) Begins ValidAt keeps begun

-- of any calls that keep what is valid
module _ (Does' : R.Call → Memory → R.Answer → Memory → Type 0) (Begins' : Opening → Memory → Type 0)
    (keeps' : (c : R.Call) (m : Memory) (a : R.Answer) (m' : Memory) → Does' c m a m' → ValidAt m → ValidAt m' × (R.answers a (view_of m') ≡ step c (view_of m)))
    (begun' : (o : Opening) (m : Memory) → Begins' o m → ValidAt m × (opens o ≡ opened (view_of m))) where
  pub bound_of : StoredBound Does' Begins'
  unfolding view worker_of begin
  bound_of o m b ts d =
      let l : rules.Left view_of Does' Begins' ValidAt keeps' begun' ts m (begin o (view_of m)) = rules.program_left view_of Does' Begins' ValidAt keeps' begun' o m b ts d in
      let end : Memory = left_by view_of Does' ts m in
      let e : R.stored (view_of (left_by view_of Does' ts m)) ≡ end.session.worker.replay_buffer.unpersisted_bytes
      = stored_is end.session end.store end.table l.valid in
      subst (λ (n : ℕ). n ≤ m.session.worker.replay_buffer.capacity + m.session.limit - 1) (sym (ap R.stored l.session_is) ∙ e)
      (rules.program_called view_of Does' Begins' ValidAt keeps' begun'
      (λ b r. R.stored r.session ≤ b.session.worker.replay_buffer.capacity + b.session.limit - 1) stored_bound o m b ts d)

pub program_stored_bound : StoredBound (Does Promises) Begins
program_stored_bound = bound_of (Does Promises) Begins keeps begun
