-- The claims for an opening and any list of turns of the host's calls of which only what their `ensures` say is known.
-- Assumes nothing.
use mathlib.Core.Path.{◌≡◌, refl, sym, ap, ◌∙◌, subst}
use mathlib.Core.Option.{some}
use mathlib.Core.List.{List}
use Prim.Native.Nat.{ℕ}
use native.Mathlib.Omega.{arith}
use lib.ListN.{length}
use Rattle.rules.specs.Message.{Bytes}
use Rattle.rules.specs.Session as R
use Rattle.rules.specs.Step.{step}
use Rattle.rules.specs.Opening as O
use Rattle.rules.specs.Demand3.{Holds}
use Rattle.rules.specs.More.{HoldsMore}
use Rattle.rules.specs.Total as total
use Rattle.rules.specs.Past.{PastEnd}
use Rattle.rules.specs.Released.{Accounted, MayDrop, ReleasedBy}
use Rattle.rules.specs.Calls.{begin, HoldsCalled, left_by}
use Rattle.rules.specs.Notes.{released_in}
use Rattle.rules.proofs.Program as rules
use Rattle.rules.proofs.Refused.{malformed_exactly}
use Rattle.rules.proofs.Past.{beyond_exactly}
use Rattle.rules.proofs.Released as freed
use Rattle.plan_rules.specs.Plan.{begins}
use Rattle.plan_rules.specs.Claims.{NeverRefused}
use Rattle.plan_rules.proofs.Counting.{plan_is}
use Rattle.plan_rules.proofs.Drives.{driven_left}
use Rattle.plan_rules.proofs.Planned.{program_shows}
use Rattle.plan_rules.proofs.Enough.{never_refused}
use Rattle.bidi_write.specs.declared.Refusal.{Refusal}
use Rattle.bidi_write.specs.View.{given}
use Rattle.transport.specs.View.{Left, view, answer_of}
use Rattle.transport.specs.Valid.{Valid}
use Rattle.transport.specs.Promise.{Promise, Promised, PromisedAt}
use Rattle.transport.specs.Claim as core
use Rattle.transport.specs.Claim.{Memory, view_of, ValidAt, Does, Promises}
use Rattle.transport.specs.declared.Session.{Session}
use Rattle.transport.proofs.Claim as promises
use Rattle.transport.proofs.Claim.{bound_of}
use Rattle.transport.proofs.Numbers.{held_length, stored_is, chunks_are}
use Rattle.transport.proofs.Views.{released_is}
use Rattle.openings.specs.Opening.{opening_of, released_at}
use Rattle.std.specs.declared.result.Result.{Result}
use Rattle.openings.proofs.Openings.{accepted_is}
use Rattle.claims.specs.Claim.{Ensures, Begins, Always, AlwaysCalled, StoredBound}
use Rattle.claims.specs.Sendable.{AlwaysSendable}
use Rattle.claims.specs.Malformed.{AlwaysMalformed}
use Rattle.claims.specs.Past.{AlwaysPast}
use Rattle.claims.specs.Released.{stored_in, AlwaysReleased, AlwaysOpeningReleased}
use Rattle.claims.specs.Plan.{AlwaysPlanned}
use Rattle.claims.proofs.Sendable.{handed_out_reads}

-- a promise at memory that is the same
module _ (c : R.Call) (m : Memory) (r : Left) where
  abbrev At : Bytes → Bytes → List ℕ → Bytes → Type 0
  At out store table out' = Promise c m.session m.store m.table out r store table out'

  at_store : {out store : Bytes} {table : List ℕ} {out' : Bytes} → store ≡ m.store → At out m.store table out' → At out store table out'
  at_store {out} {table} {out'} e = subst (λ (x : Bytes). At out x table out') (sym e)

  at_table : {out store : Bytes} {table : List ℕ} {out' : Bytes} → table ≡ m.table → At out store m.table out' → At out store table out'
  at_table {out} {store} {out'} e = subst (λ (x : List ℕ). At out store x out') (sym e)

  at_out : {out store : Bytes} {table : List ℕ} {out' : Bytes} → out' ≡ out → At out store table out → At out store table out'
  at_out {out} {store} {table} e = subst (λ (x : Bytes). At out store table x) (sym e)

  at_any : {out store : Bytes} {table : List ℕ} {out' : Bytes} → (store ≡ m.store) × (table ≡ m.table) × (out' ≡ out) → Promised c m.session r → At out store table out'
  at_any {out} u p = at_store u.0 (at_table u.1 (at_out u.2 (p m.store m.table out)))

  at_some : {out store : Bytes} {table : List ℕ} {out' : Bytes} → (store ≡ m.store) × (out' ≡ out) → PromisedAt c m.session m.store m.table r table → At out store table out'
  at_some {out} u p = at_store u.0 (at_out u.1 (p out))

-- what each `ensures` says is the promise that the claims about the core ask for
promised : (c : R.Call) (m : Memory) (out : Bytes) (r : Left) (store : Bytes) (table : List ℕ) (out' : Bytes)
    → Ensures c m out r store table out' → Promise c m.session m.store m.table out r store table out'
promised (R.append d n) m out r store table out' e = e.0
promised (R.flush n) m out r store table out' e = at_store (R.flush n) m r e.1.1 e.0
promised (R.finalise n) m out r store table out' e = at_store (R.finalise n) m r e.1.1 e.0
promised (R.next_request n) m out r store table out' e =
    at_store (R.next_request n) m r e.1.1 (at_table (R.next_request n) m r e.1.2 e.0)
promised R.close m out r store table out' e = at_any R.close m r e.1 e.0
promised R.send_failed m out r store table out' e = at_any R.send_failed m r e.1 e.0
promised (R.response x) m out r store table out' e = at_some (R.response x) m r e.1 e.0
promised (R.handshake x) m out r store table out' e = at_some (R.handshake x) m r e.1 e.0
promised (R.break b) m out r store table out' e = at_any (R.break b) m r e.1 e.0
promised (R.judge v) m out r store table out' e = at_any (R.judge v) m r e.1 e.0
promised (R.failed_attempt b v) m out r store table out' e = at_any (R.failed_attempt b v) m r e.1 e.0

keeps : (c : R.Call) (m : Memory) (a : R.Answer) (m' : Memory) → Does Ensures c m a m' → ValidAt m
    → ValidAt m' × (R.answers a (view_of m') ≡ step c (view_of m))
keeps c m a m' d p =
    let k : Promise c m.session m.store m.table d.out (record { session = m'.session; answer = d.answer }) m'.store m'.table d.out'
    = promised c m d.out _ m'.store m'.table d.out' d.says in
    (k.stays p, ap (λ (x : R.Answer). R.answers x (view_of m')) (sym d.answer_is) ∙ k.steps p)

begun : (o : O.Opening) (m : Memory) → Begins o m → ValidAt m × (O.opens o ≡ O.opened (view_of m))
begun o m b = (
  subst (λ (s : Session). Valid s m.store m.table) b.left (b.ensured.valid b.accepted),
  subst (λ (x : O.Opening). O.opens x ≡ O.opened (view_of m)) b.given
      (accepted_is b.ensured b.accepted ∙ ap (λ (s : Session). O.opened (view s m.store m.table)) b.left),
)

pub host_demand3 : Always (λ o k w. Holds w)
host_demand3 = rules.program_demand3 view_of (Does Ensures) Begins ValidAt keeps begun

pub host_more_than_demand3 : Always (λ o k w. HoldsMore w)
host_more_than_demand3 = rules.program_more view_of (Does Ensures) Begins ValidAt keeps begun

pub host_byte_total_served : Always (λ o k w. total.ServedTotal (total.first_taken o.payload k.object) w)
host_byte_total_served = rules.program_byte_total_served view_of (Does Ensures) Begins ValidAt keeps begun

pub host_calls_hold : AlwaysCalled (λ _ r. HoldsCalled r)
host_calls_hold = rules.program_calls_hold view_of (Does Ensures) Begins ValidAt keeps begun

pub host_copies_needed : Always (λ o k w. MayDrop (total.first_taken o.payload k.object) w)
host_copies_needed = rules.program_copies_needed view_of (Does Ensures) Begins ValidAt keeps begun

pub host_byte_total : AlwaysCalled total.Total
host_byte_total = rules.program_byte_total view_of (Does Ensures) Begins ValidAt keeps begun

pub host_released-total : AlwaysCalled (λ _ r. Accounted r)
host_released-total = rules.program_released-total view_of (Does Ensures) Begins ValidAt keeps begun

pub host_stored_bound : StoredBound
host_stored_bound = bound_of (Does Ensures) Begins keeps begun

-- each request that a host's call hands out is written as the rules send it
pub host_handed_out_reads : AlwaysSendable Ensures
host_handed_out_reads c m out r store table out' e = handed_out_reads c m out r store table out' (promised c m out r store table out' e)

-- a malformed detail is refused with 15, and nothing else is
pub program_malformed_exactly : AlwaysMalformed Promises
program_malformed_exactly c m out o store table out' p v = ap (λ (x : R.Result). R.refused_with 15 x.answer) (p.steps v) ∙ malformed_exactly c (view_of m)

pub host_malformed_exactly : AlwaysMalformed Ensures
host_malformed_exactly c m out o store table out' e = program_malformed_exactly c m out o store table out' (promised c m out o store table out' e)

-- a report past the end
pub program_beyond_exactly : AlwaysPast Promises
program_beyond_exactly c m out o store table out' p v = subst (PastEnd c (view_of m)) (sym (p.steps v)) (beyond_exactly c (view_of m))

pub host_beyond_exactly : AlwaysPast Ensures
host_beyond_exactly c m out o store table out' e = program_beyond_exactly c m out o store table out' (promised c m out o store table out' e)

-- ---- how much was released

-- a call answers what the stored total lost
pub program_released : AlwaysReleased Promises
program_released c m out o store table out' p v =
    let ruled : ReleasedBy c (released_in (answer_of o.answer out')) (R.stored (view_of m)) (R.stored (view o.session store table))
    = subst (λ (x : R.Result). ReleasedBy c (released_in x.answer) (R.stored (view_of m)) (R.stored x.session)) (sym (p.steps v)) (freed.released c (view_of m)) in
    rw (released_is o.answer out', ← stored_is m.session m.store m.table v, ← stored_is o.session store table (p.stays v)) ruled

pub host_released : AlwaysReleased Ensures
host_released c m out o store table out' e = program_released c m out o store table out' (promised c m out o store table out' e)

-- an opening answers what it stored no more of its payload
pub host_opening-released : AlwaysOpeningReleased
unfolding begin opening_of
host_opening-released o m b =
    let made : O.Opening = opening_of b.opening b.beside (length b.store) (length b.table) in
    let number : b.opened.released ≡ O.open_released o
    = b.ensured.released_is ∙ ap (λ (a : Result (Unit {0}) Refusal). released_at a made) b.accepted ∙ ap O.open_released b.given in
    let stored : R.stored (view_of m) ≡ stored_in m.session = stored_is m.session m.store m.table (begun o m b).0 in
    let payload : O.payload_length (given b.opening.has_payload b.beside.payload) ≡ O.payload_length o.payload
    = ap (λ (x : O.Opening). O.payload_length x.payload) b.given in
    record { payload = omega (arith, freed.opening-released o (view_of m) (begun o m b).1); noted = sym number }

-- ---- what a list of append lengths needs

held_are : (m : Memory) → ValidAt m → length (view_of m).writer.held ≡ m.session.held
unfolding view
held_are m v = held_length m.session m.store (length m.table) v.guarded

-- of any calls that keep what is valid
module _ (Does' : R.Call → Memory → R.Answer → Memory → Type 0) (Begins' : O.Opening → Memory → Type 0)
    (keeps' : (c : R.Call) (m : Memory) (a : R.Answer) (m' : Memory) → Does' c m a m' → ValidAt m → ValidAt m' × (R.answers a (view_of m') ≡ step c (view_of m)))
    (begun' : (o : O.Opening) (m : Memory) → Begins' o m → ValidAt m × (O.opens o ≡ O.opened (view_of m))) where
  planned_of : AlwaysPlanned Does' Begins'
  planned_of o m b plain ts a ls d g =
      let end : Memory = left_by view_of Does' ts m in
      let valid : ValidAt end = (rules.program_left view_of Does' Begins' ValidAt keeps' begun' o m b ts a).valid in
      let left : d.session ≡ view_of end = driven_left view_of Does' ts ls m (begins (view_of m)) d refl g in
      program_shows view_of Does' Begins' ValidAt begun' keeps' o m b plain ts a ls d g
      ∙ ap some (plan_is
      (ap (λ (s : R.Session). length (R.chunks s)) left ∙ chunks_are end.session end.store end.table valid)
      (ap R.stored left ∙ stored_is end.session end.store end.table valid)
      (ap (λ (s : R.Session). length s.writer.held) left ∙ held_are end valid)
      refl refl)

pub program_planned : AlwaysPlanned (Does Promises) core.Begins
program_planned = planned_of (Does Promises) core.Begins promises.keeps promises.begun

pub host_planned : AlwaysPlanned (Does Ensures) Begins
host_planned = planned_of (Does Ensures) Begins keeps begun

-- where enough is lent, no call that is made for the list is refused
pub program_enough : NeverRefused view_of (Does Promises) core.Begins
program_enough = never_refused view_of (Does Promises) ValidAt promises.keeps core.Begins promises.begun

pub host_enough : NeverRefused view_of (Does Ensures) Begins
host_enough = never_refused view_of (Does Ensures) ValidAt keeps Begins begun
