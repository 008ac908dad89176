-- The invariant of the world after a call of each sort, over just what the call brings: equal to `after` by computation. Records, so that a case
-- split finds its result by place and need not look through `after`. Then what a phase's test tells.
use mathlib.Core.Path.{◌≡◌, refl, ap, ◌∙◌}
use mathlib.Core.Bool.{Bool, false, not, cond, ◌||◌}
use mathlib.Core.Option.{none, some}
use Prim.Native.Nat.{ℕ}
use lib.Dec.{eqb}
use borrow.Author.Tests.{eqb-true, not-false}
use Rattle.rules.specs.Message.{Bytes}
use Rattle.rules.specs.Session.{PendingKind, Phase, live, closing, connecting, verdict, replay, ended, Session, Call, append, Result, phase_number, is_live, is_closing, is_replay, closed}
use Rattle.rules.specs.Step.{step}
use Rattle.rules.specs.Server.{loses, on_link}
use Rattle.rules.specs.Notes.{Brings, shows, accepted, request_in, plain, brings, noted}
use Rattle.rules.specs.World.{World, sending, after}
use Rattle.rules.proofs.Tests.{never, or_no_right}
use Rattle.rules.proofs.Lists.{cond_ind}
use Rattle.rules.proofs.Inv.{ended_by_size, Inv}

abbrev pub calls : Call → Bool → World → World
calls c could w = after c could w (step c w.session)

abbrev pub after_append : Bytes → Bool → World → Result → World
after_append d could w r = record {
  session = r.session;
  server = on_link (sending could (request_in r.answer)) w.server;
  notes = cond (accepted r.answer) (noted (brings (append d 0)) (shows r.answer) w.notes) w.notes;
}

abbrev pub asking : PendingKind → Brings
asking k = record { bytes = none; kind = some k; message = false; size = none; handshake = false; failure = false }

abbrev pub after_ask : PendingKind → Bool → World → Result → World
after_ask k could w r = record {
  session = r.session;
  server = on_link (sending could (request_in r.answer)) w.server;
  notes = cond (accepted r.answer) (noted (asking k) (shows r.answer) w.notes) w.notes;
}

abbrev pub after_other : Bool → World → Result → World
after_other could w r = record {
  session = r.session;
  server = on_link (sending could (request_in r.answer)) w.server;
  notes = cond (accepted r.answer) (noted plain (shows r.answer) w.notes) w.notes;
}

abbrev pub after_unsent : World → Result → World
after_unsent w r = record {
  session = r.session;
  server = cond (accepted r.answer) (on_link loses w.server) w.server;
  notes = cond (accepted r.answer) (noted plain (shows r.answer) w.notes) w.notes;
}

pub record Appended (from : ℕ) (d : Bytes) (could : Bool) (w : World) (r : Result) : Type 0 where
  pub inv : Inv from (after_append d could w r)

pub record AskedFor (from : ℕ) (k : PendingKind) (could : Bool) (w : World) (r : Result) : Type 0 where
  pub inv : Inv from (after_ask k could w r)

pub record Other (from : ℕ) (could : Bool) (w : World) (r : Result) : Type 0 where
  pub inv : Inv from (after_other could w r)

pub record Unsent (from : ℕ) (w : World) (r : Result) : Type 0 where
  pub inv : Inv from (after_unsent w r)

-- ---- phases

-- in one phase, not in another
pub not_at : (a b : ℕ) (ph : Phase) → eqb a b ≡ false → not (eqb (phase_number ph) a) ≡ false → eqb (phase_number ph) b ≡ false
not_at a b ph e h = ap (λ (n : ℕ). eqb n b) (eqb-true (phase_number ph) a (not-false (eqb (phase_number ph) a) h)) ∙ e

pub open_not-replay : (ph : Phase) → not (is_live ph || is_closing ph) ≡ false → is_replay ph ≡ false
open_not-replay live e = refl
open_not-replay closing e = refl
open_not-replay connecting e = refl
open_not-replay (verdict r) e = refl
open_not-replay (replay i) e = never e
open_not-replay (ended c) e = refl

pub replay-over : (ph : Phase) → is_replay (cond (is_replay ph) live ph) ≡ false
replay-over live = refl
replay-over closing = refl
replay-over connecting = refl
replay-over (verdict r) = refl
replay-over (replay i) = refl
replay-over (ended c) = refl

pub over_steady : (ph : Phase) → ended_by_size ph ≡ false → ended_by_size (cond (is_replay ph) live ph) ≡ false
over_steady ph e = cond_ind (λ (x : Phase). ended_by_size x ≡ false) (is_replay ph) (λ _. refl) (λ _. e)

-- finalise was not sent
pub not_sent : (s : Session) → closed s ≡ false → s.worker.finalized ≡ false
unfolding closed
not_sent s e = or_no_right (is_closing s.phase) s.worker.finalized e
