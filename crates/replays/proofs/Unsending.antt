-- A send reported failed: what the code tests and leaves is what the rule says.
-- Assumes nothing.
use mathlib.Core.Path.{◌≡◌, refl, sym, ap, ap₂, ◌∙◌}
use mathlib.Core.Bool.{Bool, not, cond, ◌&&◌}
use mathlib.Core.List.{List}
use Prim.Native.Nat.{ℕ}
use native.Mathlib.Omega.{arith}
use lib.Dec.{eqb}
use Rattle.rules.specs.Message.{Bytes}
use Rattle.rules.specs.Session as R
use Rattle.rules.specs.Replay.{is_nothing, is_bare, unsent}
use Rattle.rules.specs.Step.{step}
use Rattle.worker.specs.View.{worker_of}
use Rattle.bidi_write.specs.Refusal.{number_of}
use Rattle.admission.specs.Rows.{unsent_rows}
use Rattle.transport.specs.View.{phase_of, sent_of, view}
use Rattle.transport.specs.Valid.{CursorAt}
use Rattle.transport.specs.Promise.{Promise}
use Rattle.bidi_write.specs.Refusal.{checked}
use Rattle.transport.specs.Parts.{renewed}
use Rattle.replays.specs.Unsent.{stopped}
use Rattle.transport.specs.declared.Answer.TheVariants as answer
use Rattle.std.specs.declared.result.Result.{Result}
use Rattle.std.specs.Prelude.{Ok, Err}
use Rattle.transport.specs.declared.Phase.{Phase}
use Rattle.transport.specs.declared.Phase.TheVariants as phase
use Rattle.bidi_write.specs.declared.Refusal.{Refusal}
use Rattle.transport.specs.declared.Sent.TheVariants as sent
use Rattle.transport.specs.declared.Session.{Session}
use Rattle.rules.proofs.Tests.{clash}
use Rattle.bidi_write.proofs.Rows.{refused, passed}
use Rattle.transport.proofs.First.{over_first, first_free}
use Rattle.transport.proofs.Refused.{accepted, refusal}
use Rattle.transport.proofs.Views.{runs, valid_renewed}

stopped_is : (p : Phase) → phase_of (stopped p) ≡ cond (R.is_replay (phase_of p)) R.live (phase_of p)
stopped_is phase.Live = refl
stopped_is phase.Closing = refl
stopped_is phase.Connecting = refl
stopped_is (phase.Verdict r) = refl
stopped_is (phase.Replay c) = refl
stopped_is (phase.Ended c) = refl

-- no replay is left whose place would count
stopped_cursor : (p : Phase) (words : List ℕ) (waiting : ℕ) → CursorAt (stopped p) words waiting
stopped_cursor phase.Live words waiting = tt
stopped_cursor phase.Closing words waiting = tt
stopped_cursor phase.Connecting words waiting = tt
stopped_cursor (phase.Verdict r) words waiting = tt
stopped_cursor (phase.Replay c) words waiting = tt
stopped_cursor (phase.Ended c) words waiting = tt

abbrev unsent_tests : ℕ → Bool → Result (Unit {0}) Refusal
unsent_tests n nothing = checked (unsent_rows n nothing)

module _ (v : R.Session) where
  rule-refuses : (x : Refusal) → unsent_tests (R.phase_number v.phase) (is_nothing v.sent) ≡ Err x
      → step R.send_failed v ≡ R.answers (R.refused (number_of x)) v
  unfolding step unsent R.unless
  rule-refuses x e = refused v _ x _ e

  rule_accepts : unsent_tests (R.phase_number v.phase) (is_nothing v.sent) ≡ Ok tt
      → step R.send_failed v
      ≡ R.answers R.ok (R.set_phase (cond (R.is_replay v.phase) R.live v.phase) R.nothing
      (R.set_worker (R.set_mark (v.worker.self_flush_outstanding && not (is_bare v.sent)) v.worker) v))
  unfolding step unsent R.unless
  rule_accepts e = passed v _ _ e

module _ (s : Session) (store : Bytes) (table : List ℕ) (out : Bytes) (n : ℕ) (phase_is : n ≡ R.phase_number (phase_of s.phase))
    (nothing : Bool) (nothing_is : nothing ≡ is_nothing (sent_of s.sent)) where
  at-view : (o : Result (Unit {0}) Refusal) → unsent_tests n nothing ≡ o → unsent_tests (R.phase_number (view s store table).phase) (is_nothing (view s store table).sent) ≡ o
  unfolding view
  at-view o e = rw (sym phase_is, sym nothing_is) e

  pub unsent-refuses : (x : Refusal) → unsent_tests n nothing ≡ Err x
      → Promise R.send_failed s store table out (record { session = s; answer = Err x }) store table out
  unsent-refuses x e =
      refusal R.send_failed s store table out x
      (first_free R.send_failed s store table refl refl (λ f. over_first _ x _ e (ap (λ (k : ℕ). eqb k 6) phase_is ∙ f)))
      (λ _. rule-refuses (view s store table) x (at-view (Err x) e))

  pub unsent_accepts : (mark : Bool) → unsent_tests n nothing ≡ Ok tt → mark ≡ (s.worker.self_flush_outstanding && not (is_bare (sent_of s.sent)))
      → Promise R.send_failed s store table out
      (record { session = renewed s.worker.connector mark (stopped s.phase) sent.Nothing s; answer = Ok answer.Accepted }) store table out
  unfolding view worker_of
  unsent_accepts mark e mark_is = record {
    first = first_free R.send_failed s store table refl refl (λ f. clash f (runs s n phase_is _ _ e));
    refuses = λ x f. absurd (accepted _ x f);
    takes = omega arith;
    store_beyond = refl;
    table_beyond = refl;
    out_beyond = refl;
    sent_is = refl;
    sent_in = omega arith;
    steps = λ v. ap₂ (λ (p : R.Phase) (m : Bool). R.answers R.ok (R.set_phase p R.nothing (R.set_worker (R.set_mark m (view s store table).worker) (view s store table))))
        (stopped_is s.phase) mark_is
        ∙ sym (rule_accepts (view s store table) (at-view (Ok tt) e));
    stays = λ v. valid_renewed s.worker.connector mark (stopped s.phase) sent.Nothing s store table v v.spec_fits
        (λ _. v.followed (runs s n phase_is _ _ e)) (stopped_cursor s.phase _ _);
  }
