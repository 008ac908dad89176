-- Close: what the code tests and leaves is what the rule says.
-- Assumes nothing.
use mathlib.Core.Path.{◌≡◌, refl, sym, ap, ◌∙◌}
use mathlib.Core.Bool.{Bool, false}
use mathlib.Core.List.{List}
use Prim.Native.Nat.{ℕ}
use native.Mathlib.Omega.{arith}
use lib.Dec.{leb, eqb}
use Rattle.rules.specs.Message.{Bytes}
use Rattle.rules.specs.Session as R
use Rattle.rules.specs.Upload.{closes}
use Rattle.rules.specs.Step.{step}
use Rattle.bidi_write.specs.Refusal.{number_of}
use Rattle.admission.specs.Rows.{close_rows}
use Rattle.transport.specs.View.{phase_of, view}
use Rattle.transport.specs.Valid.{Valid}
use Rattle.transport.specs.Promise.{Promise}
use Rattle.bidi_write.specs.Refusal.{checked}
use Rattle.transport.specs.Parts.{set_phase}
use Rattle.transport.specs.declared.Session.{Session}
use Rattle.transport.specs.declared.Phase.TheVariants as phase
use Rattle.transport.specs.declared.Sent.TheVariants as sent
use Rattle.transport.specs.declared.Answer.TheVariants as answer
use Rattle.bidi_write.specs.declared.Refusal.{Refusal}
use Rattle.std.specs.declared.result.Result.{Result}
use Rattle.std.specs.Prelude.{Ok, Err}
use Rattle.bidi_write.proofs.Rows.{refused, passed, first_false}
use Rattle.rules.proofs.Tests.{clash}
use Rattle.transport.proofs.Refused.{accepted, refusal}
use Rattle.transport.proofs.First.{over_first, first_free}
use Rattle.transport.proofs.Numbers.{full_is}
use Rattle.transport.proofs.Views.{view_phase, valid_phase}

abbrev close_tests : ℕ → Bool → Result (Unit {0}) Refusal
close_tests n full = checked (close_rows n full)

rule-refuses : (v : R.Session) (x : Refusal) → close_tests (R.phase_number v.phase) (R.full v) ≡ Err x → step R.close v ≡ R.answers (R.refused (number_of x)) v
unfolding step closes R.unless
rule-refuses v x e = refused v _ x _ e

rule_accepts : (v : R.Session) → close_tests (R.phase_number v.phase) (R.full v) ≡ Ok tt → step R.close v ≡ R.answers R.ok (R.set_phase R.closing R.nothing v)
unfolding step closes R.unless
rule_accepts v e = passed v _ _ e

module _ (s : Session) (store : Bytes) (table : List ℕ) (out : Bytes) (n : ℕ) (phase_is : n ≡ R.phase_number (phase_of s.phase)) where
  abbrev b_full : Bool
  b_full = leb s.worker.replay_buffer.capacity s.worker.replay_buffer.unpersisted_bytes

  at-view : (o : Result (Unit {0}) Refusal) → close_tests n b_full ≡ o → Valid s store table → close_tests (R.phase_number (view s store table).phase) (R.full (view s store table)) ≡ o
  unfolding view
  at-view o e v = rw (sym phase_is, sym (full_is s store table v)) e

  pub close-refuses : (x : Refusal) → close_tests n b_full ≡ Err x → Promise R.close s store table out (record { session = s; answer = Err x }) store table out
  close-refuses x e =
      refusal R.close s store table out x (first_free R.close s store table refl refl (λ f. over_first _ x _ e (ap (λ (k : ℕ). eqb k 6) phase_is ∙ f))) (λ v. rule-refuses (view s store table) x (at-view (Err x) e v))

  pub close_accepts : close_tests n b_full ≡ Ok tt
      → Promise R.close s store table out (record { session = set_phase phase.Closing sent.Nothing s; answer = Ok answer.Accepted }) store table out
  close_accepts e = record {
    first = first_free R.close s store table refl refl (λ f. clash f on);
    refuses = λ x f. absurd (accepted _ x f);
    store_beyond = refl;
    table_beyond = refl;
    out_beyond = refl;
    takes = omega arith;
    sent_is = refl;
    sent_in = omega arith;
    steps = λ v. ap (R.answers R.ok) (view_phase phase.Closing sent.Nothing s store table) ∙ sym (rule_accepts (view s store table) (at-view (Ok tt) e v));
    stays = λ v. valid_phase phase.Closing sent.Nothing s store table v (λ _. v.followed on) tt;
  }
    where
      on : R.is_ended (phase_of s.phase) ≡ false
      on = ap (λ (k : ℕ). eqb k 6) (sym phase_is) ∙ first_false _ _ _ e
