-- Verdict and failed attempt: a redirect is counted, and the verdict goes on or ends.
-- Assumes nothing.
use mathlib.Core.Path.{◌≡◌, refl, sym, ap, ap₂, ◌∙◌}
use mathlib.Core.Bool.{Bool, true, false, not, cond, not-not}
use mathlib.Core.Option.{Option, none, some}
use mathlib.Core.List.{List}
use Prim.Native.Nat.{ℕ, ◌-◌, ◌^◌, ◌<◌, ◌≤◌}
use native.Mathlib.Omega.{arith}
use borrow.Author.Tests.{ltb-true}
use lib.Dec.{ltb, eqb}
use Rattle.rules.specs.Limits.{max_redirects}
use Rattle.rules.specs.Message.{Bytes}
use Rattle.rules.specs.Message as M
use Rattle.rules.specs.Session as R
use Rattle.rules.specs.Reconnect.{overlong, rerouted, ruling, counted, ruled, no_verdict, on_redirect, judges, fails}
use Rattle.rules.specs.Step.{step}
use Rattle.bidi_write.specs.View.{cause_of}
use Rattle.bidi_write.specs.declared.Cause.{Cause}
use Rattle.state.specs.View.{SpecFits}
use Rattle.connector.specs.View.{connector_of}
use Rattle.connector.specs.declared.Connector.{Connector}
use Rattle.worker.specs.View.{worker_of}
use Rattle.bidi_write.specs.Refusal.{number_of}
use Rattle.admission.specs.Rows.{judge_rows, fail_rows}
use Rattle.transport.specs.View.{left, phase_of, view}
use Rattle.transport.specs.Valid.{Valid}
use Rattle.transport.specs.Promise.{Promise}
use Rattle.bidi_write.specs.Refusal.{checked}
use Rattle.transport.specs.Parts.{renewed, EndsAs}
use Rattle.reconnects.specs.Follows.{Follows, judged}
use Rattle.transport.specs.declared.Answer.TheVariants as answer
use Rattle.std.specs.declared.result.Result.{Result}
use Rattle.std.specs.Prelude.{Ok, Err}
use Rattle.transport.specs.declared.Outcome.{Outcome}
use Rattle.transport.specs.declared.Phase.TheVariants as phase
use Rattle.bidi_write.specs.declared.Refusal.{Refusal}
use Rattle.transport.specs.declared.Sent.TheVariants as sent
use Rattle.transport.specs.declared.Session.{Session}
use Rattle.rules.proofs.Tests.{clash}
use Rattle.transport.proofs.Views.{runs, valid_renewed}
use Rattle.bidi_write.proofs.Rows.{refused, passed, first_false, later}
use Rattle.transport.proofs.Refused.{refusal}
use Rattle.transport.proofs.First.{over_first, first_free}
use Rattle.reconnects.proofs.Following.{promise, ended, rerouted_keeps}

-- ---- a redirect that goes on is one of the first three

some_none {ℓ} : {X : Type ℓ} (c : R.Cause) → ◌≡◌ {A = Option R.Cause} (some c) none → X
some_none c e = let z : ◌≡◌ {A = ℕ} 0 1 = cc in absurd (omega arith)

below-three : (four three two : Bool) → cond four (some R.given_up) (cond three none (cond two (some R.permanent) (some R.exhausted))) ≡ none → three ≡ true
below-three true three two e = some_none R.given_up e
below-three false true two e = refl
below-three false false true e = some_none R.permanent e
below-three false false false e = some_none R.exhausted e

counted_low : (redirect : Bool) (c : R.Connector) (verdict : ℕ) → ruling redirect c.counters.redirects_followed verdict ≡ none → c.counters.redirects_followed ≤ max_redirects
    → (counted redirect c).counters.redirects_followed ≤ max_redirects
counted_low true c verdict e h = omega (arith, ltb-true c.counters.redirects_followed max_redirects (below-three (eqb verdict 4) (ltb c.counters.redirects_followed max_redirects) (eqb verdict 2) e))
counted_low false c verdict e h = h

rerouted_low : (o : Option M.Redirect) (d c : Connector) → connector_of d ≡ rerouted o (connector_of c) → c.redirects_followed ≤ max_redirects → d.redirects_followed ≤ max_redirects
unfolding connector_of
rerouted_low o d c e h = let same = ap (λ (k : R.Connector). k.counters.redirects_followed) e ∙ rerouted_keeps o (connector_of c) in omega arith

-- ---- d is the connector with a redirect counted

module _ (s : Session) (redirect : Bool) (verdict : ℕ) (d : Connector)
    (counts : s.worker.connector.redirects_followed < 2 ^ 32 - 1 → connector_of d ≡ counted redirect (connector_of s.worker.connector))
    (fits : SpecFits s.worker.connector.spec → SpecFits d.spec) (runs : R.is_ended (phase_of s.phase) ≡ false) where
  -- as the rule has it, of whatever the verdict comes to
  as_judged : (o : Option R.Cause) (store : Bytes) (table : List ℕ) → ruling redirect s.worker.connector.redirects_followed verdict ≡ o → Valid s store table
      → ruled o (R.set_worker (R.set_connector (connector_of d) (view s store table).worker) (view s store table)) ≡ judged redirect verdict (view s store table)
  unfolding view worker_of connector_of
  as_judged o store table e v =
      let low = v.followed runs in
      ap₂ (λ (o : Option R.Cause) (c : R.Connector). ruled o (R.set_worker (R.set_connector c (view s store table).worker) (view s store table)))
      (sym e) (counts (omega arith))

  low : (store : Bytes) (table : List ℕ) → ruling redirect s.worker.connector.redirects_followed verdict ≡ none → Valid s store table
      → d.redirects_followed ≤ max_redirects
  unfolding connector_of
  low store table e v =
      let low = v.followed runs in
      rw (ap (λ (c : R.Connector). c.counters.redirects_followed) (counts (omega arith))) (counted_low redirect (connector_of s.worker.connector) verdict e low)

  pub goes_on : ruling redirect s.worker.connector.redirects_followed verdict ≡ none
      → Follows (judged redirect verdict) s (record {
        session = renewed d s.worker.self_flush_outstanding phase.Connecting sent.Nothing s;
        answer = answer.Accepted;
      })
  unfolding view worker_of ruled
  goes_on e = record {
    quiet = record { accepts = λ x f. let z : ◌≡◌ {A = ℕ} 0 1 = cc in absurd (omega arith); none_taken = refl; none_sent = refl; has_no_data = λ out. refl };
    steps = λ store table out v. as_judged none store table e v;
    stays = λ store table v.
        valid_renewed d _ phase.Connecting sent.Nothing s store table v (fits v.spec_fits) (λ _. low store table e v) tt;
  }

  pub rules_end : (cause : Cause) (r : Outcome) → ruling redirect s.worker.connector.redirects_followed verdict ≡ some (cause_of cause)
      → EndsAs cause 0 0 (renewed d s.worker.self_flush_outstanding (phase.Ended cause) sent.Nothing s) r
      → Follows (judged redirect verdict) s r
  unfolding view worker_of ruled R.ending
  rules_end cause r e ends = record {
    quiet = (ended cause 0 0 _ r ends).quiet;
    steps = λ store table out v. ends.ends store table out (over store table v) ∙ as_judged (some (cause_of cause)) store table e v;
    stays = λ store table v. ends.stays store table (over store table v);
  }
    where
      over : (store : Bytes) (table : List ℕ) → Valid s store table
          → Valid (renewed d s.worker.self_flush_outstanding (phase.Ended cause) sent.Nothing s) store table
      over store table v = valid_renewed d _ (phase.Ended cause) sent.Nothing s store table v (fits v.spec_fits) (λ f. clash refl f) tt

-- ---- the two calls

abbrev judge_tests : ℕ → Bool → Result (Unit {0}) Refusal
judge_tests n valid = checked (judge_rows n valid)

abbrev fail_tests : ℕ → Bool → Bool → Bool → Result (Unit {0}) Refusal
fail_tests n valid malformed long = checked (fail_rows n valid malformed long)

-- where the code goes on, no token or handle is too long
pub fail_short : (n : ℕ) (valid malformed long : Bool) → fail_tests n valid malformed long ≡ Ok tt → long ≡ false
fail_short n valid malformed long e = first_false long _ _ (later _ _ _ (later _ _ _ (later _ _ _ (later _ _ _ e))))

module _ (verdict : ℕ) (v : R.Session) where
  judge-refused : (x : Refusal) → judge_tests (R.phase_number v.phase) (not (no_verdict verdict)) ≡ Err x
      → step (R.judge verdict) v ≡ R.answers (R.refused (number_of x)) v
  unfolding step judges R.unless
  judge-refused x e = refused v _ x _ (rw (not-not (no_verdict verdict)) at e)

  judge_passed : judge_tests (R.phase_number v.phase) (not (no_verdict verdict)) ≡ Ok tt → step (R.judge verdict) v ≡ judged (on_redirect v.phase) verdict v
  unfolding step judges R.unless
  judge_passed e = passed v _ _ (rw (not-not (no_verdict verdict)) at e)

  module _ (b : M.Break) where
    fail_refused : (x : Refusal) → fail_tests (R.phase_number v.phase) (not (no_verdict verdict)) (M.is_malformed b) (overlong (M.redirect_in b)) ≡ Err x
        → step (R.failed_attempt b verdict) v ≡ R.answers (R.refused (number_of x)) v
    unfolding step fails R.unless
    fail_refused x e = refused v _ x _ (rw (not-not (no_verdict verdict)) at e)

    fail_passed : fail_tests (R.phase_number v.phase) (not (no_verdict verdict)) (M.is_malformed b) (overlong (M.redirect_in b)) ≡ Ok tt
        → step (R.failed_attempt b verdict) v
        ≡ judged (M.is_redirect b) verdict (R.set_worker (R.set_connector (rerouted (M.redirect_in b) v.worker.connector) v.worker) v)
    unfolding step fails R.unless
    fail_passed e = passed v _ _ (rw (not-not (no_verdict verdict)) at e)

module _ (s : Session) (n verdict : ℕ) (phase_is : n ≡ R.phase_number (phase_of s.phase)) (valid : Bool) (valid-is : valid ≡ not (no_verdict verdict)) where
  module _ (store : Bytes) (table : List ℕ) (out : Bytes) where
    judge-at : (o : Result (Unit {0}) Refusal) → judge_tests n valid ≡ o → judge_tests (R.phase_number (view s store table).phase) (not (no_verdict verdict)) ≡ o
    unfolding view
    judge-at o e = rw (sym phase_is, sym valid-is) e

    pub judge-refuses : (x : Refusal) → judge_tests n valid ≡ Err x
        → Promise (R.judge verdict) s store table out (left s (Err x)) store table out
    judge-refuses x e =
        refusal (R.judge verdict) s store table out x (first_free (R.judge verdict) s store table refl refl (λ f. over_first _ x _ e (ap (λ (k : ℕ). eqb k 6) phase_is ∙ f)))
        (λ _. judge-refused verdict (view s store table) x (judge-at (Err x) e))

    pub judge_goes : (r : Outcome) → judge_tests n valid ≡ Ok tt
        → (R.is_ended (phase_of s.phase) ≡ false → Follows (judged (on_redirect (phase_of s.phase)) verdict) s r)
        → Promise (R.judge verdict) s store table out (left s (Ok r)) store table out
    unfolding view
    judge_goes r e f =
        promise (R.judge verdict) _ s store table out r (first_free (R.judge verdict) s store table refl refl (λ g. clash g (runs s n phase_is _ _ e)))
        (f (runs s n phase_is _ _ e)) (λ _. sym (judge_passed verdict (view s store table) (judge-at (Ok tt) e)))

  module _ (b : M.Break) (malformed : Bool) (malformed_is : malformed ≡ M.is_malformed b) (long : Bool) (long-is : long ≡ overlong (M.redirect_in b)) where
    module _ (store : Bytes) (table : List ℕ) (out : Bytes) where
      fail_at : (o : Result (Unit {0}) Refusal) → fail_tests n valid malformed long ≡ o
          → fail_tests (R.phase_number (view s store table).phase) (not (no_verdict verdict)) (M.is_malformed b) (overlong (M.redirect_in b)) ≡ o
      unfolding view
      fail_at o e = rw (sym phase_is, sym valid-is, sym malformed_is, sym long-is) e

      pub fail_refuses : (x : Refusal) → fail_tests n valid malformed long ≡ Err x
          → Promise (R.failed_attempt b verdict) s store table out (left s (Err x)) store table out
      fail_refuses x e =
          refusal (R.failed_attempt b verdict) s store table out x
          (first_free (R.failed_attempt b verdict) s store table refl refl (λ f. over_first _ x _ e (ap (λ (k : ℕ). eqb k 6) phase_is ∙ f)))
          (λ _. fail_refused verdict (view s store table) b x (fail_at (Err x) e))

      -- d is the connector with the redirect taken over
      pub fail_goes : (d : Connector) (r : Outcome) → fail_tests n valid malformed long ≡ Ok tt
          → connector_of d ≡ rerouted (M.redirect_in b) (connector_of s.worker.connector)
          → (SpecFits s.worker.connector.spec → SpecFits d.spec)
          → (R.is_ended (phase_of s.phase) ≡ false
          → Follows (judged (M.is_redirect b) verdict) (renewed d s.worker.self_flush_outstanding s.phase s.sent s) r)
          → Promise (R.failed_attempt b verdict) s store table out (left s (Ok r)) store table out
      unfolding view worker_of
      fail_goes d r e d-is fits f =
          promise (R.failed_attempt b verdict)
          (λ (v : R.Session). judged (M.is_redirect b) verdict (R.set_worker (R.set_connector (rerouted (M.redirect_in b) v.worker.connector) v.worker) v))
          s store table out r (first_free (R.failed_attempt b verdict) s store table refl refl (λ g. clash g run))
          (record {
            quiet = (f run).quiet;
            steps = λ store table out v. (f run).steps store table out (kept store table v)
                ∙ ap (λ (c : R.Connector). judged (M.is_redirect b) verdict (R.set_worker (R.set_connector c (view s store table).worker) (view s store table))) d-is;
            stays = λ store table v. (f run).stays store table (kept store table v);
          })
          (λ _. sym (fail_passed verdict (view s store table) b (fail_at (Ok tt) e)))
        where
          run : R.is_ended (phase_of s.phase) ≡ false
          run = runs s n phase_is _ _ e

          kept : (store : Bytes) (table : List ℕ) → Valid s store table
              → Valid (renewed d s.worker.self_flush_outstanding s.phase s.sent s) store table
          kept store table v =
              valid_renewed d _ s.phase s.sent s store table v (fits v.spec_fits)
              (λ g. rerouted_low (M.redirect_in b) d s.worker.connector d-is (v.followed g)) v.cursor
