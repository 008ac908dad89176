-- Break: what the code tests and leaves is what the rule says.
-- Assumes nothing.
use mathlib.Core.Path.{◌≡◌, refl, sym, ap, ap₂, ◌∙◌}
use mathlib.Core.Bool.{Bool, true, false, cond, ◌&&◌}
use mathlib.Core.Option.{some}
use mathlib.Core.List.{List}
use Prim.Native.Nat.{ℕ, ◌≤◌}
use native.Mathlib.Omega.{arith}
use lib.Dec.{eqb}
use lib.IntN.{ℤ}
use lib.Signed.{lt_z}
use Rattle.rules.specs.Message.{Bytes}
use Rattle.rules.specs.Message as M
use Rattle.rules.specs.Session as R
use Rattle.rules.specs.Respond.{progress}
use Rattle.rules.specs.Reconnect.{overlong, rerouted, attempted, breaks}
use Rattle.rules.specs.Step.{step}
use Rattle.bidi_write.specs.View.{cause_of}
use Rattle.bidi_write.specs.declared.Cause.{Cause}
use Rattle.bidi_write.specs.declared.Cause.TheVariants as cause
use Rattle.redirect.specs.Detail.{Reading, redirect_at, ReadsDetail}
use Rattle.state.specs.View.{SpecFits}
use Rattle.connector.specs.View.{connector_of}
use Rattle.connector.specs.declared.Connector.{Connector}
use Rattle.worker.specs.View.{worker_of}
use Rattle.bidi_write.specs.Refusal.{number_of}
use Rattle.admission.specs.Rows.{break_rows}
use Rattle.transport.specs.View.{left, phase_of, view}
use Rattle.transport.specs.Valid.{Valid}
use Rattle.transport.specs.Promise.{First, Promise}
use Rattle.bidi_write.specs.Refusal.{checked}
use Rattle.transport.specs.Parts.{EndsAs}
use Rattle.reconnects.specs.Follows.{awaits}
use Rattle.std.specs.declared.result.Result.{Result}
use Rattle.std.specs.Prelude.{Ok, Err}
use Rattle.transport.specs.declared.Outcome.{Outcome}
use Rattle.transport.specs.declared.Phase.TheVariants as phase
use Rattle.bidi_write.specs.declared.Refusal.{Refusal}
use Rattle.transport.specs.declared.Sent.TheVariants as sent
use Rattle.transport.specs.declared.Session.{Session}
use Rattle.bidi_write.proofs.Rows.{refused, passed, first_false, later}
use Rattle.rules.proofs.Tests.{clash}
use Rattle.transport.proofs.Refused.{refusal}
use Rattle.transport.proofs.First.{over_first, first_free}
use Rattle.transport.proofs.Numbers.{complete_is}
use Rattle.transport.proofs.Views.{runs, valid_renewed}
use Rattle.reconnects.proofs.Detail.{rerouted_as}
use Rattle.reconnects.proofs.Following.{promise, ended, rerouted_keeps}

-- ---- a break follows no redirect, and progress starts anew

progress_low : (n : ℤ) (c : R.Connector) → (progress (some n) c).counters.redirects_followed ≤ c.counters.redirects_followed
progress_low n c = at (lt_z c.counters.last_persisted_size n)
  where
    at : (t : Bool) → (cond t (record { spec = c.spec; counters = record { attempt_count = 0; redirects_followed = 0; last_persisted_size = n } }) c).counters.redirects_followed ≤ c.counters.redirects_followed
    at true = omega arith
    at false = omega arith

attempted_keeps : (t : Bool) (c : R.Connector) → (attempted t c).counters.redirects_followed ≡ c.counters.redirects_followed
attempted_keeps true c = refl
attempted_keeps false c = refl

-- the connector after a break, as the rules have it
abbrev pub reconnected : M.Break → ℤ → R.Connector → R.Connector
reconnected b n c = attempted (M.is_redirect b) (progress (some n) (rerouted (M.redirect_in b) c))

pub reconnected_as : {d : Reading} {b : M.Break} {value : Bytes} → ReadsDetail d b value → {t : Bool} → t ≡ M.is_redirect b → (n : ℤ) (c : R.Connector) {x : R.Connector}
    → x ≡ attempted t (progress (some n) (rerouted (redirect_at d value) c)) → x ≡ reconnected b n c
reconnected_as reads t-is n c e = e ∙ ap₂ (λ (t : Bool) (k : R.Connector). attempted t (progress (some n) k)) t-is (rerouted_as reads c)

reconnected_low : (b : M.Break) (n : ℤ) (d c : Connector) → connector_of d ≡ reconnected b n (connector_of c) → d.redirects_followed ≤ c.redirects_followed
unfolding connector_of
reconnected_low b n d c e =
    omega (
      arith,
      ap (λ (k : R.Connector). k.counters.redirects_followed) e,
      attempted_keeps (M.is_redirect b) (progress (some n) (rerouted (M.redirect_in b) (connector_of c))),
      progress_low n (rerouted (M.redirect_in b) (connector_of c)),
      rerouted_keeps (M.redirect_in b) (connector_of c),
    )

-- ---- the rule, by what its tests come to

first : (t : Bool) (x y : R.Result) → t ≡ true → R.choose t x y ≡ x
unfolding R.choose
first t x y e = rw e refl

second : (t : Bool) (x y : R.Result) → t ≡ false → R.choose t x y ≡ y
unfolding R.choose
second t x y e = rw e refl

abbrev break_tests : ℕ → Bool → Bool → Result (Unit {0}) Refusal
break_tests n malformed long = checked (break_rows n malformed long)

-- where the code goes on, no token or handle is too long
pub break-short : (n : ℕ) (malformed long : Bool) → break_tests n malformed long ≡ Ok tt → long ≡ false
break-short n malformed long e = first_false long _ _ (later _ _ _ (later _ _ _ (later _ _ _ e)))

module _ (b : M.Break) (v : R.Session) where
  abbrev RuleTests : Result (Unit {0}) Refusal → Type 0
  RuleTests o = break_tests (R.phase_number v.phase) (M.is_malformed b) (overlong (M.redirect_in b)) ≡ o

  rule-refuses : (x : Refusal) → RuleTests (Err x) → step (R.break b) v ≡ R.answers (R.refused (number_of x)) v
  unfolding step breaks R.unless
  rule-refuses x e = refused v _ x _ e

  rule-finishes : RuleTests (Ok tt) → R.complete v ≡ true → step (R.break b) v ≡ R.ending R.finished 0 0 v
  unfolding step breaks R.unless
  rule-finishes e f = passed v _ _ e ∙ first _ _ _ f

  rule-closes : RuleTests (Ok tt) → R.complete v ≡ false → R.is_closing v.phase ≡ true
      → step (R.break b) v ≡ R.ending (cond (M.is_end b) R.finished R.stream_error) 0 0 v
  unfolding step breaks R.unless
  rule-closes e f g = passed v _ _ e ∙ second _ _ _ f ∙ first _ _ _ g

  rule-awaits : RuleTests (Ok tt) → R.complete v ≡ false → R.is_closing v.phase ≡ false
      → step (R.break b) v
      ≡ (let c = reconnected b v.worker.persisted_size v.worker.connector in
      R.answers (R.attempt (cond (M.is_redirect b) 0 c.counters.attempt_count))
      (R.set_phase (R.verdict (M.is_redirect b)) R.nothing (R.set_worker (R.set_connector c (R.set_mark false v.worker)) v)))
  unfolding step breaks R.unless
  rule-awaits e f g = passed v _ _ e ∙ second _ _ _ f ∙ second _ _ _ g

-- ---- the call

module _ (s : Session) (store : Bytes) (table : List ℕ) (out : Bytes) (n : ℕ) (phase_is : n ≡ R.phase_number (phase_of s.phase)) (b : M.Break)
    (malformed : Bool) (malformed_is : malformed ≡ M.is_malformed b) (long : Bool) (long-is : long ≡ overlong (M.redirect_in b)) where
  at-view : (o : Result (Unit {0}) Refusal) → break_tests n malformed long ≡ o → RuleTests b (view s store table) o
  unfolding view
  at-view o e = rw (sym phase_is, sym malformed_is, sym long-is) e

  pub break-refuses : (x : Refusal) → break_tests n malformed long ≡ Err x
      → Promise (R.break b) s store table out (left s (Err x)) store table out
  break-refuses x e =
      refusal (R.break b) s store table out x (first_free (R.break b) s store table refl refl (λ f. over_first _ x _ e (ap (λ (k : ℕ). eqb k 6) phase_is ∙ f)))
      (λ _. rule-refuses b (view s store table) x (at-view (Err x) e))

  module _ (go : break_tests n malformed long ≡ Ok tt) (complete : Bool) (complete-means : complete ≡ (s.worker.finalized && eqb s.worker.pending_requests.count 0)) where
    goes_first : {r : Outcome} → First (R.break b) s store table out (left s (Ok r)) store table out
    goes_first = first_free (R.break b) s store table refl refl (λ f. clash f (runs s n phase_is _ _ go))

    complete-at : (t : Bool) → complete ≡ t → Valid s store table → R.complete (view s store table) ≡ t
    complete-at t e v = sym (complete_is s store table v) ∙ sym complete-means ∙ e

    closing_at : (t : Bool) → eqb n 5 ≡ t → R.is_closing (view s store table).phase ≡ t
    unfolding view
    closing_at t e = rw (sym phase_is) e

    pub break-finishes : (r : Outcome) → complete ≡ true → EndsAs cause.Finished 0 0 s r → Promise (R.break b) s store table out (left s (Ok r)) store table out
    break-finishes r done ends =
        promise (R.break b) _ s store table out r goes_first (ended cause.Finished 0 0 s r ends)
        (λ v. sym (rule-finishes b (view s store table) (at-view (Ok tt) go) (complete-at true done v)))

    module _ (waits : complete ≡ false) where
      pub break-closes : (cause : Cause) (r : Outcome) → eqb n 5 ≡ true → cause_of cause ≡ cond (M.is_end b) R.finished R.stream_error → EndsAs cause 0 0 s r
          → Promise (R.break b) s store table out (left s (Ok r)) store table out
      break-closes cause r closing cause-is ends =
          promise (R.break b) _ s store table out r goes_first (ended cause 0 0 s r ends)
          (λ v. ap (λ (k : R.Cause). R.ending k 0 0 (view s store table)) cause-is
          ∙ sym (rule-closes b (view s store table) (at-view (Ok tt) go) (complete-at false waits v) (closing_at true closing)))

      pub break-awaits : (d : Connector) (redirect : Bool) → eqb n 5 ≡ false → redirect ≡ M.is_redirect b
          → connector_of d ≡ reconnected b s.worker.persisted_size.0 (connector_of s.worker.connector)
          → (SpecFits s.worker.connector.spec → SpecFits d.spec) → Promise (R.break b) s store table out (left s (Ok (awaits d redirect s))) store table out
      unfolding view worker_of connector_of
      break-awaits d redirect live redirect_is d-is fits = record {
        first = goes_first;
        refuses = λ x f. let z : ◌≡◌ {A = ℕ} 0 1 = cc in absurd (omega arith);
        store_beyond = refl;
        table_beyond = refl;
        out_beyond = refl;
        takes = omega arith;
        sent_is = refl;
        sent_in = omega arith;
        steps = λ v. ap₂ (λ (t : Bool) (c : R.Connector). R.answers (R.attempt (cond t 0 c.counters.attempt_count))
            (R.set_phase (R.verdict t) R.nothing (R.set_worker (R.set_connector c (R.set_mark false (view s store table).worker)) (view s store table))))
            redirect_is d-is
            ∙ sym (rule-awaits b (view s store table) (at-view (Ok tt) go) (complete-at false waits v) (closing_at false live));
        stays = λ v.
            let low = v.followed (runs s n phase_is _ _ go) in
            let less = reconnected_low b s.worker.persisted_size.0 d s.worker.connector d-is in
            valid_renewed d false (phase.Verdict redirect) sent.Nothing s store table v (fits v.spec_fits) (λ _. omega arith) tt;
      }
