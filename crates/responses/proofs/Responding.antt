-- Response and handshake: what the code tests and leaves is what the rules say.
-- Assumes nothing.
use mathlib.Core.Path.{◌≡◌, refl, sym, ap, ◌∙◌}
use mathlib.Core.Bool.{Bool, true, false, not}
use mathlib.Core.List.{List, []}
use Prim.Native.Nat.{ℕ}
use native.Mathlib.Omega.{arith}
use lib.ListN.{length}
use Rattle.rules.specs.Message as M
use Rattle.rules.specs.Session as R
use Rattle.rules.specs.Respond.{updated, progress, takes, last_step, to_replay, responds, shakes}
use Rattle.rules.specs.Step.{step}
use Rattle.bidi_write.specs.Refusal.{number_of}
use Rattle.transport.specs.View.{phase_of, view, answer_of, left}
use Rattle.transport.specs.Valid.{GuardedAt, Valid}
use Rattle.transport.specs.Promise.{asked_by, PromisedAt}
use Rattle.bidi_write.specs.Refusal.{checked}
use Rattle.sizes.specs.Size.{Takes}
use Rattle.responses.specs.Respond.{Admits, receives, is_open, Prepares, Answers}
use Rattle.transport.specs.declared.Answer.{Answer}
use Rattle.std.specs.declared.result.Result.{Result}
use Rattle.std.specs.Prelude.{Ok, Err}
use Rattle.transport.specs.declared.Outcome.{Outcome}
use Rattle.bidi_write.specs.declared.Refusal.{Refusal}
use Rattle.bidi_write.specs.declared.Refusal.TheVariants as refusal
use Rattle.transport.specs.declared.Session.{Session}
use Rattle.sizes.specs.declared.Taken.{Taken}
use Rattle.responses.proofs.Admitting.{passes}
use Rattle.bidi_write.proofs.Rows.{same-refusal, refused, passed}
use Rattle.rules.proofs.Tests.{clash}
use Rattle.transport.proofs.Refused.{refusal}
use Rattle.transport.proofs.First.{ended-refused, first_goes}

-- the session with the mark cleared and the connector changed
abbrev noted : (R.Connector → R.Connector) → R.Session → R.Session
noted f v = R.set_worker (R.set_connector (f v.worker.connector) (R.set_mark false v.worker)) v

-- ---- the rules of both calls: refusals, and then what the status comes to

pub record Rules (c : R.Call) (right : R.Phase → Bool) (m : M.Response) (f : R.Connector → R.Connector) (last : ℕ → ℕ → R.Session → R.Result) : Type 0 where
  pub some : (asked_by c).empty ≡ false
  pub refuses : (v : R.Session) (x : Refusal) → checked (receives right v.phase m) ≡ Err x → step c v ≡ R.answers (R.refused (number_of x)) v
  pub accepts : (v : R.Session) → checked (receives right v.phase m) ≡ Ok tt
      → step c v ≡ takes (M.size_of m.write_status) (M.is_finalized m.write_status) (noted f v) last
  pub no_replay : (p : R.Phase) → not (right p) ≡ false → R.is_replay p ≡ false

pub response_rules : (m : M.Response) → Rules (R.response m) is_open m (updated m) last_step
unfolding step responds R.unless
response_rules m = record { some = refl; refuses = λ v x e. refused v _ x _ e; accepts = λ v e. passed v _ _ e; no_replay = phases }
  where
    phases : (p : R.Phase) → not (is_open p) ≡ false → R.is_replay p ≡ false
    phases R.live e = refl
    phases R.closing e = refl
    phases R.connecting e = refl
    phases (R.verdict r) e = refl
    phases (R.replay i) e = e
    phases (R.ended c) e = refl

pub handshake_rules : (m : M.Response)
    → Rules (R.handshake m) R.is_connecting m (λ (x : R.Connector). progress (M.size_of m.write_status) (updated m x)) to_replay
unfolding step shakes R.unless
handshake_rules m = record { some = refl; refuses = λ v x e. refused v _ x _ e; accepts = λ v e. passed v _ _ e; no_replay = phases }
  where
    phases : (p : R.Phase) → not (R.is_connecting p) ≡ false → R.is_replay p ≡ false
    phases R.live e = refl
    phases R.closing e = refl
    phases R.connecting e = refl
    phases (R.verdict r) e = refl
    phases (R.replay i) e = e
    phases (R.ended c) e = refl

-- ---- the promise

module _ {c : R.Call} {right : R.Phase → Bool} {m : M.Response} {f : R.Connector → R.Connector} {last : ℕ → ℕ → R.Session → R.Result} (rules : Rules c right m f last)
    (s : Session) (store : M.Bytes) (table : List ℕ) (way : Result (Unit {0}) Refusal) (admits : Admits s (length store) (length table) (receives right (phase_of s.phase) m) way) where
  pub refuses_as : (x : Refusal) → way ≡ Err x → PromisedAt c s store table (record { session = s; answer = Err x }) table
  unfolding view
  refuses_as x e out =
      refusal c s store table out x
      (record {
        empty = λ f. clash f rules.some;
        over = λ _ f. is refusal.Ended (admits.over f);
        unfit = λ _ f _ g. is refusal.ShortMemory (admits.unfit f g);
      })
      (λ v. by_end v (R.is_ended (phase_of s.phase)) refl)
    where
      is : (y : Refusal) → way ≡ Err y → ◌≡◌ {A = Result Answer Refusal} (Err x) (Err y)
      is y f = ap Err (same-refusal x y (sym e ∙ f))

      by_end : Valid s store table → (b : Bool) → R.is_ended (phase_of s.phase) ≡ b → step c (view s store table) ≡ R.answers (R.refused (number_of x)) (view s store table)
      by_end v true f =
          ended-refused c (view s store table) rules.some f
          ∙ ap (λ (y : Result Answer Refusal). R.answers (answer_of y []) (view s store table)) (sym (is refusal.Ended (admits.over f)))
      by_end v false f = rules.refuses (view s store table) x (sym (admits.tested f v.guarded) ∙ e)

  module _ (go : way ≡ Ok tt) where
    passed_all : checked (receives right (phase_of s.phase) m) ≡ Ok tt
    passed_all = sym (admits.tested (admits.goes go).0 (admits.goes go).1) ∙ go

    -- what the callees ask
    pub short : M.over M.max_handle m.write_handle ≡ false
    short = (passes _ _ _ passed_all).short

    pub fits_still : (t : Session) → Prepares f s t → GuardedAt t (length store) (length table)
    fits_still t p = p.guarded (length store) (length table) (admits.goes go).1

    module _ (t : Session) (p : Prepares f s t) (taken : Taken) (table' : List ℕ)
        (ts : Takes (M.size_of m.write_status) (M.is_finalized m.write_status) t store table taken table')
        (r : Outcome) (an : Answers last taken.end taken.settled taken.session r) where
      before : R.is_replay (phase_of s.phase) ≡ false
      before = rules.no_replay (phase_of s.phase) (passes _ _ _ passed_all).right_phase

      no_replay : R.is_replay (phase_of t.phase) ≡ false
      no_replay = rw p.phase_is before

      not_ended : R.is_ended (phase_of taken.session.phase) ≡ false
      not_ended = rw (ts.phase_is, p.phase_is) (passes _ _ _ passed_all).not_ended

      rule : step c (view s store table) ≡ takes (M.size_of m.write_status) (M.is_finalized m.write_status) (view t store table) last
      unfolding view
      rule =
          rules.accepts (view s store table) passed_all
          ∙ ap (λ (x : R.Session). takes (M.size_of m.write_status) (M.is_finalized m.write_status) x last) (sym (p.view_is store table))

      pub accepts_as : PromisedAt c s store table (left s (Ok r)) table'
      accepts_as out = record {
        first = first_goes c s store table rules.some (admits.goes go).0 (admits.goes go).1;
        refuses = λ x e. absurd (an.quiet.accepts x e);
        store_beyond = refl;
        table_beyond = rw p.slots_is at ts.beyond;
        out_beyond = rw (an.quiet.has_no_data out, an.quiet.none_sent);
        takes = omega (arith, an.quiet.none_taken);
        sent_is = rw (an.quiet.has_no_data out, an.quiet.none_sent);
        sent_in = omega (arith, an.quiet.none_sent);
        steps = λ v.
            an.answers store table' out (ts.stays no_replay (p.stays store table before v)) ∙ sym (ts.takes last no_replay (p.stays store table before v)) ∙ sym rule;
        stays = λ v. an.stays store table' not_ended (ts.stays no_replay (p.stays store table before v));
      }
