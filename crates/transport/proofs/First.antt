-- What is answered before the rules are asked.
-- Assumes nothing.
use mathlib.Core.Path.{◌≡◌, refl, sym, ap, ◌∙◌}
use mathlib.Core.Bool.{Bool, true, false}
use mathlib.Core.List.{List, [], ◌∷◌}
use Prim.Native.Nat.{ℕ, ◌<◌}
use native.Mathlib.Omega.{arith}
use lib.ListN.{length}
use Rattle.rules.specs.Message.{Bytes}
use Rattle.rules.specs.Session as R
use Rattle.rules.specs.Step.{step}
use Rattle.rules.specs.Upload.{appends, asks, closes}
use Rattle.rules.specs.Respond.{responds, shakes}
use Rattle.rules.specs.Reconnect.{breaks, judges, fails}
use Rattle.rules.specs.Replay.{hands, unsent}
use Rattle.rules.proofs.Tests.{clash}
use Rattle.bidi_write.specs.Refusal.{number_of, Rows, checked}
use Rattle.bidi_write.specs.declared.Refusal.{Refusal}
use Rattle.bidi_write.specs.declared.Refusal.TheVariants as refusal
use Rattle.std.specs.declared.result.Result.{Result}
use Rattle.std.specs.Prelude.{Err}
use Rattle.transport.specs.declared.Answer.{Answer}
use Rattle.bidi_write.proofs.Rows.{same-refusal, no_go}
use Rattle.transport.specs.View.{Left, phase_of, view}
use Rattle.transport.specs.Valid.{GuardedAt, Valid, Enters}
use Rattle.transport.specs.Promise.{asked_by, First, Promise}
use Rattle.transport.specs.declared.Session.{Session}
use Rattle.transport.proofs.Refused.{refusal}

-- an append of at least a byte
pub some_offered : (d : Bytes) → 0 < length d → R.is_nil d ≡ false
some_offered [] h = absurd (omega arith)
some_offered (x ∷ d) h = refl

-- the rules refuse a session that has ended with 7
pub ended-refused : (c : R.Call) (v : R.Session) → (asked_by c).empty ≡ false → R.is_ended v.phase ≡ true → step c v ≡ R.answers (R.refused 7) v
unfolding step appends asks closes responds shakes breaks judges fails hands unsent R.unless
ended-refused (R.append [] out) v n e = clash refl n
ended-refused (R.append (x ∷ d) out) v n e = rw e
ended-refused (R.flush out) v n e = rw e
ended-refused (R.finalise out) v n e = rw e
ended-refused (R.next_request out) v n e = rw e
ended-refused R.close v n e = rw e
ended-refused R.send_failed v n e = rw e
ended-refused (R.response m) v n e = rw e
ended-refused (R.handshake m) v n e = rw e
ended-refused (R.break b) v n e = rw e
ended-refused (R.judge k) v n e = rw e
ended-refused (R.failed_attempt b k) v n e = rw e

-- the first row is 7
pub over_first : (b : Bool) (x : Refusal) (rs : Rows) → checked ((b, refusal.Ended) ∷ rs) ≡ Err x → b ≡ true → ◌≡◌ {A = Result Answer Refusal} (Err x) (Err refusal.Ended)
unfolding checked
over_first true x rs e f = cc
over_first false x rs e f = clash f refl

module _ (c : R.Call) (s : Session) (store : Bytes) (table : List ℕ) (some : (asked_by c).empty ≡ false) where
  -- a call that goes on: the session has not ended, and its numbers fit
  pub first_goes : R.is_ended (phase_of s.phase) ≡ false → GuardedAt s (length store) (length table)
      → {out : Bytes} {r : Left} {store' : Bytes} {table' : List ℕ} {out' : Bytes} → First c s store table out r store' table' out'
  first_goes on g = record { empty = λ e. clash e some; over = λ _ e. clash e on; unfit = λ _ _ _ f. absurd (f g) }

  -- a call that touches no memory
  pub first_free : (asked_by c).touches ≡ false → {out : Bytes} {r : Left} {store' : Bytes} {table' : List ℕ} {out' : Bytes}
      → (R.is_ended (phase_of s.phase) ≡ true → r.answer ≡ Err refusal.Ended) → First c s store table out r store' table' out'
  first_free free e = record { empty = λ f. clash f some; over = λ _. e; unfit = λ _ _ f. clash f free }

  -- `enter` refuses
  pub turned_away_lem : (out : Bytes) (x : Refusal) → Enters s (length store) (length table) (Err x)
      → Promise c s store table out (record { session = s; answer = Err x }) store table out
  unfolding view
  turned_away_lem out x e =
      refusal c s store table out x
      (record {
        empty = λ f. clash f some;
        over = λ _ f. ap Err (same-refusal x refusal.Ended (e.over f));
        unfit = λ _ f _ g. ap Err (same-refusal x refusal.ShortMemory (e.unfit f g));
      })
      (λ v. by_end v (R.is_ended (phase_of s.phase)) refl)
    where
      by_end : Valid s store table → (b : Bool) → R.is_ended (phase_of s.phase) ≡ b
          → step c (view s store table) ≡ R.answers (R.refused (number_of x)) (view s store table)
      by_end v true f =
          ended-refused c (view s store table) some f
          ∙ ap (λ (y : Refusal). R.answers (R.refused (number_of y)) (view s store table)) (sym (same-refusal x refusal.Ended (e.over f)))
      by_end v false f = no_go x (e.fits f v.guarded)
