-- A call past its refusals keeps its promise.
-- Assumes nothing.
use mathlib.Core.Path.{◌≡◌, refl, ◌∙◌}
use mathlib.Core.Option.{Option, none, some}
use mathlib.Core.List.{List}
use Prim.Native.Nat.{ℕ}
use native.Mathlib.Omega.{arith}
use Rattle.rules.specs.Message.{Bytes}
use Rattle.rules.specs.Message as M
use Rattle.rules.specs.Session as R
use Rattle.rules.specs.Reconnect.{rerouted}
use Rattle.rules.specs.Step.{step}
use Rattle.bidi_write.specs.View.{cause_of}
use Rattle.bidi_write.specs.declared.Cause.{Cause}
use Rattle.bidi_write.specs.declared.Refusal.{Refusal}
use Rattle.std.specs.declared.result.Result.{Result}
use Rattle.std.specs.Prelude.{Ok, Err}
use Rattle.transport.specs.View.{left, view}
use Rattle.transport.specs.Valid.{Valid}
use Rattle.transport.specs.Promise.{First, Promise}
use Rattle.transport.specs.Parts.{EndsAs}
use Rattle.transport.specs.declared.Answer.{Answer}
use Rattle.transport.specs.declared.Answer.TheVariants as answer
use Rattle.transport.specs.declared.Outcome.{Outcome}
use Rattle.transport.specs.declared.Session.{Session}
use Rattle.reconnects.specs.Follows.{Follows}

-- where the rule followed is the call's
pub promise : (c : R.Call) (rule : R.Session → R.Result) (s : Session) (store : Bytes) (table : List ℕ) (out : Bytes) (r : Outcome) → First c s store table out (left s (Ok r)) store table out → Follows rule s r
    → (Valid s store table → rule (view s store table) ≡ step c (view s store table)) → Promise c s store table out (left s (Ok r)) store table out
promise c rule s store table out r g f e = record {
  first = g;
  refuses = λ x h. absurd (f.quiet.accepts x h);
  store_beyond = refl;
  table_beyond = refl;
  out_beyond = rw (f.quiet.has_no_data out, f.quiet.none_sent);
  takes = omega (arith, f.quiet.none_taken);
  sent_is = rw (f.quiet.has_no_data out, f.quiet.none_sent);
  sent_in = omega (arith, f.quiet.none_sent);
  steps = λ v. f.steps store table out v ∙ e v;
  stays = f.stays store table;
}

pub ended : (c : Cause) (k released : ℕ) (s : Session) (r : Outcome) → EndsAs c k released s r → Follows (R.ending (cause_of c) k released) s r
ended c k released s r e = record {
  quiet = record {
    accepts = λ x f. never r.answer x e.answer_is f;
    none_taken = rw e.answer_is;
    none_sent = rw e.answer_is;
    has_no_data = λ out. rw e.answer_is;
  };
  steps = e.ends;
  stays = e.stays;
}
  where
    never : (a : Answer) (x : Refusal) → a ≡ answer.Ends (record { cause = c; completed = k; released = released; failed = s.worker.pending_requests.count }) → ◌≡◌ {A = Result Answer Refusal} (Ok a) (Err x) → ⊥
    never a x g f = let z : ◌≡◌ {A = ℕ} 0 1 = cc in absurd (omega arith)

-- a redirect that is taken over is not counted yet
pub rerouted_keeps : (o : Option M.Redirect) (c : R.Connector) → (rerouted o c).counters.redirects_followed ≡ c.counters.redirects_followed
rerouted_keeps none c = refl
rerouted_keeps (some r) c = refl
