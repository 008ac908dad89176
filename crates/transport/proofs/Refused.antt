-- The promise of a refused call, and that no answer is a refusal.
-- Assumes nothing.
use mathlib.Core.Path.{◌≡◌, refl, sym}
use mathlib.Core.List.{List}
use Prim.Native.Nat.{ℕ}
use native.Mathlib.Omega.{arith}
use Rattle.rules.specs.Message.{Bytes}
use Rattle.rules.specs.Session as R
use Rattle.rules.specs.Step.{step}
use Rattle.bidi_write.specs.Refusal.{number_of}
use Rattle.bidi_write.specs.declared.Refusal.{Refusal}
use Rattle.std.specs.declared.result.Result.{Result}
use Rattle.std.specs.Prelude.{Ok, Err}
use Rattle.transport.specs.View.{view}
use Rattle.transport.specs.Valid.{Valid}
use Rattle.transport.specs.Promise.{First, Promise}
use Rattle.transport.specs.declared.Answer.{Answer}
use Rattle.transport.specs.declared.Session.{Session}

-- an answer is no refusal
pub accepted : (a : Answer) (x : Refusal) → ◌≡◌ {A = Result Answer Refusal} (Ok a) (Err x) → ⊥
accepted a x f = let z : ◌≡◌ {A = ℕ} 0 1 = cc in absurd (omega arith)

-- a call that is refused as the rule refuses it
pub refusal : (c : R.Call) (s : Session) (store : Bytes) (table : List ℕ) (out : Bytes) (x : Refusal)
    → First c s store table out (record { session = s; answer = Err x }) store table out
    → (Valid s store table → step c (view s store table) ≡ R.answers (R.refused (number_of x)) (view s store table))
    → Promise c s store table out (record { session = s; answer = Err x }) store table out
refusal c s store table out x f e = record {
  first = f;
  refuses = λ y f. (refl, refl, refl, refl);
  store_beyond = refl;
  table_beyond = refl;
  out_beyond = refl;
  takes = omega arith;
  sent_is = refl;
  sent_in = omega arith;
  steps = λ v. sym (e v);
  stays = λ v. v;
}
