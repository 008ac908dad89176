-- What rows of refusals come to, in the code and in the rules.
-- Assumes nothing.
use mathlib.Core.Path.{◌≡◌, refl, sym, ap}
use mathlib.Core.Bool.{Bool, true, false, cond}
use mathlib.Core.List.{[], ◌∷◌}
use Prim.Native.Nat.{ℕ}
use native.Mathlib.Omega.{arith}
use Rattle.rules.specs.Session as R
use Rattle.bidi_write.specs.Refusal.{number_of, Rows, checked, numbered}
use Rattle.bidi_write.specs.declared.Refusal.{Refusal}
use Rattle.std.specs.declared.result.Result.{Result}
use Rattle.std.specs.Prelude.{Ok, Err}

pub same-refusal : (x y : Refusal) → ◌≡◌ {A = Result (Unit {0}) Refusal} (Err x) (Err y) → x ≡ y
same-refusal x y e = cc

pub no_go {ℓ} : {X : Type ℓ} (x : Refusal) → ◌≡◌ {A = Result (Unit {0}) Refusal} (Err x) (Ok tt) → X
no_go x e = let z : ◌≡◌ {A = ℕ} 0 1 = cc in absurd (omega arith)

go_no {ℓ} : {X : Type ℓ} (x : Refusal) → ◌≡◌ {A = Result (Unit {0}) Refusal} (Ok tt) (Err x) → X
go_no x e = no_go x (sym e)

-- ---- the code and the rules

-- the code refuses with x: so do the rules
pub refused : (v : R.Session) (rs : Rows) (x : Refusal) (r : R.Result) → checked rs ≡ Err x → R.unless v (numbered rs) r ≡ R.answers (R.refused (number_of x)) v
unfolding checked R.unless
refused v [] x r e = go_no x e
refused v (row ∷ rs) x r e = at row.0 refl (refused v rs x r) e
  where
    at : (b : Bool) → row.0 ≡ b → (checked rs ≡ Err x → R.unless v (numbered rs) r ≡ R.answers (R.refused (number_of x)) v)
        → cond row.0 (Err row.1) (checked rs) ≡ Err x
        → cond row.0 (R.answers (R.refused (number_of row.1)) v) (R.unless v (numbered rs) r) ≡ R.answers (R.refused (number_of x)) v
    at true f ih g = rw f (ap (λ (y : Refusal). R.answers (R.refused (number_of y)) v) (same-refusal row.1 x (rw f at g)))
    at false f ih g = rw f (ih (rw f at g))

-- the code goes on: so do the rules
pub passed : (v : R.Session) (rs : Rows) (r : R.Result) → checked rs ≡ Ok tt → R.unless v (numbered rs) r ≡ r
unfolding checked R.unless
passed v [] r e = refl
passed v (row ∷ rs) r e = at row.0 refl (passed v rs r) e
  where
    at : (b : Bool) → row.0 ≡ b → (checked rs ≡ Ok tt → R.unless v (numbered rs) r ≡ r) → cond row.0 (Err row.1) (checked rs) ≡ Ok tt
        → cond row.0 (R.answers (R.refused (number_of row.1)) v) (R.unless v (numbered rs) r) ≡ r
    at true f ih g = no_go row.1 (rw f at g)
    at false f ih g = rw f (ih (rw f at g))

-- ---- where the code goes on

-- the first test does not hold
pub first_false : (b : Bool) (x : Refusal) (rs : Rows) → checked ((b, x) ∷ rs) ≡ Ok tt → b ≡ false
unfolding checked
first_false true x rs e = no_go x e
first_false false x rs e = refl

-- and neither do the later ones
pub later : (b : Bool) (x : Refusal) (rs : Rows) → checked ((b, x) ∷ rs) ≡ Ok tt → checked rs ≡ Ok tt
unfolding checked
later true x rs e = no_go x e
later false x rs e = e
