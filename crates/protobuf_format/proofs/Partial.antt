-- Reasoning on readings: what holds of the result, if there is one.
-- Assumes nothing.
use mathlib.Core.Path.{◌≡◌, refl, subst}
use mathlib.Core.Bool.{Bool, true, false, cond}
use mathlib.Core.List.{List, ◌++◌}
use mathlib.Core.Option.{Option, none, some}
use Prim.Native.Nat.{ℕ, ◌≤◌, ◌<◌}
use borrow.Author.Tests.{ltb-true, ltb-false}
use Rattle.protobuf_format.specs.Reading.{◌>>=◌, Every, end, also}
use lib.Dec.{ltb}

pub either : {X : Type 0} (n m : ℕ) → (n < m → X) → (m ≤ n → X) → X
either {X} n m f g = go (ltb n m) refl
  where
    go : (t : Bool) → ltb n m ≡ t → X
    go true e = f (ltb-true n m e)
    go false e = g (ltb-false n m e)

-- P holds of what o has, if o has anything
pub data All {A : Type 0} (P : A → Type 0) : Option A → Type 0 where
  nothing : All P none
  one : {a : A} → P a → All P (some a)

module _ {A : Type 0} {P : A → Type 0} where
  of_one : {a : A} → All P (some a) → P a
  of_one (one h) = h

  pub all : {o : Option A} {a : A} → All P o → o ≡ some a → P a
  all {a} h e = of_one (subst (λ (o : Option A). All P o) e h)

  pub all_mono : {Q : A → Type 0} {o : Option A} → All P o → ((a : A) → P a → Q a) → All Q o
  all_mono nothing f = nothing
  all_mono (one {a} h) f = one (f a h)

  pub all_cond : (t : Bool) {x y : Option A} → (t ≡ true → All P x) → (t ≡ false → All P y) → All P (cond t x y)
  all_cond true f g = f refl
  all_cond false f g = g refl

  pub all_then : {B : Type 0} {Q : B → Type 0} {o : Option A} {f : A → Option B} → All P o → ((a : A) → P a → All Q (f a)) → All Q (o >>= f)
  all_then nothing g = nothing
  all_then (one {a} h) g = g a h

pub then_same : {A B : Type 0} {o : Option A} {f g : A → Option B} → All (λ a. f a ≡ g a) o → (o >>= f) ≡ (o >>= g)
then_same nothing = refl
then_same (one h) = h

pub then_ext : {A B : Type 0} (o : Option A) {f g : A → Option B} → ((a : A) → f a ≡ g a) → (o >>= f) ≡ (o >>= g)
then_ext none h = refl
then_ext (some a) h = h a

pub then_then : {A B C : Type 0} (o : Option A) (f : A → Option B) (g : B → Option C) → (o >>= f >>= g) ≡ (o >>= λ a. f a >>= g)
then_then none f g = refl
then_then (some a) f g = refl

-- ---- lists

module _ {A : Type 0} {P : A → Type 0} where
  pub every_append : {a b : List A} → Every P a → Every P b → Every P (a ++ b)
  every_append end g = g
  every_append (also f h) g = also f (every_append h g)
