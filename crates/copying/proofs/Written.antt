-- One piece written behind another.
-- Assumes nothing.
use mathlib.Core.Path.{◌≡◌, refl, ap, ◌∙◌, subst}
use mathlib.Core.List.{List, [], ◌∷◌, ◌++◌}
use Prim.Native.Nat.{ℕ, suc, ◌+◌}
use native.Mathlib.Omega.{arith}
use lib.ListN.{length, set, length-append}
use lib.Seq.{sets, length-sets}
use Rattle.copying.specs.Written.{Written}

sets_append : (a b buffer : List ℕ) (i : ℕ) → sets (sets buffer i a) (i + length a) b ≡ sets buffer i (a ++ b)
sets_append [] b buffer i = ap (λ (k : ℕ). sets buffer k b) (omega arith)
sets_append (x ∷ a) b buffer i =
    ap (λ (k : ℕ). sets (sets (set buffer i x) (suc i) a) k b) (omega arith) ∙ sets_append a b (set buffer i x) (suc i)

pub written-nothing : (buffer : List ℕ) (at : ℕ) → Written [] buffer buffer at at
written-nothing buffer at = record { place = omega arith; stored = refl }

pub written_both : {a b x y z : List ℕ} {at i j : ℕ} → Written a x y at i → Written b y z i j → Written (a ++ b) x z at j
written_both {a} {b} {x} {at} p q =
    record {
      place = omega (arith, p.place, q.place, length-append a b);
      stored = q.stored ∙ rw (p.stored, p.place) (sets_append a b x at);
    }

pub written-length : {b x y : List ℕ} {at i : ℕ} → Written b x y at i → length y ≡ length x
written-length {b} {x} {at} p = ap length p.stored ∙ length-sets x at b

-- the bytes are what they equal
pub written-same : {a b x y : List ℕ} {at i : ℕ} → Written a x y at i → a ≡ b → Written b x y at i
written-same {x = x} {y = y} {at = at} {i = i} p e = subst (λ (l : List ℕ). Written l x y at i) e p
