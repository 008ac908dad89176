-- Laws of the sum of coefficient lists.
-- Assumes nothing.
use Rattle.std.proofs.Common.{◌≡◌, ℕ, suc, Bool, true, false, not, List, [], ◌∷◌, ◌++◌, length, sym, refl, ap, ◌∙◌, ap₂, arith}
use mathlib.Core.Bool.{xor}
use native.Mathlib.Nat.{suc_inj}
use lib.ListN.{length-replicate}
use Rattle.crc32c.specs.Poly.{◌⊕◌, none, times}

pub xor_comm : (a b : Bool) → xor a b ≡ xor b a
unfolding xor
xor_comm true true = refl
xor_comm true false = refl
xor_comm false true = refl
xor_comm false false = refl

pub xor_assoc : (a b c : Bool) → xor (xor a b) c ≡ xor a (xor b c)
unfolding xor
xor_assoc true true true = refl
xor_assoc true true false = refl
xor_assoc true false true = refl
xor_assoc true false false = refl
xor_assoc false true true = refl
xor_assoc false true false = refl
xor_assoc false false true = refl
xor_assoc false false false = refl

pub xor_same : (a : Bool) → xor a a ≡ false
unfolding xor
xor_same true = refl
xor_same false = refl

pub xor_false : (a : Bool) → xor a false ≡ a
unfolding xor
xor_false true = refl
xor_false false = refl

pub xor_true : (a : Bool) → xor a true ≡ not a
unfolding xor
xor_true true = refl
xor_true false = refl

sum_nil : (p : List Bool) → p ⊕ [] ≡ p
unfolding ◌⊕◌
sum_nil [] = refl
sum_nil (a ∷ p) = refl

pub sum_comm : (p q : List Bool) → p ⊕ q ≡ q ⊕ p
unfolding ◌⊕◌
sum_comm [] q = sym (sum_nil q)
sum_comm (a ∷ p) [] = refl
sum_comm (a ∷ p) (b ∷ q) = ap₂ ◌∷◌ (xor_comm a b) (sum_comm p q)

pub sum_assoc : (p q r : List Bool) → (p ⊕ q) ⊕ r ≡ p ⊕ (q ⊕ r)
unfolding ◌⊕◌
sum_assoc [] q r = refl
sum_assoc (a ∷ p) [] r = refl
sum_assoc (a ∷ p) (b ∷ q) [] = refl
sum_assoc (a ∷ p) (b ∷ q) (c ∷ r) = ap₂ ◌∷◌ (xor_assoc a b c) (sum_assoc p q r)

sum_same : (p : List Bool) → p ⊕ p ≡ none (length p)
unfolding ◌⊕◌ none
sum_same [] = refl
sum_same (a ∷ p) = ap₂ ◌∷◌ (xor_same a) (sum_same p)

sum-none_of : (q : List Bool) → q ⊕ none (length q) ≡ q
unfolding ◌⊕◌ none
sum-none_of [] = refl
sum-none_of (a ∷ q) = ap₂ ◌∷◌ (xor_false a) (sum-none_of q)

pub sum-none : (p : List Bool) (n : ℕ) → length p ≡ n → p ⊕ none n ≡ p
sum-none p n e = ap (λ (k : ℕ). p ⊕ none k) (sym e) ∙ sum-none_of p

pub length_none : (n : ℕ) → length (none n) ≡ n
unfolding none
length_none n = length-replicate n false

pub length-sum : (p q : List Bool) → length p ≡ length q → length (p ⊕ q) ≡ length p
unfolding ◌⊕◌
length-sum [] q e = sym e
length-sum (a ∷ p) [] e = refl
length-sum (a ∷ p) (b ∷ q) e = ap suc (length-sum p q (suc_inj e))

pub sum-append : (p q s t : List Bool) → length p ≡ length q → (p ++ s) ⊕ (q ++ t) ≡ (p ⊕ q) ++ (s ⊕ t)
unfolding ◌⊕◌
sum-append [] [] s t e = refl
sum-append [] (b ∷ q) s t e = absurd (omega arith)
sum-append (a ∷ p) [] s t e = absurd (omega arith)
sum-append (a ∷ p) (b ∷ q) s t e = ap (◌∷◌ (xor a b)) (sum-append p q s t (suc_inj e))

-- p + (q + p) is q
pub sum_cancel : (p q : List Bool) → length p ≡ length q → p ⊕ (q ⊕ p) ≡ q
sum_cancel p q e =
    sum_comm p (q ⊕ p) ∙ sum_assoc q p p ∙ ap (◌⊕◌ q) (sum_same p) ∙ sum-none q (length p) (sym e)

pub length-times : (b : Bool) (p : List Bool) → length (times b p) ≡ length p
unfolding times
length-times true p = refl
length-times false p = length_none (length p)

pub times_cons : (b : Bool) (p : List Bool) → times b (true ∷ p) ≡ b ∷ times b p
unfolding times none
times_cons true p = refl
times_cons false p = refl
