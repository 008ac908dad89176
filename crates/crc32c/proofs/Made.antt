-- What an array is that a closure made, where each call leaves the closure as it was.
-- Assumes nothing.
use Rattle.std.proofs.Common.{◌≡◌, ℕ, zero, suc, ◌+◌, ◌<◌, List, get_or, ◌∙◌, subst, add-zero, not-suc-le-zero, le_of_suc-le-suc, arith, zero-add, refl}
use Rattle.std.specs.Array.{IsFromFnResult, IsFromFnResultFrom}
use Rattle.std.specs.Fn.{Mut, Called}

module _ {F B : Type 0} (g : Mut F (ℕ × Unit {0}) B) (f : F) (h : ℕ → B) (n : ℕ) (same : (i : ℕ) (y : B) (q : F) → i < n → Called g f (i, tt) y q → (q ≡ f) × (y ≡ h i)) where
  made_on : (p : F) (ys : List B) (i m : ℕ) (d : B) → p ≡ f → i + m ≡ n → IsFromFnResultFrom g p ys i m → (k : ℕ) → k < m → get_or ys (i + k) d ≡ h (i + k)
  made_on p ys i zero d e s r k lt = absurd (not-suc-le-zero lt)
  made_on p ys i (suc m) d e s (q, y, at, call, rest) zero lt =
      rw add-zero (at.1 d ∙ (same i y q (omega arith) (subst (λ (w : F). Called g w (i, tt) y q) e call)).1)
  made_on p ys i (suc m) d e s (q, y, at, call, rest) (suc k) lt =
      let j : i + suc k ≡ i + 1 + k = omega arith in
      let r : (q ≡ f) × (y ≡ h i) = same i y q (omega arith) (subst (λ (w : F). Called g w (i, tt) y q) e call) in
      rw j (made_on q ys (i + 1) m d r.0 (omega arith) rest k (le_of_suc-le-suc lt))

  pub made : (ys : List B) (d : B) → IsFromFnResult g f ys n → (k : ℕ) → k < n → get_or ys k d ≡ h k
  made ys d r k lt = simp (zero-add) at (made_on f ys 0 n d refl (omega arith) r.each k lt)
