-- Offsets subtracted, and moved by bytes.
-- Assumes nothing.
use mathlib.Core.Path.{◌≡◌, refl, sym, ap, ◌∙◌}
use mathlib.Core.Bool.{Bool, true, false, cond}
use Prim.Native.Nat.{ℕ, zero, suc, ◌+◌, ◌-◌, ◌<◌, ◌≤◌, ◌^◌}
use native.Mathlib.Omega.{arith}
use borrow.Author.Tests.{lt-ltb, le-ltb, ltb-true, ltb-false, le-leb, lt-leb, leb-true, leb-false}
use lib.Dec.{ltb, leb}
use lib.IntN.{ℤ, pos, negsuc, neg_ℤ, ◌+ℤ◌, ◌-ℤ◌, +ℤ_assoc, +ℤ_comm, +ℤ_idr, neg_ℤ-+ℤ, +ℤ-neg_ℤ_cancel, -ℤ-+ℤ_cancel}
use lib.Signed.{lt_z, le_z, ◌<ℤ◌, ◌≤ℤ◌, le_z_yes, lt_z_yes, <ℤ-≤ℤ_trans, clash_ℤ}
use Rattle.bidi_write.specs.Numbers.{to_ℕ, Differs}
use Rattle.bidi_write.specs.declared.Difference.TheVariants as difference

-- ---- the difference, of numbers that are 2^63 more

module _ (x : ℕ) where
  high : (n : ℕ) → pos x ≡ pos n +ℤ pos (2 ^ 63) → x ≡ n + 2 ^ 63
  high n e = cc

  low : (n : ℕ) → pos x ≡ negsuc n +ℤ pos (2 ^ 63) → x + suc n ≡ 2 ^ 63
  low n e = at (ltb (2 ^ 63) (suc n)) refl e
    where
      at : (t : Bool) → ltb (2 ^ 63) (suc n) ≡ t → pos x ≡ cond t (negsuc (suc n - suc (2 ^ 63))) (pos (2 ^ 63 - suc n)) → x + suc n ≡ 2 ^ 63
      at true f g = let z : ◌≡◌ {A = ℕ} 0 1 = cc in absurd (omega arith)
      at false f g = let z : x ≡ 2 ^ 63 - suc n = cc in omega (arith, ltb-false (2 ^ 63) (suc n) f)

module _ (x y : ℕ) where
  is_below_lem : (a b : ℤ) → pos x ≡ a +ℤ pos (2 ^ 63) → pos y ≡ b +ℤ pos (2 ^ 63) → x < y → lt_z a b ≡ true
  is_below_lem (pos a) (pos b) ex ey h = lt-ltb a b (omega (arith, high x a ex, high y b ey))
  is_below_lem (pos a) (negsuc b) ex ey h = absurd (omega (arith, high x a ex, low y b ey))
  is_below_lem (negsuc a) (pos b) ex ey h = refl
  is_below_lem (negsuc a) (negsuc b) ex ey h = lt-ltb b a (omega (arith, low x a ex, low y b ey))

  not-below : (a b : ℤ) → pos x ≡ a +ℤ pos (2 ^ 63) → pos y ≡ b +ℤ pos (2 ^ 63) → y ≤ x → lt_z a b ≡ false
  not-below (pos a) (pos b) ex ey h = le-ltb a b (omega (arith, high x a ex, high y b ey))
  not-below (pos a) (negsuc b) ex ey h = refl
  not-below (negsuc a) (pos b) ex ey h = absurd (omega (arith, low x a ex, high y b ey))
  not-below (negsuc a) (negsuc b) ex ey h = le-ltb b a (omega (arith, low x a ex, low y b ey))

shifted : (a b k : ℤ) → (a +ℤ k) -ℤ (b +ℤ k) ≡ a -ℤ b
shifted a b k =
    ap (λ (z : ℤ). (a +ℤ k) +ℤ z) (neg_ℤ-+ℤ b k ∙ +ℤ_comm (neg_ℤ b) (neg_ℤ k))
    ∙ sym (+ℤ_assoc (a +ℤ k) (neg_ℤ k) (neg_ℤ b))
    ∙ ap (λ (z : ℤ). z +ℤ neg_ℤ b) (+ℤ-neg_ℤ_cancel a k)

minus_below : (x y : ℕ) → x < y → neg_ℤ (pos (y - x)) ≡ pos x -ℤ pos y
minus_below x zero h = absurd (omega arith)
minus_below x (suc y) h =
    let e : suc y - x ≡ suc (suc y - suc x) = omega arith in
    rw (e, lt-ltb x (suc y) h)

minus_above : (x y : ℕ) → y ≤ x → pos (x - y) ≡ pos x -ℤ pos y
minus_above x zero h = ap pos (omega arith)
minus_above x (suc y) h = rw (le-ltb x (suc y) h)

module _ (a b : ℤ) (x y : ℕ) (ex : pos x ≡ a +ℤ pos (2 ^ 63)) (ey : pos y ≡ b +ℤ pos (2 ^ 63)) where
  same : pos x -ℤ pos y ≡ a -ℤ b
  same =
      ap (λ (z : ℤ). z -ℤ pos y) ex
      ∙ ap (λ (z : ℤ). (a +ℤ pos (2 ^ 63)) -ℤ z) ey
      ∙ shifted a b (pos (2 ^ 63))

  pub differs_below : x < y → Differs a b (difference.Below (y - x))
  differs_below h = record { sign_is = sym (is_below_lem x y a b ex ey h); value_is = minus_below x y h ∙ same }

  pub differs_above : y ≤ x → Differs a b (difference.AtLeast (x - y))
  differs_above h = record { sign_is = sym (not-below x y a b ex ey h); value_is = minus_above x y h ∙ same }

-- ---- what a difference tells

leb-same : (a b c d : ℕ) → (a ≤ b → c ≤ d) → (b < a → d < c) → leb a b ≡ leb c d
leb-same a b c d f g = at (leb a b) refl
  where
    at : (t : Bool) → leb a b ≡ t → t ≡ leb c d
    at true e = sym (le-leb c d (f (leb-true a b e)))
    at false e = sym (lt-leb c d (g (leb-false a b e)))

le_moved : (a : ℤ) (n d : ℕ) → le_z (a +ℤ pos n) (a +ℤ pos d) ≡ leb n d
le_moved (pos a) n d = leb-same (a + n) (a + d) n d (λ h. omega arith) (λ h. omega arith)
le_moved (negsuc a) n d = at (ltb n (suc a)) refl (ltb d (suc a)) refl
  where
    at : (s : Bool) → ltb n (suc a) ≡ s → (t : Bool) → ltb d (suc a) ≡ t
        → le_z (cond s (negsuc (suc a - suc n)) (pos (n - suc a))) (cond t (negsuc (suc a - suc d)) (pos (d - suc a))) ≡ leb n d
    at true e true f =
        let h = ltb-true n (suc a) e in
        let g = ltb-true d (suc a) f in
        leb-same (suc a - suc d) (suc a - suc n) n d (λ l. omega arith) (λ l. omega arith)
    at true e false f = sym (le-leb n d (omega (arith, ltb-true n (suc a) e, ltb-false d (suc a) f)))
    at false e true f = sym (lt-leb n d (omega (arith, ltb-false n (suc a) e, ltb-true d (suc a) f)))
    at false e false f =
        let h = ltb-false n (suc a) e in
        let g = ltb-false d (suc a) f in
        leb-same (n - suc a) (d - suc a) n d (λ l. omega arith) (λ l. omega arith)

-- n bytes from a on end above p, where p is below a
pub ends_above : (p a : ℤ) (n : ℕ) → lt_z p a ≡ true → le_z (a +ℤ pos n) p ≡ false
ends_above p a n h = at (le_z (a +ℤ pos n) p) refl
  where
    from : le_z a (a +ℤ pos n) ≡ true
    from = ap (λ (z : ℤ). le_z z (a +ℤ pos n)) (sym (+ℤ_idr a)) ∙ le_moved a 0 n ∙ le-leb 0 n (omega arith)

    at : (t : Bool) → le_z (a +ℤ pos n) p ≡ t → t ≡ false
    at true e =
        let l : p <ℤ a = lt_z_yes (rw h tt) in
        let m : a ≤ℤ (a +ℤ pos n) = le_z_yes (rw from tt) in
        let g : (a +ℤ pos n) ≤ℤ p = le_z_yes (rw e tt) in
        clash_ℤ (<ℤ-≤ℤ_trans l m) g
    at false e = refl

-- and at p or below it, where they are at most as many as p is past a
pub ends-within : (p a : ℤ) (n d : ℕ) → pos d ≡ p -ℤ a → leb n d ≡ le_z (a +ℤ pos n) p
ends-within p a n d e =
    let q : p ≡ a +ℤ pos d = sym (-ℤ-+ℤ_cancel p a) ∙ ap (λ (z : ℤ). z +ℤ a) (sym e) ∙ +ℤ_comm (pos d) a in
    sym (le_moved a n d) ∙ ap (λ (z : ℤ). le_z (a +ℤ pos n) z) (sym q)

pub not_past : (n : ℕ) → 0 ≡ to_ℕ (neg_ℤ (pos n))
not_past zero = refl
not_past (suc n) = refl

-- ---- from an offset that is not negative

pub minus_is : (z : ℤ) (n : ℕ) → lt_z z (pos 0) ≡ false → n ≤ to_ℕ z → z -ℤ pos n ≡ pos (to_ℕ z - n)
minus_is (pos a) n e h = sym (minus_above a n h)
minus_is (negsuc a) n e h = let z : ◌≡◌ {A = ℕ} 0 1 = cc in absurd (omega arith)

pub past_is : (z : ℤ) (o : ℕ) → to_ℕ (z -ℤ pos o) ≡ to_ℕ z - o
past_is (pos p) zero = omega arith
past_is (pos p) (suc o) = at (ltb p (suc o)) refl
  where
    at : (t : Bool) → ltb p (suc o) ≡ t → to_ℕ (cond t (negsuc (suc o - suc p)) (pos (p - suc o))) ≡ p - suc o
    at true e = omega (arith, ltb-true p (suc o) e)
    at false e = refl
past_is (negsuc n) zero = rw (lt-ltb 0 (suc n) (omega arith)) (omega arith)
past_is (negsuc n) (suc o) = omega arith

pub past_zero : (z : ℤ) → 0 < to_ℕ z → z ≡ pos (to_ℕ z)
past_zero (pos n) h = refl
past_zero (negsuc n) h = absurd (omega arith)
