-- The division has one remainder, so the sum of a list of bytes is one number.
-- Assumes nothing.
use Rattle.std.proofs.Common.{◌≡◌, ℕ, suc, ◌+◌, Bool, true, false, not, List, [], ◌∷◌, ◌++◌, map, length, sym, refl, ap, ◌∙◌, ap₂, arith, length-append}
use mathlib.Core.Bool.{xor}
use native.Mathlib.Nat.{suc_inj}
use Rattle.crc32c.specs.Bytes.{Bytes}
use Rattle.crc32c.specs.Poly.{◌⊕◌, none, times, product, below, Crc}
use Rattle.crc32c.specs.Reg.{crc_of}
use Rattle.crc32c.proofs.Sum as sum
use Rattle.crc32c.proofs.Division.{low_same, length-below, crc_divides}

bool_cancel : (a x y : Bool) → xor a x ≡ xor a y → x ≡ y
bool_cancel a x y e = sym (back x) ∙ ap (xor a) e ∙ back y
  where
    back : (z : Bool) → xor a (xor a z) ≡ z
    back z = sym (sum.xor_assoc a a z) ∙ ap (λ (w : Bool). xor w z) (sum.xor_same a) ∙ sum.xor_comm false z ∙ sum.xor_false z

sum_cancel_left : (p x y : List Bool) → length x ≡ length y → p ⊕ x ≡ p ⊕ y → x ≡ y
unfolding ◌⊕◌
sum_cancel_left [] x y l e = e
sum_cancel_left (a ∷ p) [] [] l e = refl
sum_cancel_left (a ∷ p) [] (y ∷ ys) l e = absurd (omega arith)
sum_cancel_left (a ∷ p) (x ∷ xs) [] l e = absurd (omega arith)
sum_cancel_left (a ∷ p) (x ∷ xs) (y ∷ ys) l e =
    let h : xor a x ≡ xor a y = cc in
    let t : p ⊕ xs ≡ p ⊕ ys = cc in
    ap₂ ◌∷◌ (bool_cancel a x y h) (sum_cancel_left p xs ys (suc_inj l) t)

length-product : (g q : List Bool) → length (product g q) ≡ length q + length g
unfolding product
length-product g [] = let l : length (none (length g)) ≡ length g = sum.length_none (length g) in omega arith
length-product g (b ∷ q) =
    let t : length (times b (true ∷ g) ++ none (length q)) ≡ suc (length g) + length q =
    length-append (times b (true ∷ g)) (none (length q)) ∙ ap₂ ◌+◌ (sum.length-times b (true ∷ g)) (sum.length_none (length q)) in
    let i : length (product g q) ≡ length q + length g = length-product g q in
    let s : length (times b (true ∷ g) ++ none (length q)) ≡ suc (length (product g q)) = omega arith in
    sum.length-sum (times b (true ∷ g) ++ none (length q)) (false ∷ product g q) s ∙ omega arith

-- a product and a remainder
pub whole : List Bool → List Bool → List Bool → List Bool
whole g q r = product g q ⊕ (none (length q) ++ r)

length_whole : (g q r : List Bool) → length r ≡ length g → length (whole g q r) ≡ length q + length g
unfolding whole
length_whole g q r h =
    let p : length (product g q) ≡ length q + length g = length-product g q in
    let n : length (none (length q) ++ r) ≡ length q + length g = length-append (none (length q)) r ∙ ap₂ ◌+◌ (sum.length_none (length q)) h in
    sum.length-sum (product g q) (none (length q) ++ r) (p ∙ sym n) ∙ p

-- its first coefficient is the quotient's
whole_cons : (g : List Bool) (b : Bool) (q r : List Bool) → whole g (b ∷ q) r ≡ b ∷ ((times b g ++ none (length q)) ⊕ whole g q r)
unfolding whole product ◌⊕◌ none
whole_cons g b q r =
    ap (λ (l : List Bool). ((l ++ none (length q)) ⊕ (false ∷ product g q)) ⊕ (false ∷ (none (length q) ++ r))) (sum.times_cons b g)
    ∙ ap₂ ◌∷◌ (sum.xor_false (xor b false) ∙ sum.xor_false b) (sum.sum_assoc (times b g ++ none (length q)) (product g q) (none (length q) ++ r))

one_remainder : (g q q' r r' : List Bool) → length q ≡ length q' → length r ≡ length g → length r' ≡ length g → whole g q r ≡ whole g q' r' → r ≡ r'
unfolding whole product none
one_remainder g [] [] r r' l h h' e =
    sym (sum.sum-none r (length g) h) ∙ sum.sum_comm r (none (length g)) ∙ e ∙ sum.sum_comm (none (length g)) r' ∙ sum.sum-none r' (length g) h'
one_remainder g [] (b ∷ q') r r' l h h' e = absurd (omega arith)
one_remainder g (b ∷ q) [] r r' l h h' e = absurd (omega arith)
one_remainder g (b ∷ q) (b' ∷ q') r r' l h h' e =
    let n : length q ≡ length q' = suc_inj l in
    let f : b ∷ ((times b g ++ none (length q)) ⊕ whole g q r) ≡ b' ∷ ((times b' g ++ none (length q')) ⊕ whole g q' r') =
    sym (whole_cons g b q r) ∙ e ∙ whole_cons g b' q' r' in
    let same : b ≡ b' = cc in
    let t : (times b g ++ none (length q)) ⊕ whole g q r ≡ (times b g ++ none (length q)) ⊕ whole g q' r' = cc in
    one_remainder g q q' r r' n h h'
    (sum_cancel_left (times b g ++ none (length q)) (whole g q r) (whole g q' r') (length_whole g q r h ∙ ap (λ (k : ℕ). k + length g) n ∙ sym (length_whole g q' r' h')) t)

-- a list of bytes has one sum
pub crc_one : {bs : List ℕ} {c d : ℕ} → Crc bs c → Crc bs d → c ≡ d
unfolding whole
crc_one {bs} {c} {d} x y =
    let e : whole below x.quotient x.remainder ≡ whole below y.quotient y.remainder =
    ap (λ (n : ℕ). product below x.quotient ⊕ (none n ++ x.remainder)) x.long ∙ sym x.divided ∙ y.divided
    ∙ ap (λ (n : ℕ). product below y.quotient ⊕ (none n ++ y.remainder)) (sym y.long) in
    let s : x.remainder ≡ y.remainder =
    one_remainder below x.quotient y.quotient x.remainder y.remainder (x.long ∙ sym y.long) (x.short ∙ sym length-below) (y.short ∙ sym length-below) e in
    low_same 32 c d x.fits y.fits (x.complemented ∙ ap (map not) s ∙ sym y.complemented)

-- the register's sum is the only one
pub crc_only : {bs : List ℕ} {c : ℕ} → Bytes bs → Crc bs c → c ≡ crc_of bs
crc_only {bs} h x = crc_one x (crc_divides bs h)
