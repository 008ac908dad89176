-- The shift register divides: what it holds after a message is the remainder of RFC 3720's division.
-- Assumes nothing.
use Rattle.std.proofs.Common.{◌≡◌, ℕ, zero, suc, ◌*◌, ◌/◌, ◌%◌, ◌^◌, ◌<◌, Bool, true, false, not, List, [], ◌∷◌, ◌++◌, map, length, replicate, sym, refl, ap, ◌∙◌, ap₂, append_assoc, append-nil, div-add-mod', arith, lit<}
use mathlib.Core.Bool.{xor}
use lib.Arith.{lt-one}
use lib.Bits.{bit_xor, differ, xor_lt, xor_zero_r, xor_shifted, xor_comm}
use Rattle.crc32c.specs.Bytes.{Bytes}
use Rattle.crc32c.specs.Reg.{poly, step, steps, feed, reg, ones32, crc_of}
use Rattle.crc32c.specs.Poly.{◌⊕◌, none, times, product, nonzero, odd, low_first, message, below, coefficients, Crc}
use Rattle.crc32c.proofs.Xor.{odd_lt, xor_half, xor-odd, digit_ind, half_lt_pow}
use Rattle.crc32c.proofs.Xor as nat
use Rattle.crc32c.proofs.Linear.{step-xor, step_lt, step_double}
use Rattle.crc32c.proofs.Bound.{crc_lt}
use Rattle.crc32c.proofs.Sum as sum

-- a coefficient as a digit
abbrev val : Bool → ℕ
val true = 1
val false = 0

val-odd : (x : ℕ) → val (odd x) ≡ x % 2
val-odd x = digit_ind (λ (d : ℕ). val (nonzero d) ≡ d) refl refl (x % 2) (odd_lt x)

nonzero_differ : (x y : ℕ) → x < 2 → y < 2 → nonzero (differ x y) ≡ xor (nonzero x) (nonzero y)
unfolding xor
nonzero_differ x y hx hy =
    digit_ind (λ (u : ℕ). nonzero (differ u y) ≡ xor (nonzero u) (nonzero y))
    (digit_ind (λ (v : ℕ). nonzero v ≡ xor false (nonzero v)) refl refl y hy)
    (digit_ind (λ (v : ℕ). nonzero (differ 1 v) ≡ xor true (nonzero v)) refl refl y hy) x hx

odd-xor : (x y : ℕ) → odd (bit_xor x y) ≡ xor (odd x) (odd y)
odd-xor x y = ap nonzero (xor-odd x y) ∙ nonzero_differ (x % 2) (y % 2) (odd_lt x) (odd_lt y)

odd_val : (b : Bool) → odd (val b) ≡ b
odd_val true = refl
odd_val false = refl

-- ---- digits, lowest first

length_low : (n x : ℕ) → length (low_first n x) ≡ n
unfolding low_first
length_low zero x = refl
length_low (suc n) x = ap suc (length_low n (x / 2))

low_xor : (n x y : ℕ) → low_first n (bit_xor x y) ≡ low_first n x ⊕ low_first n y
unfolding low_first ◌⊕◌
low_xor zero x y = refl
low_xor (suc n) x y = ap₂ ◌∷◌ (odd-xor x y) (ap (low_first n) (xor_half x y) ∙ low_xor n (x / 2) (y / 2))

-- one more digit is 0
low_more : (n x : ℕ) → x < 2 ^ n → low_first (suc n) x ≡ low_first n x ++ (false ∷ [])
unfolding low_first
low_more zero x h = ap (λ (y : ℕ). odd y ∷ []) (lt-one h)
low_more (suc n) x h = ap (◌∷◌ (odd x)) (low_more n (x / 2) (half_lt_pow n h))

-- a number is its digits
pub low_same : (n x y : ℕ) → x < 2 ^ n → y < 2 ^ n → low_first n x ≡ low_first n y → x ≡ y
unfolding low_first
low_same zero x y hx hy e = lt-one hx ∙ sym (lt-one hy)
low_same (suc n) x y hx hy e =
    let h : x / 2 ≡ y / 2 = low_same n (x / 2) (y / 2) (half_lt_pow n hx) (half_lt_pow n hy) (cc) in
    let o : odd x ≡ odd y = cc in
    let d : x % 2 ≡ y % 2 = sym (val-odd x) ∙ ap val o ∙ val-odd y in
    omega arith

low_poly : (b : Bool) → low_first 32 (val b * poly) ≡ times b below
unfolding low_first times below coefficients none
low_poly true = refl
low_poly false = refl

pub length-below : length below ≡ 32
unfolding below coefficients
length-below = refl

-- ---- the register, a coefficient at a time

abbrev bit_reg : ℕ → List Bool → ℕ
bit_reg r [] = r
bit_reg r (b ∷ m) = bit_reg (step (bit_xor r (val b))) m

-- the quotient's coefficients: what goes out of the register
abbrev quot : ℕ → List Bool → List Bool
quot r [] = []
quot r (b ∷ m) = xor (odd r) b ∷ quot (step (bit_xor r (val b))) m

length-quot : (r : ℕ) (m : List Bool) → length (quot r m) ≡ length m
length-quot r [] = refl
length-quot r (b ∷ m) = ap suc (length-quot (step (bit_xor r (val b))) m)

small : (a : Bool) → val a < 2 ^ 32
small true = lit< tt
small false = lit< tt

-- what a step leaves: the rest of the register, and the generator where 1 went out
step_is : (r : ℕ) (b : Bool) → step (bit_xor r (val b)) ≡ bit_xor (r / 2) (val (xor (odd r) b) * poly)
unfolding step
step_is r b =
    ap₂ (λ (x y : ℕ). bit_xor x (y * poly))
    (xor_half r (val b) ∙ ap (bit_xor (r / 2)) (half b) ∙ xor_zero_r (r / 2))
    (sym (val-odd (bit_xor r (val b))) ∙ ap val (odd-xor r (val b) ∙ ap (xor (odd r)) (odd_val b)))
  where
    half : (a : Bool) → val a / 2 ≡ 0
    half true = refl
    half false = refl

-- the register's digits but the lowest, and a 0
shifted : (r : ℕ) (b : Bool) → r < 2 ^ 32
    → times (xor (odd r) b) below ⊕ low_first 32 (step (bit_xor r (val b))) ≡ low_first 31 (r / 2) ++ (false ∷ [])
shifted r b h =
    let c : Bool = xor (odd r) b in
    ap (λ (x : ℕ). times c below ⊕ low_first 32 x) (step_is r b)
    ∙ ap (◌⊕◌ (times c below)) (low_xor 32 (r / 2) (val c * poly) ∙ ap (◌⊕◌ (low_first 32 (r / 2))) (low_poly c))
    ∙ sum.sum_cancel (times c below) (low_first 32 (r / 2)) (sum.length-times c below ∙ length-below ∙ sym (length_low 32 (r / 2)))
    ∙ low_more 31 (r / 2) (half_lt_pow 31 h)

-- ---- the division

-- T + L, where L is the register after a step, is the register before it, a place further
moved : (r n : ℕ) (b : Bool) → r < 2 ^ 32
    → (times (xor (odd r) b) below ++ none n) ⊕ (low_first 32 (step (bit_xor r (val b))) ++ none n) ≡ low_first 31 (r / 2) ++ none (suc n)
unfolding none
moved r n b h =
    let c : Bool = xor (odd r) b in
    let r' : ℕ = step (bit_xor r (val b)) in
    sum.sum-append (times c below) (low_first 32 r') (none n) (none n) (sum.length-times c below ∙ length-below ∙ sym (length_low 32 r'))
    ∙ ap₂ ◌++◌ (shifted r b h) (sum.sum-none (none n) n (sum.length_none n))
    ∙ append_assoc (low_first 31 (r / 2)) (false ∷ []) (none n)

tail_of : (m : List Bool) (r : ℕ) (b : Bool) (q R : List Bool) → r < 2 ^ 32 → length q ≡ length m
    → (m ++ none 32) ⊕ (low_first 32 (step (bit_xor r (val b))) ++ none (length m)) ≡ product below q ⊕ R
    → (m ++ none 32) ⊕ (low_first 31 (r / 2) ++ none (suc (length m))) ≡ ((times (xor (odd r) b) below ++ none (length q)) ⊕ product below q) ⊕ R
tail_of m r b q R h l e =
    let t : List Bool = times (xor (odd r) b) below ++ none (length m) in
    let M : List Bool = m ++ none 32 in
    let L : List Bool = low_first 32 (step (bit_xor r (val b))) ++ none (length m) in
    ap (◌⊕◌ M) (sym (moved r (length m) b h))
    ∙ sym (sum.sum_assoc M t L) ∙ ap (λ (x : List Bool). x ⊕ L) (sum.sum_comm M t) ∙ sum.sum_assoc t M L
    ∙ ap (◌⊕◌ t) e ∙ sym (sum.sum_assoc t (product below q) R)
    ∙ ap (λ (k : ℕ). ((times (xor (odd r) b) below ++ none k) ⊕ product below q) ⊕ R) (sym l)

divides : (m : List Bool) (r : ℕ) → r < 2 ^ 32
    → (m ++ none 32) ⊕ (low_first 32 r ++ none (length m)) ≡ product below (quot r m) ⊕ (none (length m) ++ low_first 32 (bit_reg r m))
unfolding product ◌⊕◌ low_first none
divides [] r h =
    ap (◌⊕◌ (none 32)) (append-nil (low_first 32 r)) ∙ ap (λ (n : ℕ). none n ⊕ low_first 32 r) (sym length-below)
divides (b ∷ m) r h =
    let c : Bool = xor (odd r) b in
    let r' : ℕ = step (bit_xor r (val b)) in
    let n : ℕ = length m in
    let q : List Bool = quot r' m in
    let R : List Bool = none n ++ low_first 32 (bit_reg r' m) in
    let head : xor b (odd r) ≡ xor (xor c false) false = sum.xor_comm b (odd r) ∙ sym (sum.xor_false (xor c false) ∙ sum.xor_false c) in
    let tail : (m ++ none 32) ⊕ (low_first 31 (r / 2) ++ none (suc n)) ≡ ((times c below ++ none (length q)) ⊕ product below q) ⊕ R =
    tail_of m r b q R h (length-quot r' m) (divides m r' (step_lt (bit_xor r (val b)) (xor_lt 32 r (val b) h (small b)))) in
    let front : (times c (true ∷ below) ++ none (length q)) ≡ c ∷ (times c below ++ none (length q)) = ap (λ (l : List Bool). l ++ none (length q)) (sum.times_cons c below) in
    ap₂ ◌∷◌ head tail ∙ ap (λ (l : List Bool). (l ⊕ (false ∷ product below q)) ⊕ (false ∷ R)) (sym front)

-- ---- the register over bytes is the register over their digits

-- a number as its lowest digit and the rest
parts : (r b : ℕ) → bit_xor r b ≡ bit_xor (bit_xor r (b % 2)) (b / 2 * 2)
parts r b =
    ap (bit_xor r) (sym (div-add-mod' b 2) ∙ sym (xor_shifted (b / 2) 1 (b % 2) (odd_lt b)) ∙ xor_comm (b / 2 * 2) (b % 2))
    ∙ sym (nat.xor_assoc r (b % 2) (b / 2 * 2))

steps_low : (n r b : ℕ) → b < 2 ^ n → steps n (bit_xor r b) ≡ bit_reg r (low_first n b)
unfolding steps low_first
steps_low zero r b h = ap (bit_xor r) (lt-one h) ∙ xor_zero_r r
steps_low (suc n) r b h =
    ap (λ (x : ℕ). steps n (step x)) (parts r b)
    ∙ ap (steps n) (step-xor (bit_xor r (b % 2)) (b / 2 * 2) ∙ ap (bit_xor (step (bit_xor r (b % 2)))) (step_double (b / 2)))
    ∙ steps_low n (step (bit_xor r (b % 2))) (b / 2) (half_lt_pow n h)
    ∙ ap (λ (d : ℕ). bit_reg (step (bit_xor r d)) (low_first n (b / 2))) (sym (val-odd b))

bit_reg-append : (r : ℕ) (p q : List Bool) → bit_reg r (p ++ q) ≡ bit_reg (bit_reg r p) q
bit_reg-append r [] q = refl
bit_reg-append r (b ∷ p) q = bit_reg-append (step (bit_xor r (val b))) p q

reg_low : (r : ℕ) (bs : List ℕ) → Bytes bs → reg r bs ≡ bit_reg r (message bs)
unfolding reg message feed
reg_low r [] h = refl
reg_low r (b ∷ bs) h =
    ap (λ (x : ℕ). reg x bs) (steps_low 8 r b h.0)
    ∙ reg_low (bit_reg r (low_first 8 b)) bs h.1
    ∙ sym (bit_reg-append r (low_first 8 b) (message bs))

-- ---- the sum is RFC 3720's

low_ones : low_first 32 ones32 ≡ replicate 32 true
unfolding low_first
low_ones = refl

sum_ones : (p : List Bool) → p ⊕ replicate (length p) true ≡ map not p
unfolding ◌⊕◌
sum_ones [] = refl
sum_ones (a ∷ p) = ap₂ ◌∷◌ (sum.xor_true a) (sum_ones p)

low_not : (r : ℕ) → low_first 32 (bit_xor r ones32) ≡ map not (low_first 32 r)
low_not r =
    low_xor 32 r ones32
    ∙ ap (◌⊕◌ (low_first 32 r)) (low_ones ∙ ap (λ (n : ℕ). replicate n true) (sym (length_low 32 r)))
    ∙ sum_ones (low_first 32 r)

pub crc_divides : (bs : List ℕ) → Bytes bs → Crc bs (crc_of bs)
unfolding crc_of
crc_divides bs h =
    let m : List Bool = message bs in
    let r : ℕ = bit_reg ones32 m in
    record {
      quotient = quot ones32 m;
      remainder = low_first 32 r;
      long = length-quot ones32 m;
      short = length_low 32 r;
      divided = ap (λ (l : List Bool). (m ++ none 32) ⊕ (l ++ none (length m))) (sym low_ones) ∙ divides m ones32 (lit< tt);
      fits = crc_lt bs h;
      complemented = ap (λ (x : ℕ). low_first 32 (bit_xor x ones32)) (reg_low ones32 bs h) ∙ low_not r;
    }
