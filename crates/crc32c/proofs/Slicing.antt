-- Eight bytes a turn: the rule of the tables from two tests computed over them, and the register as a sum with a part for each half-byte.
use Rattle.std.proofs.Common.{◌≡◌, ℕ, zero, suc, ◌+◌, ◌-◌, ◌*◌, ◌/◌, ◌%◌, ◌^◌, ◌<◌, Bool, true, false, ◌&&◌, T, eqb, List, [], ◌∷◌, length, get_or, drop, sym, refl, ap, ◌∙◌, ap₂, le_of_suc-le-suc, not-suc-le-zero, add-zero, add-suc, mod-lt, mul_assoc, suc-add, pow-suc, div-add-mod', zero-add, mul-one, arith, eqb→eq, length-drop, get_or-drop, drop-cons, pow_pos, pow-add, take, take-add}
use Rattle.std.specs.List.{fold}
use Rattle.std.specs.Simd.{first_chunks}
use native.Mathlib.Nat.{div-div-eq-div-mul}
use lib.Ieee.Fits.{and_l, and_r}
use lib.Bits.{bit_xor, xor_comm, xor_zero_r, xor_shifted, xor_shr}
use Rattle.crc32c.specs.Reg.{step, steps, feed, reg, zeros}
use Rattle.crc32c.specs.Table.{HalfByteTable}
use Rattle.crc32c.proofs.Filled.{Filled}
use Rattle.crc32c.proofs.Linear.{steps-xor, step_double}
use Rattle.crc32c.proofs.Join.{reg-xor, reg-append}

-- ---- a register is its n low digits and the rest, which n steps shift down

steps_shift : (n v : ℕ) → steps n (v * 2 ^ n) ≡ v
unfolding steps
steps_shift zero v = mul-one v
steps_shift (suc n) v =
    let e : v * 2 ^ suc n ≡ v * 2 ^ n * 2 = ap (λ (p : ℕ). v * p) (pow-suc 2 n) ∙ sym (mul_assoc v (2 ^ n) 2) in
    ap (steps (suc n)) e ∙ ap (steps n) (step_double (v * 2 ^ n)) ∙ steps_shift n v

steps_split : (n x : ℕ) → steps n x ≡ bit_xor (x / 2 ^ n) (steps n (x % 2 ^ n))
steps_split n x =
    let low : ℕ = x % 2 ^ n in
    let high : ℕ = x / 2 ^ n in
    ap (steps n) (sym (div-add-mod' x (2 ^ n)) ∙ sym (xor_shifted high n low (mod-lt x (pow_pos n))))
    ∙ steps-xor n (high * 2 ^ n) low
    ∙ ap (λ (y : ℕ). bit_xor y (steps n low)) (steps_shift n high)

steps-add : (m n r : ℕ) → steps (m + n) r ≡ steps n (steps m r)
unfolding steps
steps-add zero n r = ap (λ (k : ℕ). steps k r) (zero-add n)
steps-add (suc m) n r = ap (λ (k : ℕ). steps k r) (suc-add m n) ∙ steps-add m n (step r)

-- ---- the tables' rule

-- n entries, from the place i on: each is as f says
abbrev pub places : (ℕ → ℕ) → ℕ → ℕ → List ℕ → Bool
places f zero i ys = true
places f (suc n) i [] = false
places f (suc n) i (y ∷ ys) = eqb y (f i) && places f n (suc i) ys

placed : (f : ℕ → ℕ) (n i : ℕ) (ys : List ℕ) → T (places f n i ys) → Filled (λ (k : ℕ). f (i + k)) n ys
placed f zero i ys h k lt = absurd (not-suc-le-zero lt)
placed f (suc n) i [] h k lt = absurd h
placed f (suc n) i (y ∷ ys) h zero lt =
    eqb→eq y (f i) (and_l (eqb y (f i)) (places f n (suc i) ys) h) ∙ ap f (sym (add-zero i))
placed f (suc n) i (y ∷ ys) h (suc k) lt =
    placed f n (suc i) ys (and_r (eqb y (f i)) (places f n (suc i) ys) h) k (le_of_suc-le-suc lt)
    ∙ ap f (suc-add i k ∙ sym (add-suc i k))

-- what stands a row after each place, by the entry there
abbrev pub next : List ℕ → ℕ → ℕ
next t i = steps 4 (get_or t i 0)

module _ (t : List ℕ) (first : T (places (steps 4) 16 0 t)) (further : T (places (next t) 240 0 (drop 16 t))) where
  row : (k x : ℕ) → k < 16 → x < 16 → get_or t (k * 16 + x) 0 ≡ steps (4 * (k + 1)) x
  row zero x hk hx = ap (λ (n : ℕ). get_or t n 0) (zero-add x) ∙ placed (steps 4) 16 0 t first x hx ∙ ap (steps 4) (zero-add x)
  row (suc k) x hk hx =
      let i : ℕ = k * 16 + x in
      let e : suc k * 16 + x ≡ 16 + i = omega arith in
      let n : 4 * (k + 1) + 4 ≡ 4 * (suc k + 1) = omega arith in
      ap (λ (j : ℕ). get_or t j 0) e
      ∙ sym (get_or-drop 16 t i 0)
      ∙ placed (next t) 240 0 (drop 16 t) further i (omega arith)
      ∙ ap (next t) (zero-add i)
      ∙ ap (steps 4) (row k x (omega arith) hx)
      ∙ sym (steps-add (4 * (k + 1)) 4 x)
      ∙ ap (λ (m : ℕ). steps m x) n

-- a table that passes the two tests is right
pub ruled : {t : List ℕ} → T (places (steps 4) 16 0 t) → T (places (next t) 240 0 (drop 16 t)) → HalfByteTable t
ruled {t} first further = record { right = row t first further }

-- ---- what zero bytes do to a byte is the sum of what they do to its half-bytes

zeros-steps : (n r : ℕ) → zeros n r ≡ steps (8 * n) r
unfolding zeros steps
zeros-steps zero r = refl
zeros-steps (suc n) r =
    let e : 8 * suc n ≡ 8 + 8 * n = omega arith in
    zeros-steps n (steps 8 r) ∙ sym (ap (λ (k : ℕ). steps k r) e ∙ steps-add 8 (8 * n) r)

-- four of the steps shift the high half-byte down
pub halves : (k x : ℕ) → zeros (k + 1) x ≡ bit_xor (steps (4 * (2 * k + 1 + 1)) (x % 16)) (steps (4 * (2 * k + 1)) (x / 16))
halves k x =
    let n : ℕ = 4 * (2 * k + 1) in
    let e : 8 * (k + 1) ≡ 4 + n = omega arith in
    let l : 4 + n ≡ 4 * (2 * k + 1 + 1) = omega arith in
    zeros-steps (k + 1) x
    ∙ ap (λ (m : ℕ). steps m x) e
    ∙ steps-add 4 n x
    ∙ ap (steps n) (steps_split 4 x)
    ∙ steps-xor n (x / 16) (steps 4 (x % 16))
    ∙ xor_comm (steps n (x / 16)) (steps n (steps 4 (x % 16)))
    ∙ ap (λ (y : ℕ). bit_xor y (steps n (x / 16))) (sym (steps-add 4 n (x % 16)) ∙ ap (λ (m : ℕ). steps m (x % 16)) l)

-- ---- the first of several bytes goes through the register apart from the rest

reg-first : (r b : ℕ) (bs : List ℕ) → b < 256 → reg r (b ∷ bs) ≡ bit_xor (reg (r / 256) bs) (zeros (suc (length bs)) (bit_xor r b % 256))
unfolding reg feed zeros
reg-first r b bs h =
    let z : b / 256 ≡ 0 = omega arith in
    let high : bit_xor r b / 256 ≡ r / 256 = xor_shr r b 8 ∙ ap (bit_xor (r / 256)) z ∙ xor_zero_r (r / 256) in
    ap (λ (x : ℕ). reg x bs) (steps_split 8 (bit_xor r b) ∙ ap (λ (x : ℕ). bit_xor x (steps 8 (bit_xor r b % 256))) high)
    ∙ reg-xor (r / 256) (steps 8 (bit_xor r b % 256)) bs

-- the byte at the place i, with the register's byte i, apart from the bytes after it
pub reg_at : (r : ℕ) (bs : List ℕ) (i : ℕ) → i < length bs → get_or bs i 0 < 256
    → reg (r / 2 ^ (8 * i)) (drop i bs)
    ≡ bit_xor (reg (r / 2 ^ (8 * suc i)) (drop (suc i) bs)) (zeros (length bs - i) (bit_xor (r / 2 ^ (8 * i)) (get_or bs i 0) % 256))
reg_at r bs i h hb =
    let x : ℕ = r / 2 ^ (8 * i) in
    let b : ℕ = get_or bs i 0 in
    let e : 8 * i + 8 ≡ 8 * suc i = omega arith in
    let d : x / 256 ≡ r / 2 ^ (8 * suc i) =
    div-div-eq-div-mul r (2 ^ (8 * i)) 256 ∙ ap (λ (n : ℕ). r / n) (sym (pow-add 2 (8 * i) 8) ∙ ap (λ (n : ℕ). 2 ^ n) e) in
    let l : suc (length (drop (suc i) bs)) ≡ length bs - i = omega (arith, length-drop (suc i) bs) in
    ap (reg x) (drop-cons bs i 0 h)
    ∙ reg-first x b (drop (suc i) bs) hb
    ∙ ap₂ (λ (q n : ℕ). bit_xor (reg q (drop (suc i) bs)) (zeros n (bit_xor x b % 256))) d l

-- ---- bytes by eights are the bytes in order

pub by_eights : (n r : ℕ) (bs : List ℕ) → fold reg r (first_chunks 8 n bs) ≡ reg r (take (n * 8) bs)
unfolding reg
by_eights zero r bs = refl
by_eights (suc n) r bs =
    let e : suc n * 8 ≡ 8 + n * 8 = omega arith in
    by_eights n (reg r (take 8 bs)) (drop 8 bs)
    ∙ sym (ap (λ (k : ℕ). reg r (take k bs)) e ∙ ap (reg r) (take-add 8 (n * 8) bs) ∙ reg-append r (take 8 bs) (take (n * 8) (drop 8 bs)))
