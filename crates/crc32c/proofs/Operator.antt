-- A linear operator as a matrix: applied, squared, and its power by halving.
-- Assumes nothing.
use Rattle.std.proofs.Common.{◌≡◌, ℕ, zero, suc, ◌+◌, ◌*◌, ◌/◌, ◌%◌, ◌^◌, ◌<◌, List, [], ◌∷◌, map, length, get_or, sym, refl, ap, ◌∙◌, ap₂, le_of_suc-le-suc, not-suc-le-zero, add-zero, add-suc, mul_assoc, mul_comm, add-mul, suc-add, one-mul, pow-suc, div-add-mod', zero-add, zero-mul, mul-one, arith, pow_pos}
use lib.Arith.{lt-one}
use lib.Bits.{bit_xor, xor_comm, xor_shifted}
use Rattle.crc32c.specs.Reg.{steps, zeros}
use Rattle.crc32c.specs.Matrix.{applied, iterated, columns, zero_byte}
use Rattle.crc32c.proofs.Xor.{odd_lt, xor_half, xor-odd, xor4, differ_mul, digit_ind, half_lt_pow}
use Rattle.crc32c.proofs.Linear.{steps-none, steps-xor, steps_lt}

applied-xor : (ms : List ℕ) (x y : ℕ) → applied ms (bit_xor x y) ≡ bit_xor (applied ms x) (applied ms y)
unfolding applied
applied-xor [] x y = refl
applied-xor (m ∷ ms) x y =
    ap₂ (λ (u v : ℕ). bit_xor (u * m) (applied ms v)) (xor-odd x y) (xor_half x y)
    ∙ ap₂ bit_xor (differ_mul (x % 2) (y % 2) m (odd_lt x) (odd_lt y)) (applied-xor ms (x / 2) (y / 2))
    ∙ xor4 (x % 2 * m) (y % 2 * m) (applied ms (x / 2)) (applied ms (y / 2))

pub applied-zero : (ms : List ℕ) → applied ms 0 ≡ 0
unfolding applied
applied-zero [] = refl
applied-zero (m ∷ ms) = ap₂ bit_xor (zero-mul m) (applied-zero ms)

-- an operator at a digit times a number
applied_digit : (ms : List ℕ) (d m : ℕ) → d < 2 → applied ms (d * m) ≡ d * applied ms m
applied_digit ms d m h =
    digit_ind (λ (u : ℕ). applied ms (u * m) ≡ u * applied ms m)
    (ap (applied ms) (zero-mul m) ∙ applied-zero ms ∙ sym (zero-mul (applied ms m)))
    (ap (applied ms) (one-mul m) ∙ sym (one-mul (applied ms m))) d h

-- an operator after another, as a matrix
applied-map : (ns ms : List ℕ) (x : ℕ) → applied (map (applied ns) ms) x ≡ applied ns (applied ms x)
unfolding applied
applied-map ns [] x = sym (applied-zero ns)
applied-map ns (m ∷ ms) x =
    ap₂ bit_xor (sym (applied_digit ns (x % 2) m (odd_lt x))) (applied-map ns ms (x / 2))
    ∙ sym (applied-xor ns (x % 2 * m) (applied ms (x / 2)))

iterated-same : (f g : ℕ → ℕ) → ((x : ℕ) → f x ≡ g x) → (n x : ℕ) → iterated f n x ≡ iterated g n x
unfolding iterated
iterated-same f g e zero x = refl
iterated-same f g e (suc n) x = ap (iterated f n) (e x) ∙ iterated-same f g e n (g x)

-- twice as often
twice : (f : ℕ → ℕ) (m x : ℕ) → iterated f (m * 2) x ≡ iterated (λ y. f (f y)) m x
unfolding iterated
twice f zero x = refl
twice f (suc m) x =
    let e : suc m * 2 ≡ suc (suc (m * 2)) = omega arith in
    ap (λ (n : ℕ). iterated f n x) e ∙ twice f m (f (f x))

iterated-add : (f : ℕ → ℕ) (m n x : ℕ) → iterated f (m + n) x ≡ iterated f n (iterated f m x)
unfolding iterated
iterated-add f zero n x = ap (λ (k : ℕ). iterated f k x) (zero-add n)
iterated-add f (suc m) n x = ap (λ (k : ℕ). iterated f k x) (suc-add m n) ∙ iterated-add f m n (f x)

-- a power: the square's, half as often, after the odd one
pub halved : (ms : List ℕ) (n x : ℕ)
    → iterated (applied (map (applied ms) ms)) (n / 2) (iterated (applied ms) (n % 2) x) ≡ iterated (applied ms) n x
halved ms n x =
    let f : (ℕ → ℕ) = applied ms in
    let y : ℕ = iterated f (n % 2) x in
    let e : n ≡ n % 2 + n / 2 * 2 = omega arith in
    iterated-same (applied (map f ms)) (λ z. f (f z)) (applied-map ms ms) (n / 2) y
    ∙ sym (twice f (n / 2) y)
    ∙ sym (iterated-add f (n % 2) (n / 2 * 2) x)
    ∙ ap (λ (k : ℕ). iterated f k x) (sym e)

-- a number as its lowest digit and the rest, both shifted by j
split_low : (x j : ℕ) → bit_xor (x % 2 * 2 ^ j) (x / 2 * 2 ^ suc j) ≡ x * 2 ^ j
split_low x j =
    let p : ℕ = 2 ^ j in
    let e : 2 ^ suc j ≡ p * 2 = pow-suc 2 j in
    let hp : 0 < p = pow_pos j in
    let b : x % 2 * p < p * 2 = digit_ind (λ (u : ℕ). u * p < p * 2) (omega arith) (omega arith) (x % 2) (odd_lt x) in
    xor_comm (x % 2 * p) (x / 2 * 2 ^ suc j)
    ∙ xor_shifted (x / 2) (suc j) (x % 2 * p) (rw e b)
    ∙ ap (λ (q : ℕ). x / 2 * q + x % 2 * p) (e ∙ mul_comm p 2)
    ∙ ap (λ (q : ℕ). q + x % 2 * p) (sym (mul_assoc (x / 2) 2 p))
    ∙ sym (add-mul (x / 2 * 2) (x % 2) p)
    ∙ ap (λ (q : ℕ). q * p) (div-add-mod' x 2)

pub length-columns : (f : ℕ → ℕ) (n j : ℕ) → length (columns f n j) ≡ n
unfolding columns
length-columns f zero j = refl
length-columns f (suc n) j = ap suc (length-columns f n (suc j))

pub get_d_columns : (f : ℕ → ℕ) (n j k : ℕ) → k < n → get_or (columns f n j) k 0 ≡ f (2 ^ (j + k))
unfolding columns
get_d_columns f zero j k h = absurd (not-suc-le-zero h)
get_d_columns f (suc n) j zero h = ap (λ (i : ℕ). f (2 ^ i)) (sym (add-zero j))
get_d_columns f (suc n) j (suc k) h = get_d_columns f n (suc j) k (le_of_suc-le-suc h) ∙ ap (λ (i : ℕ). f (2 ^ i)) (suc-add j k ∙ sym (add-suc j k))

-- a linear function is its matrix
module _ (f : ℕ → ℕ) (f0 : f 0 ≡ 0) (lin : (a b : ℕ) → f (bit_xor a b) ≡ bit_xor (f a) (f b)) where
  f_digit : (d m : ℕ) → d < 2 → f (d * m) ≡ d * f m
  f_digit d m h =
      digit_ind (λ (u : ℕ). f (u * m) ≡ u * f m)
      (ap f (zero-mul m) ∙ f0 ∙ sym (zero-mul (f m)))
      (ap f (one-mul m) ∙ sym (one-mul (f m))) d h

  columns-applied : (k j x : ℕ) → x < 2 ^ k → applied (columns f k j) x ≡ f (x * 2 ^ j)
  unfolding columns applied
  columns-applied zero j x h = sym (ap f (ap (λ (y : ℕ). y * 2 ^ j) (lt-one h) ∙ zero-mul (2 ^ j)) ∙ f0)
  columns-applied (suc k) j x h =
      ap₂ bit_xor (sym (f_digit (x % 2) (2 ^ j) (odd_lt x))) (columns-applied k (suc j) (x / 2) (half_lt_pow k h))
      ∙ sym (lin (x % 2 * 2 ^ j) (x / 2 * 2 ^ suc j))
      ∙ ap f (split_low x j)

zero_byte_lem : (x : ℕ) → x < 2 ^ 32 → applied zero_byte x ≡ steps 8 x
unfolding zero_byte
zero_byte_lem x h = columns-applied (steps 8) steps-none (steps-xor 8) 32 0 x h ∙ ap (steps 8) (mul-one x)

pub zeros_power : (n x : ℕ) → x < 2 ^ 32 → iterated (applied zero_byte) n x ≡ zeros n x
unfolding iterated zeros
zeros_power zero x h = refl
zeros_power (suc n) x h = ap (iterated (applied zero_byte) n) (zero_byte_lem x h) ∙ zeros_power n (steps 8 x) (steps_lt 8 x h)
