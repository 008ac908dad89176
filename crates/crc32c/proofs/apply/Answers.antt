use Rattle.std.proofs.Common.{◌≡◌, ℕ, ◌+◌, ◌*◌, ◌/◌, ◌%◌, ◌<◌, ◌≤◌, length, get_or, drop, sym, ap, ◌∙◌, one-mul, zero-mul, add-one, arith, drop_of_length-le, drop-cons}
use lib.Bits.{bit_xor, xor_zero_r}
use Rattle.crc32c.specs.Matrix.{applied}
use Rattle.crc32c.proofs.Xor.{xor_assoc}
use Rattle.crc32c.proofs.apply.Goals.{then-rest-eq1, else-rest-eq1}
use Rattle.crc32c.proofs.apply.Goals as goal

-- one turn: the digit d of what is left adds its m, or nothing

turn : (acc d m rest r : ℕ) → r ≡ bit_xor acc (d * m) → bit_xor r rest ≡ bit_xor acc (bit_xor (d * m) rest)
turn acc d m rest r e = ap (λ (x : ℕ). bit_xor x rest) e ∙ xor_assoc acc (d * m) rest

pub loop-column-preserved : goal.loop-column-preserved
unfolding applied
loop-column-preserved c =
    let l = c.args.op.now in
    let i : ℕ = c.loop-column.column-index in
    let acc : ℕ = c.loop-column.acc in
    let rest : ℕ = c.loop-column.rest in
    let m : ℕ = get_or l i 0 in
    let h : i < length l = omega arith in
    let came : c.if-rest-eq1.acc ≡ bit_xor acc (rest % 2 * m) =
    elim c.if-rest-eq1.branch [
      | then-rest-eq1 w ↦ w.acc-is ∙ sym (ap (λ (d : ℕ). bit_xor acc (d * m)) w.if-rest-eq1.true ∙ ap (bit_xor acc) (one-mul m))
      | else-rest-eq1 w ↦ let z : rest % 2 ≡ 0 = omega (arith, w.if-rest-eq1.false) in w.acc-is ∙ sym (ap (λ (d : ℕ). bit_xor acc (d * m)) z ∙ ap (bit_xor acc) (zero-mul m) ∙ xor_zero_r acc)
    ] in
    turn acc (rest % 2) m (applied (drop (i + 1) l) (rest / 2)) c.if-rest-eq1.acc came
    ∙ rw add-one (sym (ap (λ k. bit_xor acc (applied k rest)) (drop-cons l i 0 h)) ∙ c.loop-column.invariant)

pub returns : goal.returns
unfolding applied
returns c =
    let l = c.args.op.now in
    let h : length l ≤ c.loop-column.column-index = omega arith in
    let acc : ℕ = c.loop-column.acc in
    sym (ap (λ k. bit_xor acc (applied k c.loop-column.rest)) (drop_of_length-le l h) ∙ xor_zero_r acc) ∙ c.loop-column.invariant
