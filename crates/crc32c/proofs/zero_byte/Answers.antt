use Rattle.std.proofs.Common.{ℕ, ◌*◌, ◌%◌, ◌^◌, ◌≡◌, ◌<◌, sym, ap, ◌∙◌, one-mul, zero-add, arith, lit<, ext_get_or, shl_exact, rules}
use lib.Bits.{xor_zero_r}
use Rattle.crc32c.specs.Reg.{steps, feed}
use Rattle.crc32c.specs.Matrix.{zero_byte}
use Rattle.crc32c.proofs.Made.{made}
use Rattle.crc32c.proofs.Operator.{get_d_columns, length-columns}
use Rattle.crc32c.proofs.zero_byte.Goals as goal

fed : (i : ℕ) → i < 32 → feed (1 * 2 ^ i % 2 ^ 32) 0 ≡ steps 8 (2 ^ i)
unfolding feed
fed i h = ap (steps 8) (xor_zero_r (1 * 2 ^ i % 2 ^ 32) ∙ shl_exact 1 i 32 (lit< tt) (omega arith) ∙ one-mul (2 ^ i))

pub returns : goal.returns
unfolding zero_byte
returns c =
    ext_get_or 0 c.from_fn.result zero_byte (c.from_fn.ensures.items.long ∙ sym (length-columns (steps 8) 32 0))
    (λ k lt. let b : k < 32 = omega (arith, c.from_fn.ensures.items.long) in
    made _ _ (λ (i : ℕ). feed (1 * 2 ^ i % 2 ^ 32) 0) 32 (λ i y q l r. search rules) c.from_fn.result 0 c.from_fn.ensures.items k b
    ∙ fed k b ∙ sym (get_d_columns (steps 8) 32 0 k b ∙ ap (λ (j : ℕ). steps 8 (2 ^ j)) (zero-add k)))
