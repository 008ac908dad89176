use Rattle.std.proofs.Common.{ℕ, ◌<◌, map, get_or, sym, ◌∙◌, arith, ext_get_or, rules}
use lib.ListN.{length-map, get_or-map}
use Rattle.crc32c.specs.Matrix.{applied}
use Rattle.crc32c.proofs.Made.{made}
use Rattle.crc32c.proofs.square.Goals as goal

pub returns : goal.returns
returns c =
    ext_get_or (applied c.args.op.now 0) c.from_fn.result (map (applied c.args.op.now) c.args.op.now) (c.from_fn.ensures.items.long ∙ sym c.told-op ∙ sym (length-map c.args.op.now (applied c.args.op.now)))
    (λ k lt. let b : k < 32 = omega (arith, c.from_fn.ensures.items.long) in
    made _ _ (λ (i : ℕ). applied c.args.op.now (get_or c.args.op.now i 0)) 32 (λ i y q l r. search rules) c.from_fn.result (applied c.args.op.now 0) c.from_fn.ensures.items k b
    ∙ sym (get_or-map (applied c.args.op.now) c.args.op.now k 0))
