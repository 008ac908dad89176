-- What C and a capacity keep to, where refusal 1 is not given.
-- Assumes nothing.
use mathlib.Core.Path.{◌≡◌}
use mathlib.Core.Bool.{false, ◌||◌}
use Prim.Native.Nat.{ℕ, ◌<◌, ◌≤◌}
use native.Mathlib.Omega.{arith}
use borrow.Author.Tests.{ltb-false, eqb-false}
use lib.Dec.{ltb, eqb}
use Rattle.rules.specs.Limits.{max_chunk, max_capacity}
use Rattle.rules.proofs.Tests.{or_no_left, or_no_right}
use Rattle.admission.specs.Rows.{bad_limits}

pub within_limits : (limit asked : ℕ) → bad_limits limit asked ≡ false → (0 < limit) × (limit ≤ max_chunk) × (asked ≤ max_capacity)
within_limits limit asked h =
    let e : (eqb limit 0 || ltb max_chunk limit) ≡ false = or_no_left _ _ h in
    let some : limit ≡ 0 → ⊥ = eqb-false limit 0 (or_no_left _ _ e) in
    (omega (arith, some), ltb-false max_chunk limit (or_no_right (eqb limit 0) _ e), ltb-false max_capacity asked (or_no_right (eqb limit 0 || ltb max_chunk limit) _ h))
