-- Little-endian numbers.
-- Assumes nothing.
use mathlib.Core.Path.{◌≡◌, refl, ap, ◌∙◌}
use mathlib.Core.List.{[], ◌∷◌}
use Prim.Native.Nat.{ℕ, ◌+◌, ◌*◌, ◌^◌, ◌≤◌}
use native.Mathlib.Nat.{add-zero}
use native.Mathlib.Omega.{arith}
use lib.ListN.{length, take, drop, get_or, length-drop}
use lib.Seq.{length-take-le, take-add, get_or-drop, drop-drop}
use Rattle.rules.specs.Message.{Bytes}
use Rattle.little_endian.specs.Little.{little}
use Rattle.little_endian.proofs.Little.{little-append}

-- a number of twice n bytes, from place m on
pub twice : (n m : ℕ) (s : Bytes) → m + n ≤ length s
    → little (take (n + n) (drop m s)) ≡ little (take n (drop m s)) + 256 ^ n * little (take n (drop (m + n) s))
twice n m s h =
    let l : n ≤ length (drop m s) = omega (arith, length-drop m s) in
    ap little (take-add n n (drop m s))
    ∙ little-append (take n (drop m s)) (take n (drop n (drop m s)))
    ∙ rw (length-take-le n (drop m s) l, drop-drop n m s)

first_two : (s : Bytes) → 2 ≤ length s → take 2 s ≡ get_or s 0 0 ∷ get_or s 1 0 ∷ []
first_two [] h = absurd (omega arith)
first_two (a ∷ []) h = absurd (omega arith)
first_two (a ∷ b ∷ s) h = refl

-- two bytes, from place m on
pub two : (m : ℕ) (s : Bytes) → m + 2 ≤ length s → take 2 (drop m s) ≡ get_or s m 0 ∷ get_or s (m + 1) 0 ∷ []
two m s h =
    first_two (drop m s) (omega (arith, length-drop m s)) ∙ rw (get_or-drop m s 0 0, get_or-drop m s 1 0, add-zero m)
