-- What lies at the front of a list whose elements from index k on are copied there.
-- Assumes nothing.
use mathlib.Core.Path.{◌≡◌, sym, ap, ◌∙◌}
use mathlib.Core.List.{List}
use Prim.Native.Nat.{ℕ, ◌+◌, ◌-◌, ◌≤◌}
use native.Mathlib.Nat.{zero-add}
use native.Mathlib.Omega.{arith}
use lib.ListN.{length, take, drop, length-drop}
use lib.Seq.{paste, take-paste}
use Rattle.ring.proofs.Paste.{drop-take-add}

pub shifted : {A : Type 0} (d : List A) (k n c : ℕ) → k ≤ c → n ≡ c - k → c ≤ length d → take n (paste d 0 (drop k d) n) ≡ drop k (take c d)
shifted d k n c hk e hc =
    let p : n ≤ length (drop k d) = simp length-drop (omega arith) in
    let m : c ≡ k + n = omega arith in
    let z : 0 ≤ length d = omega arith in
    ap (λ (j : ℕ). take j (paste d 0 (drop k d) n)) (sym (zero-add n)) ∙ take-paste d 0 (drop k d) n z p
    ∙ sym (ap (λ (j : ℕ). drop k (take j d)) m ∙ drop-take-add k n d (omega arith))
