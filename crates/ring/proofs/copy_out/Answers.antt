use Rattle.std.proofs.Common.{◌≡◌, ℕ, ◌+◌, ◌-◌, List, ◌++◌, length, take, drop, length-take, sym, ap, ap₂, ◌∙◌, arith}
use Rattle.ring.proofs.Runs.{runs_read, runs_out}
use Rattle.ring.proofs.copy_out.Goals as goal

pub returns : goal.returns
returns c =
    let a = c.args in
    let from = c.wrap-from.result in
    let k = c.min-k.result in
    let r₁ : List ℕ = c.copy_from_slice.new.self in
    let r₂ : List ℕ = c.copy_from_slice-2.new.self in
    let e : from + k - from ≡ k = omega arith in
    let l : length r₁ ≡ k = c.copy_from_slice.ensures.len ∙ simp length-take (omega arith) in
    runs_out r₁ r₂ a.out.now k a.n l (omega arith)
    ∙ ap (λ (r : List ℕ). r ++ drop a.n a.out.now)
    (ap₂ (λ (x y : List ℕ). x ++ y) (c.copy_from_slice.ensures.after ∙ ap (λ (j : ℕ). take j (drop from a.store.now)) e) c.copy_from_slice-2.ensures.after
    ∙ sym (runs_read a.size a.head a.at a.n from k a.store.now c.requires.within c.wrap-from.ensures c.min-k.ensures))
