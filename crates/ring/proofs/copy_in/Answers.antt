use Rattle.std.proofs.Common.{ℕ, ◌+◌, ◌-◌, ◌++◌, List, take, drop, ap, ◌∙◌, zero-add, arith}
use borrow.Rule.Slice.PartMut.{put_mid}
use Rattle.ring.proofs.Runs.{run_put, runs-written}
use Rattle.ring.proofs.copy_in.Goals as goal

pub returns : goal.returns
returns c =
    let a = c.args in
    let s = a.store.now in
    let from = c.wrap-from.result in
    let k = c.min-k.result in
    let run = c.copy_from_slice.new.self in
    let s₁ : List ℕ = put_mid from (from + k - from) s run in
    runs-written a.size a.head a.at a.n from k s c.requires.within c.wrap-from.ensures c.min-k.ensures
    a.src.now s₁ (c.copy_from_slice-2.new.self ++ drop (a.n - k) s₁) (omega arith)
    (run_put s run from k (from + k - from) (omega arith) ∙ ap (λ (l : List ℕ). take from s ++ l ++ drop (from + k) s) c.copy_from_slice.ensures.after)
    (rw zero-add (ap (λ (l : List ℕ). l ++ drop (a.n - k) s₁) c.copy_from_slice-2.ensures.after))
