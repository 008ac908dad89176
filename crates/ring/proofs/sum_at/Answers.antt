use Rattle.std.proofs.Common.{◌≡◌, ℕ, ◌+◌, ◌-◌, List, take, drop, sym, ap, ◌∙◌, append-nil, arith}
use Rattle.crc32c.specs.Reg.{crc_of, updated}
use Rattle.crc32c.proofs.Join.{crc_updated}
use Rattle.ring.proofs.Runs.{runs_read}
use Rattle.ring.proofs.sum_at.Goals as goal

-- the first run's sum
first : (s : List ℕ) (from k r : ℕ) → r ≡ crc_of (take (from + k - from) (drop from s)) → r ≡ crc_of (take k (drop from s))
first s from k r h =
    let e : from + k - from ≡ k = omega arith in
    rw e at h

pub returns-then-k-n : goal.returns-then-k-n
returns-then-k-n c =
    let a = c.args in
    let from = c.wrap-from.result in
    let k = c.min-k.result in
    c.update.ensures
    ∙ ap (λ (x : ℕ). updated x (take (a.n - k) a.store.now)) (first a.store.now from k c.crc32c-sum.result c.crc32c-sum.ensures.register)
    ∙ crc_updated (take k (drop from a.store.now)) (take (a.n - k) a.store.now)
    ∙ ap crc_of (sym (runs_read a.size a.head a.at a.n from k a.store.now c.requires c.wrap-from.ensures c.min-k.ensures))

pub returns-else-k-n : goal.returns-else-k-n
returns-else-k-n c =
    let a = c.args in
    let from = c.wrap-from.result in
    let k = c.min-k.result in
    let s = runs_read a.size a.head a.at a.n from k a.store.now c.requires c.wrap-from.ensures c.min-k.ensures in
    let z : a.n - k ≡ 0 = omega arith in
    first a.store.now from k c.crc32c-sum.result c.crc32c-sum.ensures.register
    ∙ ap crc_of (sym (rw (z, append-nil (take k (drop from a.store.now))) at s))
