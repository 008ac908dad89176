use Rattle.std.proofs.Common.{ℕ, ◌/◌, List, ◌∙◌, ap₂}
use Rattle.crc32c.specs.Matrix.{applied, iterated}
use Rattle.crc32c.proofs.Operator.{halved}
use Rattle.crc32c.proofs.+power.Goals as goal

pub returns : goal.returns
returns t c =
    let a = c.args in
    let ms = a.op.now in
    c.power.ensures
    ∙ ap₂ (λ (l : List ℕ) (y : ℕ). iterated (applied l) (a.n / 2) y) c.square-twice.ensures c.odd_one-y.ensures
    ∙ halved ms a.n a.x
