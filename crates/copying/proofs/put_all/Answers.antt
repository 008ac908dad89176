use Rattle.std.proofs.Common.{List, ℕ, ◌++◌, ◌-◌, ◌%◌, ap₂, ◌∙◌, take-append-drop}
use Rattle.copying.proofs.Written.{written_both, written-same}
use Rattle.copying.proofs.put_all.Goals as goal

pub returns : goal.returns
returns c =
    let a = c.args in
    written-same (written_both c.put_run-i.ensures c.put_run.ensures)
    (ap₂ (λ (x y : List ℕ). x ++ y) c.split_at.ensures.front c.split_at.ensures.back ∙ take-append-drop (16 - a.at % 16) a.src.now)
