use Rattle.text.proofs.Clipped.{◌⨟◌, reworded}
use Rattle.bench_lines.proofs.Parts.{counted_both}
use Rattle.bench_lines.proofs.words.counted.Goals as goal

pub returns-then-hands : goal.returns-then-hands
returns-then-hands c =
    λ out h.
    reworded (counted_both c.hands.ensures _ _ c.if-hands.true) (c.number-count.ensures ⨟ c.byte.ensures ⨟ c.or_dash.ensures out h)
