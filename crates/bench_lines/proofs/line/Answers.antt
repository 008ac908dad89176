use Rattle.transport.specs.View.{answer_of}
use Rattle.text.proofs.Clipped.{◌⨟◌}
use Rattle.bench_lines.proofs.Lengths.{line_is}
use Rattle.bench_lines.proofs.line.Goals as goal

pub returns : goal.returns
returns c =
    λ out h.
    line_is c.args.mark (answer_of c.args.answer out) c.begun.ensures (c.says.ensures out h ⨟ c.byte.ensures)
