use mathlib.Core.Path.{sym, ap}
use mathlib.Core.Bool.{Bool}
use mathlib.Core.List.{[], ◌∷◌}
use borrow.Author.Rules.{rules}
use Rattle.bench_lines.specs.Text.{flag}
use Rattle.text.proofs.Clipped.{reworded, same}
use Rattle.bench_lines.proofs.words.flag.Goals as goal

pub returns-else-is : goal.returns-else-is
returns-else-is c = reworded (ap (λ (b : Bool). flag b (c.args.letter ∷ [])) (sym c.if-is.false)) (same c.args.line (search rules))
