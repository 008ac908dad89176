use mathlib.Core.Path.{◌≡◌}
use mathlib.Core.Bool.{true, ◌||◌}
use mathlib.Core.Logic.{⊎_elim}
use Rattle.text.proofs.Clipped.{◌⨟◌, reworded}
use Rattle.bench_lines.proofs.Parts.{flags_some}
use Rattle.bench_lines.proofs.words.flags.Goals as goal

pub returns-then-finish : goal.returns-then-finish
returns-then-finish c =
    let some : (c.args.flush || c.args.lookup || c.args.finish) ≡ true =
    ⊎_elim (λ e. rw e) (λ t. ⊎_elim (λ e. rw (e.0, e.1)) (λ e. rw (e.0, e.1, e.2)) t) c.if-finish.either in
    reworded (flags_some c.args.flush c.args.lookup c.args.finish some) (c.flag.ensures ⨟ c.flag-then-finish.ensures ⨟ c.flag-then-finish-2.ensures)
