use mathlib.Core.Path.{◌≡◌}
use mathlib.Core.List.{◌++◌}
use lib.ListN.{take}
use Rattle.text.specs.Line.{text_of, clip}
use Rattle.text.proofs.Line.text.Given as goal

abbrev pub invariant-loop-b : goal.invariant-loop-b
invariant-loop-b l =
    text_of l.self ≡ clip (text_of l.initial.self ++ take l.b-index l.text)
