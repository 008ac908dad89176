use mathlib.Core.Path.{sym, ◌∙◌}
use mathlib.Core.List.{append-nil}
use native.Mathlib.Omega.{arith}
use borrow.Author.Rules.{rules}
use Rattle.text.specs.Line.{text_of}
use Rattle.text.proofs.Clipped.{clipped, more}
use Rattle.text.proofs.Line.text.Goals as goal

pub loop-b-init : goal.loop-b-init
loop-b-init c = rw append-nil (sym (clipped c.args.self.length c.args.self.bytes (search rules)))

pub loop-b-preserved : goal.loop-b-preserved
loop-b-preserved c =
    c.byte-self.ensures.text_is ∙ rw c.loop-b.invariant (more (text_of c.args.self) c.args.text.now c.loop-b.b-index (omega arith))
