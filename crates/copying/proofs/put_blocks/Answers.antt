use Rattle.std.proofs.Common.{List, ℕ, ◌++◌, sym, ap, ◌∙◌, append_assoc, rules}
use Rattle.std.specs.Slice.Iter.{chunks_rest}
use Rattle.copying.proofs.Written.{written_both}
use Rattle.copying.proofs.put_blocks.Goals as goal

pub loop-block-preserved : goal.loop-block-preserved
loop-block-preserved c =
    let i = c.loop-block.invariant.1 in
    let b : List ℕ = c.in-Some.block.now in
    (search rules, (i.0 ++ b, i.1 ∙ ap (λ (l : List ℕ). i.0 ++ l) c.in-Some.ensures.steps.1.0 ∙ sym (append_assoc i.0 b (chunks_rest c.next.new.self)), written_both i.2 c.put_block-i.ensures))
