use Rattle.coalescing_buffer.proofs.Laws.{extends}
use Rattle.coalescing_buffer.proofs.extend.Goals as goal

pub returns : goal.returns
returns c = extends _ _ _ _ _ _ _ _ c.requires.within c.requires.n_in_bounds c.copy_in.ensures
