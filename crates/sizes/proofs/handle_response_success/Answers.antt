use mathlib.Core.Path.{◌≡◌, sym, ap, ◌∙◌}
use mathlib.Core.Option.{none}
use Rattle.rules.specs.Message as M
use Rattle.bidi_write.specs.View.{status_of, size_of}
use Rattle.sizes.proofs.Taking.{takes_none}
use Rattle.std.specs.Prelude.{None}
use Rattle.sizes.proofs.handle_response_success.Goals as goal

pub returns : goal.returns
returns c =
    let e : M.size_of (status_of c.args.status) ≡ none = let q : c.persisted_size.result ≡ None = cc in sym c.persisted_size.ensures ∙ ap size_of q in
    rw (e, c.nothing.ensures) (takes_none _ c.args.s c.args.store.now c.args.table.now)
