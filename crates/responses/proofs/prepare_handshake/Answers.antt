use mathlib.Core.Path.{ap₂, ◌∙◌}
use Rattle.rules.specs.Message as M
use Rattle.rules.specs.Respond.{progress}
use Rattle.responses.proofs.Preparing.{handshake_prepares}
use Rattle.bidi_write.specs.View.{status_of, response_of}
use Rattle.responses.proofs.prepare_handshake.Goals as goal

pub returns : goal.returns
returns c =
    rw c.with_connector.ensures
    (handshake_prepares (response_of c.args.m c.args.handle.now) c.args.s c.progress.result (λ f. c.progress.ensures.spec_fits (c.handle_response-noted.ensures.spec_fits f)) (M.size_of (status_of c.args.m.write_status))
    (c.progress.ensures.result_value ∙ ap₂ progress c.persisted_size-size.ensures c.handle_response-noted.ensures.result_value))
