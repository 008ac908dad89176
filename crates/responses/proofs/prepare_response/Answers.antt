use Rattle.responses.proofs.Preparing.{response_prepares}
use Rattle.bidi_write.specs.View.{response_of}
use Rattle.responses.proofs.prepare_response.Goals as goal

pub returns : goal.returns
returns c =
    rw c.with_connector.ensures (response_prepares (response_of c.args.m c.args.handle.now) c.args.s c.handle_response.result c.handle_response.ensures.spec_fits c.handle_response.ensures.result_value)
