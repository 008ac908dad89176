use Rattle.protobuf_reader.proofs.Answers.{malformed_made}
use Rattle.protobuf_reader.proofs.Reader.next.Goals as goal

pub returns-in_err-get_field : goal.returns-in_err-get_field
returns-in_err-get_field c = malformed_made _ _ _ _ c.if-self.false c.from_residual.ensures.0 c.in_err-get_field.ensures
