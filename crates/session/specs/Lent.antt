-- A lent call leaves the session in the record that it was lent, and answers or refuses: what the core's call left.
use Rattle.std.specs.declared.result.Result.{Result}
use Rattle.bidi_write.specs.declared.Refusal.{Refusal}
use Rattle.transport.specs.View.{Left}
use Rattle.transport.specs.declared.Session.{Session}
use Rattle.transport.specs.declared.Answer.{Answer}

abbrev pub outcome : Session → Result Answer Refusal → Left
outcome s a = record { session = s; answer = a }
