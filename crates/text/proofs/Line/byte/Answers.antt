use borrow.Author.Rules.{rules}
use Rattle.text.proofs.Clipped.{put, full}
use Rattle.text.proofs.Line.byte.Goals as goal

pub returns-then-self-lt-MOST : goal.returns-then-self-lt-MOST
returns-then-self-lt-MOST c =
    record { text_is = put c.args.self.length c.args.self.bytes c.args.b (search rules) (search rules) }

pub returns-else-self-lt-MOST : goal.returns-else-self-lt-MOST
returns-else-self-lt-MOST c =
    record { text_is = full c.args.self.length c.args.self.bytes c.args.b (search rules) (search rules) }
