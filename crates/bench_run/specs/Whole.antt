-- A whole run: whatever pieces the input comes in, and whenever the text is written.
use Rattle.std.specs.Prelude.{◌≡◌, List, ◌++◌, ℕ, length, take, drop}
use Rattle.rules.specs.Message.{Bytes}
use Rattle.transport.specs.declared.Session.{Session}
use Rattle.bench_run.specs.Printed.{printed}
use Rattle.bench_run.specs.Turn.{Ready}
use Rattle.bench_run.specs.Run.{Prints, Begins, Plays}
use Rattle.bench_run.specs.declared.turns.Turn.{Turn}
use Rattle.bench_run.specs.declared.turns.Turn.TheVariants as turn
use Rattle.bench_run.specs.declared.play.Played.{Played}

-- These bytes were fed and those written; this is to be done next, before the rest of what was fed. Each step is what `begin` or `play` ensures, over what is
-- left and any bytes that came.
pub data Ran : Bytes → Bytes → Turn → Bytes → Session → Bytes → List ℕ → Type 0 where
  began : {input text : Bytes} {r : Played} {store : Bytes} {table : List ℕ} {text' : Bytes} → Begins input text r store table text'
      → Ran input (take r.used text') r.turn (drop r.at input) r.session store table
  went : {input written : Bytes} {t : Turn} {rest : Bytes} {s : Session} {store : Bytes} {table : List ℕ} {text : Bytes} {r : Played} {store' : Bytes} {table' : List ℕ} {text' : Bytes}
      (more : Bytes) → Ready t (length rest) → Plays t (rest ++ more) s store table text r store' table' text'
      → Ran input written t rest s store table → Ran (input ++ more) (written ++ take r.used text') r.turn (drop r.at (rest ++ more)) r.session store' table'

-- what was written is what the input prints: where the run ended, whatever else the input has, and where more bytes are wanted and none comes
pub record Whole (input written : Bytes) (t : Turn) : Type 0 where
  pub ended : t ≡ turn.End → Prints input written
  pub no_more : t ≡ turn.Read → printed input ≡ written
