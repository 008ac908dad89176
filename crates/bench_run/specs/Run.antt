-- What a run over bytes at hand promises.
use Rattle.std.specs.Prelude.{◌≡◌, List, [], ◌++◌, ℕ, ◌≤◌, length, take, drop, Option, Some, None}
use Rattle.std.proofs.Math.Option.{none}
use Rattle.rules.specs.Message.{Bytes}
use Rattle.rules.specs.Session as R
use Rattle.transport.specs.View.{view}
use Rattle.transport.specs.Valid.{Valid}
use Rattle.transport.specs.declared.Session.{Session}
use Rattle.bidi_write.specs.declared.Refusal.{Refusal}
use Rattle.std.specs.declared.result.Result.{Result}
use Rattle.std.specs.Prelude.{Ok, Err}
use Rattle.bench_records.specs.Record.{OP, whole, cut, reading}
use Rattle.bench_run.specs.Printed.{printed}
use Rattle.bench_run.specs.Turn.{Standing, Found, Goes}
use Rattle.bench_run.specs.declared.turns.Turn.{Turn}
use Rattle.bench_run.specs.declared.turns.Turn.TheVariants as turn
use Rattle.bench_run.specs.declared.turns.Next.{Next}
use Rattle.bench_run.specs.declared.play.First.{First}
use Rattle.bench_run.specs.declared.play.Played.{Played}

-- the whole output, whatever comes behind these bytes; nothing does where they are a cut record
abbrev pub Prints : Bytes → Bytes → Type 0
Prints input text = (more : Bytes) → (reading input ≡ cut → more ≡ []) → printed (input ++ more) ≡ text

abbrev pub FirstIs : Option First → Bytes → Type 0
FirstIs (Some f) input = (reading input ≡ whole (OP f.limit f.capacity f.size.0) (drop f.taken input)) × (f.taken ≤ length input)
FirstIs None input = Prints input []

-- behind an opening, before the rest of the input
abbrev pub AfterOpening : Result (Unit {0}) Refusal → Bytes → Bytes → Next → Type 0
AfterOpening (Err x) rest input r = (r.turn ≡ turn.End) × (r.at ≤ length input)
AfterOpening (Ok tt) rest input r = Goes none rest input r

-- the first bytes of an input: the run ended, or stands behind the opening
abbrev pub BeginsAt : Bytes → Bytes → Turn → Bytes → R.Session → Type 0
BeginsAt input written (turn.Call c n) rest s = Found (turn.Call c n) rest × Standing input written (turn.Call c n) rest s
BeginsAt input written turn.Read rest s = Found turn.Read rest × Standing input written turn.Read rest s
BeginsAt input written turn.End rest s = Prints input written

pub record Begins (input text : Bytes) (r : Played) (store' : Bytes) (table' : List ℕ) (text' : Bytes) : Type 0 where
  pub valid : Valid r.session store' table'
  pub at_in : r.at ≤ length input
  pub used_in : r.used ≤ length text
  pub begins : BeginsAt input (take r.used text') r.turn (drop r.at input) (view r.session store' table')

-- Wherever the run stands before these bytes, it stands behind those that were played once the text is written.
pub record Plays (t : Turn) (input : Bytes) (s : Session) (store : Bytes) (table : List ℕ) (text : Bytes) (r : Played) (store' : Bytes) (table' : List ℕ) (text' : Bytes) : Type 0 where
  pub valid : Valid r.session store' table'
  pub at_in : r.at ≤ length input
  pub used_in : r.used ≤ length text
  pub found : Found r.turn (drop r.at input)
  pub stands : (fed written : Bytes) → Standing fed written t input (view s store table)
      → Standing fed (written ++ take r.used text') r.turn (drop r.at input) (view r.session store' table')
