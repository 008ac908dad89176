-- What is to be done next, and where it stands in the bytes at hand.
use Rattle.std.specs.Prelude.{◌≡◌, ℕ, ◌≤◌, length, take, drop}
use Rattle.std.proofs.Math.Option.{Option, none, some}
use Rattle.rules.specs.Message.{Bytes}
use Rattle.rules.specs.Session.{Session, Call}
use Rattle.bench_records.specs.Record.{cut, reading}
use Rattle.bench_turns.specs.Turn.{call_of}
use Rattle.bench_run.specs.Stands.{turns, Stands, Ends}
use Rattle.bench_run.specs.declared.turns.Turn.{Turn}
use Rattle.bench_run.specs.declared.turns.Turn.TheVariants as turn
use Rattle.bench_run.specs.declared.turns.Next.{Next}

-- the bytes of a call lie in an input of n bytes
abbrev pub TurnInside : Turn → ℕ → Type 0
TurnInside (turn.Call c k) n = k ≤ n
TurnInside turn.Read n = Unit {0}
TurnInside turn.End n = Unit {0}

-- the same of a run that has not ended
abbrev pub Ready : Turn → ℕ → Type 0
Ready (turn.Call c k) n = k ≤ n
Ready turn.Read n = Unit {0}
Ready turn.End n = ⊥

-- the call that is to be made, and what of the input comes behind it
abbrev pub call_at : Turn → Bytes → Option Call
call_at (turn.Call c n) input = some (call_of c (take n input) 8192)
call_at turn.Read input = none
call_at turn.End input = none

abbrev pub rest_at : Turn → Bytes → Bytes
rest_at (turn.Call c n) input = drop n input
rest_at turn.Read input = input
rest_at turn.End input = input

abbrev pub Standing : Bytes → Bytes → Turn → Bytes → Session → Type 0
Standing fed written t input s = Stands fed written (call_at t input) (rest_at t input) s

-- more bytes are wanted only for a record that those at hand cut, and the run ends only where nothing more is printed
abbrev pub Found : Turn → Bytes → Type 0
Found (turn.Call c n) input = n ≤ length input
Found turn.Read input = reading input ≡ cut
Found turn.End input = Ends input

-- from a call to be made, or none, before the rest of the input, to the turn that is found in it: nothing is printed
pub record Goes (call : Option Call) (rest input : Bytes) (r : Next) : Type 0 where
  pub inside : r.at ≤ length input
  pub found : Found r.turn (drop r.at input)
  pub stands : (fed written : Bytes) (s : Session) → Stands fed written call rest s → Standing fed written r.turn (drop r.at input) s
  pub fewer : (s : Session) → turns (call_at r.turn (drop r.at input)) (rest_at r.turn (drop r.at input)) s ≤ turns call rest s
