-- A whole run writes what its input prints.
-- Assumes nothing.
use mathlib.Core.Path.{sym, subst}
use mathlib.Core.Option.{some}
use mathlib.Core.List.{List, ◌++◌}
use Prim.Native.Nat.{ℕ}
use lib.ListN.{length, take, drop}
use lib.Seq.{take-append-le, drop-append-le}
use Rattle.rules.specs.Message.{Bytes}
use Rattle.rules.specs.Session as R
use Rattle.transport.specs.View.{view}
use Rattle.transport.specs.declared.Session.{Session}
use Rattle.bench_turns.specs.Turn.{call_of}
use Rattle.bench_run.specs.Stands.{Stands}
use Rattle.bench_run.specs.Turn.{Ready, Standing}
use Rattle.bench_run.specs.Run.{BeginsAt}
use Rattle.bench_run.specs.Whole.{Ran, began, went, Whole}
use Rattle.bench_run.specs.declared.turns.Turn.{Turn}
use Rattle.bench_run.specs.declared.turns.Turn.TheVariants as turn
use Rattle.bench_run.proofs.Standing.{fed_more, ended-cut}
use Rattle.bench_run.proofs.Opening.{begins_there}

-- more bytes are fed
pub standing_more : {input written : Bytes} {s : R.Session} (t : Turn) (rest more : Bytes) → Ready t (length rest) → Standing input written t rest s → Standing (input ++ more) written t (rest ++ more) s
standing_more {input} {written} {s} (turn.Call c n) rest more h st =
    subst (λ (d : Bytes). Stands (input ++ more) written (some (call_of c d 8192)) (drop n (rest ++ more)) s) (sym (take-append-le n rest more h))
    (subst (λ (b : Bytes). Stands (input ++ more) written (some (call_of c (take n rest) 8192)) b s) (sym (drop-append-le n rest more h)) (fed_more more st))
standing_more turn.Read rest more h st = fed_more more st
standing_more turn.End rest more h st = absurd h

-- where a run stands, or how it ended
record Stood (input written : Bytes) (t : Turn) (rest : Bytes) (s : R.Session) : Type 0 where
  stood : BeginsAt input written t rest s

at_ready : {input written : Bytes} {s : R.Session} (t : Turn) (rest : Bytes) (n : ℕ) → Ready t n → BeginsAt input written t rest s → Standing input written t rest s
at_ready (turn.Call c k) rest n h b = b.1
at_ready turn.Read rest n h b = b.1
at_ready turn.End rest n h b = absurd h

ran_stood : {input written : Bytes} {t : Turn} {rest : Bytes} {s : Session} {store : Bytes} {table : List ℕ} → Ran input written t rest s store table → Stood input written t rest (view s store table)
ran_stood (began b) = record { stood = b.begins }
ran_stood (went {input} {written} {t} {rest} {r = r} more h w p) =
    record { stood = begins_there r.turn (drop r.at (rest ++ more)) w.found (w.stands (input ++ more) written (standing_more t rest more h (at_ready t rest (length rest) h (ran_stood p).stood))) }

pub whole : {input written : Bytes} {t : Turn} {rest : Bytes} {s : Session} {store : Bytes} {table : List ℕ} → Ran input written t rest s store table → Whole input written t
whole {input} {written} {rest = rest} {s} {store} {table} p = record {
  ended = λ e. subst (λ (x : Turn). BeginsAt input written x rest (view s store table)) e (ran_stood p).stood;
  no_more = λ e. let b = subst (λ (x : Turn). BeginsAt input written x rest (view s store table)) e (ran_stood p).stood in ended-cut b.0 b.1;
}
