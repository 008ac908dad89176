-- The first record, and the session that it opens.
-- Assumes nothing.
use mathlib.Core.Path.{◌≡◌, refl, sym, ap, ◌∙◌, subst}
use mathlib.Core.Option.{none}
use mathlib.Core.List.{List, [], ◌++◌}
use Prim.Native.Nat.{ℕ, ◌-◌, ◌≤◌}
use native.Mathlib.Omega.{arith}
use lib.ListN.{length, take, drop}
use lib.IntN.{ℤ}
use Rattle.std.specs.Prelude.{Ok, Err, Some}
use Rattle.rules.specs.Message.{Bytes}
use Rattle.rules.specs.Session as R
use Rattle.rules.specs.Opening.{opens}
use Rattle.rules.specs.Bench.{opening}
use Rattle.transport.specs.View.{view}
use Rattle.transport.specs.Valid.{Valid}
use Rattle.transport.specs.declared.Session.{Session}
use Rattle.bidi_write.specs.declared.Refusal.{Refusal}
use Rattle.std.specs.declared.result.Result.{Result}
use Rattle.std.specs.Prelude.{Ok, Err}
use Rattle.openings.specs.declared.Opened.{Opened}
use Rattle.openings.specs.Opening.{opened_of}
use Rattle.openings.proofs.Unopened.{unopened_valid}
use Rattle.bench_records.specs.Record.{OP, whole, reading}
use Rattle.bench_records.specs.View.{reading_of, record_of}
use Rattle.bench_records.specs.declared.CallRecord.{CallRecord}
use Rattle.bench_records.specs.declared.Record.{Record}
use Rattle.bench_records.specs.declared.Record.TheVariants as rec
use Rattle.bench_records.specs.declared.Unread.{Unread}
use Rattle.bench_records.specs.declared.Unread.TheVariants as unread
use Rattle.bench_lines.specs.Text.{line_of}
use Rattle.bench_lines.specs.View.{open_answer_of}
use Rattle.bench_lines.specs.declared.Mark.TheVariants as mark
use Rattle.bench_turns.specs.Turn.{Lent, Opens}
use Rattle.bench_run.specs.Printed.{printed}
use Rattle.bench_run.specs.Turn.{Standing, Found}
use Rattle.bench_run.specs.Gathers.{Gathers}
use Rattle.bench_run.specs.Run.{Prints, FirstIs, AfterOpening, BeginsAt, Begins}
use Rattle.bench_run.specs.declared.turns.Turn.{Turn}
use Rattle.bench_run.specs.declared.turns.Turn.TheVariants as turn
use Rattle.bench_run.specs.declared.turns.Next.{Next}
use Rattle.bench_run.specs.declared.play.First.{First}
use Rattle.bench_run.proofs.Going.{Read, makes_call}
use Rattle.bench_run.proofs.Standing.{ended, begun, refused_open, nothing-first, nothing_known, nothing-whole}

-- ---- the first record

module _ (input : Bytes) {r : Read} (is : reading_of r input ≡ reading input) where
  read_as : {x : Read} → r ≡ x → reading input ≡ reading_of x input
  read_as e = sym is ∙ ap (λ (y : Read). reading_of y input) e

  pub first_call : {x : Record} {n : ℕ} {c : CallRecord} → r ≡ Ok (x, n) → x ≡ rec.Call c → Prints input []
  first_call {n = n} {c} e f more g =
      nothing-first input (read_as e ∙ ap (λ (x : Record). whole (record_of x (take (n - 4) (drop 4 input))) (drop n input)) f) (makes_call c (take (n - 4) (drop 4 input))) more

  pub first-none : (x : Unread) → r ≡ Err x → Prints input []
  first-none unread.Cut e more g = subst (λ (x : Bytes). printed (input ++ x) ≡ []) (sym (g (read_as e))) (nothing-whole input (read_as e))
  first-none unread.Unknown e more g = nothing_known input (read_as e) more

-- ---- what follows it

next_in_lem : (a : Result (Unit {0}) Refusal) (rest input : Bytes) (r : Next) → AfterOpening a rest input r → r.at ≤ length input
next_in_lem (Err x) rest input r g = g.1
next_in_lem (Ok tt) rest input r g = g.inside

pub begins_there : {input written : Bytes} {s : R.Session} (t : Turn) (rest : Bytes) → Found t rest → Standing input written t rest s → BeginsAt input written t rest s
begins_there (turn.Call c n) rest f st = (f, st)
begins_there turn.Read rest f st = (f, st)
begins_there turn.End rest f st = λ more g. ended f st more

-- ---- its session

module _ {limit capacity : ℕ} {p : ℤ} {store : Bytes} {table : List ℕ} {r : Opened} {store' : Bytes} {table' : List ℕ} (l : Lent store table) (w : Opens limit capacity p store table r store' table') where
  opens_valid : Valid r.session store' table'
  opens_valid = by_answer r.answer refl
    where
      by_answer : (a : Result (Unit {0}) Refusal) → r.answer ≡ a → Valid r.session store' table'
      by_answer (Err x) e =
          let f = (w l).refuses x e in
          subst (λ (s : Session). Valid s store' table') (sym f.0) (unopened_valid store' table' (omega (arith, ap length f.1, l.0)) (omega (arith, ap length f.2, l.1)))
      by_answer (Ok tt) e = (w l).valid e

  -- what the rules' opening is, where it answered so
  opens_as : {a : Result (Unit {0}) Refusal} → r.answer ≡ a → opens (opening limit capacity p none) ≡ opened_of a (view r.session store' table')
  opens_as e = sym (w l).opens_is ∙ ap (λ (a : Result (Unit {0}) Refusal). opened_of a (view r.session store' table')) e

  pub begun-none : (input text : Bytes) → Prints input []
      → Begins input text (record { session = r.session; turn = turn.End; at = 0; used = 0 }) store' table' text
  begun-none input text h = record { valid = opens_valid; at_in = omega arith; used_in = omega arith; begins = h }

  module _ (input : Bytes) (n : ℕ) (next : Next) (e : reading input ≡ whole (OP limit capacity p) (drop n input)) where
    begins_as : (a : Result (Unit {0}) Refusal) → r.answer ≡ a → AfterOpening a (drop n input) input next
        → BeginsAt input (line_of mark.Open (open_answer_of a)) next.turn (drop next.at input) (view r.session store' table')
    begins_as (Err x) f g =
        subst (λ (t : Turn). BeginsAt input (line_of mark.Open (open_answer_of (Err x))) t (drop next.at input) (view r.session store' table')) (sym g.0)
        (λ more k. refused_open input e refl (opens_as f) more)
    begins_as (Ok tt) f g =
        begins_there next.turn (drop next.at input) g.found (g.stands input (line_of mark.Open R.ok) (view r.session store' table') (begun input e refl (opens_as f)))

pub begun_open : {f : First} {store : Bytes} {table : List ℕ} {r : Opened} {store' : Bytes} {table' : List ℕ} {u : ℕ} {line text' : Bytes} {next : Next} (input text : Bytes)
    → Lent store table → Opens f.limit f.capacity f.size.0 store table r store' table' → FirstIs (Some f) input
    → line ≡ line_of mark.Open (open_answer_of r.answer) → Gathers text 0 line text' u → AfterOpening r.answer (drop f.taken input) input next
    → Begins input text (record { session = r.session; turn = next.turn; at = next.at; used = u }) store' table' text'
begun_open {f} {r = r} {store'} {table'} {u} {line} {text'} {next} input text l w h li put g =
    record {
      valid = opens_valid l w;
      at_in = next_in_lem r.answer (drop f.taken input) input next g;
      used_in = put.inside;
      begins =
          subst (λ (b : Bytes). BeginsAt input b next.turn (drop next.at input) (view r.session store' table')) (sym (put.text_is ∙ li))
          (begins_as l w input f.taken next h.0 r.answer refl g);
    }
