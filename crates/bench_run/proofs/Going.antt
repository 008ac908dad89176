-- From one turn to the next.
-- Assumes nothing.
use mathlib.Core.Path.{◌≡◌, refl, sym, ap, ◌∙◌, subst}
use mathlib.Core.Bool.{Bool, true, false, cond}
use mathlib.Core.Option.{Option, none, some}
use mathlib.Core.Logic.{inr}
use Prim.Native.Nat.{ℕ, suc, ◌+◌, ◌-◌, ◌*◌, ◌≤◌, ◌<◌, min}
use native.Mathlib.Omega.{arith}
use borrow.Author.Tests.{leb-true, leb-false}
use lib.Dec.{leb}
use lib.ListN.{length, take, drop, length-take, length-drop}
use lib.Seq.{length-take-le, take_all, drop-drop, take-add, drop_at}
use Rattle.std.specs.Prelude.{Result, Ok, Err}
use Rattle.rules.specs.Message.{Bytes}
use Rattle.rules.specs.Session.{Session, Call, is_nil}
use Rattle.rules.proofs.Lists.{cond_ind}
use Rattle.bench_records.specs.Record.{cut, reading}
use Rattle.bench_records.specs.Record as R
use Rattle.bench_records.specs.View.{reading_of, record_of, call_size, Within}
use Rattle.bench_records.specs.View as View
use Rattle.bench_records.specs.declared.CallRecord.{CallRecord}
use Rattle.bench_records.specs.declared.CallRecord.TheVariants as call
use Rattle.bench_records.specs.declared.Record.{Record}
use Rattle.bench_records.specs.declared.Record.TheVariants as rec
use Rattle.bench_records.specs.declared.Unread.{Unread}
use Rattle.bench_records.specs.declared.Unread.TheVariants as unread
use Rattle.bidi_write.specs.declared.Offset.{Offset}
use Rattle.bench_turns.specs.Turn.{call_of}
use Rattle.bench_run.specs.Printed.{makes}
use Rattle.bench_run.specs.Stands.{call_turns, turns, Stands, Ends}
use Rattle.bench_run.specs.Turn.{call_at, rest_at, Standing, Found, Goes}
use Rattle.bench_run.specs.declared.turns.Turn.{Turn}
use Rattle.bench_run.specs.declared.turns.Turn.TheVariants as turn
use Rattle.bench_run.specs.declared.turns.Next.{Next}
use Rattle.bench_run.proofs.Standing.{read_call, ends_open, ends-unknown}

-- what a read returns
abbrev pub Read : Type 0
Read = Result (Record × ℕ) Unread

abbrev pub next : ℕ → Turn → Next
next at t = record { at = at; turn = t }

-- what was found, by its parts
pub goes_as : {call : Option Call} {rest input : Bytes} {at : ℕ} {t : Turn} {r : Next} → (r.at ≡ at) × (r.turn ≡ t) → Goes call rest input (next at t) → Goes call rest input r
goes_as {call} {rest} {input} {t = t} {r} e g = subst (Goes call rest input) (ap (λ (k : ℕ). next k t) (sym e.0) ∙ ap (next r.at) (sym e.1)) g

-- ---- records

pub makes_call : (c : CallRecord) (d : Bytes) → makes (View.call_of c d) ≡ inr (call_of c d 8192)
makes_call call.Append d = refl
makes_call call.Flush d = refl
makes_call call.Finalise d = refl
makes_call call.Close d = refl
makes_call (call.Response n) d = refl
makes_call (call.Handshake n) d = refl
makes_call call.Break d = refl
makes_call (call.Verdict v) d = refl
makes_call call.Next d = refl

asked_twice : (s : Session) → suc (cond (is_nil s.writer.held) 0 1) ≤ 2
asked_twice s = cond_ind (λ (n : ℕ). suc n ≤ 2) (is_nil s.writer.held) (λ e. omega arith) (λ e. omega arith)

-- two turns for each byte are enough
call_turns_lem : (c : CallRecord) (d : Bytes) (s : Session) (n : ℕ) → length d ≤ n - 4 → call_size c ≤ n → call_turns (call_of c d 8192) s < 2 * n
call_turns_lem call.Append d s n h k = omega arith
call_turns_lem call.Flush d s n h k = omega (arith, asked_twice s)
call_turns_lem call.Finalise d s n h k = omega (arith, asked_twice s)
call_turns_lem call.Close d s n h k = omega arith
call_turns_lem (call.Response m) d s n h k = omega arith
call_turns_lem (call.Handshake m) d s n h k = omega arith
call_turns_lem call.Break d s n h k = omega arith
call_turns_lem (call.Verdict v) d s n h k = omega arith
call_turns_lem call.Next d s n h k = omega arith

-- ---- parts

drop-take : (m n : ℕ) (l : Bytes) → m ≤ n → n ≤ length l → drop m (take n l) ≡ take (n - m) (drop m l)
drop-take m n l h k =
    let both : n ≡ m + (n - m) = omega arith in
    ap (λ (j : ℕ). drop m (take j l)) both ∙ ap (drop m) (take-add m (n - m) l)
    ∙ drop_at (take m l) (take (n - m) (drop m l)) m (length-take-le m l (omega arith))

pub behind : (at n : ℕ) (l : Bytes) → at ≤ n → drop (n - at) (drop at l) ≡ drop n l
behind at n l h = let both : at + (n - at) ≡ n = omega arith in drop-drop (n - at) at l ∙ ap (λ (k : ℕ). drop k l) both

-- the part of a slice from a place on
pub from_on : (at : ℕ) (l : Bytes) → take (length l - at) (drop at l) ≡ drop at l
from_on at l = take_all (length l - at) (drop at l) (omega (arith, length-drop at l))

-- an append's bytes come behind its mark and length
own-bytes : (n : ℕ) (l : Bytes) → take (n - 4) (drop 4 l) ≡ take (n - min n 4) (drop (min n 4) l)
own-bytes n l = by_test (leb 4 n) refl
  where
    by_test : (b : Bool) → leb 4 n ≡ b → take (n - 4) (drop 4 l) ≡ take (n - min n 4) (drop (min n 4) l)
    by_test true e =
        let h : 4 ≤ n = leb-true 4 n e in
        let four : 4 ≡ min n 4 = omega arith in
        ap (λ (k : ℕ). take (n - k) (drop k l)) four
    by_test false e =
        let h : n < 4 = leb-false 4 n e in
        let none_left : n - 4 ≡ 0 = omega arith in
        let none-own : 0 ≡ n - min n 4 = omega arith in
        ap (λ (k : ℕ). take k (drop 4 l)) none_left ∙ ap (λ (k : ℕ). take k (drop (min n 4) l)) none-own

-- ---- a record is read

pub ends_at : {input : Bytes} → Ends input → Goes none input input (next 0 turn.End)
ends_at e = record { inside = omega arith; found = e; stands = λ fed written s h. h; fewer = λ s. omega arith }

module _ (input : Bytes) {r : Read} (is : reading_of r input ≡ reading input) where
  read_as : {x : Read} → r ≡ x → reading input ≡ reading_of x input
  read_as e = sym is ∙ ap (λ (y : Read). reading_of y input) e

  pub found_open : {x : Record} {n c k : ℕ} {p : Offset} → r ≡ Ok (x, n) → x ≡ rec.Open c k p → Goes none input input (next 0 turn.End)
  found_open {n = n} e f = ends_at (ends_open input (read_as e ∙ ap (λ (x : Record). R.whole (record_of x (take (n - 4) (drop 4 input))) (drop n input)) f) refl)

  pub found_unknown : r ≡ Err unread.Unknown → Goes none input input (next 0 turn.End)
  found_unknown e = ends_at (ends-unknown input (read_as e))

  pub found_call : {x : Record} {c : CallRecord} {n : ℕ} {l : Next} → Within r (length input) → r ≡ Ok (x, n) → x ≡ rec.Call c
      → (l.at ≡ min n 4) × (l.turn ≡ turn.Call c (n - min n 4)) → Goes none input input l
  found_call {x} {c} {n} {l} w e f g =
      let in-it : Within (Ok (rec.Call c, n)) (length input)
      = subst (λ (y : Record). Within (Ok (y, n)) (length input)) f (subst (λ (y : Read). Within y (length input)) e w) in
      goes_as g (placed in-it.0 in-it.1)
    where
      own : Bytes
      own = take (n - 4) (drop 4 input)

      is_call : reading input ≡ R.whole (View.call_of c own) (drop n input)
      is_call = read_as e ∙ ap (λ (y : Record). R.whole (record_of y own) (drop n input)) f

      turns-left : (s : Session) → call_size c ≤ n → n ≤ length input → call_turns (call_of c own 8192) s + 2 * length (drop n input) < 2 * length input
      turns-left s h k =
          let short : length own ≤ n - 4 = omega (arith, length-take (n - 4) (drop 4 input)) in
          omega (arith, call_turns_lem c own s n short h, length-drop n input)

      placed : call_size c ≤ n → n ≤ length input → Goes none input input (next (min n 4) (turn.Call c (n - min n 4)))
      placed h k = record {
        inside = omega arith;
        found = omega (arith, length-drop (min n 4) input);
        stands = λ fed written s st.
            subst (λ (d : Bytes). Stands fed written (some (call_of c d 8192)) (drop (n - min n 4) (drop (min n 4) input)) s) (own-bytes n input)
            (subst (λ (b : Bytes). Stands fed written (some (call_of c own 8192)) b s) (sym (behind (min n 4) n input (omega arith)))
            (read_call is_call (makes_call c own) (turns-left s h k) st));
        fewer = λ s.
            subst (λ (d : Bytes). call_turns (call_of c d 8192) s + 2 * length (drop (n - min n 4) (drop (min n 4) input)) ≤ turns none input s) (own-bytes n input)
            (omega (arith, turns-left s h k, ap length (behind (min n 4) n input (omega arith))));
      }

-- ---- the turn after a call

pub goes_again : {call : Option Call} (c : CallRecord) (m n : ℕ) (input : Bytes) → m ≤ n → n ≤ length input → some (call_of c (drop m (take n input)) 8192) ≡ call
    → Goes call (drop n input) input (next m (turn.Call c (n - m)))
goes_again c m n input h k e = subst (λ (x : Option Call). Goes x (drop n input) input (next m (turn.Call c (n - m)))) e
    (subst (λ (d : Bytes). Goes (some (call_of c d 8192)) (drop n input) input (next m (turn.Call c (n - m)))) (sym (drop-take m n input h k)) here)
  where
    here : Goes (some (call_of c (take (n - m) (drop m input)) 8192)) (drop n input) input (next m (turn.Call c (n - m)))
    here = record {
      inside = omega arith;
      found = omega (arith, length-drop m input);
      stands = λ fed written s st. subst (λ (b : Bytes). Stands fed written (some (call_of c (take (n - m) (drop m input)) 8192)) b s) (sym (behind m n input h)) st;
      fewer = λ s. omega (arith, ap length (behind m n input h));
    }

pub goes_on : {call : Option Call} {l : Bytes} {r : Next} (n : ℕ) (input : Bytes) → n ≤ length input → l ≡ drop n input → none ≡ call → Goes none l l r
    → Goes call (drop n input) input (next (n + r.at) r.turn)
goes_on {call} {l} {r} n input h e f g = subst (λ (x : Option Call). Goes x (drop n input) input (next (n + r.at) r.turn)) f (there (subst (λ (b : Bytes). Goes none b b r) e g))
  where
    there : Goes none (drop n input) (drop n input) r → Goes none (drop n input) input (next (n + r.at) r.turn)
    there w = record {
      inside = omega (arith, w.inside, length-drop n input);
      found = subst (Found r.turn) (drop-drop r.at n input) w.found;
      stands = λ fed written s st. subst (λ (b : Bytes). Standing fed written r.turn b s) (drop-drop r.at n input) (w.stands fed written s st);
      fewer = λ s. subst (λ (b : Bytes). turns (call_at r.turn b) (rest_at r.turn b) s ≤ turns none (drop n input) s) (drop-drop r.at n input) (w.fewer s);
    }
