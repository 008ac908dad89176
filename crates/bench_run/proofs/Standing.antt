-- How a run goes on from where it stands.
-- Assumes nothing.
use mathlib.Core.Path.{◌≡◌, refl, sym, ap, ◌∙◌, subst}
use mathlib.Core.Option.{Option, none, some}
use mathlib.Core.Logic.{◌⊎◌, inl, inr, ⊎_elim}
use mathlib.Core.List.{[], ◌++◌, append_assoc, append-nil}
use Prim.Native.Nat.{ℕ, zero, suc, ◌+◌, ◌-◌, ◌*◌, ◌≤◌, ◌<◌}
use native.Mathlib.Omega.{arith}
use lib.ListN.{length, length-append}
use Rattle.rules.specs.Message.{Bytes}
use Rattle.rules.specs.Session.{Session, Call, Answer, Result, answers}
use Rattle.rules.specs.Session as R
use Rattle.rules.specs.Step.{step}
use Rattle.rules.specs.Opening.{Opening, turned_away, opened, opens}
use Rattle.bench_records.specs.Record.{Record, whole, cut, unknown, reading}
use Rattle.bench_records.proofs.Parts.{more, parted}
use Rattle.bench_lines.specs.Text.{mark_of, line_of}
use Rattle.bench_lines.specs.declared.Mark.TheVariants as mark
use Rattle.bench_turns.specs.Turn.{again}
use Rattle.bench_run.specs.Printed.{makes, goes_on, follows, prints, begins, first, printed}
use Rattle.bench_run.specs.Stands.{call_turns, turns_of, turns, Stands, Ends}
use Rattle.bench_run.proofs.Progress.{step_fewer}

-- a call that was made takes a turn
pub called_fewer : (c : Call) (s : Session) (a : Answer) (t : Session) → length s.writer.held < s.limit → answers a t ≡ step c s → turns_of (again c a) t < call_turns c s
called_fewer c s a t g e = subst (λ (r : Result). turns_of (again c r.answer) r.session < call_turns c s) (sym e) (step_fewer c s g)

module _ {fed written : Bytes} where
  -- more bytes are read
  pub fed_more : {call : Option Call} {rest : Bytes} {s : Session} (more : Bytes) → Stands fed written call rest s → Stands (fed ++ more) written call (rest ++ more) s
  fed_more {call} {rest} {s} more h = record {
    left = λ x. h.left (more ++ x);
    enough = λ x. subst (λ (l : Bytes). turns call l s ≤ h.left (more ++ x)) (sym (append_assoc rest more x)) (h.enough (more ++ x));
    prints_is = λ x. ap printed (append_assoc fed more x) ∙ h.prints_is (more ++ x)
        ∙ ap (λ (l : Bytes). written ++ prints (h.left (more ++ x)) call l s) (sym (append_assoc rest more x));
  }

  -- a call is made
  pub called : {c : Call} {rest : Bytes} {s : Session} (a : Answer) (t : Session) → length s.writer.held < s.limit → answers a t ≡ step c s
      → Stands fed written (some c) rest s → Stands fed (written ++ line_of (mark_of c) a) (again c a) rest t
  called {c} {rest} {s} a t g e h = record {
    left = λ x. h.left x - 1;
    enough = λ x. omega (arith, fewer, h.enough x);
    prints_is = λ x. h.prints_is x ∙ ap (λ (l : Bytes). written ++ l) (turn (h.left x) (rest ++ x) (omega (arith, h.enough x, some_turns)))
        ∙ sym (append_assoc written (line_of (mark_of c) a) (prints (h.left x - 1) (again c a) (rest ++ x) t));
  }
    where
      fewer : turns_of (again c a) t < call_turns c s
      fewer = called_fewer c s a t g e

      some_turns : 0 < call_turns c s
      some_turns = omega (arith, fewer)

      turn : (k : ℕ) (input : Bytes) → 0 < k → prints k (some c) input s ≡ line_of (mark_of c) a ++ prints (k - 1) (again c a) input t
      turn zero input l = absurd (omega arith)
      turn (suc k) input l =
          ap (λ (r : Result). line_of (mark_of c) r.answer ++ prints k (again c r.answer) input r.session) (sym e)
          ∙ ap (λ (n : ℕ). line_of (mark_of c) a ++ prints n (again c a) input t) less
        where
          less : k ≡ suc k - 1
          less = omega arith

-- ---- a record is read

read_more : (rest x : Bytes) {behind : Bytes} {r : Record} → reading rest ≡ whole r behind → reading (rest ++ x) ≡ whole r (behind ++ x)
read_more rest x e = ⊎_elim (λ f. let z : ◌≡◌ {A = ℕ} 0 1 = cc in absurd (omega arith)) (λ f. f ∙ ap (more x) e) (parted.stays rest x)

module _ {fed written rest : Bytes} {s : Session} where
  -- its call is to be made
  pub read_call : {r : Record} {c : Call} {behind : Bytes} → reading rest ≡ whole r behind → makes r ≡ inr c
      → call_turns c s + 2 * length behind < 2 * length rest → Stands fed written none rest s → Stands fed written (some c) behind s
  read_call {r} {c} {behind} e f l h = record {
    left = λ x. h.left x - 1;
    enough = λ x. omega (arith, l, h.enough x, length-append rest x, length-append behind x);
    prints_is = λ x. h.prints_is x ∙ ap (λ (b : Bytes). written ++ b) (turn x (h.left x) (omega (arith, l, h.enough x, length-append rest x)));
  }
    where
      turn : (x : Bytes) (k : ℕ) → 0 < k → prints k none (rest ++ x) s ≡ prints (k - 1) (some c) (behind ++ x) s
      turn x zero g = absurd (omega arith)
      turn x (suc k) g =
          ap (goes_on (follows (λ q b. prints k (some q) b s))) (read_more rest x e)
          ∙ ap (λ (m : Opening ⊎ Call). follows (λ q b. prints k (some q) b s) m (behind ++ x)) f
          ∙ ap (λ (n : ℕ). prints n (some c) (behind ++ x) s) less
        where
          less : k ≡ suc k - 1
          less = omega arith

  -- the run ends
  pub ended : Ends rest → Stands fed written none rest s → (more : Bytes) → printed (fed ++ more) ≡ written
  ended e h x = h.prints_is x ∙ ap (λ (b : Bytes). written ++ b) (e.ends (h.left x) x s) ∙ append-nil written

  -- the input ends inside a record
  pub ended-cut : reading rest ≡ cut → Stands fed written none rest s → printed fed ≡ written
  ended-cut e h =
      ap printed (sym (append-nil fed)) ∙ h.prints_is [] ∙ ap (λ (b : Bytes). written ++ b) (turn (h.left [])) ∙ append-nil written
    where
      turn : (k : ℕ) → prints k none (rest ++ []) s ≡ []
      turn zero = refl
      turn (suc k) = ap (λ (b : Bytes). goes_on (follows (λ q x. prints k (some q) x s)) (reading b)) (append-nil rest) ∙ ap (goes_on (follows (λ q x. prints k (some q) x s))) e

read_unknown : (rest x : Bytes) → reading rest ≡ unknown → reading (rest ++ x) ≡ unknown
read_unknown rest x e = ⊎_elim (λ f. let z : ◌≡◌ {A = ℕ} 0 1 = cc in absurd (omega arith)) (λ f. f ∙ ap (more x) e) (parted.stays rest x)

-- "A second OP, or an unknown [record] ends the run"
pub ends_open : (rest : Bytes) {behind : Bytes} {r : Record} {o : Opening} → reading rest ≡ whole r behind → makes r ≡ inl o → Ends rest
ends_open rest {behind} e f = record { ends = turn }
  where
    turn : (k : ℕ) (x : Bytes) (s : Session) → prints k none (rest ++ x) s ≡ []
    turn zero x s = refl
    turn (suc k) x s =
        ap (goes_on (follows (λ q b. prints k (some q) b s))) (read_more rest x e)
        ∙ ap (λ (m : Opening ⊎ Call). follows (λ q b. prints k (some q) b s) m (behind ++ x)) f

pub ends-unknown : (rest : Bytes) → reading rest ≡ unknown → Ends rest
ends-unknown rest e = record { ends = turn }
  where
    turn : (k : ℕ) (x : Bytes) (s : Session) → prints k none (rest ++ x) s ≡ []
    turn zero x s = refl
    turn (suc k) x s = ap (goes_on (follows (λ q b. prints k (some q) b s))) (read_unknown rest x e)

-- ---- the first record

module _ (input : Bytes) {behind : Bytes} {r : Record} {o : Opening} (e : reading input ≡ whole r behind) (f : makes r ≡ inl o) where
  opening-prints : (more : Bytes) → printed (input ++ more) ≡ begins (behind ++ more) (opens o)
  unfolding printed
  opening-prints x = ap (goes_on first) (read_more input x e) ∙ ap (λ (m : Opening ⊎ Call). first m (behind ++ x)) f

  pub begun : {s : Session} → opens o ≡ opened s → Stands input (line_of mark.Open R.ok) none behind s
  begun g = record {
    left = λ x. 2 * length (behind ++ x);
    enough = λ x. omega arith;
    prints_is = λ x. opening-prints x ∙ ap (begins (behind ++ x)) g;
  }

  pub refused_open : {n : ℕ} → opens o ≡ turned_away n → (more : Bytes) → printed (input ++ more) ≡ line_of mark.Open (R.refused n)
  refused_open g x = opening-prints x ∙ ap (begins (behind ++ x)) g

-- "another first record, or a cut or unknown one, ends the run"
pub nothing-first : (input : Bytes) {behind : Bytes} {r : Record} {c : Call} → reading input ≡ whole r behind → makes r ≡ inr c → (more : Bytes) → printed (input ++ more) ≡ []
unfolding printed
nothing-first input {behind} e f x = ap (goes_on first) (read_more input x e) ∙ ap (λ (m : Opening ⊎ Call). first m (behind ++ x)) f

pub nothing_known : (input : Bytes) → reading input ≡ unknown → (more : Bytes) → printed (input ++ more) ≡ []
unfolding printed
nothing_known input e x = ap (goes_on first) (read_unknown input x e)

pub nothing-whole : (input : Bytes) → reading input ≡ cut → printed (input ++ []) ≡ []
unfolding printed
nothing-whole input e = ap (λ (b : Bytes). goes_on first (reading b)) (append-nil input) ∙ ap (goes_on first) e
