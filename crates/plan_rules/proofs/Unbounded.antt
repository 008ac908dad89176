-- `unbounded` is the step rules without refusals 8 and 9, of every call and session.
use mathlib.Core.Path.{◌≡◌, refl, sym, ap, ◌∙◌, subst}
use mathlib.Core.Bool.{true, false}
use mathlib.Core.List.{[], ◌∷◌}
use Prim.Native.Nat.{ℕ}
use lib.Dec.{eqb}
use Rattle.rules.specs.Session.{flushing, finalizing, closing, nothing, PendingKind, Session, Call, append, flush, finalise, next_request, close, send_failed, response, handshake, break, judge, failed_attempt, refused, ok, refused_with, Result, answers, set_phase, Rows, unless}
use Rattle.rules.specs.Upload.{append_rows, appended, ask_rows, asked, close_rows, appends, asks, closes}
use Rattle.rules.specs.Step.{step}
use Rattle.rules.specs.Message.{Bytes}
use Rattle.rules.specs.Notes.{accepted}
use Rattle.rules.proofs.Tests.{never, or_no_left, or_no_right}
use Rattle.rules.proofs.Lists.{cond_ind, choose_ind}
use Rattle.rules.proofs.Refused.{numbers_of, is_one_of, goes_on, other_number, only_table_numbers}
use Rattle.plan_rules.specs.Unbounded.{is_left_out, without, unbounded, Without, UnboundedExactly}

-- a number that is left out is given by no row
never_rows : (x : ℕ) → ((n : ℕ) → is_left_out n ≡ false → eqb n x ≡ false) → (s : Session) (rows : Rows) (r : Result) → accepted r.answer ≡ true
    → refused_with x (unless s (without rows) r).answer ≡ false
unfolding unless
never_rows x kept s [] r a = goes_on x r.answer a
never_rows x kept s (t ∷ ts) r a =
    cond_ind (λ (rows : Rows). refused_with x (unless s rows r).answer ≡ false) (is_left_out t.1) (λ e. never_rows x kept s ts r a)
    (λ e. cond_ind (λ (y : Result). refused_with x y.answer ≡ false) t.0 (λ f. kept t.1 e) (λ f. never_rows x kept s ts r a))

record Same (x y : Result) : Type 0 where
  same : refused_with 8 y.answer ≡ false → refused_with 9 y.answer ≡ false → x ≡ y

-- where no row of these numbers refuses, they may be left out
same_rows : (s : Session) (rows : Rows) (r : Result) → Same (unless s (without rows) r) (unless s rows r)
unfolding unless
same_rows s [] r = record { same = λ a b. refl }
same_rows s (t ∷ ts) r =
    cond_ind (Same (unless s (without (t ∷ ts)) r)) t.0
    (λ e. cond_ind (λ (rows : Rows). Same (unless s rows r) (answers (refused t.1) s)) (is_left_out t.1)
    (λ f. record { same = λ a b. never (sym f ∙ rw (a, b)) })
    (λ f. record { same = λ a b. rw e refl }))
    (λ e. cond_ind (λ (rows : Rows). Same (unless s rows r) (unless s ts r)) (is_left_out t.1)
    (λ f. same_rows s ts r)
    (λ f. record { same = λ a b. rw e ((same_rows s ts r).same a b) }))

-- a call that has such rows, and one that has none
by_rows : (c : Call) (s : Session) (rows : Rows) (r : Result) → accepted r.answer ≡ true → unbounded c s ≡ unless s (without rows) r → step c s ≡ unless s rows r
    → Without c s
by_rows c s rows r a e f = record {
  never_8 = ap (λ (y : Result). refused_with 8 y.answer) e ∙ never_rows 8 (λ n k. or_no_left _ _ k) s rows r a;
  never_9 = ap (λ (y : Result). refused_with 9 y.answer) e ∙ never_rows 9 (λ n k. or_no_right (eqb n 8) _ k) s rows r a;
  same = subst (λ (y : Result). refused_with 8 y.answer ≡ false → refused_with 9 y.answer ≡ false → unbounded c s ≡ y) (sym f)
      (λ x y. e ∙ (same_rows s rows r).same x y);
}

as_it_is : (c : Call) (s : Session) → unbounded c s ≡ step c s → is_one_of (numbers_of c) 8 ≡ false → is_one_of (numbers_of c) 9 ≡ false → Without c s
as_it_is c s e a b = record {
  never_8 = ap (λ (y : Result). refused_with 8 y.answer) e ∙ other_number 8 (numbers_of c) _ a (only_table_numbers c s);
  never_9 = ap (λ (y : Result). refused_with 9 y.answer) e ∙ other_number 9 (numbers_of c) _ b (only_table_numbers c s);
  same = λ x y. e;
}

append_goes : (d : Bytes) (s : Session) → accepted (appended d s).answer ≡ true
append_goes d s = choose_ind (λ (r : Result). accepted r.answer ≡ true) _ _ _ (λ e. refl) (λ e. refl)

ask_goes : (k : PendingKind) (s : Session) → accepted (asked k s).answer ≡ true
ask_goes k s = choose_ind (λ (r : Result). accepted r.answer ≡ true) _ _ _ (λ e. refl) (λ e. refl)

pub unbounded_exactly : UnboundedExactly
unfolding unbounded step appends asks closes
unbounded_exactly (append [] out) s = record { never_8 = refl; never_9 = refl; same = λ a b. refl }
unbounded_exactly (append (x ∷ d) out) s = by_rows (append (x ∷ d) out) s (append_rows (x ∷ d) out s) (appended (x ∷ d) s) (append_goes (x ∷ d) s) refl refl
unbounded_exactly (flush out) s = by_rows (flush out) s (ask_rows out s) (asked flushing s) (ask_goes flushing s) refl refl
unbounded_exactly (finalise out) s = by_rows (finalise out) s (ask_rows out s) (asked finalizing s) (ask_goes finalizing s) refl refl
unbounded_exactly close s = by_rows close s (close_rows s) (answers ok (set_phase closing nothing s)) refl refl refl
unbounded_exactly (next_request out) s = as_it_is (next_request out) s refl refl refl
unbounded_exactly send_failed s = as_it_is send_failed s refl refl refl
unbounded_exactly (response m) s = as_it_is (response m) s refl refl refl
unbounded_exactly (handshake m) s = as_it_is (handshake m) s refl refl refl
unbounded_exactly (break b) s = as_it_is (break b) s refl refl refl
unbounded_exactly (judge v) s = as_it_is (judge v) s refl refl refl
unbounded_exactly (failed_attempt b v) s = as_it_is (failed_attempt b v) s refl refl refl

-- so what `step` accepts is the same without them
pub accepted-same : (c : Call) (s : Session) → accepted (step c s).answer ≡ true → unbounded c s ≡ step c s
accepted-same c s a = (unbounded_exactly c s).same (goes_on 8 (step c s).answer a) (goes_on 9 (step c s).answer a)
