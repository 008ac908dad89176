-- A list driven through a session comes to what is counted: by the calls that a plan makes, which need nothing else, and by any calls that are made for it.
use mathlib.Core.Path.{◌≡◌, refl, sym, ap, ◌∙◌, subst}
use mathlib.Core.Bool.{Bool, true, false, cond}
use mathlib.Core.Option.{Option, map, none, some, some-injective, none-ne-some}
use mathlib.Core.List.{List, [], ◌∷◌}
use Prim.Native.Nat.{ℕ, zero, suc, ◌+◌, ◌-◌, ◌^◌, min, ◌≤◌, ◌<◌}
use native.Mathlib.Omega.{arith}
use lib.Dec.{leb}
use lib.ListN.{length}
use borrow.Author.Tests.{leb-false, eqb-true}
use Rattle.protobuf_format.specs.Reading.{◌>>=◌}
use Rattle.rules.specs.Session.{Session, Call, Answer, refused, took, sends, waits, completes, attempt, ok, done, ends, Result, answers}
use Rattle.rules.specs.Notes.{accepted}
use Rattle.rules.specs.Calls.{CallTurn, AllDidCall, left_by}
use Rattle.rules.proofs.Tests.{never}
use Rattle.rules.proofs.Lists.{cond_ind}
use Rattle.plan_rules.specs.Unbounded.{unbounded}
use Rattle.plan_rules.specs.Plan.{Plan, Driven, shown, entry_of, remains, after, zeros, call_for, drives, most}
use Rattle.plan_rules.specs.Claims.{is_for, driven_by, out_of}
use Rattle.plan_rules.specs.Counting.{counted_all}
use Rattle.plan_rules.proofs.Counting.{once, rest, flush_behind, counts_on, stored_grows}
use Rattle.plan_rules.proofs.Calls.{Fits, Once, call_once, made_once}

-- ---- by the calls that a plan makes, each for an entry and with an out buffer of C

length-zeros : (n : ℕ) → length (zeros n) ≡ n
length-zeros zero = refl
length-zeros (suc n) = ap suc (length-zeros n)

entry_for : (out n : ℕ) → entry_of (call_for out n) ≡ some n
entry_for out zero = refl
entry_for out (suc n) = ap (λ (m : ℕ). some (suc m)) (length-zeros n)

out_for : (out n : ℕ) → out ≤ out_of (call_for out n)
out_for out zero = omega arith
out_for out (suc n) = omega arith

-- a call takes at least one of the calls that are needed, but the first of a flush that cuts
flush_fewer : (h : ℕ) (ls : List ℕ) → most (flush_behind h ls) + 1 + (1 - h) ≤ most (0 ∷ ls) + 1
flush_fewer zero ls = omega arith
flush_fewer (suc h) ls = omega arith

fewer : (C n : ℕ) (ls : List ℕ) (p : Plan) → p.held < C → most (rest C n ls p) + 1 + (1 - p.held) ≤ most (n ∷ ls) + (1 - (once C n p).held)
fewer C zero ls p l = flush_fewer p.held ls
fewer C (suc n) ls p l =
    cond_ind (λ (x : Plan). most (rest C (suc n) ls p) + 1 + (1 - p.held) ≤ most (suc n ∷ ls) + (1 - x.held)) (leb C (p.held + suc n))
    (λ e. cond_ind (λ (x : List ℕ). most x + 1 + (1 - p.held) ≤ most (suc n ∷ ls) + 1) (leb (suc n) (min (suc n) (C - p.held))) (λ f. omega arith) (λ f. omega arith))
    (λ e. cond_ind (λ (x : List ℕ). most x + 1 + (1 - p.held) ≤ most (suc n ∷ ls) + (1 - (p.held + suc n))) (leb (suc n) (min (suc n) (C - p.held)))
    (λ f. omega arith)
    (λ f. absurd (omega (arith, leb-false C (p.held + suc n) e, leb-false (suc n) (min (suc n) (C - p.held)) f))))

pub drives-counted : (C k : ℕ) (ls : List ℕ) (d : Driven) (p : Plan) → Fits C d p → (counted_all C ls p).stored ≤ 2 ^ 63 - 1 → most ls ≤ k + (1 - p.held)
    → map shown (drives unbounded k ls d) ≡ some (counted_all C ls p)
unfolding drives counted_all
drives-counted C zero [] d p h l m = ap some h.shown_is
drives-counted C zero (n ∷ ls) d p h l m = absurd (omega arith)
drives-counted C (suc k) [] d p h l m = ap some h.shown_is
drives-counted C (suc k) (n ∷ ls) d p h l m =
    let on : counted_all C (rest C n ls p) (once C n p) ≡ counted_all C (n ∷ ls) p = counts_on C n ls p h.held_most in
    let bound : (counted_all C (rest C n ls p) (once C n p)).stored ≤ 2 ^ 63 - 1 = subst (λ (q : Plan). q.stored ≤ 2 ^ 63 - 1) (sym on) l in
    let r : Result = unbounded (call_for d.session.limit n) d.session in
    let o : Once C n d p (unbounded (call_for d.session.limit n) d.session) = made_once C d p h (call_for d.session.limit n) n (entry_for d.session.limit n) (out_for d.session.limit n) (omega (arith, stored_grows C (rest C n ls p) (once C n p))) in
    ap (λ (x : Option (List ℕ)). map shown (x >>= (λ rest. drives unbounded k rest (after n r d)))) (o.goes ls)
    ∙ drives-counted C k (rest C n ls p) (after n r d) (once C n p) o.fits bound (omega (arith, fewer C n ls p h.held_most))
    ∙ ap some on

-- ---- by any calls that are made for it

for_is : (n : ℕ) (m : Option ℕ) → is_for n m ≡ true → m ≡ some n
for_is n none e = never (sym e)
for_is n (some m) e = ap some (sym (eqb-true n m e))

pub went : (n : ℕ) (ls : List ℕ) (a : Answer) (rest : List ℕ) → remains n ls a ≡ some rest → accepted a ≡ true
went n ls (took k r) rest e = refl
went n ls (sends r) rest e = refl
went n ls (waits r k) rest e = refl
went n ls (refused k) rest e = absurd (none-ne-some rest e)
went n ls (completes k released r) rest e = refl
went n ls (attempt k) rest e = refl
went n ls ok rest e = refl
went n ls done rest e = refl
went n ls (ends c k released f) rest e = refl

-- what came out came of something
pub record Came {A B : Type 0} (x : Option A) (f : A → Option B) (y : B) : Type 0 where
  pub from : A
  pub is : x ≡ some from
  pub gives : f from ≡ some y

pub came : {A B : Type 0} (x : Option A) (f : A → Option B) (y : B) → (x >>= f) ≡ some y → Came x f y
came none f y e = absurd (none-ne-some y e)
came (some a) f y e = record { from = a; is = refl; gives = e }

-- both what is asked of a turn holds, where the list went on
passed : {A : Type 0} (b : Bool) (x : Option A) (y : A) → cond b x none ≡ some y → (b ≡ true) × (x ≡ some y)
passed true x y e = (refl, e)
passed false x y e = absurd (none-ne-some y e)

pub session-after : (n : ℕ) (r : Result) (d : Driven) → (after n r d).session ≡ r.session
session-after zero r d = refl
session-after (suc n) r d = refl

pub drives_fits : (C k : ℕ) (ls : List ℕ) (d e : Driven) (p : Plan) → Fits C d p → drives unbounded k ls d ≡ some e → Fits C e (counted_all C ls p)
unfolding drives counted_all
drives_fits C zero [] d e p h g = subst (λ (x : Driven). Fits C x p) (some-injective d e g) h
drives_fits C zero (n ∷ ls) d e p h g = absurd (none-ne-some e g)
drives_fits C (suc k) [] d e p h g = subst (λ (x : Driven). Fits C x p) (some-injective d e g) h
drives_fits C (suc k) (n ∷ ls) d e p h g =
    let c : Call = call_for d.session.limit n in
    let r : Result = unbounded c d.session in
    let next : List ℕ → Option Driven = λ rest. drives unbounded k rest (after n r d) in
    let m : Came (remains n ls r.answer) next e = came (remains n ls r.answer) next e g in
    let o : Once C n d p r = call_once C d p h c n (entry_for d.session.limit n) (went n ls r.answer m.from m.is) in
    let same : m.from ≡ rest C n ls p = some-injective m.from (rest C n ls p) (sym m.is ∙ o.goes ls) in
    subst (Fits C e) (counts_on C n ls p h.held_most)
    (drives_fits C k (rest C n ls p) (after n r d) e (once C n p) o.fits (ap next (sym same) ∙ m.gives))

module _ {S : Type 0} (view : S → Session) (Does : Call → S → Answer → S → Type 0) where
  -- the session that the list was driven to is the one that the last turn left
  pub driven_left : (ts : List (CallTurn view Does)) (ls : List ℕ) (s : S) (d e : Driven) → d.session ≡ view s → driven_by view Does ts ls d ≡ some e
      → e.session ≡ view (left_by view Does ts s)
  driven_left [] [] s d e i g = sym (ap Driven.session (some-injective d e g)) ∙ i
  driven_left [] (n ∷ ls) s d e i g = absurd (none-ne-some e g)
  driven_left (t ∷ ts) [] s d e i g = absurd (none-ne-some e g)
  driven_left (t ∷ ts) (n ∷ ls) s d e i g =
      let next : List ℕ → Option Driven = λ rest. driven_by view Does ts rest (after n (answers t.answer (view t.left)) d) in
      let c : Came (remains n ls t.answer) next e
      = came (remains n ls t.answer) next e (passed (is_for n (entry_of t.call)) (remains n ls t.answer >>= next) e g).1 in
      driven_left ts c.from t.left (after n (answers t.answer (view t.left)) d) e (session-after n (answers t.answer (view t.left)) d) c.gives

  -- keeps: an accepted call is one of the rules without rows 8 and 9
  module _ (Valid : S → Type 0)
      (keeps : (c : Call) (s : S) (a : Answer) (s' : S) → Does c s a s' → Valid s → Valid s' × (accepted a ≡ true → answers a (view s') ≡ unbounded c (view s))) where
    pub driven_counted : (C : ℕ) (ts : List (CallTurn view Does)) (ls : List ℕ) (s : S) (d e : Driven) (p : Plan) → Valid s → d.session ≡ view s → Fits C d p
        → AllDidCall view Does ts s → driven_by view Does ts ls d ≡ some e → Fits C e (counted_all C ls p)
    unfolding counted_all
    driven_counted C [] [] s d e p v i h a g = subst (λ (x : Driven). Fits C x p) (some-injective d e g) h
    driven_counted C [] (n ∷ ls) s d e p v i h a g = absurd (none-ne-some e g)
    driven_counted C (t ∷ ts) [] s d e p v i h a g = absurd (none-ne-some e g)
    driven_counted C (t ∷ ts) (n ∷ ls) s d e p v i h a g =
        let next : List ℕ → Option Driven = λ rest. driven_by view Does ts rest (after n (answers t.answer (view t.left)) d) in
        let both : (is_for n (entry_of t.call) ≡ true) × ((remains n ls t.answer >>= next) ≡ some e) = passed (is_for n (entry_of t.call)) (remains n ls t.answer >>= next) e g in
        let c : Came (remains n ls t.answer) next e = came (remains n ls t.answer) next e both.1 in
        let k : Valid t.left × (accepted t.answer ≡ true → answers t.answer (view t.left) ≡ unbounded t.call (view s)) = keeps t.call s t.answer t.left a.0 v in
        let went_on : accepted t.answer ≡ true = went n ls t.answer c.from c.is in
        let ruled : answers t.answer (view t.left) ≡ unbounded t.call d.session = k.1 went_on ∙ ap (unbounded t.call) (sym i) in
        let o : Once C n d p (answers t.answer (view t.left))
        = subst (Once C n d p) (sym ruled)
        (call_once C d p h t.call n (for_is n (entry_of t.call) both.0) (subst (λ (x : Result). accepted x.answer ≡ true) ruled went_on)) in
        let same : c.from ≡ rest C n ls p = some-injective c.from (rest C n ls p) (sym c.is ∙ o.goes ls) in
        subst (Fits C e) (counts_on C n ls p h.held_most)
        (driven_counted C ts (rest C n ls p) t.left (after n (answers t.answer (view t.left)) d) e (once C n p) k.0 (session-after n (answers t.answer (view t.left)) d) o.fits a.1
        (ap next (sym same) ∙ c.gives))
