-- What an entry does to the five numbers, how a loop over entries comes to the plan, and what is refused.
use mathlib.Core.Path.{◌≡◌, refl, sym, ap, ◌∙◌}
use mathlib.Core.Bool.{Bool, true, false, cond, ◌||◌}
use mathlib.Core.Option.{map, some}
use mathlib.Core.List.{List}
use Prim.Native.Nat.{ℕ, zero, suc, ◌+◌, ◌*◌, ◌-◌, ◌/◌, ◌%◌, ◌^◌, ◌≤◌, ◌<◌}
use native.Mathlib.Nat.{suc-mul, mod-lt, div-add-mod', div-eq_of_lt, mod-eq_of_lt, mul-add-div_right, mul-add-mod_self_right, add-mul}
use native.Mathlib.Numerals.{add-one}
use native.Mathlib.Omega.{arith}
use lib.Dec.{eqb, ltb}
use lib.ListN.{length, drop, get_or, drop_of_length-le}
use lib.Seq.{drop-cons}
use borrow.Author.Tests.{lt-ltb, le-ltb}
use Rattle.rules.specs.Limits.{max_chunk}
use Rattle.admission.specs.Rows.{bad_limits}
use Rattle.admission.proofs.Limits.{within_limits}
use Rattle.plan_rules.specs.Plan.{Plan, max_entries, refuses, needs, planned, plans}
use Rattle.plan_rules.specs.Counting.{one_for, nothing_yet, appended, counted, counted_all}
use Rattle.plan_rules.proofs.Planned.{planned-counted}

one-most : (n : ℕ) → one_for n ≤ 1
one-most zero = omega arith
one-most (suc n) = omega arith

one-small : (n : ℕ) → one_for n ≤ n
one-small zero = omega arith
one-small (suc n) = omega arith

-- ---- an append

-- a quotient with a remainder below the divisor is the quotient
append-counted : (C n q left : ℕ) (p : Plan) → 0 < n → p.held + n ≡ q * C + left → left < C → appended C q left p ≡ counted C n p
unfolding counted
append-counted C zero q left p z e l = absurd (omega arith)
append-counted C (suc n) q left p z e l =
    let quotient : (p.held + suc n) / C ≡ q
    = ap (λ (x : ℕ). x / C) e ∙ mul-add-div_right (omega arith) q left ∙ ap (λ (x : ℕ). q + x) (div-eq_of_lt l) ∙ omega arith in
    let remainder : (p.held + suc n) % C ≡ left = ap (λ (x : ℕ). x % C) e ∙ mul-add-mod_self_right q C left ∙ mod-eq_of_lt l in
    rw (quotient, remainder) refl

quotient_most : (n C : ℕ) → n / C * C ≤ n
quotient_most n C = omega (arith, div-add-mod' n C)

times-most : (q C : ℕ) → 0 < C → q ≤ q * C
times-most zero C z = omega arith
times-most (suc q) C z = omega (arith, times-most q C z, suc-mul q C)

-- by the entry's own rest r and quotient w, as the code has them, with C as c, and the chunks m that held bytes and rest fill
module _ (C h n c r : ℕ) (below : h < C) (c-is : c ≡ C) (r-is : r ≡ n % C) where
  some_limit : 0 < C
  some_limit = omega arith

  module _ (w m : ℕ) (w-is : w ≡ n / C) (m-is : m ≡ (h + r) / c) where
    whole_is : (w + m) * c ≡ n / C * C + (h + r) / C * C
    whole_is = rw (m-is, w-is, c-is) (add-mul (n / C) ((h + r) / C) C)

    filled_is : m * c ≡ (h + r) / C * C
    filled_is = rw (m-is, c-is) refl

    pub append-whole : (p : Plan) → p.held ≡ h → 0 < n → appended c (w + m) (h + r - m * c) p ≡ counted C n p
    append-whole p e y =
        ap (λ (k : ℕ). appended k (w + m) (h + r - m * c) p) c-is
        ∙ append-counted C n (w + m) (h + r - m * c) p y
        (omega (arith, whole_is, ap (λ (k : ℕ). (w + m) * k) c-is, filled_is, quotient_most (h + r) C, div-add-mod' n C))
        (omega (arith, filled_is, div-add-mod' (h + r) C, mod-lt (h + r) some_limit))

-- ---- the loop

-- behind i entries
pub record Bounded (C i : ℕ) (p : Plan) : Type 0 where
  pub held_below : p.held < C
  pub chunks_most : p.chunks ≤ p.stored
  pub bytes_most : p.stored + p.held ≤ 4294967295 * i
  pub appends_most : p.appends ≤ p.chunks + i
  pub flushes_most : p.flushes ≤ 2 * i

bounded_next : (C i n : ℕ) (p : Plan) → Bounded C i p → n < 2 ^ 32 → Bounded C (i + 1) (counted C n p)
unfolding counted
bounded_next C i zero p b l = record {
  held_below = omega (arith, b);
  chunks_most = omega (arith, b, one-small p.held);
  bytes_most = omega (arith, b);
  appends_most = omega (arith, b, one-small p.held);
  flushes_most = omega (arith, b, one-most p.held);
}
bounded_next C i (suc n) p b l =
    let x : ℕ = p.held + suc n in
    let z : 0 < C = omega (arith, b.held_below) in
    record {
      held_below = mod-lt x z;
      chunks_most = omega (arith, b, times-most (x / C) C z);
      bytes_most = omega (arith, b, div-add-mod' x C);
      appends_most = omega (arith, b, one-most (x % C));
      flushes_most = omega (arith, b);
    }

pub record Counted (C : ℕ) (l : List ℕ) (i : ℕ) (p : Plan) : Type 0 where
  pub within : i ≤ length l
  pub to_come : counted_all C (drop i l) p ≡ counted_all C l nothing_yet
  pub bounded : Bounded C i p

pub counts_on : (C : ℕ) (l : List ℕ) (i n : ℕ) (p q : Plan) → i < length l → n ≡ get_or l i 0 → n < 2 ^ 32 → q ≡ counted C n p → Counted C l i p → Counted C l (i + 1) q
unfolding counted_all
counts_on C l i n p q m g w e c = record {
  within = omega arith;
  to_come = ap (counted_all C (drop (i + 1) l)) (e ∙ ap (λ (k : ℕ). counted C k p) g)
      ∙ rw add-one (sym (ap (λ (t : List ℕ). counted_all C t p) (drop-cons l i 0 m)) ∙ c.to_come);
  bounded = rw e (bounded_next C i n p c.bounded w);
}

pub at-end : (C : ℕ) (l : List ℕ) (i : ℕ) (p : Plan) → length l ≤ i → Counted C l i p → p ≡ counted_all C l nothing_yet
unfolding counted_all
at-end C l i p m c = sym (ap (λ (t : List ℕ). counted_all C t p) (drop_of_length-le l m)) ∙ c.to_come

-- ---- the answer

-- the opening's test, of a capacity in range
limit_test : (C : ℕ) → bad_limits C 0 ≡ (eqb C 0 || ltb max_chunk C)
limit_test C = same (eqb C 0) (ltb max_chunk C)
  where
    same : (a b : Bool) → (a || b || false) ≡ (a || b)
    same true b = refl
    same false true = refl
    same false false = refl

pub limit_refused : (C : ℕ) (l : List ℕ) → bad_limits C 0 ≡ true → plans C l ≡ some (refuses 1)
unfolding plans
limit_refused C l e = rw (sym (limit_test C) ∙ e) refl

in_range : (C : ℕ) (l : List ℕ) → bad_limits C 0 ≡ false → plans C l ≡ cond (ltb max_entries (length l)) (some (refuses 16)) (map needs (planned C l))
unfolding plans
in_range C l e = rw (sym (limit_test C) ∙ e) refl

pub entries_refused : (C : ℕ) (l : List ℕ) → bad_limits C 0 ≡ false → max_entries < length l → plans C l ≡ some (refuses 16)
entries_refused C l e m = in_range C l e ∙ rw (lt-ltb max_entries (length l) m) refl

pub all_planned : (C : ℕ) (l : List ℕ) (p : Plan) → bad_limits C 0 ≡ false → length l ≤ max_entries → p ≡ counted_all C l nothing_yet → p.stored < 2 ^ 48
    → plans C l ≡ some (needs p)
all_planned C l p e m c b =
    let stored-most : (counted_all C l nothing_yet).stored ≤ 2 ^ 63 - 1 = omega (arith, ap (λ (q : Plan). q.stored) c) in
    in_range C l e
    ∙ rw (le-ltb max_entries (length l) m) (ap (map needs) (planned-counted C l (within_limits C 0 e).0 (within_limits C 0 e).1 stored-most ∙ ap some (sym c)))
