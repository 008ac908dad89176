-- What one call does to the five numbers, and that the calls of an entry come to what is counted for it.
use mathlib.Core.Path.{◌≡◌, refl, ap}
use mathlib.Core.Bool.{true, false, cond}
use mathlib.Core.List.{List, [], ◌∷◌}
use Prim.Native.Nat.{ℕ, zero, suc, ◌+◌, ◌-◌, ◌/◌, ◌%◌, min, ◌≤◌, ◌<◌}
use native.Mathlib.Nat.{suc-mul, div-eq_of_lt, mod-eq_of_lt, div-eq-sub-div, mod-eq-sub-mod, div-add-mod', zero-div, zero-mod}
use native.Mathlib.Omega.{arith}
use lib.Dec.{leb}
use borrow.Author.Tests.{le-leb, lt-leb, leb-true, leb-false}
use Rattle.rules.proofs.Lists.{cond_ind}
use Rattle.plan_rules.specs.Plan.{Plan}
use Rattle.plan_rules.specs.Counting.{plan, one_for, counted, counted_all}
use Rattle.plan_rules.specs.Claims.{sum_of}

pub plan_is : {c s h a f c' s' h' a' f' : ℕ} → c ≡ c' → s ≡ s' → h ≡ h' → a ≡ a' → f ≡ f' → plan c s h a f ≡ plan c' s' h' a' f'
plan_is e₁ e₂ e₃ e₄ e₅ = rw (e₁, e₂, e₃, e₄, e₅)

-- ---- a call

abbrev pub cut_once : ℕ → Plan → Plan
cut_once C p = plan (p.chunks + 1) (p.stored + C) 0 (p.appends + 1) p.flushes

abbrev pub held_once : ℕ → Plan → Plan
held_once n p = plan p.chunks p.stored (p.held + n) (p.appends + 1) p.flushes

abbrev pub once : ℕ → ℕ → Plan → Plan
once C zero p = plan (p.chunks + one_for p.held) (p.stored + p.held) 0 p.appends (p.flushes + 1)
once C (suc n) p = cond (leb C (p.held + suc n)) (cut_once C p) (held_once (suc n) p)

abbrev pub behind : ℕ → ℕ → List ℕ → List ℕ  -- of the entry n, of which k bytes were taken
behind n k ls = cond (leb n k) ls ((n - k) ∷ ls)

abbrev pub flush_behind : ℕ → List ℕ → List ℕ
flush_behind zero ls = ls
flush_behind (suc h) ls = 0 ∷ ls

pub flush-again : (h : ℕ) (ls : List ℕ) → 0 < h → flush_behind h ls ≡ 0 ∷ ls
flush-again zero ls l = absurd (omega arith)
flush-again (suc h) ls l = refl

abbrev pub waiting_with : ℕ → ℕ → ℕ → ℕ  -- waiters, with the one that a flush of nothing makes
waiting_with zero zero w = suc w
waiting_with zero (suc h) w = w
waiting_with (suc n) h w = w

pub waiting_same : (h w : ℕ) → 0 < h → waiting_with 0 h w ≡ w
waiting_same zero w l = absurd (omega arith)
waiting_same (suc h) w l = refl

abbrev pub rest : ℕ → ℕ → List ℕ → Plan → List ℕ
rest C zero ls p = flush_behind p.held ls
rest C (suc n) ls p = behind (suc n) (min (suc n) (C - p.held)) ls

-- ---- the calls of an entry come to the entry

flush-once : (C h : ℕ) (ls : List ℕ) (p : Plan) → p.held ≡ h
    → counted_all C (flush_behind h ls) (plan (p.chunks + one_for h) (p.stored + h) 0 p.appends (p.flushes + 1))
    ≡ counted_all C ls (plan (p.chunks + one_for h) (p.stored + h) 0 p.appends (p.flushes + (1 + one_for h)))
unfolding counted counted_all
flush-once C zero ls p e = ap (counted_all C ls) (plan_is refl refl refl refl (omega arith))
flush-once C (suc h) ls p e = ap (counted_all C ls) (plan_is (omega arith) (omega arith) refl refl (omega arith))

pub one_for_lem : (n : ℕ) → 0 < n → one_for n ≡ 1
one_for_lem zero l = absurd (omega arith)
one_for_lem (suc n) l = refl

holds-once : (C n : ℕ) (p : Plan) → p.held + suc n < C → held_once (suc n) p ≡ counted C (suc n) p
unfolding counted
holds-once C n p l =
    let q : (p.held + suc n) / C ≡ 0 = div-eq_of_lt l in
    let m : (p.held + suc n) % C ≡ p.held + suc n = mod-eq_of_lt l in
    rw (q, m) (plan_is (omega arith) (omega arith) refl (omega (arith, one_for_lem (p.held + suc n) (omega arith))) refl)

-- held bytes reach C, and m bytes of the entry are left
cuts-once : (C n m : ℕ) (ls : List ℕ) (p : Plan) → p.held < C → p.held + suc n ≡ C + m
    → counted_all C (behind (suc n) (suc n - m) ls) (cut_once C p) ≡ counted_all C ls (counted C (suc n) p)
unfolding counted counted_all
cuts-once C n zero ls p l e =
    let t : leb (suc n) (suc n - 0) ≡ true = le-leb (suc n) (suc n - 0) (omega arith) in
    let q : (p.held + suc n) / C ≡ (p.held + suc n - C) / C + 1 = div-eq-sub-div (omega arith) (omega arith) in
    let r : (p.held + suc n) % C ≡ (p.held + suc n - C) % C = mod-eq-sub-mod (omega arith) in
    let d : p.held + suc n - C ≡ 0 = omega arith in
    rw (t, q, r, d, zero-div C, zero-mod C) (ap (counted_all C ls) (plan_is (omega arith) (omega arith) refl (omega arith) refl))
cuts-once C n (suc m) ls p l e =
    let t : leb (suc n) (suc n - suc m) ≡ false = lt-leb (suc n) (suc n - suc m) (omega arith) in
    let b : suc n - (suc n - suc m) ≡ suc m = omega arith in
    let q : (p.held + suc n) / C ≡ (p.held + suc n - C) / C + 1 = div-eq-sub-div (omega arith) (omega arith) in
    let r : (p.held + suc n) % C ≡ (p.held + suc n - C) % C = mod-eq-sub-mod (omega arith) in
    let d : p.held + suc n - C ≡ 0 + suc m = omega arith in
    rw (t, b, q, r, d) (ap (counted_all C ls) (plan_is (omega arith) (omega (arith, suc-mul ((0 + suc m) / C) C)) refl (omega arith) refl))

-- what is still to come is the same before a call and behind it
pub counts_on : (C n : ℕ) (ls : List ℕ) (p : Plan) → p.held < C → counted_all C (rest C n ls p) (once C n p) ≡ counted_all C (n ∷ ls) p
unfolding counted counted_all
counts_on C zero ls p l = flush-once C p.held ls p refl
counts_on C (suc n) ls p l =
    cond_ind (λ (x : Plan). counted_all C (rest C (suc n) ls p) x ≡ counted_all C ls (counted C (suc n) p)) (leb C (p.held + suc n))
    (λ e.
    let f : C ≤ p.held + suc n = leb-true C (p.held + suc n) e in
    let k : min (suc n) (C - p.held) ≡ suc n - (p.held + suc n - C) = omega arith in
    rw k (cuts-once C n (p.held + suc n - C) ls p l (omega arith)))
    (λ e.
    let f : p.held + suc n < C = leb-false C (p.held + suc n) e in
    let t : leb (suc n) (min (suc n) (C - p.held)) ≡ true = le-leb (suc n) (min (suc n) (C - p.held)) (omega arith) in
    rw t (ap (counted_all C ls) (holds-once C n p f)))

-- ---- what the numbers keep

counted-chunks : (C n : ℕ) (p : Plan) → p.chunks ≤ (counted C n p).chunks
unfolding counted
counted-chunks C zero p = omega arith
counted-chunks C (suc n) p = omega arith

pub chunks_grow : (C : ℕ) (ls : List ℕ) (p : Plan) → p.chunks ≤ (counted_all C ls p).chunks
unfolding counted_all
chunks_grow C [] p = omega arith
chunks_grow C (n ∷ ls) p = omega (arith, counted-chunks C n p, chunks_grow C ls (counted C n p))

counted-stored : (C n : ℕ) (p : Plan) → p.stored ≤ (counted C n p).stored
unfolding counted
counted-stored C zero p = omega arith
counted-stored C (suc n) p = omega arith

pub stored_grows : (C : ℕ) (ls : List ℕ) (p : Plan) → p.stored ≤ (counted_all C ls p).stored
unfolding counted_all
stored_grows C [] p = omega arith
stored_grows C (n ∷ ls) p = omega (arith, counted-stored C n p, stored_grows C ls (counted C n p))

abbrev pub total : Plan → ℕ
total p = p.stored + p.held

pub counted-total : (C n : ℕ) (p : Plan) → total (counted C n p) ≡ total p + n
unfolding counted
counted-total C zero p = omega arith
counted-total C (suc n) p = omega (arith, div-add-mod' (p.held + suc n) C)

pub all_total : (C : ℕ) (ls : List ℕ) (p : Plan) → total (counted_all C ls p) ≡ total p + sum_of ls
unfolding counted_all
all_total C [] p = omega arith
all_total C (n ∷ ls) p = omega (arith, counted-total C n p, all_total C ls (counted C n p))
