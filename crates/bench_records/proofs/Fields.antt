-- A field at a place of the input, and the mark.
-- Assumes nothing.
use mathlib.Core.Path.{◌≡◌, refl, sym, ap, ◌∙◌}
use mathlib.Core.Bool.{true, true≢false}
use mathlib.Core.List.{List, [], ◌∷◌}
use Prim.Native.Nat.{ℕ, ◌+◌, ◌*◌, ◌-◌, ◌/◌, ◌%◌, ◌≤◌, ◌<◌}
use native.Mathlib.Nat.{add-sub_cancel_left}
use native.Mathlib.Omega.{arith}
use borrow.Author.Tests.{le-leb, leb-true, eqb-true}
use lib.ListN.{length, take, drop, get_or, length-drop}
use lib.Seq.{drop-drop}
use lib.Dec.{leb, eqb}
use lib.IntN.{ℤ}
use mir.Syntax.{w64}
use mir.Val.{to_z}
use Rattle.rules.specs.Message.{Bytes}
use Rattle.rules.proofs.Tests.{and_left, and_right}
use Rattle.rules.proofs.Lists.{cond_ind}
use Rattle.text.specs.Ascii.{ascii}
use Rattle.little_endian.specs.Little.{little}
use Rattle.bench_records.specs.Record.{Record, Reading, whole, cut, unknown, OP, AP, VE, bytes, u8, i64, Row, format, same, after, reading}
use Rattle.bench_records.proofs.Little.{two}

-- n bytes from place m on
at : (m n : ℕ) (then : Bytes → Bytes → Reading) (s : Bytes) → m + n ≤ length s
    → bytes n then (drop m s) ≡ then (take n (drop m s)) (drop (m + n) s)
unfolding bytes
at m n then s h =
    let l : n ≤ length (drop m s) = omega (arith, length-drop m s) in
    rw (le-leb n (length (drop m s)) l) (ap (then (take n (drop m s))) (drop-drop n m s))

-- the input ends inside them, or in what follows them
cut_at : (m n : ℕ) (then : Bytes → Bytes → Reading) (s : Bytes)
    → (n ≤ length s - m → then (take n (drop m s)) (drop (m + n) s) ≡ cut)
    → bytes n then (drop m s) ≡ cut
unfolding bytes
cut_at m n then s h =
    cond_ind (λ (r : Reading). r ≡ cut) (leb n (length (drop m s)))
    (λ e. ap (then (take n (drop m s))) (drop-drop n m s) ∙ h (omega (arith, leb-true n (length (drop m s)) e, length-drop m s)))
    (λ e. refl)

-- ---- an opening

pub opened : (s : Bytes) (c capacity : ℕ) (p : ℤ) → 16 ≤ length s
    → c ≡ little (take 2 (drop 2 s)) → capacity ≡ little (take 4 (drop 4 s)) → p ≡ to_z w64 (little (take 8 (drop 8 s)))
    → whole (OP c capacity p) (drop 16 s) ≡ after format (ascii "OP") (drop 2 s)
opened s c capacity p h e f g =
    rw (e, f, g) (sym (at 2 2 _ s (omega arith) ∙ at 4 4 _ s (omega arith) ∙ at 8 8 _ s (omega arith)))

pub open_cut : (s : Bytes) → length s < 16 → after format (ascii "OP") (drop 2 s) ≡ cut
open_cut s h = cut_at 2 2 _ s (λ a. cut_at 4 4 _ s (λ b. cut_at 8 8 _ s (λ c. absurd (omega arith))))

-- ---- an append

pub appended : (s : Bytes) (n : ℕ) → 4 + n ≤ length s → n ≡ little (take 2 (drop 2 s))
    → whole (AP (take (4 + n - 4) (drop 4 s))) (drop (4 + n) s) ≡ after format (ascii "AP") (drop 2 s)
appended s n h e =
    rw (add-sub_cancel_left 4 n, e)
    (sym (at 2 2 _ s (omega arith) ∙ at 4 (little (take 2 (drop 2 s))) _ s (omega arith)))

pub append-cut : (s : Bytes) → length s < 4 + little (take 2 (drop 2 s)) → after format (ascii "AP") (drop 2 s) ≡ cut
append-cut s h = cut_at 2 2 _ s (λ a. cut_at 4 (little (take 2 (drop 2 s))) _ s (λ b. absurd (omega arith)))

-- ---- a size and a verdict

pub sized : (make : ℤ → Record) (s : Bytes) (n : ℤ) → 10 ≤ length s → n ≡ to_z w64 (little (take 8 (drop 2 s)))
    → whole (make n) (drop 10 s) ≡ i64 (λ n. whole (make n)) (drop 2 s)
sized make s n h e = rw e (sym (at 2 8 _ s (omega arith)))

pub size-cut : (make : ℤ → Record) (s : Bytes) → length s < 10 → i64 (λ n. whole (make n)) (drop 2 s) ≡ cut
size-cut make s h = cut_at 2 8 _ s (λ a. absurd (omega arith))

pub judged : (s : Bytes) → 3 ≤ length s → whole (VE (get_or s 2 0)) (drop 3 s) ≡ u8 (λ v. whole (VE v)) (drop 2 s)
judged [] h = absurd (omega arith)
judged (a ∷ []) h = absurd (omega arith)
judged (a ∷ b ∷ []) h = absurd (omega arith)
judged (a ∷ b ∷ v ∷ s) h =
    ap (λ (n : ℕ). whole (VE n) s) (omega arith) ∙ sym (at 2 1 (λ b. whole (VE (little b))) (a ∷ b ∷ v ∷ s) (omega arith))

pub verdict-cut : (s : Bytes) → length s < 3 → u8 (λ v. whole (VE v)) (drop 2 s) ≡ cut
verdict-cut s h = cut_at 2 1 _ s (λ a. absurd (omega arith))

-- ---- the mark

same_true : (a b : Bytes) → same a b ≡ true → a ≡ b
same_true [] [] h = refl
same_true [] (y ∷ b) h = absurd (true≢false (sym h))
same_true (x ∷ a) [] h = absurd (true≢false (sym h))
same_true (x ∷ a) (y ∷ b) h =
    cc (eqb-true x y (and_left (eqb x y) (same a b) h), same_true a b (and_right (eqb x y) (same a b) h))

-- the number k is none of the marks, as a match says it
abbrev pub Unmet : ℕ → Type 0 → List Row → Type 0
Unmet k A [] = A
Unmet k A (r ∷ rows) = Unmet k (A × (k ≡ little r.mark → ⊥)) rows

earlier : (k : ℕ) (A : Type 0) (rows : List Row) → Unmet k A rows → A
earlier k A [] u = u
earlier k A (r ∷ rows) u = (earlier k (A × (k ≡ little r.mark → ⊥)) rows u).0

pub no_mark : (k : ℕ) (A : Type 0) (rows : List Row) (rest : Bytes) → Unmet k A rows → after rows (k % 256 ∷ k / 256 ∷ []) rest ≡ unknown
no_mark k A [] rest u = refl
no_mark k A (r ∷ rows) rest u =
    cond_ind (λ (x : Reading). x ≡ unknown) (same r.mark (k % 256 ∷ k / 256 ∷ []))
    (λ e. absurd ((earlier k (A × (k ≡ little r.mark → ⊥)) rows u).1 (omega (arith, ap little (same_true r.mark (k % 256 ∷ k / 256 ∷ []) e)))))
    (λ e. no_mark k (A × (k ≡ little r.mark → ⊥)) rows rest u)

pub marked : (s : Bytes) (k : ℕ) → 2 ≤ length s → get_or s 0 0 < 256 → get_or s 1 0 < 256 → k ≡ little (take 2 s)
    → reading s ≡ after format (k % 256 ∷ k / 256 ∷ []) (drop 2 s)
unfolding reading
marked s k h x y e =
    let v : k ≡ get_or s 0 0 + 256 * (get_or s 1 0 + 256 * 0) = e ∙ ap little (two 0 s h) in
    let a : get_or s 0 0 ≡ k % 256 = omega arith in
    let b : get_or s 1 0 ≡ k / 256 = omega arith in
    let m : take 2 s ≡ k % 256 ∷ k / 256 ∷ [] = cc (two 0 s h) in
    at 0 2 (after format) s h ∙ ap (λ (m : Bytes). after format m (drop 2 s)) m

pub mark_cut : (s : Bytes) → length s < 2 → reading s ≡ cut
unfolding reading
mark_cut s h = cut_at 0 2 (after format) s (λ a. absurd (omega arith))
