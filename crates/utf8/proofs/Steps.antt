-- The test byte by byte.
-- Assumes nothing.
use mathlib.Core.Path.{◌≡◌, refl, sym, ap}
use mathlib.Core.Bool.{Bool, true, false, ◌&&◌}
use mathlib.Core.List.{List, [], ◌∷◌}
use Prim.Native.Nat.{ℕ, zero, suc, ◌+◌, ◌-◌, ◌≤◌, ◌<◌}
use native.Mathlib.Numerals.{add-one}
use native.Mathlib.Omega.{arith}
use borrow.Author.Tests.{ne_eqb, le-leb, lt-leb}
use lib.Dec.{eqb, leb}
use lib.ListN.{length, get_or, drop, drop_of_length-le}
use lib.Seq.{drop-cons}
use Rattle.utf8.specs.Utf8.{Range, range, within, nowhere, characters, after, goes_on}
use Rattle.utf8.specs.Wanted.{want_of, tails_of, wanted, ranges_of, Steps}
use Rattle.utf8.specs.declared.Want.{Want}

and-false : (t : Bool) → (t && false) ≡ false
and-false true = refl
and-false false = refl

inside : (r : Range) (b : ℕ) → r.low ≤ b → b ≤ r.high → within r b ≡ true
inside r b l h = rw (le-leb r.low b l, le-leb b r.high h)

under : (r : Range) (b : ℕ) → b < r.low → within r b ≡ false
under r b l = rw (lt-leb r.low b l)

over : (r : Range) (b : ℕ) → r.high < b → within r b ≡ false
over r b h = rw (lt-leb b r.high h) (and-false (leb r.low b))

no_byte : (s : List ℕ) → goes_on (nowhere ∷ []) s ≡ false
unfolding goes_on
no_byte [] = refl
no_byte (zero ∷ s) = refl
no_byte (suc b ∷ s) = rw (over nowhere (suc b) (omega arith))

-- ---- one byte, by what is wanted

leads_from : (b n l h : ℕ) (r : Want) → n ≡ 0 → ranges_of r ≡ after characters b → Steps (want_of n l h) b r
unfolding goes_on
leads_from b zero l h r z e = record { on = λ s. ap (λ (w : List Range). goes_on w s) (sym e) }
leads_from b (suc n) l h r z e = absurd (omega arith)

pub leads : (b : ℕ) (w r : Want) → w.tails ≡ 0 → ranges_of r ≡ after characters b → Steps w b r
leads b w r = leads_from b w.tails w.low w.high r

-- a byte out of its range
sticks : (b n l h : ℕ) → 0 < n → within (range l h) b ≡ false → Steps (want_of n l h) b (want_of 1 1 0)
unfolding goes_on
sticks b zero l h p e = absurd (omega arith)
sticks b (suc n) l h p e = record { on = λ s. rw e (sym (no_byte s)) }

pub sticks_under : (b : ℕ) (w : Want) → 0 < w.tails → b < w.low → Steps w b (want_of 1 1 0)
sticks_under b w p h = sticks b w.tails w.low w.high p (under (range w.low w.high) b h)

pub sticks_over : (b : ℕ) (w : Want) → 0 < w.tails → w.high < b → Steps w b (want_of 1 1 0)
sticks_over b w p h = sticks b w.tails w.low w.high p (over (range w.low w.high) b h)

tails_are : (n : ℕ) → tails_of n ≡ wanted n 0x80 0xBF
tails_are zero = refl
tails_are (suc n) = refl

one_less : (n : ℕ) → suc n - 1 ≡ n
one_less n = omega arith

goes_from : (b n l h : ℕ) → 0 < n → within (range l h) b ≡ true → Steps (want_of n l h) b (want_of (n - 1) 0x80 0xBF)
unfolding goes_on
goes_from b zero l h p e = absurd (omega arith)
goes_from b (suc n) l h p e = record { on = λ s. rw (e, one_less n) (ap (λ (w : List Range). goes_on w s) (tails_are n)) }

pub goes : (b : ℕ) (w : Want) → 0 < w.tails → w.low ≤ b → b ≤ w.high → Steps w b (want_of (w.tails - 1) 0x80 0xBF)
goes b w p l h = goes_from b w.tails w.low w.high p (inside (range w.low w.high) b l h)

-- ---- the same at a place of the bytes

pub step_at : (w r : Want) (s : List ℕ) (i : ℕ) → i < length s → Steps w (get_or s i 0) r → goes_on (ranges_of r) (drop (i + 1) s) ≡ goes_on (ranges_of w) (drop i s)
step_at w r s i h t = rw (drop-cons s i 0 h, add-one i) (sym (t.on (drop (suc i) s)))

ends : (n l h : ℕ) → goes_on (wanted n l h) [] ≡ eqb n 0
unfolding goes_on
ends zero l h = refl
ends (suc n) l h = sym (ne_eqb (suc n) 0 (λ e. omega arith))

pub ends_at : (w : Want) (s : List ℕ) (i : ℕ) → length s ≤ i → goes_on (ranges_of w) (drop i s) ≡ eqb w.tails 0
ends_at w s i h = rw (drop_of_length-le s h) (ends w.tails w.low w.high)
