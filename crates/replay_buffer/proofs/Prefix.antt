-- The chunks at the front that end at or below a size (`front_of` of specs/Ack.antt), and what the rule of an acknowledgement does at the next.
-- Assumes nothing.
use mathlib.Core.Path.{◌≡◌, refl, sym, ap, ◌∙◌}
use mathlib.Core.Bool.{Bool, true, false}
use mathlib.Core.Logic.{◌⊎◌, inl, inr, ⊎_elim}
use mathlib.Core.List.{List, [], ◌∷◌}
use Prim.Native.Nat.{ℕ, zero, suc, ◌+◌, ◌-◌, ◌<◌, ◌≤◌, ◌^◌}
use native.Mathlib.Nat.{add-zero, add_assoc, suc-ne-zero}
use native.Mathlib.Numerals.{add-one}
use native.Mathlib.Omega.{arith}
use borrow.Author.Tests.{lt-ltb, le-ltb, lt-leb}
use lib.Dec.{leb}
use lib.IntN.{ℤ, pos, negsuc, nat_abs, ◌+ℤ◌, ◌-ℤ◌}
use lib.Signed.{le_z}
use lib.ListN.{length, take, drop, get_or, length-drop, drop_of_length-le}
use lib.Seq.{length-take-le, drop-cons, drop-drop}
use Rattle.crc32c.specs.Reg.{crc_of}
use Rattle.rules.specs.Respond.{ack}
use Rattle.bidi_write.specs.Numbers.{to_ℕ}
use Rattle.chunk_words.specs.Word.{packed, len_of}
use Rattle.ring.proofs.Paste.{drop-take-add}
use Rattle.chunk_words.proofs.Words.{len_packed, sum-packed}
use Rattle.replay_buffer.specs.View.{chunks_of, total}
use Rattle.replay_buffer.specs.Ack.{nothing, after, front_of, Above}
use Rattle.replay_buffer.specs.declared.Front.{Front}

same_front : (i j m n : ℕ) → i ≡ j → m ≡ n → ◌≡◌ {A = Front} (record { chunks = i; bytes = m }) (record { chunks = j; bytes = n })
same_front i j m n e f = rw (e, f)

-- ---- the loop, which has passed i chunks of n bytes; the next begins at `at`

after_all : (i n : ℕ) → after i n nothing ≡ record { chunks = i; bytes = n }
after_all i n = same_front _ _ _ _ (omega arith) (omega arith)

module _ (p start at : ℤ) (n i : ℕ) (ws : List ℕ) (e : front_of p start ws ≡ after i n (front_of p at (drop i ws))) where
  module _ (len : ℕ) (h : i < length ws) (el : len ≡ len_of (get_or ws i 0)) where
    pub loop_more : le_z (at +ℤ pos len) p ≡ true → front_of p start ws ≡ after (i + 1) (n + len) (front_of p (at +ℤ pos len) (drop (i + 1) ws))
    loop_more l =
        let g : le_z (at +ℤ pos (len_of (get_or ws i 0))) p ≡ true = rw el at l in
        e ∙ rw (el, drop-cons ws i 0 h, g, add-one i) (same_front _ _ _ _ (omega arith) (omega arith))

    pub loop_stop : le_z (at +ℤ pos len) p ≡ false → record { chunks = i; bytes = n } ≡ front_of p start ws
    loop_stop l =
        let g : le_z (at +ℤ pos (len_of (get_or ws i 0))) p ≡ false = rw el at l in
        let z : front_of p at (drop i ws) ≡ nothing = rw (drop-cons ws i 0 h, g) in
        sym (e ∙ ap (after i n) z ∙ after_all i n)

  pub loop_end : length ws ≤ i → record { chunks = i; bytes = n } ≡ front_of p start ws
  loop_end h =
      let z : front_of p at (drop i ws) ≡ nothing = rw (drop_of_length-le ws h) in
      sym (e ∙ ap (after i n) z ∙ after_all i n)

-- ---- what it is

either : (c : Bool) → (c ≡ true) ⊎ (c ≡ false)
either true = inl refl
either false = inr refl

one-add : (n : ℕ) → 1 + n ≡ suc n
one-add n = omega arith

pub front_chunks : (p o : ℤ) (ws : List ℕ) → (front_of p o ws).chunks ≤ length ws
front_chunks p o [] = omega arith
front_chunks p o (w ∷ ws) =
    ⊎_elim
    (λ (h : le_z (o +ℤ pos (len_of w)) p ≡ true). rw h (omega (arith, front_chunks p (o +ℤ pos (len_of w)) ws)))
    (λ (h : le_z (o +ℤ pos (len_of w)) p ≡ false). rw h (omega arith))
    (either (le_z (o +ℤ pos (len_of w)) p))

pub front_total : (p o : ℤ) (ws : List ℕ) → total (drop (front_of p o ws).chunks ws) + (front_of p o ws).bytes ≡ total ws
front_total p o [] = omega arith
front_total p o (w ∷ ws) =
    ⊎_elim
    (λ (h : le_z (o +ℤ pos (len_of w)) p ≡ true). rw (h, one-add) (omega (arith, front_total p (o +ℤ pos (len_of w)) ws)))
    (λ (h : le_z (o +ℤ pos (len_of w)) p ≡ false). rw h (omega arith))
    (either (le_z (o +ℤ pos (len_of w)) p))

pub front_above : (p : ℤ) (o : ℕ) (ws : List ℕ) → Above p (o + (front_of p (pos o) ws).bytes) (drop (front_of p (pos o) ws).chunks ws)
front_above p o [] = tt
front_above p o (w ∷ ws) =
    ⊎_elim
    (λ (h : le_z (pos (o + len_of w)) p ≡ true). rw (h, one-add, ← add_assoc) (front_above p (o + len_of w) ws))
    (λ (h : le_z (pos (o + len_of w)) p ≡ false). rw (h, add-zero) h)
    (either (le_z (pos (o + len_of w)) p))

-- ---- what the rule does with it, and with the chunk behind it

pub ack_front : (p : ℤ) (o : ℕ) (ws bs : List ℕ) → total ws ≤ length bs
    → ack p (chunks_of o ws bs)
    ≡ ack p (chunks_of (o + (front_of p (pos o) ws).bytes) (drop (front_of p (pos o) ws).chunks ws) (drop (front_of p (pos o) ws).bytes bs))
unfolding ack
ack_front p o [] bs e = refl
ack_front (pos p) o (w ∷ ws) bs e =
    let n : length (take (len_of w) bs) ≡ len_of w = length-take-le (len_of w) bs (omega arith) in
    let r : total ws ≤ length (drop (len_of w) bs) = simp length-drop (omega arith) in
    ⊎_elim
    (λ (h : leb (o + len_of w) p ≡ true).
    rw (n, h, one-add, ← add_assoc, ← drop-drop (front_of (pos p) (pos (o + len_of w)) ws).bytes (len_of w) bs)
    (ack_front (pos p) (o + len_of w) ws (drop (len_of w) bs) r))
    (λ (h : leb (o + len_of w) p ≡ false). rw (h, add-zero))
    (either (leb (o + len_of w) p))
ack_front (negsuc p) o (w ∷ ws) bs e = rw add-zero

pub ack-none : (p : ℤ) (o : ℕ) (ws bs : List ℕ) → length ws ≡ 0 → ack p (chunks_of o ws bs) ≡ chunks_of o ws bs
unfolding ack
ack-none p o [] bs h = refl
ack-none p o (w ∷ ws) bs h = absurd (suc-ne-zero (length ws) h)

pub ack-below : (p : ℤ) (o : ℕ) (ws bs : List ℕ) → to_ℕ p ≤ o → Above p o ws → total ws ≤ length bs → ack p (chunks_of o ws bs) ≡ chunks_of o ws bs
unfolding ack
ack-below p o [] bs h a e = refl
ack-below (pos p) o (w ∷ ws) bs h a e =
    let n : length (take (len_of w) bs) ≡ len_of w = length-take-le (len_of w) bs (omega arith) in
    rw (n, a, le-ltb o p h)
ack-below (negsuc p) o (w ∷ ws) bs h a e = refl

distance : (p o : ℕ) → o < p → nat_abs (pos p -ℤ pos o) ≡ p - o
distance p zero h = omega arith
distance p (suc o) h = rw (le-ltb p (suc o) (omega arith))

-- d bytes go, r stay
pub ack-within : (p o w d r sum : ℕ) (ws bs : List ℕ) → o < p → p ≡ o + d → p < o + len_of w → len_of w ≡ d + r → len_of w ≤ length bs → r < 2 ^ 32
    → sum ≡ crc_of (take r (drop d bs)) → chunks_of p (packed r sum ∷ ws) (drop d bs) ≡ ack (pos p) (chunks_of o (w ∷ ws) bs)
unfolding ack
ack-within p o w d r sum ws bs h ep a ew hb hr es =
    let n : length (take (len_of w) bs) ≡ len_of w = length-take-le (len_of w) bs hb in
    let x : nat_abs (pos p -ℤ pos o) ≡ d = omega (arith, distance p o h) in
    let y : drop d (take (len_of w) bs) ≡ take r (drop d bs) = ap (λ (m : ℕ). drop d (take m bs)) ew ∙ drop-take-add d r bs (omega arith) in
    let z : p + r ≡ o + len_of w = omega arith in
    let q : drop r (drop d bs) ≡ drop (len_of w) bs = drop-drop r d bs ∙ ap (λ (m : ℕ). drop m bs) (sym ew) in
    rw (n, lt-leb (o + len_of w) p a, lt-ltb o p h, x, y, len_packed r sum hr, sum-packed r sum hr, z, q, es)
