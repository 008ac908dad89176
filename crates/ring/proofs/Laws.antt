-- What a caller of the ring moves by: a head that moves on, ranges that join, and what a write changes and what not.
-- Assumes nothing.
use mathlib.Core.Path.{◌≡◌, sym, ap, ap₂, ◌∙◌}
use mathlib.Core.List.{List, ◌++◌}
use Prim.Native.Nat.{ℕ, ◌+◌, ◌<◌, ◌≤◌}
use native.Mathlib.Omega.{arith}
use lib.ListN.{length, take, drop, get_or, length-append, length-take, length-drop, take-append-drop}
use lib.Seq.{length-paste, length-take-le, take-paste, take-add, take-take, drop-drop, drop_at, get_or-take, get_or-drop}
use Rattle.ring.specs.Ring.{wrapped, rot, ring, part, Within, Written}
use Rattle.ring.proofs.Paste.{part-append_le, part-take, drop-take-add, paste_add}
use Rattle.ring.proofs.Rot.{length-rot, rot-rot}

pub length-ring : {A : Type 0} (size head : ℕ) (s : List A) → size ≤ length s → length (ring size head s) ≡ size
length-ring size head s h = length-rot head (take size s) ∙ length-take-le size s h

module _ {A : Type 0} (size head : ℕ) (s : List A) where
  -- a range is the front of a longer one at the same place
  pub take_part : (at m n : ℕ) → m ≤ n → take m (part size head at n s) ≡ part size head at m s
  unfolding part
  take_part at m n h = take-take m n (drop at (ring size head s)) h

  -- two ranges, one after the other, are one
  pub part-add : (at m n next : ℕ) → at + m ≡ next → part size head at (m + n) s ≡ part size head at m s ++ part size head next n s
  unfolding part
  part-add at m n next e = rw (sym e, take-add, drop-drop)

  -- an element of a range
  pub get_d_part : (at n i : ℕ) (d : A) → i < n → get_or (part size head at n s) i d ≡ get_or (ring size head s) (at + i) d
  unfolding part
  get_d_part at n i d h = rw (get_or-take, get_or-drop)

  module _ (lent : size ≤ length s) where
    pub length_part : (at n : ℕ) → at + n ≤ size → length (part size head at n s) ≡ n
    unfolding part
    length_part at n h = simp (length-take, length-drop, length-ring size head s lent) (omega arith)

    -- a range less its front
    pub drop-part : (at k n next rest : ℕ) → at + k ≡ next → k + rest ≡ n → next ≤ size
        → drop k (part size head at n s) ≡ part size head next rest s
    unfolding part
    drop-part at k n next rest e f h =
        let b : k ≤ length (drop at (ring size head s)) = simp (length-drop, length-ring size head s lent) (omega arith) in
        rw (sym f, drop-take-add, drop-drop, e)

    -- the head moves on by k: what was at place `was` is at place `at`
    pub part_moved : (k at n was : ℕ) → head ≤ size → k + at ≡ was → was + n ≤ size
        → part size (wrapped size (head + k)) at n s ≡ part size head was n s
    unfolding part rot
    part_moved k at n was hh e h =
        let g : at + n ≤ length (drop k (ring size head s)) = simp (length-drop, length-ring size head s lent) (omega arith) in
        ap (λ (r : List A). take n (drop at r)) (rot-rot size head k (take size s) (length-take-le size s lent) hh (omega arith))
        ∙ part-append_le at n (drop k (ring size head s)) (take k (ring size head s)) g
        ∙ ap (take n) (drop-drop at k (ring size head s))
        ∙ ap (λ (m : ℕ). take n (drop m (ring size head s))) e

    -- the head moves on by k: of the first n, the rest is left
    pub part_popped : (k n rest : ℕ) → head ≤ size → k + rest ≡ n → n ≤ size
        → part size (wrapped size (head + k)) 0 rest s ≡ drop k (part size head 0 n s)
    part_popped k n rest hh e h = part_moved k 0 rest k hh (omega arith) (omega arith) ∙ sym (drop-part 0 k n k rest (omega arith) e (omega arith))

-- after a write of src's first n elements at place `at`
module _ {A : Type 0} (size head at : ℕ) (src : List A) (n : ℕ) (before after : List A) (within : Within (length before) size head at n)
    (enough : n ≤ length src) (written : Written size head at src n before after) where
  starts : at ≤ length (ring size head before)
  starts = rw (length-ring size head before within.room) (omega (arith, within))

  length_inside : length (ring size head after) ≡ size
  length_inside =
      let l : length (ring size head before) ≡ size = length-ring size head before within.room in
      ap length written.inside ∙ length-paste (ring size head before) at src n (omega arith) enough ∙ l

  pub length-written : length after ≡ length before
  length-written =
      let l : length (take size after) ≡ size = sym (length-rot head (take size after)) ∙ length_inside in
      let m : length (take size before) ≡ size = length-take-le size before within.room in
      omega (arith, simp length-append at (ap length (take-append-drop size after)), simp length-append at (ap length (take-append-drop size before)), ap length written.beyond)

  -- the range itself
  pub part-written : part size head at n after ≡ take n src
  unfolding part
  part-written =
      let g : at ≤ length (ring size head after) = rw length_inside (omega (arith, within)) in
      sym (drop-take-add at n (ring size head after) g)
      ∙ ap (λ (r : List A). drop at (take (at + n) r)) written.inside
      ∙ ap (drop at) (take-paste (ring size head before) at src n starts enough)
      ∙ drop_at (take at (ring size head before)) (take n src) at (length-take-le at (ring size head before) starts)

  -- a range before it
  pub part-before : (a m : ℕ) → a + m ≤ at → part size head a m after ≡ part size head a m before
  unfolding part
  part-before a m h =
      let r : List A = ring size head before in
      let g : at + n ≤ length (ring size head after) = rw length_inside within.ends in
      let f : a + m ≤ at + n = omega arith in
      let t : a + m ≤ length (take at r) = simp length-take (omega (arith, starts)) in
      sym (part-take a m (at + n) (ring size head after) g f)
      ∙ ap (λ (l : List A). take m (drop a (take (at + n) l))) written.inside
      ∙ ap (λ (l : List A). take m (drop a l)) (take-paste r at src n starts enough)
      ∙ part-append_le a m (take at r) (take n src) t
      ∙ part-take a m at r starts h

  -- a range that ends where the written one ends
  pub part-joined : (a m : ℕ) → a + m ≡ at → part size head a (m + n) after ≡ part size head a m before ++ take n src
  part-joined a m e =
      part-add size head after a m n at e ∙ ap₂ (λ (x y : List A). x ++ y) (part-before a m (omega arith)) part-written

-- two writes, one after the other, are one
pub written-add : {A : Type 0} (size head at : ℕ) (src : List A) (k m : ℕ) (s₀ s₁ s₂ : List A) → Within (length s₀) size head at k → k ≤ length src
    → Written size head at src k s₀ s₁ → Written size head (at + k) (drop k src) m s₁ s₂ → Written size head at src (k + m) s₀ s₂
written-add size head at src k m s₀ s₁ s₂ w hk a b =
    let h : at ≤ length (ring size head s₀) = rw (length-ring size head s₀ w.room) (omega (arith, w)) in
    record {
      inside = b.inside ∙ rw a.inside (paste_add (ring size head s₀) src at k m h hk);
      beyond = b.beyond ∙ a.beyond;
    }
