-- Laws of `wrapped` and `rot` (specs/Ring.antt).
-- Assumes nothing.
use mathlib.Core.Path.{◌≡◌, sym, ap, ◌∙◌}
use mathlib.Core.Bool.{Bool, cond}
use mathlib.Core.List.{List, ◌++◌, append_assoc}
use mathlib.Core.Logic.{◌⊎◌, inl, inr, ⊎_elim}
use Prim.Native.Nat.{ℕ, zero, suc, ◌+◌, ◌-◌, ◌<◌, ◌≤◌, zero-le, suc-le-suc}
use native.Mathlib.Nat.{zero-lt-suc}
use native.Mathlib.Omega.{arith}
use borrow.Author.Tests.{lt-ltb, le-ltb}
use lib.ListN.{length, take, drop, length-append, length-take, length-drop, take-append-drop}
use lib.Seq.{length-take-le, take_at, drop_at, take-append-le, drop-append-le, drop-drop, take-take, take-add, take-append-add, drop-append-add, paste, length-paste}
use Rattle.ring.specs.Ring.{wrapped, rot}
use Rattle.ring.proofs.Paste.{paste_append_le, paste_append-add, part-append_le, part-take}

pub lt_or_ge : (a b : ℕ) → (a < b) ⊎ (b ≤ a)
lt_or_ge a zero = inr zero-le
lt_or_ge zero (suc b) = inl (zero-lt-suc b)
lt_or_ge (suc a) (suc b) = ⊎_elim (λ p. inl (suc-le-suc p)) (λ q. inr (suc-le-suc q)) (lt_or_ge a b)

pub wrapped-below : (n at : ℕ) → at < n → wrapped n at ≡ at
wrapped-below n at h = ap (λ (b : Bool). cond b at (at - n)) (lt-ltb at n h)

pub wrapped_past : (n at : ℕ) → n ≤ at → wrapped n at ≡ at - n
wrapped_past n at h = ap (λ (b : Bool). cond b at (at - n)) (le-ltb at n h)

pub wrapped_lt : (n at : ℕ) → at < n + n → wrapped n at < n
wrapped_lt n at h =
    ⊎_elim (λ (l : at < n). omega (arith, wrapped-below n at l)) (λ (g : n ≤ at). omega (arith, wrapped_past n at g)) (lt_or_ge at n)

-- a place is where it was counted to, or that less n
pub wrapped_is : (n at : ℕ) → ((at < n) × (wrapped n at ≡ at)) ⊎ ((n ≤ at) × (wrapped n at ≡ at - n))
wrapped_is n at = ⊎_elim (λ (l : at < n). inl (l, wrapped-below n at l)) (λ (g : n ≤ at). inr (g, wrapped_past n at g)) (lt_or_ge at n)

pub length-rot : {A : Type 0} (h : ℕ) (s : List A) → length (rot h s) ≡ length s
unfolding rot
length-rot h s = simp (length-append, length-drop, length-take) (omega arith)

-- a list of two parts, turned by the length of the first
pub rot-at : {A : Type 0} (h : ℕ) (xs ys : List A) → length xs ≡ h → rot h (xs ++ ys) ≡ ys ++ xs
unfolding rot
rot-at h xs ys e = rw (drop_at xs ys h e, take_at xs ys h e)

-- a run of the list that does not meet its end is a run of the ring
module _ {A : Type 0} (size h i k : ℕ) (s : List A) (long : length s ≡ size) (hs : h ≤ size) (hi : i + k ≤ size) where
  before : (src : List A) → h + i + k ≤ size → rot h (paste s (h + i) src k) ≡ paste (rot h s) i src k
  unfolding rot
  before src b =
      let x : List A = take h s in
      let y : List A = drop h s in
      let e : length x ≡ h = length-take-le h s (omega arith) in
      let g : i + k ≤ length y = simp length-drop (omega arith) in
      ap (λ (l : List A). rot h (paste l (h + i) src k)) (sym (take-append-drop h s))
      ∙ ap (λ (n : ℕ). rot h (paste (x ++ y) (n + i) src k)) (sym e)
      ∙ ap (rot h) (paste_append-add x y src i k)
      ∙ rot-at h x (paste y i src k) e
      ∙ sym (paste_append_le y x src i k g)

  past : (src : List A) (j : ℕ) → k ≤ length src → h + i ≡ size + j → rot h (paste s j src k) ≡ paste (rot h s) i src k
  unfolding rot
  past src j hk b =
      let x : List A = take h s in
      let y : List A = drop h s in
      let g : j + k ≤ length x = simp length-take (omega arith) in
      let e : length (paste x j src k) ≡ h = length-paste x j src k g hk ∙ length-take-le h s (omega arith) in
      let d : length y + j ≡ i = simp length-drop (omega arith) in
      ap (λ (l : List A). rot h (paste l j src k)) (sym (take-append-drop h s))
      ∙ ap (rot h) (paste_append_le x y src j k g)
      ∙ rot-at h (paste x j src k) y e
      ∙ sym (paste_append-add y x src j k)
      ∙ ap (λ (n : ℕ). paste (y ++ x) n src k) d

  module _ (straight : h + i < size → h + i + k ≤ size) where
    pub rot_paste : (src : List A) → k ≤ length src → rot h (paste s (wrapped size (h + i)) src k) ≡ paste (rot h s) i src k
    rot_paste src hk =
        ⊎_elim
        (λ (l : h + i < size). rw (wrapped-below size (h + i) l) (before src (straight l)))
        (λ (g : size ≤ h + i). rw (wrapped_past size (h + i) g) (past src (h + i - size) hk (omega arith)))
        (lt_or_ge (h + i) size)

    pub part-rot : take k (drop i (rot h s)) ≡ take k (drop (wrapped size (h + i)) s)
    unfolding rot
    part-rot =
        ⊎_elim
        (λ (l : h + i < size). let b : h + i + k ≤ size = straight l in
        let g : i + k ≤ length (drop h s) = simp length-drop (omega arith) in
        rw (wrapped-below size (h + i) l, part-append_le i k (drop h s) (take h s) g, drop-drop))
        (λ (g : size ≤ h + i). let j : ℕ = h + i - size in
        let b : j + k ≤ h = omega arith in
        let e : i ≡ length (drop h s) + j = simp length-drop (omega arith) in
        rw (wrapped_past size (h + i) g)
        (ap (λ (n : ℕ). take k (drop n (drop h s ++ take h s))) e ∙ ap (take k) (drop-append-add (drop h s) (take h s) j)
        ∙ part-take j k h s (omega arith) b))
        (lt_or_ge (h + i) size)

-- a ring that starts k places later
pub rot-rot : {A : Type 0} (size h k : ℕ) (s : List A) → length s ≡ size → h ≤ size → k ≤ size → rot (wrapped size (h + k)) s ≡ rot k (rot h s)
unfolding rot
rot-rot {A} size h k s long hh hk =
    ⊎_elim
    (λ (l : h + k < size).
    let b : k ≤ length (drop h s) = simp length-drop (omega arith) in
    rw (wrapped-below size (h + k) l, drop-append-le k (drop h s) (take h s) b, take-append-le k (drop h s) (take h s) b, drop-drop, take-add h k s)
    (sym (append_assoc (drop (h + k) s) (take h s) (take k (drop h s)))))
    (λ (g : size ≤ h + k).
    let j : ℕ = h + k - size in
    let e : k ≡ length (drop h s) + j = simp length-drop (omega arith) in
    let b : j ≤ h = omega arith in
    let q : j ≤ length (take h s) = simp length-take (omega arith) in
    let x : drop k (drop h s ++ take h s) ≡ drop j (take h s) = ap (λ (m : ℕ). drop m (drop h s ++ take h s)) e ∙ drop-append-add (drop h s) (take h s) j in
    let y : take k (drop h s ++ take h s) ≡ drop h s ++ take j s =
    ap (λ (m : ℕ). take m (drop h s ++ take h s)) e ∙ take-append-add (drop h s) (take h s) j ∙ ap (λ (l : List A). drop h s ++ l) (take-take j h s b) in
    let z : drop j s ≡ drop j (take h s) ++ drop h s =
    ap (drop j) (sym (take-append-drop h s)) ∙ drop-append-le j (take h s) (drop h s) q in
    rw (wrapped_past size (h + k) g, x, y)
    (ap (λ (l : List A). l ++ take j s) z ∙ append_assoc (drop j (take h s)) (drop h s) (take j s)))
    (lt_or_ge (h + k) size)
