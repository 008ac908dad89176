-- A copy into a list that is made of two (`paste` of `lib.Seq`), and two copies that are one.
-- Assumes nothing.
use mathlib.Core.Path.{◌≡◌, sym, ap, ◌∙◌}
use mathlib.Core.List.{List, [], ◌∷◌, ◌++◌, append_assoc}
use Prim.Native.Nat.{ℕ, suc, ◌+◌, ◌-◌, ◌≤◌, ◌<◌}
use native.Mathlib.Nat.{add_assoc}
use native.Mathlib.Numerals.{add-one}
use native.Mathlib.Omega.{arith}
use lib.ListN.{length, take, drop, set, length-take, length-drop, take-append-drop}
use lib.Seq.{paste, take-append-le, drop-append-le, take-append-add, drop-append-add, length-take-le, take_at, drop_at, drop-drop, take-add, take-paste, drop-paste, length-paste, set_split, append_snoc}

module _ {A : Type 0} (xs ys src : List A) (j k : ℕ) where
  pub paste_append_le : j + k ≤ length xs → paste (xs ++ ys) j src k ≡ paste xs j src k ++ ys
  paste_append_le h =
      let b : j ≤ length xs = omega arith in
      rw (take-append-le j xs ys b, drop-append-le (j + k) xs ys h) (sym (append_assoc (take j xs ++ take k src) (drop (j + k) xs) ys))

  pub paste_append-add : paste (xs ++ ys) (length xs + j) src k ≡ xs ++ paste ys j src k
  paste_append-add =
      rw (take-append-add xs ys j, add_assoc (length xs) j k, drop-append-add xs ys (j + k))
      (ap (λ (l : List A). l ++ drop (j + k) ys) (append_assoc xs (take j ys) (take k src))
      ∙ append_assoc xs (take j ys ++ take k src) (drop (j + k) ys))

-- what stands past a copy is as it was
pub drop_past_paste : {A : Type 0} (s src : List A) (j k m : ℕ) → j ≤ length s → k ≤ length src → j + k ≤ m → drop m (paste s j src k) ≡ drop m s
drop_past_paste s src j k m hj hk h =
    let r : ℕ = m - (j + k) in
    let e : m ≡ j + k + r = omega arith in
    rw e (sym (drop-drop r (j + k) (paste s j src k)) ∙ ap (drop r) (drop-paste s j src k hj hk) ∙ drop-drop r (j + k) s)

-- a copy that ends at m or before it is a copy into the first m
pub take_past_paste : {A : Type 0} (s src : List A) (j k m : ℕ) → m ≤ length s → k ≤ length src → j + k ≤ m
    → take m (paste s j src k) ≡ paste (take m s) j src k
take_past_paste {A} s src j k m hm hk h =
    let b : j + k ≤ length (take m s) = simp length-take (omega arith) in
    ap (λ (l : List A). take m (paste l j src k)) (sym (take-append-drop m s))
    ∙ ap (take m) (paste_append_le (take m s) (drop m s) src j k b)
    ∙ take_at (paste (take m s) j src k) (drop m s) m (length-paste (take m s) j src k b hk ∙ length-take-le m s hm)

-- a copy of k elements and then of m more is a copy of k + m
pub paste_add : {A : Type 0} (s src : List A) (at k m : ℕ) → at ≤ length s → k ≤ length src
    → paste (paste s at src k) (at + k) (drop k src) m ≡ paste s at src (k + m)
paste_add {A} s src at k m hs hk =
    let d : drop (at + k + m) (paste s at src k) ≡ drop (at + (k + m)) s =
    sym (drop-drop m (at + k) (paste s at src k)) ∙ ap (drop m) (drop-paste s at src k hs hk) ∙ drop-drop m (at + k) s
    ∙ ap (λ (n : ℕ). drop n s) (add_assoc at k m) in
    rw (take-paste s at src k hs hk, d, take-add k m src)
    (ap (λ (l : List A). l ++ drop (at + (k + m)) s) (append_assoc (take at s) (take k src) (take m (drop k src))))

-- a store of one element is a copy of one
pub paste_one : {A : Type 0} (s : List A) (at : ℕ) (a : A) → at < length s → paste s at (a ∷ []) 1 ≡ set s at a
paste_one s at a h = rw add-one (append_snoc (take at s) a (drop (suc at) s) ∙ sym (set_split s at a h))

-- ---- a part in the middle: k elements from index j on

module _ {A : Type 0} (j k : ℕ) where
  pub part-append_le : (xs ys : List A) → j + k ≤ length xs → take k (drop j (xs ++ ys)) ≡ take k (drop j xs)
  part-append_le xs ys h =
      let b : j ≤ length xs = omega arith in
      let g : k ≤ length (drop j xs) = simp length-drop (omega arith) in
      rw (drop-append-le j xs ys b, take-append-le k (drop j xs) ys g)

  pub part-take : (m : ℕ) (s : List A) → m ≤ length s → j + k ≤ m → take k (drop j (take m s)) ≡ take k (drop j s)
  part-take m s hm h =
      let b : j + k ≤ length (take m s) = simp length-take (omega arith) in
      sym (part-append_le (take m s) (drop m s) b) ∙ ap (λ (l : List A). take k (drop j l)) (take-append-drop m s)

  pub drop-take-add : (l : List A) → j ≤ length l → drop j (take (j + k) l) ≡ take k (drop j l)
  drop-take-add l h = rw take-add (drop_at (take j l) (take k (drop j l)) j (length-take-le j l h))
