-- A range of the ring as straight runs of the lent list: one up to the ring's end, and one from its start.
-- Assumes nothing.
use mathlib.Core.Path.{◌≡◌, refl, sym, ap, ap₂, ◌∙◌}
use mathlib.Core.List.{List, [], ◌∷◌, ◌++◌, append_assoc, append-nil}
use mathlib.Core.Logic.{⊎_elim}
use Prim.Native.Nat.{ℕ, ◌+◌, ◌-◌, ◌<◌, ◌≤◌, min}
use native.Mathlib.Nat.{add-zero}
use native.Mathlib.Omega.{arith}
use lib.ListN.{length, take, drop, get_or, set, length-drop}
use lib.Seq.{paste, paste-zero, length-paste, length-take-le, get_or-take, get_or-drop, take_at, drop-append-add, drop-drop}
use borrow.Rule.Slice.PartMut.{put_mid}
use Rattle.ring.specs.Ring.{wrapped, ring, part, Within, Written}
use Rattle.ring.proofs.Paste.{take_past_paste, drop_past_paste, part-take, paste_one}
use Rattle.ring.proofs.Rot.{lt_or_ge, wrapped_is, wrapped_lt, rot_paste, part-rot}
use Rattle.ring.proofs.Laws.{part-add, written-add, get_d_part}

-- a range starts in the ring, or at its end
pub from_le : (lent size head at n : ℕ) → Within lent size head at n → wrapped size (head + at) ≤ size
from_le lent size head at n w = ⊎_elim (λ x. omega (arith, w, x)) (λ x. omega (arith, w, x)) (wrapped_is size (head + at))

-- a range that does not pass the ring's end is one run
module _ {A : Type 0} (size head at k : ℕ) (s : List A) (w : Within (length s) size head at k) (b : wrapped size (head + at) + k ≤ size) where
  long : length (take size s) ≡ size
  long = length-take-le size s w.room

  straight : head + at < size → head + at + k ≤ size
  straight h = ⊎_elim (λ x. omega (arith, x)) (λ x. omega (arith, x)) (wrapped_is size (head + at))

  pub run_read : part size head at k s ≡ take k (drop (wrapped size (head + at)) s)
  unfolding part
  run_read =
      part-rot size head at k (take size s) long w.starts w.ends straight ∙ part-take (wrapped size (head + at)) k size s w.room b

  pub run_written : (src : List A) → k ≤ length src → Written size head at src k s (paste s (wrapped size (head + at)) src k)
  run_written src hk =
      let from : ℕ = wrapped size (head + at) in
      let p : from ≤ length s = omega (arith, w) in
      record {
        inside = rw (take_past_paste s src from k size w.room hk b) (rot_paste size head at k (take size s) long w.starts w.ends straight src hk);
        beyond = drop_past_paste s src from k size p hk b;
      }

-- any range is two runs, the second from the ring's start on, and empty where the first is all
module _ {A : Type 0} (size head at n from k : ℕ) (s : List A) (w : Within (length s) size head at n) (f : from ≡ wrapped size (head + at)) (e : k ≡ min n (size - from)) where
  b : from ≤ size
  b = rw f (from_le (length s) size head at n w)

  w₁ : Within (length s) size head at k
  w₁ = record { room = w.room; starts = w.starts; ends = omega (arith, w) }

  b₁ : wrapped size (head + at) + k ≤ size
  b₁ = rw (sym f) (omega (arith, b))

  again : k < n → wrapped size (head + (at + k)) ≡ 0
  again h =
      ⊎_elim
      (λ x. ⊎_elim (λ y. omega (arith, w, x, y)) (λ y. omega (arith, w, x, y)) (wrapped_is size (head + (at + k))))
      (λ x. omega (arith, w, x))
      (wrapped_is size (head + at))

  pub runs_read : part size head at n s ≡ take k (drop from s) ++ take (n - k) s
  runs_read =
      ⊎_elim
      (λ (h : k < n). let w₂ : Within (length s) size head (at + k) (n - k) = record { room = w.room; starts = w.starts; ends = omega (arith, w) } in
      let b₂ : wrapped size (head + (at + k)) + (n - k) ≤ size = rw (again h) (omega (arith, w)) in
      let m : k + (n - k) ≡ n = omega arith in
      ap (λ (j : ℕ). part size head at j s) (sym m)
      ∙ part-add size head s at k (n - k) (at + k) refl
      ∙ ap₂ (λ (x y : List A). x ++ y)
      (run_read size head at k s w₁ b₁ ∙ ap (λ (j : ℕ). take k (drop j s)) (sym f))
      (run_read size head (at + k) (n - k) s w₂ b₂ ∙ ap (λ (j : ℕ). take (n - k) (drop j s)) (again h)))
      (λ (g : n ≤ k). let m : k ≡ n = omega arith in
      let z : n - k ≡ 0 = omega arith in
      rw (z, append-nil (take k (drop from s)))
      (ap (λ (j : ℕ). part size head at j s) (sym m) ∙ run_read size head at k s w₁ b₁ ∙ ap (λ (j : ℕ). take k (drop j s)) (sym f)))
      (lt_or_ge k n)

  pub runs-written : (src s₁ s₂ : List A) → n ≤ length src → s₁ ≡ paste s from src k → s₂ ≡ paste s₁ 0 (drop k src) (n - k)
      → Written size head at src n s s₂
  runs-written src s₁ s₂ hn e₁ e₂ =
      let hk : k ≤ length src = omega arith in
      let one : Written size head at src k s s₁ = rw (e₁, f) (run_written size head at k s w₁ b₁ src hk) in
      ⊎_elim
      (λ (h : k < n). let l : length s₁ ≡ length s = ap length e₁ ∙ length-paste s from src k (omega (arith, b, w)) hk in
      let w₂ : Within (length s₁) size head (at + k) (n - k) = record { room = omega (arith, w); starts = w.starts; ends = omega (arith, w) } in
      let b₂ : wrapped size (head + (at + k)) + (n - k) ≤ size = rw (again h) (omega (arith, w)) in
      let r : n - k ≤ length (drop k src) = simp length-drop (omega arith) in
      let m : k + (n - k) ≡ n = omega arith in
      let p : s₂ ≡ paste s₁ (wrapped size (head + (at + k))) (drop k src) (n - k) = rw (again h) e₂ in
      let two : Written size head (at + k) (drop k src) (n - k) s₁ s₂ = rw p (run_written size head (at + k) (n - k) s₁ w₂ b₂ (drop k src) r) in
      rw m at (written-add size head at src k (n - k) s s₁ s₂ w₁ hk one two))
      (λ (g : n ≤ k). let m : k ≡ n = omega arith in
      let z : n - k ≡ 0 = omega arith in
      let p : s₂ ≡ s₁ = e₂ ∙ ap (λ (j : ℕ). paste s₁ 0 (drop k src) j) z ∙ sym (paste-zero s₁ 0 (drop k src)) in
      rw p (rw m at one))
      (lt_or_ge k n)

-- a run that is put into a list from `at` on
pub run_put : {A : Type 0} (d src : List A) (at k m : ℕ) → m ≡ k → put_mid at m d src ≡ take at d ++ src ++ drop (at + k) d
run_put d src at k m e = rw (e, drop-drop k at d) (sym (append_assoc (take at d) src (drop (at + k) d)))

-- two runs to the front of a list
pub runs_out : {A : Type 0} (r₁ r₂ o : List A) (k n : ℕ) → length r₁ ≡ k → k ≤ n → put_mid k (n - k) (r₁ ++ drop k o) r₂ ≡ r₁ ++ r₂ ++ drop n o
runs_out r₁ r₂ o k n l h =
    let m : k + (n - k) ≡ length r₁ + (n - k) = omega arith in
    let q : k + (n - k) ≡ n = omega arith in
    let u : drop (k + (n - k)) (r₁ ++ drop k o) ≡ drop n o =
    ap (λ (j : ℕ). drop j (r₁ ++ drop k o)) m ∙ drop-append-add r₁ (drop k o) (n - k) ∙ drop-drop (n - k) k o ∙ ap (λ (j : ℕ). drop j o) q in
    run_put (r₁ ++ drop k o) r₂ k (n - k) (n - k) refl ∙ rw (take_at r₁ (drop k o) k l, u) refl

-- one element
module _ {A : Type 0} (size head at : ℕ) (s : List A) (w : Within (length s) size head at 1) where
  -- where it stands
  pub place_lt : wrapped size (head + at) < size
  place_lt = wrapped_lt size (head + at) (omega (arith, w))

  pub element_read : (d : A) → get_or (ring size head s) at d ≡ get_or s (wrapped size (head + at)) d
  element_read d =
      let p : wrapped size (head + at) + 1 ≤ size = omega (arith, place_lt) in
      let z : 0 < 1 = omega arith in
      ap (λ (j : ℕ). get_or (ring size head s) j d) (sym (add-zero at))
      ∙ sym (get_d_part size head s at 1 0 d z)
      ∙ ap (λ (l : List A). get_or l 0 d) (run_read size head at 1 s w p)
      ∙ get_or-take 1 (drop (wrapped size (head + at)) s) 0 d z
      ∙ get_or-drop (wrapped size (head + at)) s 0 d
      ∙ ap (λ (j : ℕ). get_or s j d) (add-zero (wrapped size (head + at)))

  pub element_written : (a : A) → Written size head at (a ∷ []) 1 s (set s (wrapped size (head + at)) a)
  element_written a =
      let p : wrapped size (head + at) + 1 ≤ size = omega (arith, place_lt) in
      let l : wrapped size (head + at) < length s = omega (arith, place_lt, w) in
      rw (sym (paste_one s (wrapped size (head + at)) a l)) (run_written size head at 1 s w p (a ∷ []) (omega arith))
