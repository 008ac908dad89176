-- One element of a ring, put and read.
-- Assumes nothing.
use mathlib.Core.Path.{◌≡◌, sym, ◌∙◌}
use mathlib.Core.List.{List, [], ◌∷◌, ◌++◌}
use Prim.Native.Nat.{ℕ, ◌+◌, ◌<◌, ◌≤◌}
use native.Mathlib.Omega.{arith}
use lib.ListN.{length, drop, set}
use lib.Seq.{set_split, take-set-lt, drop-set-add}
use Rattle.ring.specs.Ring.{ring, part, Within, Written}
use Rattle.ring.proofs.Paste.{paste_one}
use Rattle.ring.proofs.Laws.{length-ring, length_part, part-joined}

-- after one element is put at place `at`
module _ {A : Type 0} (size head at : ℕ) (w : A) (before after : List A) (within : Within (length before) size head at 1)
    (put : Written size head at (w ∷ []) 1 before after) where
  ring-put : ring size head after ≡ set (ring size head before) at w
  ring-put =
      let l : length (ring size head before) ≡ size = length-ring size head before within.room in
      put.inside ∙ paste_one (ring size head before) at w (omega arith)

  -- a range with the place in it has the element there
  pub part-put : (a i n : ℕ) → a + i ≡ at → i < n → part size head a n after ≡ set (part size head a n before) i w
  unfolding part
  part-put a i n e h =
      rw (ring-put, sym e, drop-set-add a (ring size head before) i w) (take-set-lt n (drop a (ring size head before)) i w h)

  -- put at the end of a list of n, it is the list's last
  pub pushed : (n : ℕ) → at ≡ n → part size head 0 (n + 1) after ≡ part size head 0 n before ++ (w ∷ [])
  pushed n e = part-joined size head at (w ∷ []) 1 before after within (omega arith) put 0 n (omega arith)

  -- put at the front of a list of n, it is in the first one's place
  pub front_put : (n : ℕ) → at ≡ 0 → 0 < n → n ≤ size → part size head 0 n after ≡ w ∷ drop 1 (part size head 0 n before)
  front_put n e p h =
      let l : length (part size head 0 n before) ≡ n = length_part size head before within.room 0 n (omega arith) in
      part-put 0 0 n (omega arith) p ∙ set_split (part size head 0 n before) 0 w (omega arith)
