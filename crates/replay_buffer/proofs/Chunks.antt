-- The chunks that a table's words cut out of bytes (`chunks_of` of specs/View.antt).
-- Assumes nothing.
use mathlib.Core.Path.{◌≡◌, refl, sym, ap, ◌∙◌}
use mathlib.Core.Option.{none, some}
use mathlib.Core.List.{List, [], ◌∷◌, ◌++◌}
use Prim.Native.Nat.{ℕ, zero, suc, ◌+◌, ◌<◌, ◌≤◌}
use native.Mathlib.Nat.{add-zero, add_assoc, suc-ne-zero, le_of_suc-le-suc, not-suc-le-zero}
use native.Mathlib.Numerals.{add-one}
use native.Mathlib.Omega.{arith}
use lib.IntN.{ℤ, pos}
use lib.ListN.{length, take, drop, get_or, get_elem?, length-drop, take-append-drop}
use lib.Seq.{length-take-le, take-append-le, drop-append-le, take-suc, drop-drop}
use Rattle.rules.specs.Session.{bytes_of}
use Rattle.rules.specs.Respond.{pushed_end}
use Rattle.rules.specs.Basics.{All}
use Rattle.chunk_words.specs.Word.{len_of, sum_of}
use Rattle.replay_buffer.specs.View.{chunks_of, total}

pub length-chunks : (o : ℕ) (ws bs : List ℕ) → length (chunks_of o ws bs) ≡ length ws
length-chunks o [] bs = refl
length-chunks o (w ∷ ws) bs = ap suc (length-chunks (o + len_of w) ws (drop (len_of w) bs))

pub bytes-chunks : (o : ℕ) (ws bs : List ℕ) → total ws ≡ length bs → bytes_of (chunks_of o ws bs) ≡ bs
bytes-chunks o [] [] e = refl
bytes-chunks o [] (b ∷ bs) e = absurd (suc-ne-zero (length bs) (sym e))
bytes-chunks o (w ∷ ws) bs e =
    let r : total ws ≡ length (drop (len_of w) bs) = simp length-drop (omega arith) in
    rw (bytes-chunks (o + len_of w) ws (drop (len_of w) bs) r) (take-append-drop (len_of w) bs)

-- ---- their bytes

pub total-append : (xs ys : List ℕ) → total (xs ++ ys) ≡ total xs + total ys
total-append [] ys = omega arith
total-append (x ∷ xs) ys = omega (arith, total-append xs ys)

module _ (ws : List ℕ) (k : ℕ) (h : k < length ws) where
  pub total-next : total (take (k + 1) ws) ≡ total (take k ws) + len_of (get_or ws k 0)
  total-next = rw (add-one k, take-suc ws k 0 h) (omega (arith, total-append (take k ws) (get_or ws k 0 ∷ [])))

  pub total-within : total (take k ws) + len_of (get_or ws k 0) ≤ total ws
  total-within =
      omega (arith, total-append (take (k + 1) ws) (drop (k + 1) ws), ap total (take-append-drop (k + 1) ws), total-next)

-- ---- the k-th, the last, and one more

pub chunk_at_lem : (o : ℕ) (ws bs : List ℕ) (k : ℕ) → k < length ws
    → get_elem? (chunks_of o ws bs) k
    ≡ some (record { write_offset = pos (o + total (take k ws)); bytes = take (len_of (get_or ws k 0)) (drop (total (take k ws)) bs); crc32c = sum_of (get_or ws k 0) })
chunk_at_lem o [] bs k h = absurd (not-suc-le-zero h)
chunk_at_lem o (w ∷ ws) bs zero h = rw add-zero
chunk_at_lem o (w ∷ ws) bs (suc k) h =
    rw (chunk_at_lem (o + len_of w) ws (drop (len_of w) bs) k (le_of_suc-le-suc h), drop-drop, add_assoc)

pub chunk_none : (o : ℕ) (ws bs : List ℕ) (k : ℕ) → length ws ≤ k → get_elem? (chunks_of o ws bs) k ≡ none
chunk_none o [] bs k h = refl
chunk_none o (w ∷ ws) bs zero h = absurd (not-suc-le-zero h)
chunk_none o (w ∷ ws) bs (suc k) h = chunk_none (o + len_of w) ws (drop (len_of w) bs) k (le_of_suc-le-suc h)

end_from : (o : ℕ) (ws bs : List ℕ) → total ws ≤ length bs → pushed_end (pos o) (chunks_of o ws bs) ≡ pos (o + total ws)
end_from o [] bs h = rw add-zero
end_from o (w ∷ ws) bs h =
    let n : length (take (len_of w) bs) ≡ len_of w = length-take-le (len_of w) bs (omega arith) in
    let r : total ws ≤ length (drop (len_of w) bs) = simp length-drop (omega arith) in
    ap (λ (l : ℕ). pushed_end (pos (o + l)) (chunks_of (o + len_of w) ws (drop (len_of w) bs))) n
    ∙ end_from (o + len_of w) ws (drop (len_of w) bs) r
    ∙ ap pos (add_assoc o (len_of w) (total ws))

pub end-chunks : (z : ℤ) (o : ℕ) (ws bs : List ℕ) → 0 < length ws → total ws ≤ length bs → pushed_end z (chunks_of o ws bs) ≡ pos (o + total ws)
end-chunks z o [] bs l h = absurd (not-suc-le-zero l)
end-chunks z o (w ∷ ws) bs l h = end_from o (w ∷ ws) bs h

-- one word more cuts one chunk more, out of what follows the bytes of the others
pub chunks-more : (o : ℕ) (ws : List ℕ) (w : ℕ) (bs more : List ℕ) → total ws ≡ length bs
    → chunks_of o (ws ++ (w ∷ [])) (bs ++ more)
    ≡ chunks_of o ws bs ++ (record { write_offset = pos (o + total ws); bytes = take (len_of w) more; crc32c = sum_of w } ∷ [])
chunks-more o [] w [] more e = rw add-zero
chunks-more o [] w (b ∷ bs) more e = absurd (suc-ne-zero (length bs) (sym e))
chunks-more o (v ∷ vs) w bs more e =
    let b : len_of v ≤ length bs = omega arith in
    let r : total vs ≡ length (drop (len_of v) bs) = simp length-drop (omega arith) in
    rw (take-append-le (len_of v) bs more b, drop-append-le (len_of v) bs more b, chunks-more (o + len_of v) vs w (drop (len_of v) bs) more r, add_assoc)

-- ---- a property of every word

module _ (Q : ℕ → Type 0) where
  pub all_more : (ws : List ℕ) (w : ℕ) → All Q ws → Q w → All Q (ws ++ (w ∷ []))
  all_more [] w a q = (q, tt)
  all_more (v ∷ vs) w a q = (a.0, all_more vs w a.1 q)

  pub all_drop : (k : ℕ) (ws : List ℕ) → All Q ws → All Q (drop k ws)
  all_drop zero ws a = a
  all_drop (suc k) [] a = tt
  all_drop (suc k) (w ∷ ws) a = all_drop k ws a.1

  pub all_at : (ws : List ℕ) (k d : ℕ) → k < length ws → All Q ws → Q (get_or ws k d)
  all_at [] k d h a = absurd (not-suc-le-zero h)
  all_at (w ∷ ws) zero d h a = a.0
  all_at (w ∷ ws) (suc k) d h a = all_at ws k d (le_of_suc-le-suc h) a.1
