-- Texts cut to what fits a line.
use mathlib.Core.Path.{◌≡◌, refl, sym, ap, ◌∙◌, subst}
use mathlib.Core.List.{List, [], ◌∷◌, ◌++◌, append_assoc, append-nil}
use Prim.Native.Nat.{ℕ, zero, suc, ◌+◌, ◌≤◌, ◌<◌}
use native.Mathlib.Numerals.{add-one}
use native.Mathlib.Omega.{arith}
use lib.ListN.{length, take, set, get_or, length-take, length-append}
use lib.Seq.{take_all, take-append-le, take-suc-set, take-suc}
use Rattle.text.specs.Line.{text_of, clip, Adds}
use Rattle.text.specs.declared.Line.{Line}

-- a text that fits is whole
pub fits : (t : List ℕ) → length t ≤ 96 → clip t ≡ t
unfolding clip
fits t h = take_all 96 t h

-- what stands in a line fits
pub clipped : (n : ℕ) (b : List ℕ) → length b ≡ 96 → clip (take n b) ≡ take n b
clipped n b h = fits (take n b) (simp length-take (omega arith))

take-take-append : (n : ℕ) (s t : List ℕ) → take n (take n s ++ t) ≡ take n (s ++ t)
take-take-append zero s t = refl
take-take-append (suc n) [] t = refl
take-take-append (suc n) (x ∷ s) t = ap (x ∷◌) (take-take-append n s t)

-- cut before and after is cut after
pub joined : (s t : List ℕ) → clip (clip s ++ t) ≡ clip (s ++ t)
unfolding clip
joined s t = take-take-append 96 s t

-- a byte put at the end of a line, and one that does not fit
pub put : (n : ℕ) (b : List ℕ) (x : ℕ) → length b ≡ 96 → n < 96 → take (n + 1) (set b n x) ≡ clip (take n b ++ x ∷ [])
put n b x h l =
    rw add-one (take-suc-set b n x (omega arith) ∙ sym (fits _ (simp (length-append, length-take) (omega arith))))

pub full : (n : ℕ) (b : List ℕ) (x : ℕ) → length b ≡ 96 → 96 ≤ n → take n b ≡ clip (take n b ++ x ∷ [])
unfolding clip
full n b x h l =
    let e : take n b ≡ b = take_all n b (omega arith) in
    rw e (sym (take-append-le 96 b (x ∷ []) (omega arith) ∙ take_all 96 b (omega arith)))

-- a byte more of a text
pub more : (s t : List ℕ) (i : ℕ) → i < length t → clip (clip (s ++ take i t) ++ get_or t i 0 ∷ []) ≡ clip (s ++ take (i + 1) t)
more s t i h =
    joined (s ++ take i t) (get_or t i 0 ∷ []) ∙ ap clip (append_assoc s (take i t) (get_or t i 0 ∷ []) ∙ ap (s ++◌) (rw add-one (sym (take-suc t i 0 h))))

-- one text added after another
infixl 30 ◌⨟◌
pub ◌⨟◌ : {k l m : Line} {t u : List ℕ} → Adds k t l → Adds l u m → Adds k (t ++ u) m
◌⨟◌ {k} {l} {m} {t} {u} p q =
    record { text_is = q.text_is ∙ ap (λ (s : List ℕ). clip (s ++ u)) p.text_is ∙ joined (text_of k ++ t) u ∙ ap clip (append_assoc (text_of k) t u) }

-- the same text in other words
pub reworded : {l r : Line} {t u : List ℕ} → t ≡ u → Adds l t r → Adds l u r
reworded {l} {r} e a = subst (λ (s : List ℕ). Adds l s r) e a

-- a text added that fits
pub whole : {l r : Line} {t : List ℕ} (s : List ℕ) → text_of l ≡ s → length (s ++ t) ≤ 96 → Adds l t r → text_of r ≡ s ++ t
whole {l} {r} {t} s e h a = a.text_is ∙ ap (λ (u : List ℕ). clip (u ++ t)) e ∙ fits (s ++ t) h

-- nothing added
pub same : (l : Line) → length l.bytes ≡ 96 → Adds l [] l
same l h = record { text_is = sym (rw append-nil (clipped l.length l.bytes h)) }
