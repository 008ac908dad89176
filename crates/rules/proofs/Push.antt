-- An append repeated until all is taken cuts the same chunks as the crate's `push`, and holds the same bytes afterwards.
use mathlib.Core.Path.{◌≡◌, refl, sym, ap, ◌∙◌}
use mathlib.Core.Bool.{Bool, true, false}
use mathlib.Core.Option.{Option, none, some}
use mathlib.Core.List.{List, [], ◌∷◌, ◌++◌, map, append-nil, map-append}
use Prim.Native.Nat.{ℕ, zero, suc, ◌+◌, ◌-◌, ◌≤◌, ◌<◌}
use native.Mathlib.Omega.{arith}
use lib.ListN.{length, take, drop, length-append, length-take, length-drop}
use lib.Seq.{take-length, drop-length}
use lib.Dec.{leb, ltb}
use borrow.Author.Tests.{leb-true, leb-false, ltb-true, ltb-false}
use Rattle.rules.specs.Message.{Bytes, Request}
use Rattle.rules.specs.Session.{ReplayChunk, Session, append, took, Result, chunks}
use Rattle.rules.specs.Upload.{holds, appends}
use Rattle.rules.specs.Step.{step}
use Rattle.rules.specs.Notes.{accepted}
use Rattle.rules.specs.Push.{sliced, push, taken_by, once, repeated}
use Rattle.rules.proofs.Lists.{cond_ind, choose_ind, unless_ind}

-- a chunk in front of those of a result
abbrev ahead : Bytes → List Bytes × Bytes → List Bytes × Bytes
ahead c r = (c ∷ r.0, r.1)

-- too few bytes for a chunk: all are taken, and held
record Short (limit : ℕ) (held d : Bytes) : Type 0 where
  takes : taken_by limit held d ≡ length d
  cuts : once limit held d ≡ ([], held ++ d)

short : (limit : ℕ) (held d : Bytes) → length held + length d < limit → Short limit held d
unfolding once
short limit held d h =
    let t : taken_by limit held d ≡ length d = omega arith in
    let b : held ++ take (taken_by limit held d) d ≡ held ++ d = ap (λ (n : ℕ). held ++ take n d) t ∙ ap (λ (r : Bytes). held ++ r) (take-length d) in
    record {
      takes = t;
      cuts = cond_ind (λ (r : List Bytes × Bytes). r ≡ ([], held ++ d)) (leb limit (length (held ++ take (taken_by limit held d) d)))
          (λ e. absurd (omega (arith, leb-true, ap length b, length-append held d))) (λ e. ap pair b);
    }
  where
    pair : Bytes → List Bytes × Bytes
    pair r = ([], r)

-- enough: one chunk is cut
record Cut (limit : ℕ) (held d : Bytes) (needed : ℕ) : Type 0 where
  takes : taken_by limit held d ≡ needed
  cuts : once limit held d ≡ ((held ++ take needed d) ∷ [], [])

cut : (limit : ℕ) (held d : Bytes) (needed : ℕ) → length held + needed ≡ limit → needed ≤ length d → Cut limit held d needed
unfolding once
cut limit held d needed h l =
    let t : taken_by limit held d ≡ needed = omega arith in
    let b : held ++ take (taken_by limit held d) d ≡ held ++ take needed d = ap (λ (n : ℕ). held ++ take n d) t in
    record {
      takes = t;
      cuts = cond_ind (λ (r : List Bytes × Bytes). r ≡ ((held ++ take needed d) ∷ [], [])) (leb limit (length (held ++ take (taken_by limit held d) d)))
          (λ e. ap pair b) (λ e. absurd (omega (arith, leb-false, ap length b, length-append held (take needed d), length-take needed d)));
    }
  where
    pair : Bytes → List Bytes × Bytes
    pair r = (r ∷ [], [])

-- nothing is left to take
rest-none : (n limit : ℕ) (held : Bytes) → repeated n limit held [] ≡ ([], held)
unfolding repeated
rest-none zero limit held = refl
rest-none (suc n) limit held = refl

-- one round of the repetition
repeat_short : (n limit : ℕ) (held d : Bytes) → length d ≤ n → length held + length d < limit → repeated n limit held d ≡ ([], held ++ d)
unfolding repeated
repeat_short n limit held [] h l = rest-none n limit held ∙ sym (ap pair (append-nil held))
  where
    pair : Bytes → List Bytes × Bytes
    pair r = ([], r)
repeat_short zero limit held (x ∷ d) h l = absurd (omega arith)
repeat_short (suc n) limit held (x ∷ d) h l =
    let s : Short limit held (x ∷ d) = short limit held (x ∷ d) l in
    rw (s.cuts, s.takes, drop-length (x ∷ d), rest-none n limit (held ++ (x ∷ d)))

repeat_cut : (n limit : ℕ) (held d : Bytes) (needed : ℕ) → length held + needed ≡ limit → 0 < needed → needed ≤ length d
    → repeated (suc n) limit held d ≡ ahead (held ++ take needed d) (repeated n limit [] (drop needed d))
unfolding repeated
repeat_cut n limit held [] needed h m l = absurd (omega arith)
repeat_cut n limit held (x ∷ d) needed h m l =
    let s : Cut limit held (x ∷ d) needed = cut limit held (x ∷ d) needed h l in
    rw (s.cuts, s.takes)

-- with nothing held
slice_short : (m limit : ℕ) (d : Bytes) → length d < limit → sliced m limit d ≡ ([], d)
unfolding sliced
slice_short zero limit d h = refl
slice_short (suc m) limit d h =
    cond_ind (λ (r : List Bytes × Bytes). r ≡ ([], d)) (leb limit (length d)) (λ e. absurd (omega (arith, leb-true))) (λ e. refl)

slice_cut : (m limit : ℕ) (d : Bytes) → limit ≤ length d → sliced (suc m) limit d ≡ ahead (take limit d) (sliced m limit (drop limit d))
unfolding sliced
slice_cut m limit d h =
    cond_ind (λ (r : List Bytes × Bytes). r ≡ ahead (take limit d) (sliced m limit (drop limit d))) (leb limit (length d)) (λ e. refl) (λ e. absurd (omega (arith, leb-false)))

repeat_sliced : (n m limit : ℕ) (d : Bytes) → 0 < limit → length d ≤ n → length d ≤ m → repeated n limit [] d ≡ sliced m limit d
repeat_sliced zero m limit d l h k = repeat_short 0 limit [] d h (omega arith) ∙ sym (slice_short m limit d (omega arith))
repeat_sliced (suc n) zero limit d l h k = repeat_short (suc n) limit [] d h (omega arith) ∙ sym (slice_short 0 limit d (omega arith))
repeat_sliced (suc n) (suc m) limit d l h k = go (leb limit (length d)) refl (repeat_sliced n m limit (drop limit d) l)
  where
    Rest : Type 0
    Rest = length (drop limit d) ≤ n → length (drop limit d) ≤ m → repeated n limit [] (drop limit d) ≡ sliced m limit (drop limit d)

    go : (t : Bool) → leb limit (length d) ≡ t → Rest → repeated (suc n) limit [] d ≡ sliced (suc m) limit d
    go true e rest =
        let a : limit ≤ length d = leb-true _ _ e in
        let q : length (drop limit d) ≡ length d - limit = length-drop limit d in
        repeat_cut n limit [] d limit (omega arith) l a ∙ ap (ahead (take limit d)) (rest (omega arith) (omega arith)) ∙ sym (slice_cut m limit d a)
    go false e rest =
        let a : length d < limit = leb-false _ _ e in
        repeat_short (suc n) limit [] d h (omega arith) ∙ sym (slice_short (suc m) limit d a)

repeat_held : (n limit : ℕ) (held d : Bytes) → 0 < limit → length held < limit → limit - length held ≤ length d → length d ≡ n
    → repeated n limit held d ≡ ahead (held ++ take (limit - length held) d) (sliced n limit (drop (limit - length held) d))
repeat_held zero limit held d l h k e = absurd (omega arith)
repeat_held (suc n) limit held d l h k e =
    let q : length (drop (limit - length held) d) ≡ length d - (limit - length held) = length-drop (limit - length held) d in
    repeat_cut n limit held d (limit - length held) (omega arith) (omega arith) k
    ∙ ap (ahead (held ++ take (limit - length held) d)) (repeat_sliced n (suc n) limit (drop (limit - length held) d) l (omega arith) (omega arith))

pub push-repeated : (limit : ℕ) (held d : Bytes) → 0 < limit → length held < limit → repeated (length d) limit held d ≡ push limit held d
unfolding push
push-repeated limit [] d l h = repeat_sliced (length d) (length d) limit d l (omega arith) (omega arith)
push-repeated limit (x ∷ held) d l h =
    cond_ind (λ (r : List Bytes × Bytes). repeated (length d) limit (x ∷ held) d ≡ r) (ltb (length d) (limit - length (x ∷ held)))
    (λ e. repeat_short (length d) limit (x ∷ held) d (omega arith) (omega (arith, ltb-true)))
    (λ e. repeat_held (length d) limit (x ∷ held) d l h (ltb-false _ _ e) refl)

-- ---- an accepted append of the rules is one such append, and answers how many bytes it took

pub record Once (b : Bytes) (s : Session) (r : Result) : Type 0 where
  pub chunks_are : map ReplayChunk.bytes (chunks r.session) ≡ map ReplayChunk.bytes (chunks s) ++ (once s.limit s.writer.held b).0
  pub held_is : r.session.writer.held ≡ (once s.limit s.writer.held b).1
  pub took_is : (q : Option Request) × (r.answer ≡ took (taken_by s.limit s.writer.held b) q)

record OnceIf (b : Bytes) (s : Session) (r : Result) : Type 0 where
  once_if : accepted r.answer ≡ true → Once b s r

pub append-once : (x : ℕ) (d : Bytes) (out : ℕ) (s : Session) → accepted (step (append (x ∷ d) out) s).answer ≡ true
    → Once (x ∷ d) s (step (append (x ∷ d) out) s)
unfolding step appends holds once
append-once x d out s = all.once_if
  where
    all : OnceIf (x ∷ d) s (step (append (x ∷ d) out) s)
    all =
        unless_ind (OnceIf (x ∷ d) s) s _ _ (λ n. record { once_if = λ e. let z : ◌≡◌ {A = ℕ} 0 1 = cc in absurd (omega arith) })
        (λ t. choose_ind (OnceIf (x ∷ d) s) _ _ _
        (λ e. record { once_if = λ f. record { chunks_are = rw (e, map-append); held_is = rw e; took_is = (some _, refl) } })
        (λ e. record { once_if = λ f. record { chunks_are = rw (e, append-nil); held_is = rw e; took_is = (none, refl) } }))
