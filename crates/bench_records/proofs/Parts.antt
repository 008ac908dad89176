-- An input that comes in parts: what was read of its front stays, and a front of 65,539 bytes is never cut.
-- Assumes nothing.
use mathlib.Core.Path.{◌≡◌, refl, ◌∙◌}
use mathlib.Core.Bool.{Bool, true, false, cond}
use mathlib.Core.List.{List, [], ◌∷◌, ◌++◌}
use mathlib.Core.Logic.{◌⊎◌, inl, inr, ⊎_elim}
use Prim.Native.Nat.{ℕ, zero, suc, ◌+◌, ◌≤◌, ◌<◌}
use native.Mathlib.Omega.{arith}
use borrow.Author.Tests.{le-leb, leb-true, leb-false}
use lib.ListN.{length, take, drop, length-append, length-drop}
use lib.Seq.{length-take-le, take-append-le, drop-append-le}
use lib.Dec.{leb}
use Rattle.crc32c.specs.Bytes.{Bytes as Octets}
use Rattle.rules.specs.Message.{Bytes}
use Rattle.rules.specs.Basics.{All}
use Rattle.rules.proofs.Lists.{cond_ind}
use Rattle.little_endian.specs.Little.{little}
use Rattle.bench_records.specs.Record.{Record, FL, FI, CL, BR, NX, Reading, whole, cut, unknown, bytes, same, Row, format, after, reading}

-- what is read once b follows
abbrev pub more : Bytes → Reading → Reading
more b (whole r rest) = whole r (rest ++ b)
more b cut = cut
more b unknown = unknown

-- what is not cut stays as it was read; what is cut has fewer than k bytes, where it is known what was read before
pub record Parted (known : Type 0) (k : ℕ) (read : Bytes → Reading) : Type 0 where
  pub stays : (a b : Bytes) → (read a ≡ cut) ⊎ (read (a ++ b) ≡ more b (read a))
  pub fewer : known → (a : Bytes) → Octets a → read a ≡ cut → length a < k

-- ---- fields

of_whole : {known : Type 0} (k : ℕ) (r : Record) → Parted known k (whole r)
of_whole k r = record {
  stays = λ a b. inr refl;
  fewer = λ f a o e. let z : ◌≡◌ {A = ℕ} 0 1 = cc in absurd (omega arith);
}

octets_take : (n : ℕ) (a : Bytes) → Octets a → Octets (take n a)
octets_take zero a o = tt
octets_take (suc n) [] o = tt
octets_take (suc n) (x ∷ a) o = (o.0, octets_take n a o.1)

octets_drop : (n : ℕ) (a : Bytes) → Octets a → Octets (drop n a)
octets_drop zero a o = o
octets_drop (suc n) [] o = tt
octets_drop (suc n) (x ∷ a) o = octets_drop n a o.1

front : (n : ℕ) (then : Bytes → Bytes → Reading) (a b : Bytes) → n ≤ length a → bytes n then (a ++ b) ≡ then (take n a) (drop n a ++ b)
unfolding bytes
front n then a b h =
    let l : n ≤ length (a ++ b) = omega (arith, length-append a b) in
    rw (le-leb n (length (a ++ b)) l, take-append-le n a b h, drop-append-le n a b h)

of_bytes : {known : Type 0} (n j k : ℕ) (then : Bytes → Bytes → Reading) → n + j ≤ k
    → ((x : Bytes) → Parted (known × Octets x × (length x ≡ n)) j (then x))
    → Parted known k (bytes n then)
unfolding bytes
of_bytes n j k then l h = record {
  stays = λ a b. cond_ind (λ (x : Reading). (x ≡ cut) ⊎ (bytes n then (a ++ b) ≡ more b x)) (leb n (length a))
      (λ t. ⊎_elim inl (λ s. inr (front n then a b (leb-true n (length a) t) ∙ s)) ((h (take n a)).stays (drop n a) b))
      (λ t. inl refl);
  fewer = λ f a o. cond_ind (λ (x : Reading). x ≡ cut → length a < k) (leb n (length a))
      (λ t e. omega (arith, length-drop n a, leb-true n (length a) t, (h (take n a)).fewer (f, octets_take n a o, length-take-le n a (leb-true n (length a) t)) (drop n a) (octets_drop n a o) e))
      (λ t e. omega (arith, leb-false n (length a) t));
}

-- the last field
of_last : {known : Type 0} (n k : ℕ) (make : Bytes → Record) → n ≤ k → Parted known k (bytes n (λ b. whole (make b)))
of_last n k make l = of_bytes n 0 k (λ b. whole (make b)) (omega arith) (λ x. of_whole 0 (make x))

-- the last field, of a length that is known to be at most k
of_sized : {known : Type 0} (n k : ℕ) (make : Bytes → Record) → (known → n ≤ k) → Parted known k (bytes n (λ b. whole (make b)))
of_sized {known} n k make l = let p : Parted known n (bytes n (λ b. whole (make b))) = of_last n n make (omega arith) in record {
  stays = p.stays;
  fewer = λ f a o e. omega (arith, l f, p.fewer f a o e);
}

u16-most : (x : Bytes) → Octets x → length x ≡ 2 → little x ≤ 65535
u16-most [] o e = absurd (omega arith)
u16-most (a ∷ []) o e = absurd (omega arith)
u16-most (a ∷ b ∷ []) o e = omega arith
u16-most (a ∷ b ∷ c ∷ x) o e = absurd (omega arith)

-- ---- the format

of_choice : {known : Type 0} (k : ℕ) (t : Bool) {f g : Bytes → Reading} → Parted known k f → Parted known k g → Parted known k (λ rest. cond t (f rest) (g rest))
of_choice k true p q = p
of_choice k false p q = q

of_rows : {known : Type 0} (k : ℕ) (rows : List Row) → All (λ (r : Row). Parted known k r.fields) rows → (mark : Bytes) → Parted known k (after rows mark)
of_rows k [] h mark = record {
  stays = λ a b. inr refl;
  fewer = λ f a o e. let z : ◌≡◌ {A = ℕ} 0 1 = cc in absurd (omega arith);
}
of_rows k (r ∷ rows) h mark = of_choice k (same r.mark mark) h.0 (of_rows k rows h.1 mark)

infixr 5 ◌and◌
◌and◌ : {A B : Type 0} → A → B → A × B
a and b = (a, b)

-- the longest: a mark, a length and 65,535 bytes
pub parted : Parted (Unit {0}) 65539 reading
unfolding reading
parted =
    of_bytes 2 65537 65539 (after format) (omega arith)
    (λ m. of_rows 65537 format
    (of_bytes 2 12 65537 _ (omega arith) (λ c. of_bytes 4 8 12 _ (omega arith) (λ n. of_last 8 8 _ (omega arith)))
    and of_bytes 2 65535 65537 _ (omega arith) (λ n. of_sized (little n) 65535 _ (λ f. u16-most n f.1 f.2))
    and of_whole 65537 FL
    and of_whole 65537 FI
    and of_whole 65537 CL
    and of_last 8 65537 _ (omega arith)
    and of_last 8 65537 _ (omega arith)
    and of_whole 65537 BR
    and of_last 1 65537 _ (omega arith)
    and of_whole 65537 NX
    and tt) m)
