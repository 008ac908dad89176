-- Varints: what is written reads back, and whatever reads as n has as many bytes as the shortest form of n, or more.
-- Assumes nothing.
use mathlib.Core.Path.{◌≡◌, sym, ap, ◌∙◌}
use mathlib.Core.List.{[], ◌∷◌, ◌++◌}
use mathlib.Core.Option.{some}
use Prim.Native.Nat.{ℕ, zero, suc, ◌+◌, ◌*◌, ◌/◌, ◌%◌, ◌^◌, ◌≤◌, ◌<◌}
use native.Mathlib.Nat.{pow-succ'}
use native.Mathlib.Omega.{arith}
use borrow.Author.Tests.{lt-ltb, le-ltb, ltb-true}
use lib.ListN.{length}
use lib.Dec.{ltb}
use Rattle.protobuf_format.specs.Reading.{Bytes, ◌>>=◌}
use Rattle.protobuf_format.specs.Varint.{groups, varint, groups_of, varint_of}
use Rattle.protobuf_format.proofs.Partial.{All, nothing, one, all_cond, all_then, either}

-- ---- the two cases of writer and reader

few : (k n : ℕ) → n < 128 → groups_of (suc k) n ≡ n ∷ []
unfolding groups_of
few k n h = rw (lt-ltb n 128 h)

many : (k n : ℕ) → 128 ≤ n → groups_of (suc k) n ≡ (128 + n % 128) ∷ groups_of k (n / 128)
unfolding groups_of
many k n h = rw (le-ltb n 128 h)

pub last : (k b : ℕ) (input : Bytes) → b < 128 → groups (suc k) (b ∷ input) ≡ some (b, input)
unfolding groups
last k b input h = rw (lt-ltb b 128 h)

pub more : (k b : ℕ) (input : Bytes) → 128 ≤ b → groups (suc k) (b ∷ input) ≡ (groups k input >>= λ (n, rest). some (b % 128 + 128 * n, rest))
unfolding groups
more k b input h = rw (le-ltb b 128 h)

-- ---- written, then read

groups_back : (k n : ℕ) (rest : Bytes) → n < 128 ^ suc k → groups (suc k) (groups_of (suc k) n ++ rest) ≡ some (n, rest)
groups_back zero n rest h = rw (few 0 n (omega arith)) (last 0 n rest (omega arith))
groups_back (suc k) n rest h =
    either n 128 (λ l. rw (few (suc k) n l) (last (suc k) n rest l))
    (λ l.
    let rec = groups_back k (n / 128) rest (omega (arith, pow-succ' 128 (suc k))) in
    rw (many (suc k) n l, more (suc k) (128 + n % 128) (groups_of (suc k) (n / 128) ++ rest) (omega arith), rec)
    (ap (λ (m : ℕ). some (m, rest)) (omega arith)))

pub varint_back : (n : ℕ) (rest : Bytes) → n < 2 ^ 64 → varint (varint_of n ++ rest) ≡ some (n, rest)
unfolding varint
varint_back n rest h = rw (groups_back 9 n rest (omega arith), lt-ltb n (2 ^ 64) h)

-- ---- the writer's laws, without its bound of ten groups

groups_of_same : (k n : ℕ) → n < 128 ^ suc k → groups_of (suc k) n ≡ groups_of (suc (suc k)) n
groups_of_same zero n h = few 0 n (omega arith) ∙ sym (few 1 n (omega arith))
groups_of_same (suc k) n h =
    either n 128 (λ l. few (suc k) n l ∙ sym (few (suc (suc k)) n l))
    (λ l.
    rw (many (suc k) n l, many (suc (suc k)) n l)
    (ap (λ (t : Bytes). (128 + n % 128) ∷ t) (groups_of_same k (n / 128) (omega (arith, pow-succ' 128 (suc k))))))

pub varint_of_few : (n : ℕ) → n < 128 → varint_of n ≡ n ∷ []
varint_of_few = few 9

pub varint_of-many : (n : ℕ) → 128 ≤ n → n < 2 ^ 64 → varint_of n ≡ (128 + n % 128) ∷ varint_of (n / 128)
varint_of-many n l h = many 9 n l ∙ ap (λ (t : Bytes). (128 + n % 128) ∷ t) (groups_of_same 8 (n / 128) (omega arith))

-- ---- lengths of shortest forms

pub length_few : (n : ℕ) → n < 128 → length (varint_of n) ≡ 1
length_few n h = ap length (varint_of_few n h)

pub length-many : (n : ℕ) → 128 ≤ n → n < 2 ^ 64 → length (varint_of n) ≡ suc (length (varint_of (n / 128)))
length-many n l h = ap length (varint_of-many n l h)

pub groups_of_pos : (k n : ℕ) → 1 ≤ length (groups_of (suc k) n)
groups_of_pos k n = either n 128 (λ l. rw (few k n l) (omega arith)) (λ l. rw (many k n l) (omega arith))

pub groups_of_most : (k n : ℕ) → length (groups_of k n) ≤ k
unfolding groups_of
groups_of_most zero n = omega arith
groups_of_most (suc k) n =
    either n 128 (λ l. rw (few k n l) (omega arith)) (λ l. rw (many k n l) (omega (arith, groups_of_most k (n / 128))))

groups_of_suc : (k n : ℕ) → length (groups_of (suc k) n) ≤ suc (length (groups_of k (n / 128)))
groups_of_suc k n = either n 128 (λ l. rw (few k n l) (omega arith)) (λ l. rw (many k n l) (omega arith))

groups_of_mono : (k a b : ℕ) → a ≤ b → length (groups_of k a) ≤ length (groups_of k b)
unfolding groups_of
groups_of_mono zero a b h = omega arith
groups_of_mono (suc k) a b h =
    either a 128 (λ l. rw (few k a l) (groups_of_pos k b))
    (λ l. rw (many k a l, many k b (omega arith)) (omega (arith, groups_of_mono k (a / 128) (b / 128) (omega arith))))

groups_of_fuel : (k n : ℕ) → length (groups_of k n) ≤ length (groups_of (suc k) n)
unfolding groups_of
groups_of_fuel zero n = omega arith
groups_of_fuel (suc k) n =
    either n 128 (λ l. rw (few k n l, few (suc k) n l) (omega arith))
    (λ l. rw (many k n l, many (suc k) n l) (omega (arith, groups_of_fuel k (n / 128))))

pub varint_of_mono : (a b : ℕ) → a ≤ b → length (varint_of a) ≤ length (varint_of b)
varint_of_mono = groups_of_mono 10

-- the length of a sum needs at most one byte more than the lengths of its parts
pub varint_of-sum : (a b : ℕ) → length (varint_of (a + b)) ≤ length (varint_of a) + length (varint_of b) + 1
varint_of-sum a b =
    either a b
    (λ l. omega (arith, groups_of_suc 9 (a + b), groups_of_mono 9 ((a + b) / 128) b (omega arith), groups_of_fuel 9 b))
    (λ l. omega (arith, groups_of_suc 9 (a + b), groups_of_mono 9 ((a + b) / 128) a (omega arith), groups_of_fuel 9 a))

-- ---- whatever reads as n is as long as its shortest form

-- a group put in front of m
front : (b m : ℕ) → (b % 128 + 128 * m) / 128 ≡ m
front b m = omega arith

groups-least : (k : ℕ) (input : Bytes) → All (λ r. length (groups_of k r.0) + length r.1 ≤ length input) (groups k input)
unfolding groups
groups-least zero input = nothing
groups-least (suc k) [] = nothing
groups-least (suc k) (b ∷ input) =
    all_cond (ltb b 128) (λ e. one (rw (few k b (ltb-true b 128 e)) (omega arith)))
    (λ e.
    all_then (groups-least k input) (λ r h.
    one (omega (arith, rw front at (groups_of_suc k (b % 128 + 128 * r.0))))))

pub varint-least : (input : Bytes) → All (λ r. length (varint_of r.0) + length r.1 ≤ length input) (varint input)
unfolding varint
varint-least input =
    all_then (groups-least 10 input) (λ r h. all_cond (ltb r.0 (2 ^ 64)) (λ e. one h) (λ e. nothing))
