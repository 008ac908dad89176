-- A varint, a group at a time: what each answer of the code says of the bytes.
-- Assumes nothing.
use mathlib.Core.Path.{◌≡◌, refl, sym, ap, ◌∙◌}
use mathlib.Core.Bool.{cond}
use mathlib.Core.List.{[]}
use mathlib.Core.Option.{none, some}
use Rattle.std.specs.Prelude.{Result, Ok, Err, IsErr}
use Prim.Native.Nat.{ℕ, zero, suc, ◌+◌, ◌*◌, ◌-◌, ◌%◌, ◌^◌, ◌≤◌, ◌<◌}
use native.Mathlib.Numerals.{add-one}
use native.Mathlib.Omega.{arith}
use borrow.Author.Tests.{lt-ltb, le-ltb}
use lib.Dec.{ltb}
use lib.ListN.{length, get_or, drop, drop_of_length-le}
use lib.Seq.{drop-cons}
use Rattle.protobuf_format.specs.Reading.{Bytes, Reading, ◌>>=◌}
use Rattle.protobuf_format.specs.Varint.{groups}
use Rattle.protobuf_format.proofs.Partial.{either}
use Rattle.protobuf_format.proofs.Varint.{last, more}
use Rattle.protobuf_fields.specs.Got.{Reads}
use Rattle.protobuf_fields.specs.Parts.{small, more_of}
use Rattle.protobuf_fields.specs.declared.Malformed.{Malformed}

-- ---- malformed

pub refused : (r : Result (ℕ × ℕ) Malformed) (s : Bytes) (at : ℕ) (o : Reading ℕ) → IsErr r → none ≡ o → Reads r s at o
refused (Ok x) s at o i e = cc
refused (Err x) s at o i e = record { same = e; ahead = tt }

groups_nil : (k : ℕ) → groups k [] ≡ none
unfolding groups
groups_nil zero = refl
groups_nil (suc k) = refl

pub none_left : (s : Bytes) (at k : ℕ) → k ≡ 0 → Reads (Err (record {})) s at (small (groups k (drop at s)))
unfolding groups
none_left s at k e = record { same = rw e; ahead = tt }

pub no_byte : (s : Bytes) (at k : ℕ) → length s ≤ at → Reads (Err (record {})) s at (small (groups k (drop at s)))
no_byte s at k h = record { same = rw (drop_of_length-le s h, groups_nil k); ahead = tt }

-- ---- a byte

pub last_byte : (s : Bytes) (at k b : ℕ) → 0 < k → at < length s → b ≡ get_or s at 0 → b < 128
    → Reads (Ok (b, at + 1)) s at (small (groups k (drop at s)))
last_byte s at zero b p h e l = absurd (omega arith)
last_byte s at (suc k) b p h e l =
    record {
      same = rw (drop-cons s at 0 h, ← e, last k b (drop (suc at) s) l, lt-ltb b (2 ^ 64) (omega arith), add-one at);
      ahead = (omega arith, omega arith);
    }

-- b in front of what follows
grows : (b : ℕ) (o : Reading ℕ) → small (o >>= λ (n, rest). some (b % 128 + 128 * n, rest))
    ≡ (small o >>= λ (n, rest). cond (ltb n (2 ^ 57)) (some (b % 128 + 128 * n, rest)) none)
grows b none = refl
grows b (some (n, rest)) =
    either n (2 ^ 57)
    (λ l. rw (lt-ltb n (2 ^ 64) (omega arith), lt-ltb (b % 128 + 128 * n) (2 ^ 64) (omega arith), lt-ltb n (2 ^ 57) l))
    (λ g.
    rw (le-ltb (b % 128 + 128 * n) (2 ^ 64) (omega arith))
    (either n (2 ^ 64) (λ l. rw (lt-ltb n (2 ^ 64) l, le-ltb n (2 ^ 57) g)) (λ h. rw (le-ltb n (2 ^ 64) h))))

-- a byte that says that another follows
module _ (s : Bytes) (at k b : ℕ) (h : at < length s) (e : b ≡ get_or s at 0) (g : 128 ≤ b) where
  follows : (o : Reading ℕ) → o ≡ small (groups k (drop (at + 1) s))
      → small (groups (suc k) (drop at s)) ≡ (o >>= λ (n, rest). cond (ltb n (2 ^ 57)) (some (b % 128 + 128 * n, rest)) none)
  follows o f = rw (drop-cons s at 0 h, ← e, more k b (drop (suc at) s) g, grows b (groups k (drop (suc at) s)), f, add-one at)

  below : (n next : ℕ) → n < 2 ^ 57 → Reads (Ok (n, next)) s (at + 1) (small (groups k (drop (at + 1) s)))
      → Reads (Ok (b % 128 + 128 * n, next)) s at (small (groups (suc k) (drop at s)))
  below n next l r = record {
    same = sym (rw (lt-ltb n (2 ^ 57) l) at (follows (some (n, drop next s)) r.same));
    ahead = (omega (arith, r.ahead.0), r.ahead.1);
  }

one_less : (k : ℕ) (s : Bytes) → small (groups (suc k - 1) s) ≡ small (groups k s)
one_less k s = ap (λ (i : ℕ). small (groups i s)) (omega arith)

-- the number behind that byte, then what it makes with it
module _ (s : Bytes) (at : ℕ) where
  pub none_behind : (k b : ℕ) (r : Result (ℕ × ℕ) Malformed) (x : Malformed) → 0 < k → at < length s → b ≡ get_or s at 0 → 128 ≤ b → IsErr r
      → Reads (Err x) s (at + 1) (small (groups (k - 1) (drop (at + 1) s))) → Reads r s at (small (groups k (drop at s)))
  none_behind zero b r x p h e g i f = absurd (omega arith)
  none_behind (suc k) b r x p h e g i f = refused r s at _ i (sym (follows s at k b h e g none (f.same ∙ one_less k (drop (at + 1) s))))

  pub too_high : (k b n next : ℕ) (r : Result (ℕ × ℕ) Malformed) (x : Malformed) → 0 < k → at < length s → b ≡ get_or s at 0 → 128 ≤ b → IsErr r
      → Reads (Ok (n, next)) s (at + 1) (small (groups (k - 1) (drop (at + 1) s))) → Err x ≡ more_of b n → Reads r s at (small (groups k (drop at s)))
  too_high zero b n next r x p h e g i f m = absurd (omega arith)
  too_high (suc k) b n next r x p h e g i f m =
      either n (2 ^ 57)
      (λ l. absurd (let q : ◌≡◌ {A = Result ℕ Malformed} (Err x) (Ok (b % 128 + 128 * n)) = rw (lt-ltb n (2 ^ 57) l) at m in cc))
      (λ l. refused r s at _ i (sym (rw (le-ltb n (2 ^ 57) l) at (follows s at k b h e g (some (n, drop next s)) (f.same ∙ one_less k (drop (at + 1) s))))))

  pub more_byte : (k b m n next : ℕ) → 0 < k → at < length s → b ≡ get_or s at 0 → 128 ≤ b
      → Reads (Ok (n, next)) s (at + 1) (small (groups (k - 1) (drop (at + 1) s))) → Ok m ≡ more_of b n → Reads (Ok (m, next)) s at (small (groups k (drop at s)))
  more_byte zero b m n next p h e g f q = absurd (omega arith)
  more_byte (suc k) b m n next p h e g f q =
      either n (2 ^ 57)
      (λ l.
      let z : m ≡ b % 128 + 128 * n = (let y : ◌≡◌ {A = Result ℕ Malformed} (Ok m) (Ok (b % 128 + 128 * n)) = rw (lt-ltb n (2 ^ 57) l) at q in cc) in
      rw z (below s at k b h e g n next l (record { same = f.same ∙ one_less k (drop (at + 1) s); ahead = f.ahead })))
      (λ l. absurd (let y : ◌≡◌ {A = Result ℕ Malformed} (Ok m) (Err (record {})) = rw (le-ltb n (2 ^ 57) l) at q in cc))
