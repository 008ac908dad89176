-- `io::decimal` makes the digits of `decimal`, and there are at most as many as that says.
use mathlib.Core.Path.{◌≡◌, refl, sym}
use mathlib.Core.Bool.{Bool, true, false, cond}
use mathlib.Core.List.{List, [], ◌∷◌, ◌++◌}
use Prim.Native.Nat.{ℕ, zero, suc, ◌+◌, ◌-◌, ◌/◌, ◌%◌, ◌^◌, ◌≤◌, ◌<◌}
use native.Mathlib.Nat.{pow-suc, one-le-pow}
use native.Mathlib.Omega.{arith}
use lib.Dec.{ltb}
use lib.ListN.{length, length-append}
use borrow.Author.Tests.{ltb-true, ltb-false, lt-ltb, le-ltb}
use Rattle.io.specs.Digits.{last_digits, IsDigitCount}
use Rattle.text.specs.Decimal.{decimal, number}

sub-one : (k : ℕ) → suc k - 1 ≡ k
sub-one k = omega arith

small : (k r n : ℕ) → n < 10 → IsDigitCount 10 1 n (suc r) → decimal (suc k) n ≡ last_digits 10 (suc r) n
small k zero n h f = simp (lt-ltb n 10 h, lt-ltb (n % 10) 10 (omega arith))
small k (suc r) n h f = absurd (omega (arith, rw sub-one at (f.2 (omega arith)), pow-suc 10 r, one-le-pow r 10 (omega arith)))

-- from ten on, the digits before the last are those of the tenth
fewer : (r n : ℕ) → 10 ≤ n → IsDigitCount 10 1 n (suc (suc r)) → IsDigitCount 10 1 (n / 10) (suc r)
fewer r n h f = (omega arith, omega (arith, f.1, pow-suc 10 (suc r)), λ l. rw sub-one (omega (arith, pow-suc 10 r, rw sub-one at (f.2 (omega arith)))))

large : (k r n : ℕ) → 10 ≤ n → IsDigitCount 10 1 n (suc r)
    → ((s : ℕ) → IsDigitCount 10 1 (n / 10) (suc s) → decimal (suc k) (n / 10) ≡ last_digits 10 (suc s) (n / 10))
    → decimal (suc (suc k)) n ≡ last_digits 10 (suc r) n
large k zero n h f next = absurd (omega (arith, f.1))
large k (suc r) n h f next = simp (le-ltb n 10 h, next r (fewer r n h f), lt-ltb (n % 10) 10 (omega arith))

either : (t : Bool) (k r n : ℕ) → ltb n 10 ≡ t → IsDigitCount 10 1 n (suc r)
    → ((s : ℕ) → IsDigitCount 10 1 (n / 10) (suc s) → decimal (suc k) (n / 10) ≡ last_digits 10 (suc s) (n / 10))
    → decimal (suc (suc k)) n ≡ last_digits 10 (suc r) n
either true k r n e f next = small (suc k) r n (ltb-true n 10 e) f
either false k r n e f next = large k r n (ltb-false n 10 e) f next

decimal_is : (k r n : ℕ) → n < 10 ^ suc k → IsDigitCount 10 1 n (suc r) → decimal (suc k) n ≡ last_digits 10 (suc r) n
decimal_is zero r n h f = small zero r n (omega arith) f
decimal_is (suc k) r n h f = either (ltb n 10) k r n refl f (λ s g. decimal_is k s (n / 10) (omega (arith, pow-suc 10 (suc k))) g)

pub number_is : (r n : ℕ) → n < 2 ^ 64 → IsDigitCount 10 1 n r → last_digits 10 r n ≡ number n
unfolding number
number_is zero n h f = absurd (omega (arith, f.0))
number_is (suc r) n h f = sym (decimal_is 19 r n (omega arith) f)

-- ---- how many there are

longer : (t : Bool) (k : ℕ) (s : List ℕ) (b : ℕ) → length s ≤ k → length (cond t [] s ++ (b ∷ [])) ≤ suc k
longer true k s b h = omega arith
longer false k s b h = simp length-append (omega arith)

length-decimal : (k n : ℕ) → length (decimal k n) ≤ k
length-decimal zero n = omega arith
length-decimal (suc k) n = longer (ltb n 10) k (decimal k (n / 10)) (48 + n % 10) (length-decimal k (n / 10))

pub length-number : (n : ℕ) → length (number n) ≤ 20
unfolding number
length-number n = length-decimal 20 n
