-- A ring: the first `size` elements of a lent list, read from the place `head` on and round the end.
-- What is lent beyond `size` is no part of it.
use Rattle.std.specs.Prelude.{◌≡◌, cond, List, ◌++◌, ℕ, ◌+◌, ◌-◌, ◌≤◌, ltb, take, drop}
use Rattle.std.proofs.Math.Seq.{paste}

-- `at`, less n where it is not below n
abbrev pub wrapped : ℕ → ℕ → ℕ
wrapped n at = cond (ltb at n) at (at - n)

-- the list from h on, and then what stands before h
unfoldable pub rot : {A : Type 0} → ℕ → List A → List A
rot h s = drop h s ++ take h s

-- the ring's elements, that at head first
abbrev pub ring : {A : Type 0} → ℕ → ℕ → List A → List A
ring size head s = rot head (take size s)

-- the n elements of the ring from place `at` on, counted from head
unfoldable pub part : {A : Type 0} → ℕ → ℕ → ℕ → ℕ → List A → List A
part size head at n s = take n (drop at (ring size head s))

-- the n places from `at` on, counted from head, lie in a ring of `size` among `lent` elements
pub record Within (lent size head at n : ℕ) : Type 0 where
  pub room : size ≤ lent
  pub starts : head ≤ size
  pub ends : at + n ≤ size

-- `after` is `before` with the first n elements of src at the ring's places `at`, `at + 1`, .., counted from head;
-- every other place of the ring, and what is lent beyond it, is as it was
pub record Written {A : Type 0} (size head at : ℕ) (src : List A) (n : ℕ) (before after : List A) : Type 0 where
  pub inside : ring size head after ≡ paste (ring size head before) at src n
  pub beyond : drop size after ≡ drop size before
