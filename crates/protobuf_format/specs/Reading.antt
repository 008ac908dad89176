-- Bytes, and what a reading of them gives.
use Rattle.std.specs.Prelude.{Bool, true, false, List, [], ◌∷◌, ℕ}
use Rattle.std.proofs.Math.Option.{Option, none, some}

abbrev pub Bytes : Type 0
Bytes = List ℕ

-- a value and the bytes behind it, or none where the bytes are malformed or end too early
abbrev pub Reading : Type 0 → Type 0
Reading A = Option (A × Bytes)

infixl 10 ◌>>=◌
-- `do x ← o; ..` is none where o is
abbrev pub ◌>>=◌ : {A B : Type 0} → Option A → (A → Option B) → Option B
◌>>=◌ none f = none
◌>>=◌ (some a) f = f a

-- a value that stands beside the word whether it is given
abbrev pub given : {A : Type 0} → Bool → A → Option A
given true a = some a
given false a = none

-- P holds of every element
pub data Every {A : Type 0} (P : A → Type 0) : List A → Type 0 where
  end : Every P []
  also : {a : A} {rest : List A} → P a → Every P rest → Every P (a ∷ rest)
