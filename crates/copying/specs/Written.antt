-- What code that writes into a lent buffer promises.
use Rattle.std.specs.Prelude.{◌≡◌, List, ℕ, ◌+◌, length}
use Rattle.std.proofs.lemmas.List.Edits.{sets}

-- b is stored from `at` on, and nothing else changed; `behind` is the place behind it
pub record Written (b before after : List ℕ) (at behind : ℕ) : Type 0 where
  pub place : behind ≡ at + length b
  pub stored : after ≡ sets before at b
