-- What is at hand for a turn.
use Rattle.std.specs.Prelude.{◌≡◌, ℕ, ◌-◌, ◌≤◌, length, take, drop, Option, IfSome}
use Rattle.rules.specs.Message.{Bytes}
use Rattle.bench_run.specs.Turn.{Ready}
use Rattle.bench_run.specs.declared.turns.Turn.{Turn}

-- bytes of the buffer that begin with those that were at hand, from `at` to `end`
pub record Feeding (t : Turn) (at end : ℕ) (input : Bytes) (from to : ℕ) (input' : Bytes) : Type 0 where
  pub from_in : from ≤ to
  pub inside : to ≤ length input
  pub ready : Ready t (to - from)
  pub more : end - at ≤ to - from
  pub keeps : take (end - at) (drop from input') ≡ take (end - at) (drop at input)

abbrev pub Feeds : Turn → ℕ → ℕ → Bytes → Option (ℕ × ℕ) → Bytes → Type 0
Feeds t at end input r input' = IfSome r (λ p. Feeding t at end input p.0 p.1 input')
