-- The lines that wait to be written.
use Rattle.std.specs.Prelude.{◌≡◌, ◌++◌, ℕ, ◌≤◌, length, take}
use Rattle.rules.specs.Message.{Bytes}

-- a line behind the first bytes of a text: the text up to r
pub record Gathers (text : Bytes) (used : ℕ) (line text' : Bytes) (r : ℕ) : Type 0 where
  pub inside : r ≤ length text
  pub text_is : take r text' ≡ take used text ++ line
