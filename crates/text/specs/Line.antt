-- The text of a line in the making.
use Rattle.std.specs.Prelude.{◌≡◌, List, ◌++◌, ℕ, take}
use Rattle.text.specs.declared.Line.{Line}

abbrev pub text_of : Line → List ℕ
text_of l = take l.length l.bytes

-- what of a text fits a line
unfoldable pub clip : List ℕ → List ℕ
clip t = take 96 t

-- the line r is the line l with a text after it, as far as that fits
pub record Adds (l : Line) (t : List ℕ) (r : Line) : Type 0 where
  pub text_is : text_of r ≡ clip (text_of l ++ t)
