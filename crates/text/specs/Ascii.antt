-- A text as bytes: the ASCII codes of its letters.
use Rattle.std.specs.Prelude.{List, [], ◌∷◌, ℕ}
use Prim.Native.Char.{code}
use Prim.Native.String.{String, [] as ε, ◌∷◌ as ◌⊲◌}

abbrev pub ascii : String → List ℕ
ascii ε = []
ascii (c ⊲ s) = code c ∷ ascii s
