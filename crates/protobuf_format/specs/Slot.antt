-- A field as it is written: a plain one is absent at its default, a present optional one is written whatever its value.
use Rattle.std.specs.Prelude.{Bool, true, false, List, [], ◌∷◌, ℕ, zero, suc}
use Rattle.std.proofs.Math.Option.{Option, none, some}
use Rattle.protobuf_format.specs.Reading.{Bytes}
use Rattle.protobuf_format.specs.Field.{Value, int, bytes, Field, field}

abbrev pub plain_int : ℕ → ℕ → List Field
plain_int number zero = []
plain_int number (suc n) = field number (int (suc n)) ∷ []

abbrev pub plain_bool : ℕ → Bool → List Field
plain_bool number false = []
plain_bool number true = field number (int 1) ∷ []

abbrev pub plain_bytes : ℕ → Bytes → List Field
plain_bytes number [] = []
plain_bytes number (b ∷ rest) = field number (bytes (b ∷ rest)) ∷ []

abbrev pub optional : {A : Type 0} → ℕ → (A → Value) → Option A → List Field
optional number f none = []
optional number f (some a) = field number (f a) ∷ []
