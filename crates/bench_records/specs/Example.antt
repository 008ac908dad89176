-- Records, computed.
use Rattle.std.specs.Prelude.{◌≡◌, refl, [], ◌∷◌, ◌++◌, pos, negsuc}
use Rattle.text.specs.Ascii.{ascii}
use Rattle.bench_records.specs.Record.{OP, RS, whole, cut, unknown, bytes, reading}

-- document 01's opening, with a flush behind it: "OP 4, 9, 0"
opening :
    reading (ascii "OP" ++ (4 ∷ 0 ∷ 9 ∷ 0 ∷ 0 ∷ 0 ∷ 0 ∷ 0 ∷ 0 ∷ 0 ∷ 0 ∷ 0 ∷ 0 ∷ 0 ∷ ascii "FL"))
    ≡ whole (OP 4 9 (pos 0)) (ascii "FL")
unfolding bytes reading
opening = refl

-- a size below zero
minus_two : reading (ascii "RS" ++ (254 ∷ 255 ∷ 255 ∷ 255 ∷ 255 ∷ 255 ∷ 255 ∷ 255 ∷ [])) ≡ whole (RS (negsuc 1)) []
unfolding bytes reading
minus_two = refl

-- 257 bytes announced, and one there
cut-append : reading (ascii "AP" ++ (1 ∷ 1 ∷ 97 ∷ [])) ≡ cut
unfolding bytes reading
cut-append = refl

no_mark : reading (ascii "XX") ≡ unknown
unfolding bytes reading
no_mark = refl
