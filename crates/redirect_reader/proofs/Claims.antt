-- For callers: what `read_redirect` answers, for every slice.
-- Assumes nothing.
use mathlib.Core.Path.{◌≡◌, refl, sym, ap, ◌∙◌, subst}
use mathlib.Core.Bool.{true}
use mathlib.Core.Option.{Option, none, some}
use mathlib.Core.List.{List}
use Rattle.std.specs.Prelude.{Result, Ok, Err}
use Prim.Native.Nat.{◌^◌, ◌<◌}
use lib.ListN.{length}
use lib.IntN.{ℤ}
use mir.Syntax.{w64}
use mir.Val.{SFits}
use Rattle.protobuf_format.specs.Reading.{Bytes, Every, end, also}
use Rattle.protobuf_format.specs.Field.{write}
use Rattle.utf8.specs.Utf8.{utf8}
use Rattle.redirect_format.specs.Redirect.{Redirect, generation, redirect, read_redirect, token_field, handle_field, generation_field, orders}
use Rattle.redirect_format.proofs.Back.{redirect_back}
use Rattle.redirect_reader.specs.Places.{answer_in, Answers}
use Rattle.protobuf_fields.specs.declared.Malformed.{Malformed}
use Rattle.redirect_reader.specs.declared.Seen.{Seen}
use Rattle.redirect_reader.proofs.read_redirect.Statement.{statement}
use Rattle.redirect_reader.proofs.read_redirect.Met.{met}

-- the code's answer, read off the slice, is the reading of the slice (`Answers`). There is no condition on the slice.
pub redirect_reads : {M : Type 1} → statement M
redirect_reads = met

-- ---- malformed exactly where the reading is none

abbrev IsNone : Option Redirect → Type 0
IsNone none = Unit {0}
IsNone (some r) = ⊥

none_malformed : (r : Result Seen Malformed) (s : Bytes) → IsNone (answer_in r s) → r ≡ Err (record {})
none_malformed (Err e) s n = refl
none_malformed (Ok m) s n = absurd n

pub malformed_exactly : (r : Result Seen Malformed) (s : Bytes) → Answers r s (read_redirect s)
    → (r ≡ Err (record {}) → read_redirect s ≡ none) × (read_redirect s ≡ none → r ≡ Err (record {}))
malformed_exactly r s a = (
  λ e. sym a.same ∙ ap (λ (x : Result Seen Malformed). answer_in x s) e,
  λ e. none_malformed r s (subst IsNone (sym (a.same ∙ e)) tt),
)

-- ---- what is written with all three fields, in any order, comes back out of the code

every_mono : {A : Type 0} {P Q : A → Type 0} {l : List A} → Every P l → ((a : A) → P a → Q a) → Every Q l
every_mono end f = end
every_mono (also {a} h rest) f = also (f a h) (every_mono rest f)

pub back_reads : (t h : Bytes) (g : ℤ) → utf8 t ≡ true → length t < 2 ^ 64 → length h < 2 ^ 63 → SFits w64 g
    → Every (λ fs. (r : Result Seen Malformed) → Answers r (write fs) (read_redirect (write fs)) → answer_in r (write fs) ≡ some (redirect (some t) (some h) (some (generation g))))
    (orders (token_field t) (handle_field h) (generation_field g))
back_reads t h g u tl hl gl = every_mono (redirect_back t h g u tl hl gl) (λ fs e r a. a.same ∙ e)
