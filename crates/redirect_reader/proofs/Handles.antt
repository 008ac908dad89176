-- The handle, a field at a time, and a part of a part.
-- Assumes nothing.
use mathlib.Core.Path.{◌≡◌, refl, sym, ap, ◌∙◌}
use mathlib.Core.List.{[], ◌∷◌}
use mathlib.Core.Option.{Option, none, some}
use Rattle.std.specs.Prelude as P
use Rattle.std.specs.Prelude.{Some, None, Result, Ok, Err, IsErr, ◌≢◌}
use Prim.Native.Nat.{ℕ, zero, suc, ◌+◌, ◌-◌, ◌≤◌}
use native.Mathlib.Omega.{arith}
use borrow.Author.Tests.{ne_eqb}
use lib.ListN.{length, take, drop}
use lib.Seq.{drop-drop, take-nil, take-take}
use Rattle.protobuf_format.specs.Reading.{Bytes, ◌>>=◌}
use Rattle.protobuf_format.specs.Message.{put, merge}
use Rattle.redirect_format.specs.Redirect.{handle_rows}
use Rattle.protobuf_fields.specs.declared.Malformed.{Malformed}
use Rattle.protobuf_fields.specs.declared.Part.{Part}
use Rattle.protobuf_fields.specs.declared.Field.{Field}
use Rattle.protobuf_reader.specs.Steps.{Steps}
use Rattle.redirect_reader.specs.Places.{PartFits}
use Rattle.redirect_reader.specs.Fields.{bytes_of, held_in, handle_in, Holds, Handles, Nests}
use Rattle.redirect_reader.proofs.Merges.{is_bytes, no_bytes, found_fits, merge_end, merge_stop, merge_on}

-- ---- a field

module _ (p : P.Option Part) (f : Field) where
  pub skipped : f.number ≢ 1 → Holds (Ok p) p f
  unfolding put
  skipped l = record { same = λ s old. rw (ne_eqb 1 f.number (λ e. l (sym e))); fits = λ end a b. a }

  pub taken : (q : Part) → f.number ≡ 1 → Ok q ≡ bytes_of f.value → Holds (Ok (Some q)) p f
  unfolding put
  taken q n e = let v = is_bytes f.value q e in record { same = λ s old. rw (n, v); fits = λ end a b. rw v at b }

  pub not_taken : (r : Result (P.Option Part) Malformed) (e : Malformed) → IsErr r → f.number ≡ 1 → Err e ≡ bytes_of f.value → Holds r p f
  unfolding put
  not_taken (Ok x) e i n h = cc
  not_taken (Err x) e i n h = record { same = λ s old. rw n (no_bytes f.value e (λ b h. some b) s (held_in s p old) h); fits = λ end a b. tt }

-- ---- the loop

-- what is left, merged into what is held, is the message
pub record Holding (s : Bytes) (p : P.Option Part) (at : ℕ) : Type 0 where
  pub fits : PartFits p (length s)
  pub left : (old : Bytes) → merge handle_rows (drop at s) (held_in s p old) ≡ merge handle_rows s old

pub holding_start : (s : Bytes) → Holding s None 0
holding_start s = record { fits = tt; left = λ old. refl }

handles_none : (r : Result (P.Option Part) Malformed) (s : Bytes) → IsErr r → ((old : Bytes) → none ≡ merge handle_rows s old) → Handles r s
handles_none (Ok x) s i h = cc
handles_none (Err x) s i h = record { same = h; fits = tt }

module _ {s : Bytes} {p : P.Option Part} {at : ℕ} (inv : Holding s p at) where
  pub holding_end : Steps (Ok None) s at → Handles (Ok p) s
  holding_end t = record { same = λ old. sym (merge_end handle_rows s at (held_in s p old) t) ∙ inv.left old; fits = inv.fits }

  pub holding_malformed : (r : Result (P.Option Part) Malformed) (e : Malformed) → IsErr r → Steps (Err e) s at → Handles r s
  holding_malformed r e i t = handles_none r s i (λ old. sym (merge_stop handle_rows s at (held_in s p old) e t) ∙ inv.left old)

  module _ {f : Field} (t : Steps (Ok (Some f)) s at) where
    turned : (r : Result (P.Option Part) Malformed) → Holds r p f → (old : Bytes)
        → (handle_in r s old >>= λ h. merge handle_rows (drop f.next s) h) ≡ merge handle_rows s old
    turned r d old =
        ap (λ (o : Option Bytes). o >>= λ h. merge handle_rows (drop f.next s) h) (d.same s old)
        ∙ sym (merge_on handle_rows s at (held_in s p old) f t)
        ∙ inv.left old

    pub holding_stop : (r : Result (P.Option Part) Malformed) (e : Malformed) → IsErr r → Holds (Err e) p f → Handles r s
    holding_stop r e i d = handles_none r s i (turned (Err e) d)

    pub holding_on : {q : P.Option Part} → Holds (Ok q) p f → Holding s q f.next
    holding_on {q} d = record { fits = d.fits (length s) inv.fits (found_fits s at f t); left = turned (Ok q) d }

-- ---- a part of a part

drop-take : (p k : ℕ) (x : Bytes) → drop p (take (p + k) x) ≡ take k (drop p x)
drop-take zero k x =
    let e : 0 + k ≡ k = omega arith in
    rw e
drop-take (suc p) k [] = rw (take-nil (suc p + k), take-nil k)
drop-take (suc p) k (b ∷ x) =
    let e : suc p + k ≡ suc (p + k) = omega arith in
    rw e (drop-take p k x)

inner : (s : Bytes) (i l p q : ℕ) → p + q ≤ l → take q (drop (i + p) s) ≡ take q (drop p (take l (drop i s)))
inner s i l p q h =
    let e : l ≡ p + (l - p) = omega arith in
    let f : q ≤ l - p = omega arith in
    sym
    (ap (λ (n : ℕ). take q (drop p (take n (drop i s)))) e
    ∙ ap (λ (x : Bytes). take q x) (drop-take p (l - p) (drop i s))
    ∙ take-take q (l - p) (drop p (drop i s)) f
    ∙ ap (λ (x : Bytes). take q x) (drop-drop p i s))

module _ (message : Part) where
  pub nested_own : (p : Part) (old : P.Option Part) → PartFits (Some p) message.len
      → Nests (Some (record { start = message.start + p.start; len = p.len })) (Some p) old message
  nested_own p old f =
      record { same = λ s. ap (λ (x : Bytes). some x) (inner s message.start message.len p.start p.len f); fits = λ end g o. omega (arith, f, g) }

  pub nested_old : (o : Part) → Nests (Some o) None (Some o) message
  nested_old o = record { same = λ s. refl; fits = λ end f g. g }

  pub nested_none : Nests (Some (record { start = 0; len = 0 })) None None message
  nested_none = record { same = λ s. refl; fits = λ end f g. omega arith }
