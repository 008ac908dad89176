-- The redirect, a field at a time.
-- Assumes nothing.
use mathlib.Core.Path.{◌≡◌, refl, sym, ap, ◌∙◌}
use mathlib.Core.Bool.{true, false}
use mathlib.Core.List.{[]}
use mathlib.Core.Option.{Option, none, some, get_or}
use Rattle.std.specs.Prelude as P
use Rattle.std.specs.Prelude.{Some, None, Result, Ok, Err, IsErr, ◌≢◌}
use Prim.Native.Nat.{ℕ}
use native.Mathlib.Omega.{arith}
use borrow.Author.Tests.{ne_eqb}
use lib.ListN.{length, drop, length-drop}
use lib.Seq.{length-take-le}
use Rattle.protobuf_format.specs.Reading.{Bytes, ◌>>=◌}
use Rattle.protobuf_format.specs.Message.{put, merge}
use Rattle.utf8.specs.Utf8.{utf8}
use Rattle.redirect_format.specs.Redirect.{Redirect, redirect, set_token, set_handle, set_generation, redirect_rows, read_redirect}
use Rattle.protobuf_fields.specs.Found.{bytes_in, field_in}
use Rattle.protobuf_fields.specs.declared.Malformed.{Malformed}
use Rattle.protobuf_fields.specs.declared.Part.{Part}
use Rattle.protobuf_fields.specs.declared.Field.{Field}
use Rattle.protobuf_reader.specs.Steps.{Steps}
use Rattle.redirect_reader.specs.Places.{part_in, seen_in, PartFits, SeenFits, answer_in, Answers}
use Rattle.redirect_reader.specs.Fields.{int_of, bytes_of, HandleFits, Handles, Nests}
use Rattle.redirect_reader.specs.declared.Seen.{Seen}
use Rattle.redirect_reader.proofs.Merges.{is_int, is_bytes, no_int, no_bytes, merge_end, merge_stop, merge_on}

abbrev seen_of : P.Option Part → P.Option Part → P.Option ℕ → Seen
seen_of t h g = record { token = t; handle = h; generation = g }

pub refused : (r : Result Seen Malformed) (s : Bytes) (o : Option Redirect) → IsErr r → none ≡ o → Answers r s o
refused (Ok x) s o i e = cc
refused (Err x) s o i e = record { same = e; fits = tt }

-- ---- a field, by its number and wire type

module _ (s : Bytes) (m : Seen) (f : Field) (r : Result Seen Malformed) where
  pub token_field : (p : Part) → f.number ≡ 1 → Ok p ≡ bytes_of f.value
      → Answers r s (set_token (bytes_in s p) (seen_in s m)) → Answers r s (put redirect_rows (field_in f s) (seen_in s m))
  unfolding put redirect_rows
  token_field p n e a = rw (n, is_bytes f.value p e) a

  pub handle_field : (p : Part) → f.number ≡ 2 → Ok p ≡ bytes_of f.value
      → Answers r s (set_handle (bytes_in s p) (seen_in s m)) → Answers r s (put redirect_rows (field_in f s) (seen_in s m))
  unfolding put redirect_rows
  handle_field p n e a = rw (n, is_bytes f.value p e) a

  pub token_malformed : (e : Malformed) → IsErr r → f.number ≡ 1 → Err e ≡ bytes_of f.value → Answers r s (put redirect_rows (field_in f s) (seen_in s m))
  unfolding put redirect_rows
  token_malformed e i n h = refused r s _ i (rw n (no_bytes f.value e set_token s (seen_in s m) h))

  pub handle_malformed : (e : Malformed) → IsErr r → f.number ≡ 2 → Err e ≡ bytes_of f.value → Answers r s (put redirect_rows (field_in f s) (seen_in s m))
  unfolding put redirect_rows
  handle_malformed e i n h = refused r s _ i (rw n (no_bytes f.value e set_handle s (seen_in s m) h))

  pub generation_malformed : (e : Malformed) → IsErr r → f.number ≡ 3 → Err e ≡ int_of f.value → Answers r s (put redirect_rows (field_in f s) (seen_in s m))
  unfolding put redirect_rows
  generation_malformed e i n h = refused r s _ i (rw n (no_int f.value e set_generation s (seen_in s m) h))

module _ (s : Bytes) (m : Seen) (f : Field) where
  pub generation_field : (g : ℕ) → f.number ≡ 3 → Ok g ≡ int_of f.value → SeenFits m (length s)
      → Answers (Ok (seen_of m.token m.handle (Some g))) s (put redirect_rows (field_in f s) (seen_in s m))
  unfolding put redirect_rows
  generation_field g n e h = record { same = rw (n, is_int f.value g e); fits = h }

  pub other_field : f.number ≢ 1 → f.number ≢ 2 → f.number ≢ 3 → SeenFits m (length s) → Answers (Ok m) s (put redirect_rows (field_in f s) (seen_in s m))
  unfolding put redirect_rows
  other_field a b c h =
      record { same = rw (ne_eqb 1 f.number (λ e. a (sym e)), ne_eqb 2 f.number (λ e. b (sym e)), ne_eqb 3 f.number (λ e. c (sym e))); fits = h }

-- ---- a field of bytes, in their place

module _ (s : Bytes) (m : Seen) (p : Part) where
  pub token_put : true ≡ utf8 (bytes_in s p) → PartFits (Some p) (length s) → SeenFits m (length s)
      → Answers (Ok (seen_of (Some p) m.handle m.generation)) s (set_token (bytes_in s p) (seen_in s m))
  token_put u h f = record { same = rw (← u); fits = (h, f.1) }

  pub token_refused : false ≡ utf8 (bytes_in s p) → Answers (Err (record {})) s (set_token (bytes_in s p) (seen_in s m))
  token_refused u = record { same = rw (← u); fits = tt }

  pub handle_fits : (g : Result (P.Option Part) Malformed) → PartFits (Some p) (length s) → Handles g (bytes_in s p) → HandleFits g p.len
  handle_fits g h f = rw (length-take-le p.len (drop p.start s) (omega (arith, h, length-drop p.start s))) at f.fits

  pub handle_none : (r : Result Seen Malformed) (e : Malformed) → IsErr r → Handles (Err e) (bytes_in s p)
      → Answers r s (set_handle (bytes_in s p) (seen_in s m))
  handle_none r e i h =
      refused r s _ i
      (ap (λ (o : Option Bytes). o >>= λ x. some (redirect (part_in s m.token) (some x) (seen_in s m).generation)) (h.same (get_or (part_in s m.handle) [])))

  pub handle_put : (q r : P.Option Part) → PartFits (Some p) (length s) → SeenFits m (length s) → Handles (Ok q) (bytes_in s p) → Nests r q m.handle p
      → Answers (Ok (seen_of m.token r m.generation)) s (set_handle (bytes_in s p) (seen_in s m))
  handle_put q r f g h n = record {
    same =
        ap (λ (o : Option Bytes). some (redirect (part_in s m.token) o (seen_in s m).generation)) (n.same s)
        ∙ ap (λ (o : Option Bytes). o >>= λ x. some (redirect (part_in s m.token) (some x) (seen_in s m).generation)) (h.same (get_or (part_in s m.handle) []));
    fits = (g.0, n.fits (length s) f g.1);
  }

-- ---- the loop

-- what is left, merged into what was seen, is the redirect
pub record Going (s : Bytes) (m : Seen) (at : ℕ) : Type 0 where
  pub fits : SeenFits m (length s)
  pub left : merge redirect_rows (drop at s) (seen_in s m) ≡ read_redirect s

pub going_start : (s : Bytes) → Going s (seen_of None None None) 0
unfolding read_redirect
going_start s = record { fits = (tt, tt); left = refl }

module _ {s : Bytes} {m : Seen} {at : ℕ} (inv : Going s m at) where
  pub going_end : Steps (Ok None) s at → Answers (Ok m) s (read_redirect s)
  going_end t = record { same = sym (merge_end redirect_rows s at (seen_in s m) t) ∙ inv.left; fits = inv.fits }

  pub going_malformed : (r : Result Seen Malformed) (e : Malformed) → IsErr r → Steps (Err e) s at → Answers r s (read_redirect s)
  going_malformed r e i t = refused r s _ i (sym (merge_stop redirect_rows s at (seen_in s m) e t) ∙ inv.left)

  module _ {f : Field} (t : Steps (Ok (Some f)) s at) where
    turned : (r : Result Seen Malformed) → Answers r s (put redirect_rows (field_in f s) (seen_in s m))
        → (answer_in r s >>= λ n. merge redirect_rows (drop f.next s) n) ≡ read_redirect s
    turned r d =
        ap (λ (o : Option Redirect). o >>= λ n. merge redirect_rows (drop f.next s) n) d.same
        ∙ sym (merge_on redirect_rows s at (seen_in s m) f t)
        ∙ inv.left

    pub going_stop : (r : Result Seen Malformed) (e : Malformed) → IsErr r → Answers (Err e) s (put redirect_rows (field_in f s) (seen_in s m))
        → Answers r s (read_redirect s)
    going_stop r e i d = refused r s _ i (turned (Err e) d)

    pub going_on : {n : Seen} → Answers (Ok n) s (put redirect_rows (field_in f s) (seen_in s m)) → Going s n f.next
    going_on {n} d = record { fits = d.fits; left = turned (Ok n) d }
