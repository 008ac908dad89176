-- An encoding with all three fields reads back, in whatever order they come.
-- Assumes nothing.
use mathlib.Core.Path.{◌≡◌, refl, ap, ◌∙◌}
use mathlib.Core.Bool.{true}
use mathlib.Core.List.{List, [], ◌∷◌, append-nil}
use mathlib.Core.Option.{some, get_or}
use Prim.Native.Nat.{◌^◌, ◌<◌}
use native.Mathlib.Omega.{arith}
use lib.ListN.{length, length-append}
use lib.IntN.{ℤ}
use mir.Syntax.{w64}
use mir.Val.{SFits}
use mir.Facts.{Fits-of_z, to_z-of_z}
use Rattle.protobuf_format.specs.Reading.{Bytes, Every, end, also}
use Rattle.protobuf_format.specs.Field.{bytes, Field, field, value_bytes, field_bytes, write, Fits}
use Rattle.protobuf_format.specs.Message.{put, put_all, merge}
use Rattle.protobuf_format.proofs.Varint.{groups_of_most}
use Rattle.protobuf_format.proofs.Message.{merge_back}
use Rattle.utf8.specs.Utf8.{utf8}
use Rattle.redirect_format.specs.Redirect.{Redirect, generation, redirect, bare, handle_rows, redirect_rows, read_redirect, token_field, handle_field, generation_field, orders}

-- ---- fields, each with what it makes of a redirect whatever that is

record Sets : Type 0 where
  of : Field
  made : Redirect → Redirect
  fits : Fits of
  puts : (m : Redirect) → put redirect_rows of m ≡ some (made m)

abbrev fields_of : List Sets → List Field
fields_of [] = []
fields_of (f ∷ fs) = f.of ∷ fields_of fs

abbrev made_by : List Sets → Redirect → Redirect
made_by [] m = m
made_by (f ∷ fs) m = made_by fs (f.made m)

all_fit : (fs : List Sets) → Every Fits (fields_of fs)
all_fit [] = end
all_fit (f ∷ fs) = also f.fits (all_fit fs)

puts_all : (fs : List Sets) (m : Redirect) → put_all redirect_rows (fields_of fs) m ≡ some (made_by fs m)
unfolding put_all
puts_all [] m = refl
puts_all (f ∷ fs) m = rw (f.puts m) (puts_all fs (f.made m))

back : (fs : List Sets) → read_redirect (write (fields_of fs)) ≡ some (made_by fs bare)
unfolding read_redirect
back fs = merge_back redirect_rows (fields_of fs) bare (all_fit fs) ∙ puts_all fs bare

-- each of several lists
abbrev each_of : List (List Sets) → List (List Field)
each_of [] = []
each_of (fs ∷ rest) = fields_of fs ∷ each_of rest

each_back : {r : Redirect} {orders : List (List Sets)} → Every (λ fs. made_by fs bare ≡ r) orders → Every (λ fs. read_redirect (write fs) ≡ some r) (each_of orders)
each_back end = end
each_back (also {a} e rest) = also (back a ∙ ap some e) (each_back rest)

-- ---- the three fields

sets_token : (t : Bytes) → utf8 t ≡ true → (m : Redirect) → put redirect_rows (token_field t) m ≡ some (redirect (some t) m.write_handle m.generation)
unfolding put redirect_rows
sets_token t u m = rw u

-- the handle's message, and its length
abbrev handle_bytes : Bytes → Bytes
handle_bytes h = write (field 1 (bytes h) ∷ [])

few : (h : Bytes) → length h < 2 ^ 63 → length (handle_bytes h) < 2 ^ 64
unfolding write field_bytes value_bytes
few h l = rw (append-nil, length-append, length-append) (omega (arith, groups_of_most 10 10, groups_of_most 10 (length h)))

handle_back : (h m : Bytes) → length h < 2 ^ 64 → merge handle_rows (handle_bytes h) m ≡ some h
unfolding put put_all
handle_back h m l = merge_back handle_rows (field 1 (bytes h) ∷ []) m (also (record { low = omega arith; high = omega arith; inside = l }) end)

sets_handle : (h : Bytes) → length h < 2 ^ 63 → (m : Redirect)
    → put redirect_rows (handle_field h) m ≡ some (redirect m.routing_token (some h) m.generation)
unfolding put redirect_rows
sets_handle h l m = rw (handle_back h (get_or m.write_handle []) (omega arith))

sets_generation : (g : ℤ) → SFits w64 g → (m : Redirect)
    → put redirect_rows (generation_field g) m ≡ some (redirect m.routing_token m.write_handle (some (generation g)))
unfolding put redirect_rows
sets_generation g l m = rw (to_z-of_z l)

module _ (t h : Bytes) (g : ℤ) (u : utf8 t ≡ true) (tl : length t < 2 ^ 64) (hl : length h < 2 ^ 63) (gl : SFits w64 g) where
  abbrev token : Sets
  token = record {
    of = token_field t;
    made = λ m. redirect (some t) m.write_handle m.generation;
    fits = record { low = omega arith; high = omega arith; inside = tl };
    puts = sets_token t u;
  }

  abbrev handle : Sets
  handle = record {
    of = handle_field h;
    made = λ m. redirect m.routing_token (some h) m.generation;
    fits = record { low = omega arith; high = omega arith; inside = few h hl };
    puts = sets_handle h hl;
  }

  abbrev numbered : Sets
  numbered = record {
    of = generation_field g;
    made = λ m. redirect m.routing_token m.write_handle (some (generation g));
    fits = record { low = omega arith; high = omega arith; inside = (Fits-of_z gl).fits };
    puts = sets_generation g gl;
  }

  -- whatever order they come in, they make the same
  same : Every (λ fs. made_by fs bare ≡ redirect (some t) (some h) (some (generation g))) (orders token handle numbered)
  same = also refl (also refl (also refl (also refl (also refl (also refl end)))))

  pub redirect_back : Every (λ fs. read_redirect (write fs) ≡ some (redirect (some t) (some h) (some (generation g))))
      (orders (token_field t) (handle_field h) (generation_field g))
  redirect_back = each_back same
