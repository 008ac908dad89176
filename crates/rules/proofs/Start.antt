-- An accepted opening, under the server rules at opening, has the invariant.
use mathlib.Core.Path.{◌≡◌, refl, sym, ap, ◌∙◌, subst}
use mathlib.Core.Bool.{Bool, cond, ◌&&◌}
use mathlib.Core.Option.{Option, none, some, some-injective}
use mathlib.Core.List.{[], ◌∷◌, ◌++◌, append-nil}
use Prim.Native.Nat.{ℕ, ◌-◌, ◌≤◌, ◌<◌}
use native.Mathlib.Omega.{arith}
use lib.ListN.{length, drop, length-append}
use lib.Seq.{drop-length}
use lib.IntN.{ℤ, pos}
use lib.Dec.{leb}
use borrow.Author.Tests.{le-leb, lt-leb, leb-true}
use Rattle.crc32c.specs.Reg.{crc_of}
use Rattle.crc32c.proofs.Join.{crc_none}
use Rattle.rules.specs.Message.{Bytes}
use Rattle.rules.specs.Session.{ReplayChunk, Session}
use Rattle.rules.specs.Respond.{ack}
use Rattle.rules.specs.Opening.{Opening, opened, larger, payload_length, open_sum, open_chunks, open_session, opens}
use Rattle.rules.specs.Server.{Stored}
use Rattle.rules.specs.World.{base_of, ServerAt, start}
use Rattle.rules.specs.Total.{first_taken}
use Rattle.rules.proofs.Tests.{never}
use Rattle.rules.proofs.Lists.{cond_ind, Chain, Acked, ack-chain}
use Rattle.rules.proofs.Accepted.{accepted}
use Rattle.rules.proofs.Inv.{Stock, BufferOK, Inv}

-- ---- the buffer of an accepted opening

-- where P is 0 the sum is that of no bytes
sum-none : (object : Bytes) (sum : Option ℕ) → ((c : ℕ) → sum ≡ some c → c ≡ crc_of object) → (c : ℕ)
    → cond (leb (length object) 0 && leb 0 (length object)) (some 0) sum ≡ some c → c ≡ crc_of object
sum-none [] sum h c e = sym (some-injective 0 c e) ∙ sym crc_none
sum-none (x ∷ xs) sum h c e =
    h c (sym (ap (λ (t : Bool). cond (t && leb 0 (length (x ∷ xs))) (some 0) sum) (lt-leb (length (x ∷ xs)) 0 (omega arith))) ∙ e)

-- as the opening leaves it at the size p
abbrev open_stock : ℕ → Option Bytes → Option ℕ → ℤ → Stock
open_stock limit payload sum p = record {
  limit = limit;
  write_offset = larger p (pos (payload_length payload));
  running_crc32c = open_sum payload p sum;
  held = [];
  persisted_size = p;
  queue = open_chunks payload p;
}

open_buffer : (limit : ℕ) (payload : Option Bytes) (sum : Option ℕ) (object tail : Bytes) → 0 < limit → object ++ tail ≡ base_of payload object
    → (payload ≡ none → (c : ℕ) → sum ≡ some c → c ≡ crc_of object)
    → BufferOK (base_of payload object) (length object) (open_stock limit payload sum (pos (length object)))
    (record { limit = limit; all = base_of payload object; loose = 0; largest = pos (length object) })
open_buffer limit none sum object tail l e s = record {
  limit_is = refl;
  all_is = sym (append-nil object);
  loose_is = refl;
  small = l;
  p_is = refl;
  largest_is = refl;
  within = omega arith;
  chain = refl;
  bytes = sym (drop-length object);
  offset_is = cond_ind (λ (z : ℤ). z ≡ pos (length object)) (leb (length object) 0) (λ f. ap pos (zero_of (leb-true (length object) 0 f))) (λ f. refl);
  sum = sum-none object sum (s refl);
}
  where
    zero_of : length object ≤ 0 → 0 ≡ length object
    zero_of h = omega arith
open_buffer limit (some b) sum object tail l e s =
    let h : length object ≤ length b = omega (arith, ap length e, length-append object tail) in
    let c : ReplayChunk = record { write_offset = pos 0; bytes = b; crc32c = crc_of b } in
    let k : Chain 0 (c ∷ []) (length b) = (refl, refl, omega arith) in
    let a : Acked 0 (length object) (length b) (c ∷ []) (ack (pos (length object)) (c ∷ [])) = ack-chain (c ∷ []) 0 (length object) (length b) k (omega arith) h in
    let q : length object - 0 ≡ length object = omega arith in
    record {
      limit_is = refl;
      all_is = sym (append-nil b);
      loose_is = refl;
      small = l;
      p_is = refl;
      largest_is = refl;
      within = h;
      chain = a.chain;
      bytes = a.bytes ∙ ap (λ (m : ℕ). drop m (b ++ [])) q ∙ ap (drop (length object)) (append-nil b);
      offset_is = ap (λ (t : Bool). cond t (pos (length b)) (pos (length object))) (le-leb (length object) (length b) h);
      sum = λ x f. sym (some-injective (crc_of b) x f);
    }

first_below : (payload : Option Bytes) (object : Bytes) → first_taken payload object ≤ length object
first_below none object = omega arith
first_below (some b) object = omega arith

pub start_inv : (o : Opening) (s : Session) → opens o ≡ opened s → (k : Stored) → ServerAt o k
    → Inv (first_taken o.payload k.object) (start o s k)
unfolding start open_session
start_inv o s a k v =
    let l : 0 < o.limit = (accepted o s a).positive in
    let e : open_session o ≡ s = (accepted o s a).is in
    subst (λ (x : Session). Inv (first_taken o.payload k.object) (start o x k)) e (record {
      K = base_of o.payload k.object;
      p = length k.object;
      since = first_below o.payload k.object;
      steady = refl;
      buffer = subst
          (λ (z : ℤ). BufferOK (base_of o.payload k.object) (length k.object) (open_stock o.limit o.payload o.checksum z)
          (record { limit = o.limit; all = base_of o.payload k.object; loose = 0; largest = z }))
          (sym v.size) (open_buffer o.limit o.payload o.checksum k.object k.tail l v.together v.summed);
      wait = record {
        gone = [];
        todo = [];
        lost = [];
        marks_is = refl;
        count_is = refl;
        gone_ok = tt;
        queue_ok = tt;
        asked = tt;
        none_lost = λ _. refl;
        finals = tt;
        no_held = λ _. refl;
      };
      replays = record { mid = λ g. never (sym g); end = λ g. never (sym g) };
      server = record { rest = []; begins = append-nil (k.object ++ k.tail) ∙ v.together; requests = tt; messages = omega arith };
      flow = record { flows = λ _. record { alive = refl; goal = k.object ++ k.tail; fits = refl; goal_is = λ _. v.together } };
      handed = record { right = tt };
    })
