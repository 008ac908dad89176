-- What each change of the server and its connection does to the server's part of the invariant.
use mathlib.Core.Path.{◌≡◌, refl, sym, ap, ◌∙◌, subst}
use mathlib.Core.Bool.{Bool, true, false, ◌&&◌}
use mathlib.Core.Option.{Option, none, some, some-injective, none-ne-some}
use mathlib.Core.List.{List, [], ◌∷◌, ◌++◌, append_assoc, append-nil}
use Prim.Native.Nat.{ℕ, zero, suc, ◌≤◌}
use native.Mathlib.Omega.{arith}
use lib.ListN.{length, take, drop, length-append, take-append-drop}
use lib.IntN.{ℤ, pos, negsuc}
use lib.Dec.{eqb}
use borrow.Author.Tests.{eqb-true}
use Rattle.crc32c.specs.Reg.{crc_of}
use Rattle.rules.specs.Basics.{All}
use Rattle.rules.specs.Message.{Bytes, ChecksummedData, Request, Response, size_of}
use Rattle.rules.specs.Session.{ReplayChunk}
use Rattle.rules.specs.Upload.{chunk_request}
use Rattle.rules.specs.Server.{Server, set_requests, set_messages, loses, on_link, on_stored, cut_off, connects, is_at, is_sum, takes_chunk, takes_finish, takes_one, takes_next, persists, Told, alone, in_resource, says}
use Rattle.rules.specs.World.{sending}
use Rattle.rules.proofs.Tests.{never, clash, and_left, and_right}
use Rattle.rules.proofs.Lists.{cond_ind, all_map, all_append, split_left, Slice, slice_grow, Part}
use Rattle.rules.proofs.Inv.{Right, RightIf, HandedOK, AtLeast, least, Ascends, ServerOK}

-- ---- requests

-- more chunked bytes, while no finalise was sent
pub right_grow : {K : Bytes} {sent : Bool} (x : Bytes) → sent ≡ false → (r : Request) → Right K sent r → Right (K ++ x) sent r
right_grow x e r h = record { chunk = λ d f. slice_grow x (h.chunk d f); finish = λ f. clash (h.finish f).0 e }

pub right_sent : {K : Bytes} {sent sent' : Bool} → (sent ≡ true → sent' ≡ true) → (r : Request) → Right K sent r → Right K sent' r
right_sent f r h = record { chunk = h.chunk; finish = λ e. (f (h.finish e).0, (h.finish e).1) }

-- one that neither has data nor finishes
pub right_bare : {K : Bytes} {sent : Bool} (r : Request) → r.checksummed_data ≡ none → r.finish_write ≡ false → Right K sent r
right_bare r e f = record { chunk = λ d g. absurd (none-ne-some d (sym e ∙ g)); finish = λ g. clash g f }

-- a chunk's request
pub right_chunk : {K : Bytes} {sent : Bool} (c : ReplayChunk) (flushes : Bool) → Part K c → Right K sent (chunk_request c flushes)
right_chunk {K} c flushes h = record {
  chunk = λ d e. subst (λ (x : ChecksummedData). Slice K c.write_offset x.content x.crc32c) (some-injective _ d e) h;
  finish = λ e. never (sym e);
}

-- those handed out: one more, none more, more chunked bytes, finalise sent
module _ {K : Bytes} {sent : Bool} {rs : List Request} where
  pub handed-one : (r : Request) → Right K sent r → HandedOK K sent rs → HandedOK K sent (rs ++ (r ∷ []))
  handed-one r u h = record { right = all_append (Right K sent) rs (r ∷ []) h.right (u, tt) }

  pub handed-none : HandedOK K sent rs → HandedOK K sent (rs ++ [])
  handed-none h = record { right = all_append (Right K sent) rs [] h.right tt }

  pub handed_grow : (x : Bytes) → sent ≡ false → HandedOK K sent rs → HandedOK (K ++ x) sent rs
  handed_grow x e h = record { right = all_map (Right K sent) (Right (K ++ x) sent) (right_grow x e) rs h.right }

  pub handed_sent : {sent' : Bool} → (sent ≡ true → sent' ≡ true) → HandedOK K sent rs → HandedOK K sent' rs
  handed_sent {sent'} f h = record { right = all_map (Right K sent) (Right K sent') (right_sent f) rs h.right }

-- ---- messages

least-up : (n : ℕ) (o : Option ℤ) → AtLeast n o → n ≤ least n o
least-up n none h = omega arith
least-up n (some (pos m)) h = h
least-up n (some (negsuc m)) h = absurd h

pub ascends_le : (ms : List Response) (low high : ℕ) (final : Bool) → Ascends low ms high final → low ≤ high
ascends_le [] low high final h = h
ascends_le (m ∷ ms) low high final h =
    omega (arith, least-up low (size_of m.write_status) h.0, ascends_le ms (least low (size_of m.write_status)) high final h.2)

ascends_up : (ms : List Response) (low high high' : ℕ) (final final' : Bool) → high ≤ high' → (final ≡ true → final' ≡ true)
    → Ascends low ms high final → Ascends low ms high' final'
ascends_up [] low high high' final final' l f h = omega arith
ascends_up (m ∷ ms) low high high' final final' l f h =
    (h.0, (λ e. f (h.1 e)), ascends_up ms (least low (size_of m.write_status)) high high' final final' l f h.2)

at-least_down : (a b : ℕ) → a ≤ b → (o : Option ℤ) → AtLeast b o → AtLeast a o
at-least_down a b l none h = tt
at-least_down a b l (some (pos m)) h = omega arith
at-least_down a b l (some (negsuc m)) h = h

pub ascends_down : (ms : List Response) (low low' high : ℕ) (final : Bool) → low ≤ low' → Ascends low' ms high final → Ascends low ms high final
ascends_down [] low low' high final l h = omega arith
ascends_down (m ∷ ms) low low' high final l h =
    (at-least_down low low' l (size_of m.write_status) h.0, h.1, go (size_of m.write_status) (ascends_down ms low low' high final l) h.2)
  where
    go : (o : Option ℤ) → (Ascends low' ms high final → Ascends low ms high final) → Ascends (least low' o) ms high final → Ascends (least low o) ms high final
    go none ih k = ih k
    go (some (pos n)) ih k = k
    go (some (negsuc n)) ih k = ih k

-- the first message is gone
pub ascends_tail : (m : Response) (ms : List Response) (low high : ℕ) (final : Bool) → Ascends low (m ∷ ms) high final → Ascends low ms high final
ascends_tail m ms low high final h = ascends_down ms low _ high final (least-up low (size_of m.write_status) h.0) h.2

ascends_append : (ms ns : List Response) (low high : ℕ) (final : Bool) → Ascends low ms high final → Ascends high ns high final → Ascends low (ms ++ ns) high final
ascends_append [] ns low high final h k = ascends_down ns low high high final h k
ascends_append (m ∷ ms) ns low high final h k = (h.0, h.1, ascends_append ms ns (least low (size_of m.write_status)) high final h.2 k)

ascends_take : (n : ℕ) (ms : List Response) (low high : ℕ) (final : Bool) → Ascends low ms high final → Ascends low (take n ms) high final
ascends_take zero ms low high final h = ascends_le ms low high final h
ascends_take (suc n) [] low high final h = h
ascends_take (suc n) (m ∷ ms) low high final h = (h.0, h.1, ascends_take n ms (least low (size_of m.write_status)) high final h.2)

said : (t : Option Told) (handle : Option Bytes) (v : Server) → Ascends (length v.stored.object) (says t handle v.stored ∷ []) (length v.stored.object) v.stored.finalised
said none handle v = (tt, (λ e. never (sym e)), omega arith)
said (some alone) handle v = (omega arith, (λ e. never (sym e)), omega arith)
said (some (in_resource g marked)) handle v = (omega arith, and_right marked v.stored.finalised, omega arith)

-- what is on its way, and one more
pub says_ascends : (t : Option Told) (handle : Option Bytes) (low : ℕ) (v : Server) → Ascends low v.link.messages (length v.stored.object) v.stored.finalised
    → Ascends low (v.link.messages ++ (says t handle v.stored ∷ [])) (length v.stored.object) v.stored.finalised
says_ascends t handle low v h = ascends_append v.link.messages (says t handle v.stored ∷ []) low (length v.stored.object) v.stored.finalised h (said t handle v)

-- ---- the session grows, or sends finalise

pub server_grow : {K : Bytes} {p : ℕ} {sent : Bool} {v : Server} (x : Bytes) → sent ≡ false → ServerOK K p sent v → ServerOK (K ++ x) p sent v
server_grow {K} {sent} {v} x e s = record {
  rest = s.rest ++ x;
  begins = sym (append_assoc (v.stored.object ++ v.stored.tail) s.rest x) ∙ ap (λ (r : Bytes). r ++ x) s.begins;
  requests = all_map (Right K sent) (Right (K ++ x) sent) (right_grow x e) v.link.requests s.requests;
  messages = s.messages;
}

pub server_sent : {K : Bytes} {p : ℕ} {sent sent' : Bool} {v : Server} → (sent ≡ true → sent' ≡ true) → ServerOK K p sent v → ServerOK K p sent' v
server_sent {K} {sent} {sent'} {v} f s = record {
  rest = s.rest;
  begins = s.begins;
  messages = s.messages;
  requests = all_map (Right K sent) (Right K sent') (right_sent f) v.link.requests s.requests;
}

-- ---- the connection

pub server_sends : {K : Bytes} {p : ℕ} {sent : Bool} {v : Server} (could : Bool) (o : Option Request) → RightIf K sent o → ServerOK K p sent v
    → ServerOK K p sent (on_link (sending could o) v)
server_sends could none u s = s
server_sends {K} {sent} {v} true (some r) u s = record {
  rest = s.rest;
  begins = s.begins;
  messages = s.messages;
  requests = cond_ind (All (Right K sent)) v.link.alive (λ e. all_append (Right K sent) v.link.requests (r ∷ []) s.requests (u, tt)) (λ e. s.requests);
}
server_sends false (some r) u s = record { rest = s.rest; begins = s.begins; messages = s.messages; requests = s.requests }

pub server_loses : {K : Bytes} {p : ℕ} {sent : Bool} {v : Server} → ServerOK K p sent v → ServerOK K p sent (on_link loses v)
server_loses s = record { rest = s.rest; begins = s.begins; messages = s.messages; requests = s.requests }

-- other messages, from another size on
pub server_messages : {K : Bytes} {p n : ℕ} {sent : Bool} {v : Server} (ms : List Response) → Ascends n ms (length v.stored.object) v.stored.finalised
    → ServerOK K p sent v → ServerOK K n sent (on_link (set_messages ms) v)
server_messages ms h s = record { rest = s.rest; begins = s.begins; messages = h; requests = s.requests }

pub server_connects : {K : Bytes} {p : ℕ} {sent : Bool} {v : Server} → ServerOK K p sent v → ServerOK K (length v.stored.object) sent (connects v)
server_connects {v} s = record {
  rest = v.stored.tail ++ s.rest;
  requests = tt;
  messages = omega arith;
  begins = ap (λ (r : Bytes). r ++ (v.stored.tail ++ s.rest)) (append-nil v.stored.object) ∙ sym (append_assoc v.stored.object v.stored.tail s.rest) ∙ s.begins;
}

pub server_cut : {K : Bytes} {p : ℕ} {sent : Bool} {v : Server} (bytes had : ℕ) → ServerOK K p sent v → ServerOK K p sent (cut_off bytes had v)
server_cut {p} {v} bytes had s = record {
  rest = drop bytes v.stored.tail ++ s.rest;
  requests = tt;
  messages = ascends_take had v.link.messages p (length v.stored.object) v.stored.finalised s.messages;
  begins = sym (append_assoc (v.stored.object ++ take bytes v.stored.tail) (drop bytes v.stored.tail) s.rest)
      ∙ ap (λ (r : Bytes). r ++ s.rest) (append_assoc v.stored.object (take bytes v.stored.tail) (drop bytes v.stored.tail) ∙ ap (λ (r : Bytes). v.stored.object ++ r) (take-append-drop bytes v.stored.tail))
      ∙ s.begins;
}

-- ---- what the server does

pub server_persists_lem : {K : Bytes} {p : ℕ} {sent : Bool} {v : Server} (n : ℕ) → ServerOK K p sent v → ServerOK K p sent (on_stored (persists n) v)
server_persists_lem {p} {v} n s =
    let l : length v.stored.object ≤ length (v.stored.object ++ take n v.stored.tail) = omega (arith, length-append v.stored.object (take n v.stored.tail)) in
    record {
      rest = s.rest;
      requests = s.requests;
      messages = ascends_up v.link.messages p (length v.stored.object) _ v.stored.finalised v.stored.finalised l (λ e. e) s.messages;
      begins = ap (λ (r : Bytes). r ++ s.rest) (append_assoc v.stored.object (take n v.stored.tail) (drop n v.stored.tail) ∙ ap (λ (r : Bytes). v.stored.object ++ r) (take-append-drop n v.stored.tail))
          ∙ s.begins;
    }

at_true : (z : ℤ) (n : ℕ) (b : Bytes) → z ≡ pos n → is_at z b ≡ true → n ≡ length b
at_true z n b e h = eqb-true n (length b) (subst (λ (x : ℤ). is_at x b ≡ true) e h)

server_chunk : {K : Bytes} {p : ℕ} {sent : Bool} {v : Server} (at : ℤ) (d : ChecksummedData) (bytes had : ℕ) → Slice K at d.content d.crc32c
    → ServerOK K p sent v → ServerOK K p sent (takes_chunk at d bytes had v)
server_chunk {K} {p} {sent} {v} at d bytes had u s =
    cond_ind (ServerOK K p sent) (is_at at (v.stored.object ++ v.stored.tail) && eqb d.crc32c (crc_of d.content)) joins (λ e. server_cut bytes had s)
  where
    joins : (is_at at (v.stored.object ++ v.stored.tail) && eqb d.crc32c (crc_of d.content)) ≡ true → ServerOK K p sent (record {
      stored = record { object = v.stored.object; tail = v.stored.tail ++ d.content; finalised = v.stored.finalised };
      link = v.link;
    })
    joins e =
        let l : length u.before ≡ length (v.stored.object ++ v.stored.tail) = at_true at _ (v.stored.object ++ v.stored.tail) u.at_is (and_left _ _ e) in
        let w : u.before ++ (d.content ++ u.behind) ≡ (v.stored.object ++ v.stored.tail) ++ s.rest
        = sym (append_assoc u.before d.content u.behind) ∙ sym u.whole ∙ sym s.begins in
        let q : u.before ≡ v.stored.object ++ v.stored.tail = split_left u.before (v.stored.object ++ v.stored.tail) (d.content ++ u.behind) s.rest w l in
        record {
          rest = u.behind;
          requests = s.requests;
          messages = s.messages;
          begins = ap (λ (x : Bytes). x ++ u.behind) (sym (append_assoc v.stored.object v.stored.tail d.content) ∙ ap (λ (x : Bytes). x ++ d.content) (sym q)) ∙ sym u.whole;
        }

server_finish : {K : Bytes} {p : ℕ} {sent : Bool} {v : Server} (at : ℤ) (sum : Option ℕ) (bytes had : ℕ)
    → ServerOK K p sent v → ServerOK K p sent (takes_finish at sum bytes had v)
server_finish {K} {p} {sent} {v} at sum bytes had s =
    cond_ind (ServerOK K p sent) (is_at at (v.stored.object ++ v.stored.tail) && is_sum sum (v.stored.object ++ v.stored.tail)) (λ e. joins) (λ e. server_cut bytes had s)
  where
    joins : ServerOK K p sent (record { stored = record { object = v.stored.object ++ v.stored.tail; tail = []; finalised = true }; link = v.link })
    joins =
        let l : length v.stored.object ≤ length (v.stored.object ++ v.stored.tail) = omega (arith, length-append v.stored.object v.stored.tail) in
        record {
          rest = s.rest;
          requests = s.requests;
          messages = ascends_up v.link.messages p (length v.stored.object) _ v.stored.finalised true l (λ e. refl) s.messages;
          begins = ap (λ (x : Bytes). x ++ s.rest) (append-nil (v.stored.object ++ v.stored.tail)) ∙ s.begins;
        }

server_one : {K : Bytes} {p : ℕ} {sent : Bool} {v : Server} (r : Request) (o : Option ChecksummedData) (bytes had : ℕ)
    → ((d : ChecksummedData) → o ≡ some d → Slice K r.write_offset d.content d.crc32c)
    → ServerOK K p sent v → ServerOK K p sent (takes_one r o bytes had v)
server_one {K} {p} {sent} {v} r none bytes had u s =
    cond_ind (ServerOK K p sent) r.finish_write (λ e. server_finish r.write_offset r.object_checksum bytes had s) (λ e. s)
server_one r (some d) bytes had u s = server_chunk r.write_offset d bytes had (u d refl) s

pub server_takes_lem : {K : Bytes} {p : ℕ} {sent : Bool} {v : Server} (rs : List Request) (bytes had : ℕ) → All (Right K sent) rs
    → ServerOK K p sent v → ServerOK K p sent (takes_next rs bytes had v)
server_takes_lem [] bytes had us s = s
server_takes_lem (r ∷ rest) bytes had us s =
    server_one r r.checksummed_data bytes had us.0.chunk (record { rest = s.rest; begins = s.begins; messages = s.messages; requests = us.1 })

-- a finalised object stays finalised
finish_final : (at : ℤ) (sum : Option ℕ) (bytes had : ℕ) (v : Server) → v.stored.finalised ≡ true → (takes_finish at sum bytes had v).stored.finalised ≡ true
finish_final at sum bytes had v e =
    cond_ind (λ (x : Server). x.stored.finalised ≡ true) (is_at at (v.stored.object ++ v.stored.tail) && is_sum sum (v.stored.object ++ v.stored.tail)) (λ f. refl) (λ f. e)

one-final : (r : Request) (o : Option ChecksummedData) (bytes had : ℕ) (v : Server) → v.stored.finalised ≡ true → (takes_one r o bytes had v).stored.finalised ≡ true
one-final r none bytes had v e =
    cond_ind (λ (x : Server). x.stored.finalised ≡ true) r.finish_write (λ f. finish_final r.write_offset r.object_checksum bytes had v e) (λ f. e)
one-final r (some d) bytes had v e =
    cond_ind (λ (x : Server). x.stored.finalised ≡ true) (is_at r.write_offset (v.stored.object ++ v.stored.tail) && eqb d.crc32c (crc_of d.content)) (λ f. e) (λ f. e)

pub takes-final : (rs : List Request) (bytes had : ℕ) (v : Server) → v.stored.finalised ≡ true → (takes_next rs bytes had v).stored.finalised ≡ true
takes-final [] bytes had v e = e
takes-final (r ∷ rest) bytes had v e = one-final r r.checksummed_data bytes had (on_link (set_requests rest) v) e

-- ---- what it tells

pub server_below : {K : Bytes} {p : ℕ} {sent : Bool} {v : Server} → ServerOK K p sent v → p ≤ length v.stored.object
server_below {p} {v} s = ascends_le v.link.messages p (length v.stored.object) v.stored.finalised s.messages

-- the object is no longer than K
pub server_within : {K : Bytes} {p : ℕ} {sent : Bool} {v : Server} → ServerOK K p sent v → length v.stored.object ≤ length K
server_within {v} s = omega (arith, ap length s.begins, length-append (v.stored.object ++ v.stored.tail) s.rest, length-append v.stored.object v.stored.tail)
