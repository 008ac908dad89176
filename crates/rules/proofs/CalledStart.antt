-- The invariant over calls at an accepted opening, and what follows from it.
use mathlib.Core.Path.{◌≡◌, refl, sym, ap, ◌∙◌, subst}
use mathlib.Core.Bool.{Bool, true, false, cond}
use mathlib.Core.Option.{Option, none, some}
use mathlib.Core.List.{List, [], ◌∷◌, ◌++◌, append-nil}
use Prim.Native.Nat.{ℕ, ◌+◌, ◌≤◌, ◌<◌, max}
use native.Mathlib.Omega.{arith}
use lib.ListN.{length}
use lib.IntN.{ℤ, pos, negsuc, ◌+ℤ◌}
use lib.Dec.{leb, ltb}
use lib.Signed.{le_z}
use borrow.Author.Tests.{leb-true, leb-false, le-leb}
use Rattle.crc32c.specs.Reg.{crc_of}
use Rattle.rules.specs.Basics.{to_ℕ, All}
use Rattle.rules.specs.Message.{Bytes}
use Rattle.rules.specs.Session.{ReplayChunk, Session, Call, bytes_of, chunks, is_nil}
use Rattle.rules.specs.Respond.{trimmed, ack, pushed_end}
use Rattle.rules.specs.Opening.{Opening, opened, opens, open_size, larger, payload_length, open_chunks, open_session}
use Rattle.rules.specs.Server.{Stored}
use Rattle.rules.specs.World.{Event, runs, notes_at, start}
use Rattle.rules.specs.Demand3.{Numbered}
use Rattle.rules.specs.Calls.{Run, called_all, begin, EndToEnd, HoldsCalled, CallsHold}
use Rattle.rules.proofs.Tests.{never}
use Rattle.rules.proofs.Lists.{cond_ind, Chain, ack-chain}
use Rattle.rules.proofs.Accepted.{Accepted, accepted}
use Rattle.rules.proofs.CalledInv.{ack_shorter, ack_negative, chain_length, numbers_get}
use Rattle.rules.proofs.Called.{CalledAt, step_kept}
use Rattle.rules.proofs.Runs.{run_of, calls_kept, runs_kept}

-- ---- at the opening

pub larger_is : (p : ℤ) (n : ℕ) → larger p (pos n) ≡ pos (max (to_ℕ p) n)
larger_is (pos a) n =
    cond_ind (λ (z : ℤ). z ≡ pos (max a n)) (leb a n)
    (λ e. let l : a ≤ n = leb-true a n e in let q : n ≡ max a n = omega arith in ap pos q)
    (λ e. let l : n < a = leb-false a n e in let q : a ≡ max a n = omega arith in ap pos q)
larger_is (negsuc a) n = let q : n ≡ max 0 n = omega arith in ap pos q

abbrev payload_chunk : Bytes → ReplayChunk
payload_chunk b = record { write_offset = pos 0; bytes = b; crc32c = crc_of b }

ack_all : (b : Bytes) (a : ℕ) → leb (0 + length b) a ≡ true → open_chunks (some b) (pos a) ≡ []
unfolding ack
ack_all b a e = ap (λ (t : Bool). cond t [] (cond (ltb 0 a) (trimmed (pos a) (payload_chunk b) ∷ []) (payload_chunk b ∷ []))) e

-- a payload's chunk is acknowledged whole, or the write offset is the payload's end
open_chain : (payload : Option Bytes) (p : ℤ) → Chain (to_ℕ p) (open_chunks payload p) (max (to_ℕ p) (payload_length payload))
open_chain none p = omega arith
open_chain (some b) (pos a) =
    cond_ind (λ (_ : ℕ). Chain a (open_chunks (some b) (pos a)) (max a (length b))) (leb (0 + length b) a)
    {x = 0} {y = 0}
    (λ e. let l : 0 + length b ≤ a = leb-true (0 + length b) a e in let q : a ≡ max a (length b) = omega arith in
    subst (λ (cs : List ReplayChunk). Chain a cs (max a (length b))) (sym (ack_all b a e)) q)
    (λ e. let l : a < 0 + length b = leb-false (0 + length b) a e in let q : length b ≡ max a (length b) = omega arith in
    subst (Chain a (open_chunks (some b) (pos a))) q (ack-chain (payload_chunk b ∷ []) 0 a (length b) (refl, refl, omega arith) (omega arith) (omega arith)).chain)
open_chain (some b) (negsuc a) =
    let c : List ReplayChunk = payload_chunk b ∷ [] in
    subst (λ (cs : List ReplayChunk). Chain 0 cs (max 0 (length b))) (sym (ack_negative c 0 (length b) a (refl, refl, omega arith))) (refl, refl, omega arith)

pub open_stored : (payload : Option Bytes) (p : ℤ) → length (bytes_of (open_chunks payload p)) ≤ payload_length payload
open_stored none p = omega arith
open_stored (some b) p =
    let h : length (bytes_of (open_chunks (some b) p)) ≤ length (b ++ []) = ack_shorter p _ in
    omega (arith, ap length (append-nil b))

-- whatever the base that the notes begin with
opening-called : (o : Opening) (s : Session) (base : Bytes) → opens o ≡ opened s
    → CalledAt (to_ℕ (open_size o)) s.limit s.worker.replay_buffer.capacity (record { session = s; notes = notes_at o base })
unfolding open_session
opening-called o s base a =
    let h : Accepted o s = accepted o s a in
    let l : 0 < o.limit = h.positive in
    let m : payload_length o.payload ≤ o.limit = h.payload_most in
    subst (λ (t : Session). CalledAt (to_ℕ (open_size o)) t.limit t.worker.replay_buffer.capacity (record { session = t; notes = notes_at o base })) h.is
    (record {
      inv = record {
        bytes = record {
          limit_is = refl;
          capacity_is = refl;
          at = max (to_ℕ (open_size o)) (payload_length o.payload);
          offset_is = larger_is (open_size o) (payload_length o.payload);
          low_is = omega arith;
          chain = open_chain o.payload (open_size o);
          fewer = omega (arith, open_stored o.payload (open_size o));
          small = l;
        };
        count = record { made_is = refl; numbers = tt; at_most = omega arith; count_is = λ _. refl; none_left = λ _. refl };
      };
    })

-- ---- after every list of calls

pub always_called : (o : Opening) (s : Session) → opens o ≡ opened s → (cs : List Call) → CalledAt (to_ℕ (open_size o)) s.limit s.worker.replay_buffer.capacity (called_all cs (begin o s))
unfolding begin
always_called o s a cs = calls_kept (CalledAt (to_ℕ (open_size o)) s.limit s.worker.replay_buffer.capacity) (step_kept _ _ _) cs (begin o s) (opening-called o s _ a)

ends_meet : (cs : List ReplayChunk) (a b : ℕ) → Chain a cs b → EndToEnd cs
ends_meet [] a b h = tt
ends_meet (c ∷ []) a b h = tt
ends_meet (c ∷ d ∷ cs) a b h = (h.2.0 ∙ ap (λ (z : ℤ). z +ℤ pos (length c.bytes)) (sym h.0), ends_meet (d ∷ cs) (a + length c.bytes) b h.2)

chain_sums : (cs : List ReplayChunk) (a b : ℕ) → Chain a cs b → All (λ (c : ReplayChunk). c.crc32c ≡ crc_of c.bytes) cs
chain_sums [] a b h = tt
chain_sums (c ∷ cs) a b h = (h.1, chain_sums cs (a + length c.bytes) b h.2)

chain-end : (cs : List ReplayChunk) (a b : ℕ) → Chain a cs b → pushed_end (pos a) cs ≡ pos b
chain-end [] a b h = ap pos h
chain-end (c ∷ cs) a b h = ap (λ (z : ℤ). pushed_end (z +ℤ pos (length c.bytes)) cs) h.0 ∙ chain-end cs (a + length c.bytes) b h.2

-- the last chunk's end does not depend on what is said for none
end_any : (cs : List ReplayChunk) (y z : ℤ) → is_nil cs ≡ false → pushed_end y cs ≡ pushed_end z cs
end_any [] y z e = never e
end_any (c ∷ cs) y z e = refl

below_end : (p offset : ℤ) (at : ℕ) → to_ℕ p ≤ at → offset ≡ pos at → le_z p offset ≡ true
below_end (pos n) offset at l e = ap (le_z (pos n)) e ∙ le-leb n at l
below_end (negsuc n) offset at l e = ap (le_z (negsuc n)) e

numbered-called : {low limit capacity : ℕ} (r : Run) → CalledAt low limit capacity r → Numbered r.session r.notes
numbered-called r i = record { made_is = i.inv.count.made_is; told = λ n m e. omega (arith, numbers_get r.notes.marks 0 n m i.inv.count.numbers e) }

holds-called : {low limit capacity : ℕ} (r : Run) → CalledAt low limit capacity r → HoldsCalled r
holds-called r i =
    let m : r.session.writer.made ≡ length r.notes.marks = i.inv.count.made_is in
    record {
      end_to_end = ends_meet (chunks r.session) _ _ i.inv.bytes.chain;
      sums = chain_sums (chunks r.session) _ _ i.inv.bytes.chain;
      pushed_end_is = λ e. end_any (chunks r.session) _ _ e ∙ chain-end (chunks r.session) _ _ i.inv.bytes.chain ∙ sym i.inv.bytes.offset_is;
      within = below_end r.session.worker.persisted_size r.session.writer.write_offset i.inv.bytes.at
          (omega (arith, chain_length (chunks r.session) _ _ i.inv.bytes.chain)) i.inv.bytes.offset_is;
      held_below = omega (arith, i.inv.bytes.small, i.inv.bytes.limit_is);
      numbered = numbered-called r i;
      completed_made = omega (arith, i.inv.count.at_most);
      counted = λ e. i.inv.count.count_is e ∙ sym m;
      none_waits = i.inv.count.none_left;
    }

pub calls_hold : CallsHold
calls_hold o s a cs = holds-called (called_all cs (begin o s)) (always_called o s a cs)

-- ---- after every list of events

pub numbered-runs : (o : Opening) (s : Session) → opens o ≡ opened s → (k : Stored) (es : List Event)
    → Numbered (runs es (start o s k)).session (runs es (start o s k)).notes
unfolding start
numbered-runs o s a k es =
    numbered-called (run_of (runs es (start o s k)))
    (runs_kept (CalledAt (to_ℕ (open_size o)) s.limit s.worker.replay_buffer.capacity) (step_kept _ _ _) es (start o s k) (opening-called o s _ a))
