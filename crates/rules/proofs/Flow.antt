-- What each change does to the flow of requests: on a connection that lost nothing, the server takes every request.
use mathlib.Core.Path.{◌≡◌, refl, sym, ap, ◌∙◌, subst}
use mathlib.Core.Bool.{Bool, true, false, cond, ◌&&◌}
use mathlib.Core.Option.{Option, none, some, some-injective, none-ne-some}
use mathlib.Core.List.{List, [], ◌∷◌, ◌++◌, append_assoc, append-nil}
use Prim.Native.Nat.{ℕ}
use lib.ListN.{length, take, drop, take-append-drop}
use lib.Seq.{take_at}
use lib.IntN.{ℤ, pos}
use lib.Dec.{eqb}
use borrow.Author.Tests.{eq-eqb}
use Rattle.crc32c.specs.Reg.{crc_of}
use Rattle.rules.specs.Message.{Bytes, ChecksummedData, Request, Response}
use Rattle.rules.specs.Session.{ReplayChunk, PendingRequest, Cause, Phase, live, closing, connecting, verdict, replay, ended, is_ended, is_replay}
use Rattle.rules.specs.Upload.{chunk_request}
use Rattle.rules.specs.Server.{Server, set_requests, set_messages, loses, on_link, on_stored, connects, is_at, is_sum, takes_chunk, takes_finish, takes_one, takes_next, persists}
use Rattle.rules.specs.Notes.{content_of}
use Rattle.rules.specs.World.{sending}
use Rattle.rules.specs.More.{RightFinish}
use Rattle.rules.proofs.Tests.{never, clash, and-true}
use Rattle.rules.proofs.Lists.{cond_ind}
use Rattle.rules.proofs.Inv.{Asked, ServerOK, Fit, Fits, goal_at, FlowOK}

-- ---- requests that fit

fits_snoc : (rs : List Request) (b goal : Bytes) (r : Request) → Fits b rs goal → Fit goal r → Fits b (rs ++ (r ∷ [])) (goal ++ content_of r.checksummed_data)
fits_snoc [] b goal r h f = (subst (λ (x : Bytes). Fit x r) (sym h) f, ap (λ (x : Bytes). x ++ content_of r.checksummed_data) h)
fits_snoc (q ∷ rs) b goal r h f = (h.0, fits_snoc rs (b ++ content_of q.checksummed_data) goal r h.1 f)

-- a request that neither has data nor finishes fits anywhere
pub fit_bare : {b : Bytes} (r : Request) → r.checksummed_data ≡ none → r.finish_write ≡ false → Fit b r
fit_bare r e f = record { chunk = λ d g. absurd (none-ne-some d (sym e ∙ g)); finish = λ g. clash g f }

-- a chunk's request fits where the chunk begins
pub fit_chunk : {b : Bytes} (c : ReplayChunk) (flushes : Bool) → c.write_offset ≡ pos (length b) → c.crc32c ≡ crc_of c.bytes → Fit b (chunk_request c flushes)
fit_chunk c flushes e f = record {
  chunk = λ d g. (e, subst (λ (x : ChecksummedData). x.crc32c ≡ crc_of x.content) (some-injective _ d g) f);
  finish = λ g. never (sym g);
}

-- a waiter's request fits at the end of the chunked bytes, and adds nothing
pub fit_asked : {K : Bytes} {sent : Bool} (q : PendingRequest) → Asked K sent q → Fit K q.request
fit_asked q h = record { chunk = λ d g. absurd (none-ne-some d (sym h.dataless ∙ g)); finish = λ g. (h.right.finish g).1 }

pub dataless_adds : (b : Bytes) (o : Option ChecksummedData) → o ≡ none → b ++ content_of o ≡ b
dataless_adds b o e = ap (λ (x : Option ChecksummedData). b ++ content_of x) e ∙ append-nil b

-- ---- the session

pub goal_off : {K : Bytes} (p : ℕ) (cs : List ReplayChunk) (ph : Phase) → is_replay ph ≡ false → goal_at K p ph cs ≡ K
goal_off p cs live e = refl
goal_off p cs closing e = refl
goal_off p cs connecting e = refl
goal_off p cs (verdict r) e = refl
goal_off p cs (replay i) e = never e
goal_off p cs (ended c) e = refl

flow_turn : {K K' : Bytes} {p p' : ℕ} {ph ph' : Phase} {cs cs' : List ReplayChunk} {v : Server}
    → (is_ended ph' ≡ false → (is_ended ph ≡ false) × (goal_at K p ph cs ≡ goal_at K' p' ph' cs')) → FlowOK K p ph cs v → FlowOK K' p' ph' cs' v
flow_turn g h = record {
  flows = λ l. record {
    alive = (h.flows l).alive;
    goal = (h.flows l).goal;
    fits = (h.flows l).fits;
    goal_is = λ e. (h.flows l).goal_is (g e).0 ∙ (g e).1;
  };
}

-- from one phase to another, neither of them a replay
pub flow_off : {K : Bytes} {p p' : ℕ} {ph ph' : Phase} {cs cs' : List ReplayChunk} {v : Server} → is_ended ph ≡ false → is_replay ph ≡ false → is_replay ph' ≡ false
    → FlowOK K p ph cs v → FlowOK K p' ph' cs' v
flow_off {p} {p'} {ph} {ph'} {cs} {cs'} e f g = flow_turn (λ _. (e, goal_off p cs ph f ∙ sym (goal_off p' cs' ph' g)))

-- a replay is done
pub flow_done : {K : Bytes} {p : ℕ} {ph ph' : Phase} {cs : List ReplayChunk} {v : Server} → is_ended ph ≡ false → goal_at K p ph cs ≡ goal_at K p ph' cs
    → FlowOK K p ph cs v → FlowOK K p ph' cs v
flow_done e g = flow_turn (λ _. (e, g))

pub flow_ended : {K : Bytes} {p p' : ℕ} {ph : Phase} {cs cs' : List ReplayChunk} {v : Server} {c : Cause} → FlowOK K p ph cs v → FlowOK K p' (ended c) cs' v
flow_ended = flow_turn (λ e. never e)

-- a request is handed out, where the session had come to b
pub flow_sends : {K K' : Bytes} {p p' : ℕ} {ph ph' : Phase} {cs cs' : List ReplayChunk} {v : Server} (could : Bool) (r : Request) (b : Bytes)
    → is_ended ph ≡ false → goal_at K p ph cs ≡ b → Fit b r → b ++ content_of r.checksummed_data ≡ goal_at K' p' ph' cs'
    → FlowOK K p ph cs v → FlowOK K' p' ph' cs' (on_link (sending could (some r)) v)
flow_sends {v} true r b e g f n h = record {
  flows = λ l.
      let k = h.flows l in
      record {
        alive = k.alive;
        goal = b ++ content_of r.checksummed_data;
        goal_is = λ _. n;
        fits = subst (λ (t : Bool). Fits (v.stored.object ++ v.stored.tail) (cond t (v.link.requests ++ (r ∷ [])) v.link.requests) (b ++ content_of r.checksummed_data)) (sym k.alive)
            (fits_snoc v.link.requests (v.stored.object ++ v.stored.tail) b r (subst (Fits (v.stored.object ++ v.stored.tail) v.link.requests) (k.goal_is e ∙ g) k.fits) f);
      };
}
flow_sends false r b e g f n h = record { flows = λ l. never (sym l) }

-- ---- the connection

pub flow_loses : {K : Bytes} {p : ℕ} {ph : Phase} {cs : List ReplayChunk} (v : Server) → FlowOK K p ph cs (on_link loses v)
flow_loses v = record { flows = λ l. never (sym l) }

pub flow_messages : {K : Bytes} {p : ℕ} {ph : Phase} {cs : List ReplayChunk} {v : Server} (ms : List Response) → FlowOK K p ph cs v → FlowOK K p ph cs (on_link (set_messages ms) v)
flow_messages ms h = record {
  flows = λ l. record {
    alive = (h.flows l).alive;
    goal = (h.flows l).goal;
    fits = (h.flows l).fits;
    goal_is = (h.flows l).goal_is;
  };
}

-- an accepted handshake: the server has the object alone
connected : {K : Bytes} {p : ℕ} {ph : Phase} {cs : List ReplayChunk} (v : Server) → (is_ended ph ≡ false → v.stored.object ≡ goal_at K p ph cs) → FlowOK K p ph cs (connects v)
connected v g = record { flows = λ l. record { alive = refl; goal = v.stored.object; fits = append-nil v.stored.object; goal_is = g } }

pub flow_connects : {K : Bytes} {p : ℕ} {sent : Bool} {v : Server} {cs : List ReplayChunk} → ServerOK K p sent v → FlowOK K (length v.stored.object) (replay 0) cs (connects v)
flow_connects {K} {v} s =
    let e : v.stored.object ≡ take (length v.stored.object) K
    = sym (take_at v.stored.object (v.stored.tail ++ s.rest) (length v.stored.object) refl)
    ∙ ap (take (length v.stored.object)) (sym (append_assoc v.stored.object v.stored.tail s.rest) ∙ s.begins) in
    connected v (λ _. e ∙ sym (append-nil (take (length v.stored.object) K)))

pub flow_refused : {K : Bytes} {p : ℕ} {cs : List ReplayChunk} {c : Cause} (v : Server) → FlowOK K p (ended c) cs (connects v)
flow_refused v = connected v (λ e. never e)

-- ---- what the server does

pub flow_persists : {K : Bytes} {p : ℕ} {ph : Phase} {cs : List ReplayChunk} {v : Server} (n : ℕ) → FlowOK K p ph cs v → FlowOK K p ph cs (on_stored (persists n) v)
flow_persists {v} n h = record {
  flows = λ l.
      let k = h.flows l in
      record {
        alive = k.alive;
        goal = k.goal;
        goal_is = k.goal_is;
        fits = subst (λ (b : Bytes). Fits b v.link.requests k.goal)
            (sym (append_assoc v.stored.object (take n v.stored.tail) (drop n v.stored.tail) ∙ ap (λ (b : Bytes). v.stored.object ++ b) (take-append-drop n v.stored.tail))) k.fits;
      };
}

is_at_lem : (z : ℤ) (b : Bytes) → z ≡ pos (length b) → is_at z b ≡ true
is_at_lem z b e = ap (λ (x : ℤ). is_at x b) e ∙ eq-eqb (length b) (length b) refl

is_sum_lem : (o : Option ℕ) (b : Bytes) → ((c : ℕ) → o ≡ some c → c ≡ crc_of b) → is_sum o b ≡ true
is_sum_lem none b h = refl
is_sum_lem (some c) b h = eq-eqb c (crc_of b) (h c refl)

module _ {K : Bytes} {p : ℕ} {ph : Phase} {cs : List ReplayChunk} where
  flow_chunk : (r : Request) (d : ChecksummedData) (rest : List Request) (bytes had : ℕ) (v : Server) → r.checksummed_data ≡ some d
      → FlowOK K p ph cs (on_link (set_requests (r ∷ rest)) v) → FlowOK K p ph cs (takes_chunk r.write_offset d bytes had (on_link (set_requests rest) v))
  flow_chunk r d rest bytes had v e h =
      cond_ind (FlowOK K p ph cs) (is_at r.write_offset (v.stored.object ++ v.stored.tail) && eqb d.crc32c (crc_of d.content))
      (λ t. record {
        flows = λ l. record {
          alive = (h.flows l).alive;
          goal = (h.flows l).goal;
          goal_is = (h.flows l).goal_is;
          fits = subst (λ (b : Bytes). Fits b rest (h.flows l).goal)
              (ap (λ (o : Option ChecksummedData). v.stored.object ++ v.stored.tail ++ content_of o) e ∙ append_assoc v.stored.object v.stored.tail d.content) (h.flows l).fits.1;
        };
      })
      (λ t. record { flows = λ l. clash (right (h.flows l).fits.0) t })
    where
      right : Fit (v.stored.object ++ v.stored.tail) r → (is_at r.write_offset (v.stored.object ++ v.stored.tail) && eqb d.crc32c (crc_of d.content)) ≡ true
      right f = and-true _ _ (is_at_lem r.write_offset (v.stored.object ++ v.stored.tail) (f.chunk d e).0) (eq-eqb d.crc32c (crc_of d.content) (f.chunk d e).1)

  flow_finish : (r : Request) (rest : List Request) (bytes had : ℕ) (v : Server) → r.checksummed_data ≡ none → r.finish_write ≡ true
      → FlowOK K p ph cs (on_link (set_requests (r ∷ rest)) v) → FlowOK K p ph cs (takes_finish r.write_offset r.object_checksum bytes had (on_link (set_requests rest) v))
  flow_finish r rest bytes had v e f h =
      cond_ind (FlowOK K p ph cs) (is_at r.write_offset (v.stored.object ++ v.stored.tail) && is_sum r.object_checksum (v.stored.object ++ v.stored.tail))
      (λ t. record {
        flows = λ l. record {
          alive = (h.flows l).alive;
          goal = (h.flows l).goal;
          goal_is = (h.flows l).goal_is;
          fits = subst (λ (b : Bytes). Fits b rest (h.flows l).goal)
              (dataless_adds (v.stored.object ++ v.stored.tail) r.checksummed_data e ∙ sym (append-nil (v.stored.object ++ v.stored.tail))) (h.flows l).fits.1;
        };
      })
      (λ t. record { flows = λ l. clash (right ((h.flows l).fits.0.finish f)) t })
    where
      right : RightFinish (v.stored.object ++ v.stored.tail) r → (is_at r.write_offset (v.stored.object ++ v.stored.tail) && is_sum r.object_checksum (v.stored.object ++ v.stored.tail)) ≡ true
      right g = and-true _ _ (is_at_lem r.write_offset (v.stored.object ++ v.stored.tail) g.stands) (is_sum_lem r.object_checksum (v.stored.object ++ v.stored.tail) g.sum)

  flow_one : (r : Request) (o : Option ChecksummedData) (rest : List Request) (bytes had : ℕ) (v : Server) → r.checksummed_data ≡ o
      → FlowOK K p ph cs (on_link (set_requests (r ∷ rest)) v) → FlowOK K p ph cs (takes_one r o bytes had (on_link (set_requests rest) v))
  flow_one r none rest bytes had v e h =
      cond_ind (FlowOK K p ph cs) r.finish_write (λ f. flow_finish r rest bytes had v e f h)
      (λ f. record {
        flows = λ l. record {
          alive = (h.flows l).alive;
          goal = (h.flows l).goal;
          goal_is = (h.flows l).goal_is;
          fits = subst (λ (b : Bytes). Fits b rest (h.flows l).goal) (dataless_adds (v.stored.object ++ v.stored.tail) r.checksummed_data e) (h.flows l).fits.1;
        };
      })
  flow_one r (some d) rest bytes had v e h = flow_chunk r d rest bytes had v e h

  flow_next : (rs : List Request) (bytes had : ℕ) (v : Server) → FlowOK K p ph cs v → FlowOK K p ph cs (on_link (set_requests rs) v) → FlowOK K p ph cs (takes_next rs bytes had v)
  flow_next [] bytes had v h k = h
  flow_next (r ∷ rest) bytes had v h k = flow_one r r.checksummed_data rest bytes had v refl k

  pub flow_takes : {v : Server} (bytes had : ℕ) → FlowOK K p ph cs v → FlowOK K p ph cs (takes_next v.link.requests bytes had v)
  flow_takes {v} bytes had h = flow_next v.link.requests bytes had v h h
