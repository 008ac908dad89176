-- How much was released: the number of each call and of the opening; then the balance of the bytes taken, released, stored and held, which every call keeps.
use mathlib.Core.Path.{◌≡◌, refl, sym, ap, ap₂, ◌∙◌, subst}
use mathlib.Core.Bool.{Bool, true, false}
use mathlib.Core.Option.{Option, none, some}
use mathlib.Core.List.{List, [], ◌∷◌, ◌++◌}
use Prim.Native.Nat.{ℕ, ◌+◌, ◌-◌, ◌≤◌, ◌<◌, min, max}
use native.Mathlib.Omega.{arith}
use lib.ListN.{length, take, get_elem?, length-append}
use lib.IntN.{ℤ, pos, ◌+ℤ◌}
use lib.Seq.{take-nil}
use borrow.Author.Tests.{leb-false, lt-leb}
use Rattle.rules.specs.Basics.{to_ℕ}
use Rattle.rules.specs.Message.{Bytes, Response, Break}
use Rattle.rules.specs.Session.{ReplayChunk, PendingKind, flushing, finalizing, PendingRequest, Cause, Writer, Session, Call, append, flush, finalise, next_request, close, send_failed, response, handshake, break, judge, failed_attempt, Answer, refused, took, sends, waits, completes, attempt, ok, done, ends, Result, answers, bytes_of, chunks, waiters, stored, ending}
use Rattle.rules.specs.Upload.{chunk_of, cuts, room, holding, holds, appends, awaits, asks, closes}
use Rattle.rules.specs.Respond.{takes, last_step, responds, to_replay, shakes}
use Rattle.rules.specs.Reconnect.{breaks, ruled, judges, fails}
use Rattle.rules.specs.Replay.{hands_waiter, hands_chunk, hands, unsent}
use Rattle.rules.specs.Step.{step}
use Rattle.rules.specs.Notes.{Notes, accepted, released_in, brings, taken, all_with, loose_with, note}
use Rattle.rules.specs.Opening.{Opening, opened, opens, open_size, payload_length, open_session, open_released}
use Rattle.rules.specs.Server.{Stored}
use Rattle.rules.specs.World.{Event, runs, base_of, notes_at, start}
use Rattle.rules.specs.Calls.{Run, called, called_all, begin}
use Rattle.rules.specs.Total.{first_taken}
use Rattle.rules.specs.Released.{ReleasedBy, Released, OpeningReleased, ReleasedTotal}
use Rattle.rules.proofs.Tests.{never}
use Rattle.rules.proofs.Lists.{cond_ind, choose_ind, unless_ind, nil_of, bytes_snoc}
use Rattle.rules.proofs.CallsUpload.{after-full, after-part}
use Rattle.rules.proofs.Accepted as opening
use Rattle.rules.proofs.Runs.{run_of, calls_kept, runs_kept}
use Rattle.rules.proofs.CalledInv.{ack_shorter}
use Rattle.rules.proofs.CalledStart.{larger_is, open_stored}

-- ---- calls that store nothing

same-stored : (s t : Session) → chunks t ≡ chunks s → stored t ≡ stored s
unfolding stored
same-stored s t e = ap (λ (cs : List ReplayChunk). length (bytes_of cs)) e

-- t is s without the first n bytes stored; the writer is as it was
record Less (s : Session) (n : ℕ) (t : Session) : Type 0 where
  gives : n + stored t ≡ stored s
  writer_is : t.writer ≡ s.writer
  limit_is : t.limit ≡ s.limit

-- so does a result say, and with a call that is no report n is 0
record Gives (report : Bool) (s : Session) (r : Result) : Type 0 where
  less : Less s (released_in r.answer) r.session
  silent : report ≡ false → released_in r.answer ≡ 0

same : (s : Session) → Less s 0 s
same s = record { gives = omega arith; writer_is = refl; limit_is = refl }

-- with another phase, connector or mark
on : {s : Session} {n : ℕ} (t u : Session) → chunks u ≡ chunks t → u.writer ≡ t.writer → u.limit ≡ t.limit → Less s n t → Less s n u
on {n} t u c h e l = record { gives = ap (λ (m : ℕ). n + m) (same-stored t u c) ∙ l.gives; writer_is = h ∙ l.writer_is; limit_is = e ∙ l.limit_is }

module _ (report : Bool) (s : Session) where
  -- an answer that releases nothing
  still : (a : Answer) (t : Session) → released_in a ≡ 0 → Less s 0 t → Gives report s (answers a t)
  still a t z l = record { less = subst (λ (n : ℕ). Less s n t) (sym z) l; silent = λ _. z }

  refused-gives : (n : ℕ) → Gives report s (answers (refused n) s)
  refused-gives n = still (refused n) s refl (same s)

  ending-gives : (c : Cause) (k n : ℕ) (t : Session) → Less s n t → (report ≡ false → n ≡ 0) → Gives report s (ending c k n t)
  unfolding ending
  ending-gives c k n t l z = record { less = on t _ refl refl refl l; silent = z }

  ruled-gives : (c : Option Cause) (t : Session) → Less s 0 t → Gives report s (ruled c t)
  unfolding ruled
  ruled-gives none t l = still _ _ refl (on t _ refl refl refl l)
  ruled-gives (some c) t l = ending-gives c 0 0 t l (λ _. refl)

  waiter_gives : (q : Option PendingRequest) (i : ℕ) → Gives report s (hands_waiter q i s)
  unfolding hands_waiter
  waiter_gives none i =
      choose_ind (Gives report s) _ _ _ (λ _. still _ _ refl (on s _ refl refl refl (same s)))
      (λ _. still _ _ refl (on s _ refl refl refl (same s)))
  waiter_gives (some q) i = still _ _ refl (on s _ refl refl refl (same s))

  chunk_gives : (c : Option ReplayChunk) (i : ℕ) → Gives report s (hands_chunk c i s)
  unfolding hands_chunk
  chunk_gives none i = waiter_gives (get_elem? (waiters s) (i - length (chunks s))) i
  chunk_gives (some c) i = still _ _ refl (on s _ refl refl refl (same s))

-- a report
module _ (s : Session) where
  last_gives : (k n : ℕ) (t : Session) → Less s n t → Gives true s (last_step k n t)
  unfolding last_step
  last_gives k n t l =
      choose_ind (Gives true s) _ _ _ (λ _. record { less = on t _ refl refl refl l; silent = λ e. never e })
      (λ _. record { less = on t _ refl refl refl l; silent = λ e. never e })

  replay-gives : (k n : ℕ) (t : Session) → Less s n t → Gives true s (to_replay k n t)
  unfolding to_replay
  replay-gives k n t l = record { less = on t _ refl refl refl l; silent = λ e. never e }

  takes_gives : (n : Option ℤ) (f : Bool) (t : Session) (last : ℕ → ℕ → Session → Result) → Less s 0 t → ((k n : ℕ) (u : Session) → Less s n u → Gives true s (last k n u))
      → Gives true s (takes n f t last)
  unfolding takes stored
  takes_gives none f t last l h = h 0 0 t l
  takes_gives (some n) f t last l h =
      let g : 0 + length (bytes_of (chunks t)) ≡ length (bytes_of (chunks s)) = l.gives in
      choose_ind (Gives true s) _ _ _ (λ _. ending-gives true s _ 0 0 t l (λ e. refl))
      (λ _. choose_ind (Gives true s) _ _ _ (λ _. ending-gives true s _ 0 0 t l (λ e. refl))
      (λ _. choose_ind (Gives true s) _ _ _
      (λ _. ending-gives true s _ _ _ _ (record { gives = omega (arith, ack_shorter n (chunks t)); writer_is = l.writer_is; limit_is = l.limit_is }) (λ e. never e))
      (λ _. h _ _ _ (record { gives = omega (arith, ack_shorter n (chunks t)); writer_is = l.writer_is; limit_is = l.limit_is }))))

-- ---- the number of each call

abbrev By : Call → Session → Result → Type 0
By c s r = ReleasedBy c (released_in r.answer) (stored s) (stored r.session)

given : {c : Call} {s : Session} (r : Result) → Gives (brings c).message s r → By c s r
given r g = record { less = omega (arith, g.less.gives); report = λ _. g.less.gives; other = g.silent }

-- a call that stores, and is no report
record Grows (s : Session) (r : Result) : Type 0 where
  silent : released_in r.answer ≡ 0
  grows : stored s ≤ stored r.session

grown : {c : Call} {s : Session} (r : Result) → (brings c).message ≡ false → Grows s r → By c s r
grown r e g = record { less = omega (arith, g.silent, g.grows); report = λ f. never (sym f ∙ e); other = λ _. g.silent }

cut-stored : (b : Bytes) (s : Session) → stored (cuts b s) ≡ stored s + length b
unfolding stored
cut-stored b s = ap length (bytes_snoc (chunks s) (chunk_of b s)) ∙ length-append (bytes_of (chunks s)) b

appends_grow : (d : Bytes) (out : ℕ) (s : Session) → Grows s (appends d out s)
unfolding appends holds
appends_grow d out s =
    unless_ind (Grows s) s _ _ (λ _. record { silent = refl; grows = omega arith })
    (λ _. choose_ind (Grows s) _ _ _ (λ _. record { silent = refl; grows = omega (arith, cut-stored (holding d s) s) })
    (λ _. record { silent = refl; grows = omega (arith, same-stored s (holds (holding d s) s) refl) }))

asks_grow : (k : PendingKind) (out : ℕ) (s : Session) → Grows s (asks k out s)
unfolding asks
asks_grow k out s =
    unless_ind (Grows s) s _ _ (λ _. record { silent = refl; grows = omega arith })
    (λ _. choose_ind (Grows s) _ _ _ (λ _. record { silent = refl; grows = omega (arith, cut-stored s.writer.held s) })
    (λ _. record { silent = refl; grows = omega (arith, same-stored s (awaits k s) refl) }))

module _ (s : Session) where
  hands_give : (out : ℕ) → Gives false s (hands out s)
  unfolding hands
  hands_give out = unless_ind (Gives false s) s _ _ (refused-gives false s) (λ _. chunk_gives false s _ _)

  closes_give : Gives false s (closes s)
  unfolding closes
  closes_give = unless_ind (Gives false s) s _ _ (refused-gives false s) (λ _. still false s _ _ refl (on s _ refl refl refl (same s)))

  unsent-gives : Gives false s (unsent s)
  unfolding unsent
  unsent-gives = unless_ind (Gives false s) s _ _ (refused-gives false s) (λ _. still false s _ _ refl (on s _ refl refl refl (same s)))

  breaks_give : (b : Break) → Gives false s (breaks b s)
  unfolding breaks
  breaks_give b =
      unless_ind (Gives false s) s _ _ (refused-gives false s)
      (λ _. choose_ind (Gives false s) _ _ _ (λ _. ending-gives false s _ 0 0 s (same s) (λ _. refl))
      (λ _. choose_ind (Gives false s) _ _ _ (λ _. ending-gives false s _ 0 0 s (same s) (λ _. refl))
      (λ _. still false s _ _ refl (on s _ refl refl refl (same s)))))

  judges_give : (v : ℕ) → Gives false s (judges v s)
  unfolding judges
  judges_give v = unless_ind (Gives false s) s _ _ (refused-gives false s) (λ _. ruled-gives false s _ _ (on s _ refl refl refl (same s)))

  fails_give : (b : Break) (v : ℕ) → Gives false s (fails b v s)
  unfolding fails
  fails_give b v = unless_ind (Gives false s) s _ _ (refused-gives false s) (λ _. ruled-gives false s _ _ (on s _ refl refl refl (same s)))

  responds_give : (m : Response) → Gives true s (responds m s)
  unfolding responds
  responds_give m = unless_ind (Gives true s) s _ _ (refused-gives true s) (λ _. takes_gives s _ _ _ last_step (on s _ refl refl refl (same s)) (last_gives s))

  shakes_give : (m : Response) → Gives true s (shakes m s)
  unfolding shakes
  shakes_give m = unless_ind (Gives true s) s _ _ (refused-gives true s) (λ _. takes_gives s _ _ _ to_replay (on s _ refl refl refl (same s)) (replay-gives s))

pub released : Released
unfolding step
released (append [] out) s = grown (answers (took 0 none) s) refl (record { silent = refl; grows = omega arith })
released (append (x ∷ d) out) s = grown (appends (x ∷ d) out s) refl (appends_grow (x ∷ d) out s)
released (flush out) s = grown (asks flushing out s) refl (asks_grow flushing out s)
released (finalise out) s = grown (asks finalizing out s) refl (asks_grow finalizing out s)
released (next_request out) s = given (hands out s) (hands_give s out)
released close s = given (closes s) (closes_give s)
released send_failed s = given (unsent s) (unsent-gives s)
released (response m) s = given (responds m s) (responds_give s m)
released (handshake m) s = given (shakes m s) (shakes_give s m)
released (break b) s = given (breaks b s) (breaks_give s b)
released (judge v) s = given (judges v s) (judges_give s v)
released (failed_attempt b v) s = given (fails b v s) (fails_give s b v)

-- ---- the balance

-- `from` of the bytes in the notes were there before the opening, `base` were noted at the opening, and `first` was the write offset there
pub record Balance (from base first : ℕ) (s : Session) (g : Notes) : Type 0 where
  pub limit_is : g.limit ≡ s.limit
  pub loose_is : g.loose ≡ length s.writer.held
  pub small : length s.writer.held < s.limit
  pub all_is : length g.all ≡ from + g.released + stored s + length s.writer.held
  pub at : ℕ
  pub offset_is : s.writer.write_offset ≡ pos at
  -- the write offset and what is noted grew alike, but for the held bytes
  pub pushed : at + length s.writer.held + base ≡ first + length g.all

refused_none : (a : Answer) → accepted a ≡ false → released_in a ≡ 0
refused_none (refused n) e = refl
refused_none (took n r) e = never e
refused_none (sends r) e = never e
refused_none (waits r n) e = never e
refused_none (completes k n r) e = never e
refused_none (attempt n) e = never e
refused_none ok e = never e
refused_none done e = never e
refused_none (ends c k n f) e = never e

module _ (from base first : ℕ) where
  -- the notes of a call c
  record Kept (c : Call) (g : Notes) (r : Result) : Type 0 where
    balance : Balance from base first r.session (note c r.answer g)

  module _ (s : Session) (g : Notes) (i : Balance from base first s g) where
    -- a call that brings no byte and asks for no waiter
    gives_kept : {report : Bool} (c : Call) (r : Result) → (brings c).bytes ≡ none → (brings c).kind ≡ none → Gives report s r → Kept c g r
    gives_kept c r b k h =
        let e : length r.session.writer.held ≡ length s.writer.held = ap (λ (w : Writer). length w.held) h.less.writer_is in
        let o : r.session.writer.write_offset ≡ pos i.at = ap Writer.write_offset h.less.writer_is ∙ i.offset_is in
        let l : r.session.limit ≡ s.limit = h.less.limit_is in
        let n : released_in r.answer + stored r.session ≡ stored s = h.less.gives in
        let w : loose_with (brings c).bytes (brings c).kind g ≡ g.loose = ap₂ (λ (o : Option Bytes) (q : Option PendingKind). loose_with o q g) b k in
        let a : length (all_with (brings c).bytes g) ≡ length g.all = ap (λ (o : Option Bytes). length (all_with o g)) b in
        record {
          balance = cond_ind (Balance from base first r.session) (accepted r.answer)
              (λ _. record {
                limit_is = i.limit_is ∙ sym l;
                loose_is = omega (arith, i.loose_is);
                small = omega (arith, i.small);
                all_is = omega (arith, i.all_is);
                at = i.at;
                offset_is = o;
                pushed = omega (arith, i.pushed);
              })
              (λ f. record {
                limit_is = i.limit_is ∙ sym l;
                loose_is = omega (arith, i.loose_is);
                small = omega (arith, i.small);
                all_is = omega (arith, i.all_is, refused_none r.answer f);
                at = i.at;
                offset_is = o;
                pushed = omega (arith, i.pushed);
              });
        }

    -- what the notes say was taken of d is what the session took
    taken_is : (d : Bytes) → taken d g ≡ take (room d s) d
    taken_is d = ap₂ (λ (l h : ℕ). take (min (length d) (l - h)) d) i.limit_is i.loose_is

    holding_is : (d : Bytes) → g.loose + length (taken d g) ≡ length (holding d s)
    holding_is d = ap₂ (λ (h : ℕ) (x : Bytes). h + length x) i.loose_is (taken_is d) ∙ sym (length-append s.writer.held (take (room d s) d))

    appends_kept : (d : Bytes) (out : ℕ) → Kept (append d out) g (appends d out s)
    unfolding appends holds
    appends_kept d out =
        let h : g.loose + length (taken d g) ≡ length (holding d s) = holding_is d in
        let a : length (g.all ++ taken d g) ≡ length g.all + length (taken d g) = length-append g.all (taken d g) in
        unless_ind (Kept (append d out) g) s _ _ (λ _. record { balance = i })
        (λ _. choose_ind (Kept (append d out) g) _ _ _
        (λ f. record {
          balance = record {
            limit_is = i.limit_is;
            loose_is = after-full g.limit s.limit _ _ i.limit_is h f;
            small = omega (arith, i.small);
            all_is = omega (arith, i.all_is, i.loose_is, cut-stored (holding d s) s);
            at = i.at + length (holding d s);
            offset_is = ap (λ (z : ℤ). z +ℤ pos (length (holding d s))) i.offset_is;
            pushed = omega (arith, i.pushed, i.loose_is);
          };
        })
        (λ f. record {
          balance = record {
            limit_is = i.limit_is;
            loose_is = after-part g.limit s.limit _ _ i.limit_is h f;
            small = leb-false s.limit (length (holding d s)) f;
            all_is = omega (arith, i.all_is, i.loose_is, same-stored s (holds (holding d s) s) refl);
            at = i.at;
            offset_is = i.offset_is;
            pushed = omega (arith, i.pushed, i.loose_is);
          };
        }))

    empty_kept : (out : ℕ) → Kept (append [] out) g (answers (took 0 none) s)
    empty_kept out =
        let n : taken [] g ≡ [] = take-nil (min 0 (g.limit - g.loose)) in
        let z : length (taken [] g) ≡ 0 = ap length n in
        let a : length (g.all ++ taken [] g) ≡ length g.all + length (taken [] g) = length-append g.all (taken [] g) in
        let h : g.loose + length (taken [] g) ≡ length s.writer.held = omega (arith, i.loose_is) in
        record {
          balance = record {
            limit_is = i.limit_is;
            loose_is = after-part g.limit s.limit _ _ i.limit_is h (lt-leb s.limit (length s.writer.held) i.small);
            small = i.small;
            all_is = omega (arith, i.all_is);
            at = i.at;
            offset_is = i.offset_is;
            pushed = omega (arith, i.pushed);
          };
        }

    -- with held bytes a flush or finalise cuts them, and else there are none
    asks_kept : (c : Call) (k : PendingKind) (out : ℕ) → (brings c).bytes ≡ none → (brings c).kind ≡ some k → Kept c g (asks k out s)
    unfolding asks
    asks_kept c k out b e =
        let w : loose_with (brings c).bytes (brings c).kind g ≡ 0 = ap₂ (λ (o : Option Bytes) (q : Option PendingKind). loose_with o q g) b e in
        let a : length (all_with (brings c).bytes g) ≡ length g.all = ap (λ (o : Option Bytes). length (all_with o g)) b in
        unless_ind (Kept c g) s _ _ (λ _. record { balance = i })
        (λ _. choose_ind (Kept c g) _ _ _
        (λ f. record {
          balance = record {
            limit_is = i.limit_is;
            loose_is = w;
            small = omega (arith, i.small);
            all_is = omega (arith, i.all_is, cut-stored s.writer.held s);
            at = i.at + length s.writer.held;
            offset_is = ap (λ (z : ℤ). z +ℤ pos (length s.writer.held)) i.offset_is;
            pushed = omega (arith, i.pushed);
          };
        })
        (λ f. record {
          balance = record {
            limit_is = i.limit_is;
            loose_is = w ∙ sym (ap length (nil_of s.writer.held f));
            small = i.small;
            all_is = omega (arith, i.all_is, same-stored s (awaits k s) refl);
            at = i.at;
            offset_is = i.offset_is;
            pushed = omega (arith, i.pushed);
          };
        }))

  pub step_balanced : (c : Call) (s : Session) (g : Notes) → Balance from base first s g → Balance from base first (step c s).session (note c (step c s).answer g)
  unfolding step
  step_balanced (append [] out) s g i = (empty_kept s g i out).balance
  step_balanced (append (x ∷ d) out) s g i = (appends_kept s g i (x ∷ d) out).balance
  step_balanced (flush out) s g i = (asks_kept s g i (flush out) flushing out refl refl).balance
  step_balanced (finalise out) s g i = (asks_kept s g i (finalise out) finalizing out refl refl).balance
  step_balanced (next_request out) s g i = (gives_kept s g i (next_request out) (hands out s) refl refl (hands_give s out)).balance
  step_balanced close s g i = (gives_kept s g i close (closes s) refl refl (closes_give s)).balance
  step_balanced send_failed s g i = (gives_kept s g i send_failed (unsent s) refl refl (unsent-gives s)).balance
  step_balanced (response m) s g i = (gives_kept s g i (response m) (responds m s) refl refl (responds_give s m)).balance
  step_balanced (handshake m) s g i = (gives_kept s g i (handshake m) (shakes m s) refl refl (shakes_give s m)).balance
  step_balanced (break b) s g i = (gives_kept s g i (break b) (breaks b s) refl refl (breaks_give s b)).balance
  step_balanced (judge v) s g i = (gives_kept s g i (judge v) (judges v s) refl refl (judges_give s v)).balance
  step_balanced (failed_attempt b v) s g i = (gives_kept s g i (failed_attempt b v) (fails b v s) refl refl (fails_give s b v)).balance

-- ---- from the opening on

pub opening-released : OpeningReleased
unfolding open_session stored
opening-released o s a =
    subst (λ (t : Session). open_released o + stored t ≡ payload_length o.payload) (opening.accepted o s a).is (omega (arith, open_stored o.payload (open_size o)))

pub record Balanced (from base first : ℕ) (r : Run) : Type 0 where
  pub balance : Balance from base first r.session r.notes

call_balanced : (from base first : ℕ) (c : Call) (r : Run) → Balanced from base first r → Balanced from base first (called c (step c r.session) r)
call_balanced from base first c r i = record { balance = step_balanced from base first c r.session r.notes i.balance }

-- the write offset at an accepted opening: the larger of P and the payload's length
abbrev pub first_at : Opening → ℕ
first_at o = max (to_ℕ (open_size o)) (payload_length o.payload)

-- whatever the base that the notes begin with
opening_balanced : (o : Opening) (s : Session) (base : Bytes) (from : ℕ) → opens o ≡ opened s → length base ≡ from + payload_length o.payload
    → Balanced from (length base) (first_at o) (record { session = s; notes = notes_at o base })
unfolding open_session
opening_balanced o s base from a e =
    let h : opening.Accepted o s = opening.accepted o s a in
    let r : open_released o + stored (open_session o) ≡ payload_length o.payload = opening-released o (open_session o) (a ∙ ap opened (sym h.is)) in
    subst (λ (t : Session). Balanced from (length base) (first_at o) (record { session = t; notes = notes_at o base })) h.is
    (record {
      balance = record {
        limit_is = refl;
        loose_is = refl;
        small = h.positive;
        all_is = omega (arith, e);
        at = first_at o;
        offset_is = larger_is (open_size o) (payload_length o.payload);
        pushed = omega arith;
      };
    })

base_length : (payload : Option Bytes) (object : Bytes) → length (base_of payload object) ≡ first_taken payload object + payload_length payload
base_length none object = omega arith
base_length (some b) object = omega arith

pub base_payload : (payload : Option Bytes) → length (base_of payload []) ≡ payload_length payload
base_payload none = refl
base_payload (some b) = refl

pub always_balanced : (o : Opening) (s : Session) → opens o ≡ opened s → (cs : List Call)
    → Balanced 0 (length (base_of o.payload [])) (first_at o) (called_all cs (begin o s))
unfolding begin
always_balanced o s a cs = calls_kept (Balanced 0 _ _) (call_balanced 0 _ _) cs (begin o s) (opening_balanced o s _ 0 a (omega (arith, base_payload o.payload)))

pub runs_balanced : (o : Opening) (s : Session) → opens o ≡ opened s → (k : Stored) (es : List Event)
    → Balanced (first_taken o.payload k.object) (length (base_of o.payload k.object)) (first_at o) (run_of (runs es (start o s k)))
unfolding start
runs_balanced o s a k es = runs_kept (Balanced _ _ _) (call_balanced _ _ _) es (start o s k) (opening_balanced o s _ _ a (base_length o.payload k.object))

pub released-total : ReleasedTotal
released-total o s a cs = omega (arith, (always_balanced o s a cs).balance.all_is)
