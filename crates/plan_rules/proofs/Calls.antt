-- One call for an entry, by the rules without rows 8 and 9: what it answers and what the session shows behind it.
use mathlib.Core.Path.{◌≡◌, refl, sym, ap, ◌∙◌, subst}
use mathlib.Core.Bool.{Bool, true, false, not, cond, ◌&&◌, ◌||◌}
use mathlib.Core.Option.{Option, none, some, some-injective, none-ne-some}
use mathlib.Core.List.{List, [], ◌∷◌}
use Prim.Native.Nat.{ℕ, suc, ◌+◌, ◌-◌, ◌^◌, min, ◌≤◌, ◌<◌}
use native.Mathlib.Omega.{arith}
use lib.ListN.{length, take, length-append, length-take}
use lib.IntN.{ℤ, pos, ◌+ℤ◌, pos-+ℤ-pos}
use lib.Signed.{lt_z}
use lib.Dec.{leb}
use borrow.Author.Tests.{le-ltb, ltb-false, le-leb, lt-leb, leb-true, leb-false}
use Rattle.rules.specs.Message.{Bytes, Request}
use Rattle.rules.specs.Session.{Phase, live, flushing, Session, Call, append, flush, finalise, next_request, close, send_failed, response, handshake, break, judge, failed_attempt, took, sends, waits, Result, answers, is_nil, is_live, is_ended, is_closing, chunks, waiters, bytes_of, stored, full, closed, no_slot, no_waiter, past_end, short_out, Rows, unless}
use Rattle.rules.specs.Upload.{chunk_of, cut_request, cuts, room, holding, holds, fills_chunk, append_rows, appended, ask_rows, asked, appends, asks, request_for, waiter_of, awaits}
use Rattle.rules.specs.Step.{step}
use Rattle.rules.specs.Notes.{accepted}
use Rattle.rules.proofs.Tests.{never, and_no}
use Rattle.rules.proofs.Lists.{cond_ind, choose_ind, unless_ind, AllFalse, bytes_snoc, nil_of}
use Rattle.plan_rules.specs.Unbounded.{is_left_out, without, unbounded}
use Rattle.plan_rules.specs.Plan.{Plan, Driven, shown, entry_of, remains, after}
use Rattle.plan_rules.specs.Claims.{out_of}
use Rattle.plan_rules.specs.Counting.{plan, one_for}
use Rattle.plan_rules.proofs.Counting.{plan_is, one_for_lem, once, cut_once, held_once, behind, flush_behind, flush-again, rest, waiting_with, waiting_same}

-- ---- rows

pub unless_passes : (s : Session) (rows : Rows) (r : Result) → AllFalse rows → unless s rows r ≡ r
unfolding unless
unless_passes s [] r h = refl
unless_passes s (t ∷ ts) r h = rw h.0 (unless_passes s ts r h.1)

without_passes : (rows : Rows) → AllFalse rows → AllFalse (without rows)
without_passes [] h = tt
without_passes (t ∷ ts) h = cond_ind AllFalse (is_left_out t.1) (λ e. without_passes ts h.1) (λ e. (h.0, without_passes ts h.1))

-- what passes every row is the same without rows 8 and 9
pub passed_same : (s : Session) (rows : Rows) (r : Result) → AllFalse rows → unless s rows r ≡ unless s (without rows) r
passed_same s rows r h = unless_passes s rows r h ∙ sym (unless_passes s (without rows) r (without_passes rows h))

record Passed (rows : Rows) (r : Result) : Type 0 where
  passed : accepted r.answer ≡ true → AllFalse rows

-- what is accepted has passed every row
pub unless_passed : (s : Session) (rows : Rows) (r : Result) → accepted (unless s rows r).answer ≡ true → AllFalse rows
unless_passed s rows r =
    (unless_ind (Passed rows) s rows r (λ n. record { passed = λ e. never (sym e) }) (λ h. record { passed = λ e. h })).passed

-- ---- calls for an entry

-- an append of at least a byte, or a flush
entry_ind : (Q : Call → ℕ → Type 0) → ((x : ℕ) (b : Bytes) (out : ℕ) → Q (append (x ∷ b) out) (suc (length b))) → ((out : ℕ) → Q (flush out) 0)
    → (c : Call) (n : ℕ) → entry_of c ≡ some n → Q c n
entry_ind Q f g (append [] out) n e = absurd (none-ne-some n e)
entry_ind Q f g (append (x ∷ b) out) n e = subst (Q (append (x ∷ b) out)) (some-injective (suc (length b)) n e) (f x b out)
entry_ind Q f g (flush out) n e = subst (Q (flush out)) (some-injective 0 n e) (g out)
entry_ind Q f g (finalise out) n e = absurd (none-ne-some n e)
entry_ind Q f g (next_request out) n e = absurd (none-ne-some n e)
entry_ind Q f g close n e = absurd (none-ne-some n e)
entry_ind Q f g send_failed n e = absurd (none-ne-some n e)
entry_ind Q f g (response m) n e = absurd (none-ne-some n e)
entry_ind Q f g (handshake m) n e = absurd (none-ne-some n e)
entry_ind Q f g (break b) n e = absurd (none-ne-some n e)
entry_ind Q f g (judge v) n e = absurd (none-ne-some n e)
entry_ind Q f g (failed_attempt b v) n e = absurd (none-ne-some n e)

-- ---- a session that has come to the numbers p

pub record Fits (C : ℕ) (d : Driven) (p : Plan) : Type 0 where
  pub limit_is : d.session.limit ≡ C
  pub live_is : d.session.phase ≡ live
  pub open_is : d.session.worker.finalized ≡ false
  pub offset_is : d.session.writer.write_offset ≡ pos p.stored
  pub offset_most : p.stored ≤ 2 ^ 63 - 1
  pub held_most : p.held < C
  pub shown_is : shown d ≡ p

-- what is lent, and how many waiters wait and were made
pub record Kept (capacity slots waiting : ℕ) (s : Session) : Type 0 where
  pub capacity_is : s.worker.replay_buffer.capacity ≡ capacity
  pub slots_is : s.slots ≡ slots
  pub waiting_is : length (waiters s) ≡ waiting
  pub made_is : s.writer.made ≡ waiting

-- a call for n, from p on
pub record Once (C n : ℕ) (d : Driven) (p : Plan) (r : Result) : Type 0 where
  pub goes : (ls : List ℕ) → remains n ls r.answer ≡ some (rest C n ls p)
  pub fits : Fits C (after n r d) (once C n p)
  pub kept : (capacity slots w : ℕ) → Kept capacity slots w d.session → Kept capacity slots (waiting_with n p.held w) r.session

past_no : (b : Bytes) (s : Session) (w : ℕ) → s.writer.write_offset ≡ pos w → w + length b ≤ 2 ^ 63 - 1 → past_end b s ≡ false
unfolding past_end
past_no b s w e l =
    ap (lt_z (pos (2 ^ 63 - 1))) (ap (λ (z : ℤ). z +ℤ pos (length b)) e ∙ pos-+ℤ-pos w (length b)) ∙ le-ltb (2 ^ 63 - 1) (w + length b) l

past_most : (b : Bytes) (s : Session) (w : ℕ) → s.writer.write_offset ≡ pos w → past_end b s ≡ false → w + length b ≤ 2 ^ 63 - 1
unfolding past_end
past_most b s w e f =
    ltb-false (2 ^ 63 - 1) (w + length b) (sym (ap (lt_z (pos (2 ^ 63 - 1))) (ap (λ (z : ℤ). z +ℤ pos (length b)) e ∙ pos-+ℤ-pos w (length b))) ∙ f)

and-false : (a b : Bool) → (a ≡ true → b ≡ false) → (a && b) ≡ false
and-false true b f = f refl
and-false false b f = refl

more_nil : (b : Bytes) → not (is_nil b) ≡ true → 0 < length b
more_nil [] e = never (sym e)
more_nil (x ∷ b) e = omega arith

-- ---- a cut, of b

module _ (C : ℕ) (d : Driven) (p : Plan) (h : Fits C d p) where
  held_is : length d.session.writer.held ≡ p.held
  held_is = ap (λ (x : Plan). x.held) h.shown_is

  -- by a call that leaves these counts
  cut_fits : (b : Bytes) (a f : ℕ) → p.stored + length b ≤ 2 ^ 63 - 1
      → Fits C (record { session = cuts b d.session; appends = a; flushes = f }) (plan (p.chunks + 1) (p.stored + length b) 0 a f)
  unfolding stored
  cut_fits b a f l = record {
    limit_is = h.limit_is;
    live_is = h.live_is;
    open_is = h.open_is;
    offset_is = ap (λ (z : ℤ). z +ℤ pos (length b)) h.offset_is ∙ pos-+ℤ-pos p.stored (length b);
    offset_most = l;
    held_most = omega (arith, h.held_most);
    shown_is = plan_is
        (length-append (chunks d.session) (chunk_of b d.session ∷ []) ∙ ap (λ (x : Plan). x.chunks + 1) h.shown_is)
        (ap length (bytes_snoc (chunks d.session) (chunk_of b d.session)) ∙ length-append (bytes_of (chunks d.session)) b
        ∙ ap (λ (x : Plan). x.stored + length b) h.shown_is)
        refl refl refl;
  }

  -- ---- append

  took_is : (b : Bytes) (q : Option Request) (ls : List ℕ) → remains (length b) ls (took (room b d.session) q) ≡ some (behind (length b) (min (length b) (C - p.held)) ls)
  took_is b q ls =
      let li : d.session.limit ≡ C = h.limit_is in
      let hl : length d.session.writer.held ≡ p.held = held_is in
      let e : room b d.session ≡ min (length b) (C - p.held) = omega arith in
      ap (λ (k : ℕ). some (behind (length b) k ls)) e

  holding_is : (b : Bytes) → length (holding b d.session) ≡ p.held + min (length b) (C - p.held)
  holding_is b =
      let li : d.session.limit ≡ C = h.limit_is in
      let hl : length d.session.writer.held ≡ p.held = held_is in
      omega (arith, length-append d.session.writer.held (take (room b d.session) b), length-take (room b d.session) b)

  append-once : (x : ℕ) (b : Bytes) (out : ℕ) → AllFalse (without (append_rows (x ∷ b) out d.session))
      → Once C (suc (length b)) d p (unbounded (append (x ∷ b) out) d.session)
  unfolding unbounded holds stored
  append-once x b out r =
      subst (Once C (suc (length b)) d p) (sym (unless_passes d.session (without (append_rows (x ∷ b) out d.session)) (appended (x ∷ b) d.session) r))
      (choose_ind (Once C (suc (length b)) d p) (fills_chunk (x ∷ b) d.session) _ _ fills holds_all)
    where
      s : Session
      s = d.session

      li : s.limit ≡ C
      li = h.limit_is

      len : length (holding (x ∷ b) s) ≡ p.held + min (suc (length b)) (C - p.held)
      len = holding_is (x ∷ b)

      way : (t : Bool) → leb C (p.held + suc (length b)) ≡ t → once C (suc (length b)) p ≡ cond t (cut_once C p) (held_once (suc (length b)) p)
      way t e = ap (λ (u : Bool). cond u (cut_once C p) (held_once (suc (length b)) p)) e

      fills : fills_chunk (x ∷ b) s ≡ true → Once C (suc (length b)) d p (answers (took (room (x ∷ b) s) (some (cut_request (holding (x ∷ b) s) s))) (cuts (holding (x ∷ b) s) s))
      fills e =
          let full : length (holding (x ∷ b) s) ≡ C = omega (arith, leb-true s.limit (length (holding (x ∷ b) s)) e, len, li, h.held_most) in
          let past : past_end (holding (x ∷ b) s) s ≡ false = and_no e r.1.1.1.1.0 in
          record {
            goes = took_is (x ∷ b) (some (cut_request (holding (x ∷ b) s) s));
            kept = λ capacity slots w k. record { capacity_is = k.capacity_is; slots_is = k.slots_is; waiting_is = k.waiting_is; made_is = k.made_is };
            fits = subst (Fits C (record { session = cuts (holding (x ∷ b) s) s; appends = d.appends + 1; flushes = d.flushes }))
                (plan_is refl (ap (λ (k : ℕ). p.stored + k) full) refl (ap (λ (q : Plan). q.appends + 1) h.shown_is) (ap (λ (q : Plan). q.flushes) h.shown_is)
                ∙ sym (way true (le-leb C (p.held + suc (length b)) (omega (arith, full, len)))))
                (cut_fits (holding (x ∷ b) s) (d.appends + 1) d.flushes (past_most (holding (x ∷ b) s) s p.stored h.offset_is past));
          }

      holds_all : fills_chunk (x ∷ b) s ≡ false → Once C (suc (length b)) d p (answers (took (room (x ∷ b) s) none) (holds (holding (x ∷ b) s) s))
      holds_all e =
          let few : length (holding (x ∷ b) s) < C = omega (arith, leb-false s.limit (length (holding (x ∷ b) s)) e, li) in
          let all : length (holding (x ∷ b) s) ≡ p.held + suc (length b) = omega (arith, len) in
          record {
            goes = took_is (x ∷ b) none;
            kept = λ capacity slots w k. record { capacity_is = k.capacity_is; slots_is = k.slots_is; waiting_is = k.waiting_is; made_is = k.made_is };
            fits = subst (Fits C (record { session = holds (holding (x ∷ b) s) s; appends = d.appends + 1; flushes = d.flushes })) (sym (way false (lt-leb C (p.held + suc (length b)) (omega arith))))
                (record {
                  limit_is = h.limit_is;
                  live_is = h.live_is;
                  open_is = h.open_is;
                  offset_is = h.offset_is;
                  offset_most = h.offset_most;
                  held_most = omega arith;
                  shown_is = plan_is (ap (λ (q : Plan). q.chunks) h.shown_is) (ap (λ (q : Plan). q.stored) h.shown_is) all
                      (ap (λ (q : Plan). q.appends + 1) h.shown_is) (ap (λ (q : Plan). q.flushes) h.shown_is);
                });
          }

  -- ---- flush

  flush-once : (out : ℕ) → AllFalse (without (ask_rows out d.session)) → Once C 0 d p (unbounded (flush out) d.session)
  unfolding unbounded stored
  flush-once out r =
      subst (Once C 0 d p) (sym (unless_passes d.session (without (ask_rows out d.session)) (asked flushing d.session) r))
      (choose_ind (Once C 0 d p) (not (is_nil d.session.writer.held)) _ _ cuts_held waits_only)
    where
      s : Session
      s = d.session

      cuts_held : not (is_nil s.writer.held) ≡ true → Once C 0 d p (answers (sends (cut_request s.writer.held s)) (cuts s.writer.held s))
      cuts_held e =
          let some-held : 0 < p.held = omega (arith, more_nil s.writer.held e, held_is) in
          let past : past_end s.writer.held s ≡ false = and_no e r.1.1.1.1.0 in
          record {
            goes = λ ls. ap (λ (k : List ℕ). some k) (sym (flush-again p.held ls some-held));
            kept = λ capacity slots w k. subst (λ (n : ℕ). Kept capacity slots n (cuts s.writer.held s)) (sym (waiting_same p.held w some-held))
                (record { capacity_is = k.capacity_is; slots_is = k.slots_is; waiting_is = k.waiting_is; made_is = k.made_is });
            fits = subst (Fits C (record { session = cuts s.writer.held s; appends = d.appends; flushes = d.flushes + 1 }))
                (plan_is (ap (λ (k : ℕ). p.chunks + k) (sym (one_for_lem p.held some-held))) (ap (λ (k : ℕ). p.stored + k) held_is) refl
                (ap (λ (q : Plan). q.appends) h.shown_is) (ap (λ (q : Plan). q.flushes + 1) h.shown_is))
                (cut_fits s.writer.held d.appends (d.flushes + 1) (past_most s.writer.held s p.stored h.offset_is past));
          }

      waits_only : not (is_nil s.writer.held) ≡ false → Once C 0 d p (answers (waits (request_for flushing s) (suc s.writer.made)) (awaits flushing s))
      waits_only e =
          let none-held : 0 ≡ p.held = sym (ap length (nil_of s.writer.held e)) ∙ held_is in
          record {
            goes = λ ls. ap (λ (k : ℕ). some (flush_behind k ls)) none-held;
            kept = λ capacity slots w k. subst (λ (n : ℕ). Kept capacity slots (waiting_with 0 n w) (awaits flushing s)) none-held
                (record {
                  capacity_is = k.capacity_is;
                  slots_is = k.slots_is;
                  waiting_is = length-append (waiters s) (waiter_of flushing s ∷ []) ∙ ap (λ (n : ℕ). n + 1) k.waiting_is ∙ omega arith;
                  made_is = ap suc k.made_is;
                });
            fits = subst (λ (k : ℕ). Fits C (record { session = awaits flushing s; appends = d.appends; flushes = d.flushes + 1 }) (plan (p.chunks + one_for k) (p.stored + k) 0 p.appends (p.flushes + 1))) none-held
                (record {
                  limit_is = h.limit_is;
                  live_is = h.live_is;
                  open_is = ap (λ (b : Bool). b || false) h.open_is;
                  offset_is = h.offset_is ∙ ap pos (omega arith);
                  offset_most = omega (arith, h.offset_most);
                  held_most = omega (arith, h.held_most);
                  shown_is = plan_is (ap (λ (q : Plan). q.chunks) h.shown_is ∙ omega arith) (ap (λ (q : Plan). q.stored) h.shown_is ∙ omega arith) (held_is ∙ sym none-held)
                      (ap (λ (q : Plan). q.appends) h.shown_is) (ap (λ (q : Plan). q.flushes + 1) h.shown_is);
                });
          }

  -- ---- any call for an entry

  pub call_once : (c : Call) (n : ℕ) → entry_of c ≡ some n → accepted (unbounded c d.session).answer ≡ true → Once C n d p (unbounded c d.session)
  unfolding unbounded
  call_once =
      entry_ind (λ (c : Call) (n : ℕ). accepted (unbounded c d.session).answer ≡ true → Once C n d p (unbounded c d.session))
      (λ x b out a. append-once x b out (unless_passed d.session (without (append_rows (x ∷ b) out d.session)) (appended (x ∷ b) d.session) a))
      (λ out a. flush-once out (unless_passed d.session (without (ask_rows out d.session)) (asked flushing d.session) a))

  -- ---- with an out buffer of C it passes its rows, if its chunk ends in time

  ended_no : is_ended d.session.phase ≡ false
  ended_no = ap (λ (q : Phase). is_ended q) h.live_is

  live-not : not (is_live d.session.phase) ≡ false
  live-not = ap (λ (q : Phase). not (is_live q)) h.live_is

  closed_no : closed d.session ≡ false
  unfolding closed
  closed_no = ap (λ (q : Phase). is_closing q || d.session.worker.finalized) h.live_is ∙ h.open_is

  short_no : (out : ℕ) → d.session.limit ≤ out → short_out out d.session ≡ false
  unfolding short_out
  short_no out l = le-ltb out d.session.limit l

  flush-ends : (once C 0 p).stored ≤ 2 ^ 63 - 1 → past_end d.session.writer.held d.session ≡ false
  flush-ends l = past_no d.session.writer.held d.session p.stored h.offset_is (omega (arith, held_is, l))

  module _ (x : ℕ) (b : Bytes) where
    -- an append that cuts makes one more chunk, of C bytes
    append_fills : fills_chunk (x ∷ b) d.session ≡ true → (length (holding (x ∷ b) d.session) ≡ C) × (once C (suc (length b)) p ≡ cut_once C p)
    append_fills e =
        let f : d.session.limit ≤ length (holding (x ∷ b) d.session) = leb-true d.session.limit (length (holding (x ∷ b) d.session)) e in
        let t : leb C (p.held + suc (length b)) ≡ true = le-leb C (p.held + suc (length b)) (omega (arith, holding_is (x ∷ b), h.limit_is, h.held_most)) in
        (omega (arith, holding_is (x ∷ b), h.limit_is, h.held_most), ap (λ (u : Bool). cond u (cut_once C p) (held_once (suc (length b)) p)) t)

    append-ends : (once C (suc (length b)) p).stored ≤ 2 ^ 63 - 1 → fills_chunk (x ∷ b) d.session ≡ true → past_end (holding (x ∷ b) d.session) d.session ≡ false
    append-ends l e =
        let f = append_fills e in
        past_no (holding (x ∷ b) d.session) d.session p.stored h.offset_is (omega (arith, f.0, ap (λ (q : Plan). q.stored) f.1, l))

  pub made_once : (c : Call) (n : ℕ) → entry_of c ≡ some n → d.session.limit ≤ out_of c → (once C n p).stored ≤ 2 ^ 63 - 1 → Once C n d p (unbounded c d.session)
  made_once =
      entry_ind (λ (c : Call) (n : ℕ). d.session.limit ≤ out_of c → (once C n p).stored ≤ 2 ^ 63 - 1 → Once C n d p (unbounded c d.session))
      (λ x b out o l.
      let cut : Bool = fills_chunk (x ∷ b) d.session in
      append-once x b out
      (ended_no, (closed_no, (and-false cut _ (λ e. live-not), (and-false cut _ (λ e. short_no out o), (and-false cut _ (append-ends x b l), tt))))))
      (λ out o l.
      let some-held : Bool = not (is_nil d.session.writer.held) in
      flush-once out (ended_no, (closed_no, (live-not, (and-false some-held _ (λ e. short_no out o), (and-false some-held _ (λ e. flush-ends l), tt))))))

  -- ---- and rows 8 and 9 too, where enough is lent

  module _ (K S w : ℕ) (k : Kept K S w d.session) (below : p.stored < K) where
    full_no : full d.session ≡ false
    unfolding full
    full_no = lt-leb d.session.worker.replay_buffer.capacity (stored d.session) (omega (arith, k.capacity_is, ap (λ (q : Plan). q.stored) h.shown_is))

    slot_no : p.chunks < S → no_slot d.session ≡ false
    unfolding no_slot
    slot_no l = lt-leb d.session.slots (length (chunks d.session)) (omega (arith, k.slots_is, ap (λ (q : Plan). q.chunks) h.shown_is))

    waiter_no : w < 16 → no_waiter d.session ≡ false
    unfolding no_waiter
    waiter_no l =
        rw (lt-leb 16 (length (waiters d.session)) (omega (arith, k.waiting_is)), lt-leb (2 ^ 64 - 1) d.session.writer.made (omega (arith, k.made_is))) refl

    append-same : (x : ℕ) (b : Bytes) (out : ℕ) → d.session.limit ≤ out → (once C (suc (length b)) p).stored ≤ 2 ^ 63 - 1 → (once C (suc (length b)) p).chunks ≤ S
        → step (append (x ∷ b) out) d.session ≡ unbounded (append (x ∷ b) out) d.session
    unfolding step appends unbounded
    append-same x b out o l m =
        let cut : Bool = fills_chunk (x ∷ b) d.session in
        let slot : fills_chunk (x ∷ b) d.session ≡ true → no_slot d.session ≡ false
        = λ e. slot_no (omega (arith, ap (λ (q : Plan). q.chunks) (append_fills x b e).1, m)) in
        passed_same d.session (append_rows (x ∷ b) out d.session) (appended (x ∷ b) d.session) (
          ended_no,
          (closed_no, (and-false cut _ (λ e. live-not), (and-false cut _ (λ e. short_no out o), (and-false cut _ (λ e. full_no), (and-false cut _ slot, (and-false cut _ (append-ends x b l), tt)))))),
        )

    flush-same : (out : ℕ) → d.session.limit ≤ out → (once C 0 p).stored ≤ 2 ^ 63 - 1 → (once C 0 p).chunks ≤ S → waiting_with 0 p.held w ≤ 16
        → step (flush out) d.session ≡ unbounded (flush out) d.session
    unfolding step asks unbounded
    flush-same out o l m v =
        let held : Bytes = d.session.writer.held in
        let some-held : Bool = not (is_nil d.session.writer.held) in
        let room : cond some-held (no_slot d.session) (no_waiter d.session) ≡ false
        = cond_ind (λ (x : Bool). x ≡ false) some-held
        (λ e. slot_no (omega (arith, one_for_lem p.held (omega (arith, more_nil held e, held_is)), m)))
        (λ e. waiter_no (subst (λ (n : ℕ). waiting_with 0 n w ≤ 16) (sym (sym (ap length (nil_of held e)) ∙ held_is)) v)) in
        passed_same d.session (ask_rows out d.session) (asked flushing d.session)
        (ended_no, (closed_no, (live-not, (and-false some-held _ (λ e. short_no out o), (full_no, (room, (and-false some-held _ (λ e. flush-ends l), tt)))))))

    pub made_same : (c : Call) (n : ℕ) → entry_of c ≡ some n → d.session.limit ≤ out_of c → (once C n p).stored ≤ 2 ^ 63 - 1 → (once C n p).chunks ≤ S
        → waiting_with n p.held w ≤ 16 → step c d.session ≡ unbounded c d.session
    made_same =
        entry_ind
        (λ (c : Call) (n : ℕ). d.session.limit ≤ out_of c → (once C n p).stored ≤ 2 ^ 63 - 1 → (once C n p).chunks ≤ S → waiting_with n p.held w ≤ 16
        → step c d.session ≡ unbounded c d.session)
        (λ x b out o l m v. append-same x b out o l m) (λ out o l m v. flush-same out o l m v)
