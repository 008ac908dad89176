-- Flush and finalise: what the code tests and leaves is what the rule says.
-- Assumes nothing.
use mathlib.Core.Path.{◌≡◌, refl, sym, ap, ap₂, ◌∙◌, subst}
use mathlib.Core.Bool.{Bool, true, false, not, cond, ◌||◌}
use mathlib.Core.Option.{none, some}
use mathlib.Core.List.{List, [], ◌∷◌, ◌++◌}
use Prim.Native.Nat.{ℕ, suc, ◌+◌, ◌-◌, ◌<◌, ◌≤◌, ◌^◌}
use native.Mathlib.Numerals.{add-one}
use native.Mathlib.Omega.{arith}
use borrow.Author.Tests.{leb-false, not-false}
use lib.Dec.{ltb, leb, eqb}
use lib.ListN.{length, length-append}
use Rattle.rules.specs.Limits.{max_waiters}
use Rattle.rules.specs.Message.{Bytes, Request}
use Rattle.rules.specs.Session as R
use Rattle.rules.specs.Upload as U
use Rattle.rules.specs.Notes.{content_of, data_in}
use Rattle.rules.specs.Step.{step}
use Rattle.bidi_write.specs.View.{checksum_of, length_of, request_of}
use Rattle.worker.specs.View.{kind_of, pending_of, waiters_of, worker_of}
use Rattle.worker.specs.declared.PendingKind.{PendingKind}
use Rattle.worker.specs.declared.PendingKind.TheVariants as kind
use Rattle.worker.specs.declared.PendingRequests.{PendingRequests}
use Rattle.worker.proofs.Lengths.{no_length}
use Rattle.worker.proofs.Waiters.{is_nil_is}
use Rattle.bidi_write.specs.Refusal.{number_of}
use Rattle.admission.specs.Rows.{upload_check, upload_tests}
use Rattle.transport.specs.View.{Left, phase_of, lent_of, end_of, held_of, view}
use Rattle.transport.specs.Valid.{GuardedAt, Valid}
use Rattle.transport.specs.Promise.{asked_by, First, Promise}
use Rattle.cuts.specs.Cut.{CutRoom, Cuts}
use Rattle.flushes.specs.Flush.{call_of, waiter_for, awaiting, Awaits}
use Rattle.transport.specs.declared.Session.{Session}
use Rattle.transport.specs.declared.Answer.TheVariants as answer
use Rattle.bidi_write.specs.declared.Refusal.{Refusal}
use Rattle.std.specs.declared.result.Result.{Result}
use Rattle.std.specs.Prelude.{Ok, Err}
use Rattle.cuts.specs.declared.Sending.{Sending}
use Rattle.rules.proofs.Tests.{or_no_left, or_no_right}
use Rattle.bidi_write.proofs.Rows as Rows
use Rattle.transport.proofs.First.{first_goes}
use Rattle.transport.proofs.Refused as Refused
use Rattle.transport.proofs.Views.{no_cursor, live_no_replay}
use Rattle.transport.proofs.Numbers.{held_length, full_is, slot_is}
use Rattle.transport.proofs.Ends.{guarded_waiting}
use Rattle.cuts.proofs.Passing.{passes, cuttable, past_is}

-- ---- the tests, by the record's numbers

abbrev pub ask_tests : Session → (out : ℕ) → Bool → Result (Unit {0}) Refusal
ask_tests s out cuts =
    upload_tests (R.phase_number (phase_of s.phase)) s.worker.finalized s.limit s.worker.replay_buffer.capacity
    s.worker.replay_buffer.unpersisted_bytes s.write_offset.0 true cuts s.held out
    (cond cuts (leb s.slots s.worker.replay_buffer.chunks) (leb max_waiters s.worker.pending_requests.count || leb (2 ^ 64 - 1) s.made))

-- a flush or finalise that cuts or not goes on
pub record Asking (s : Session) (out : ℕ) (cuts : Bool) : Type 0 where
  pub cuts_is : cuts ≡ not (eqb s.held 0)
  pub goes : ask_tests s out cuts ≡ Ok tt

-- ---- the rule, by its tests

abbrev held_at : R.Session → Bool
held_at v = not (R.is_nil v.writer.held)

abbrev tests_at : ℕ → R.Session → Result (Unit {0}) Refusal
tests_at out v =
    upload_check (R.phase_number v.phase) v.worker.finalized true (held_at v) (R.short_out out v) (R.full v) (cond (held_at v) (R.no_slot v) (R.no_waiter v))
    (R.past_end v.writer.held v)

step_is : (k : PendingKind) (out : ℕ) (v : R.Session) → step (call_of k out) v ≡ U.asks (kind_of k) out v
unfolding step
step_is kind.Flush out v = refl
step_is kind.Finalize out v = refl

rule-refuses : (k : R.PendingKind) (out : ℕ) (v : R.Session) (x : Refusal) → tests_at out v ≡ Err x → U.asks k out v ≡ R.answers (R.refused (number_of x)) v
unfolding U.asks R.closed R.unless
rule-refuses k out v x e = Rows.refused v _ x _ e

rule_accepts : (k : R.PendingKind) (out : ℕ) (v : R.Session) → tests_at out v ≡ Ok tt
    → U.asks k out v
    ≡ R.choose (held_at v) (R.answers (R.sends (U.cut_request v.writer.held v)) (U.cuts v.writer.held v))
    (R.answers (R.waits (U.request_for k v) (suc v.writer.made)) (U.awaits k v))
unfolding U.asks R.closed R.unless R.choose
rule_accepts k out v e = Rows.passed v _ _ e

same_tests : (phase : ℕ) (finalized short : Bool) (cuts cuts' full full' slot slot' waiter waiter' past past' : Bool) → cuts ≡ cuts' → full ≡ full' → slot ≡ slot'
    → waiter ≡ waiter' → past ≡ past'
    → upload_check phase finalized true cuts short full (cond cuts slot waiter) past ≡ upload_check phase finalized true cuts' short full' (cond cuts' slot' waiter') past'
same_tests phase finalized short cuts cuts' full full' slot slot' waiter waiter' past past' e f g h i = rw (e, f, g, h, i)

pub never_empty : (k : PendingKind) (out : ℕ) → (asked_by (call_of k out)).empty ≡ false
never_empty kind.Flush out = refl
never_empty kind.Finalize out = refl

-- ---- a waiter

pub record Waitable (s : Session) : Type 0 where
  pub live : R.is_live (phase_of s.phase) ≡ true
  pub waiting : s.worker.pending_requests.count < max_waiters
  pub made : s.made < 2 ^ 64 - 1

pub waitable : (s : Session) (out : ℕ) → Asking s out false → Waitable s
waitable s out t =
    let many : Bool = leb max_waiters s.worker.pending_requests.count in
    let last : Bool = leb (2 ^ 64 - 1) s.made in
    let p = passes (R.phase_number (phase_of s.phase)) s.worker.finalized true false (ltb out s.limit)
    (leb s.worker.replay_buffer.capacity s.worker.replay_buffer.unpersisted_bytes) (many || last) (ltb (2 ^ 63 - 1) (end_of s + s.held)) t.goes in
    record { live = not-false _ p.live; waiting = leb-false _ _ (or_no_left many last p.roomy); made = leb-false _ _ (or_no_right many last p.roomy) }

waiter_is : (k : PendingKind) (s : Session) (store : Bytes) (table : List ℕ) → pending_of (waiter_for k s) ≡ U.waiter_of (kind_of k) (view s store table)
unfolding view
waiter_is kind.Flush s store table = refl
waiter_is kind.Finalize s store table = refl

absent : (k : PendingKind) (s : Session) → (pending_of (waiter_for k s)).request.checksummed_data ≡ none
absent kind.Flush s = refl
absent kind.Finalize s = refl

-- the session after a waiter is made, but for two of its parts
abbrev after_wait : PendingKind → Session → Bytes → List ℕ → ℕ → List R.PendingRequest → R.Session
after_wait k s store table made ws = record {
  limit = s.limit;
  slots = s.slots;
  phase = phase_of s.phase;
  sent = R.a_request;
  writer = record { made = made; write_offset = s.write_offset.0; running_crc32c = checksum_of s.running_crc32c; held = held_of s store };
  worker = R.set_pending ws (s.worker.finalized || U.is_finalizing (kind_of k)) (worker_of (lent_of s) (end_of s) s.worker store table);
}

-- ---- at the view of a record

module _ (k : PendingKind) (s : Session) (store : Bytes) (table : List ℕ) (out : Bytes) (g : GuardedAt s (length store) (length table)) where
  abbrev rule : R.Session
  rule = view s store table

  first : R.is_ended (phase_of s.phase) ≡ false → {r : Left} {table' : List ℕ} {out' : Bytes}
      → First (call_of k (length out)) s store table out r store table' out'
  first on = first_goes (call_of k (length out)) s store table (never_empty k (length out)) on g

  length_held_is : length (held_of s store) ≡ s.held
  length_held_is = held_length s store (length table) g

  held_is : held_at rule ≡ not (eqb s.held 0)
  unfolding view
  held_is = ap not (is_nil_is (held_of s store) ∙ ap (λ (n : ℕ). eqb n 0) length_held_is)

  tests_are : (cuts : Bool) → cuts ≡ not (eqb s.held 0) → Valid s store table → tests_at (length out) rule ≡ ask_tests s (length out) cuts
  unfolding view R.short_out R.no_waiter worker_of
  tests_are cuts e v =
      same_tests (R.phase_number (phase_of s.phase)) s.worker.finalized (ltb (length out) s.limit) _ cuts _ _ _ _ _ _ _ _
      (held_is ∙ sym e) (sym (full_is s store table v)) (sym (slot_is s store table v))
      (ap (λ (n : ℕ). leb max_waiters n || leb (2 ^ 64 - 1) s.made) v.waiting_is)
      (sym (past_is s store table v (held_of s store)) ∙ ap (λ (n : ℕ). ltb (2 ^ 63 - 1) (end_of s + n)) length_held_is)

  pub ask_refuses : R.is_ended (phase_of s.phase) ≡ false → (cuts : Bool) → cuts ≡ not (eqb s.held 0) → (x : Refusal) → ask_tests s (length out) cuts ≡ Err x
      → Promise (call_of k (length out)) s store table out (record { session = s; answer = Err x }) store table out
  ask_refuses on cuts e x t =
      Refused.refusal (call_of k (length out)) s store table out x (first on)
      (λ v. step_is k (length out) rule ∙ rule-refuses (kind_of k) (length out) rule x (tests_are cuts e v ∙ t))

  -- held bytes are cut
  rule-cuts : Asking s (length out) true → Valid s store table
      → step (call_of k (length out)) rule ≡ R.answers (R.sends (U.cut_request (held_of s store) rule)) (U.cuts (held_of s store) rule)
  unfolding R.choose view
  rule-cuts t v =
      step_is k (length out) rule
      ∙ rule_accepts (kind_of k) (length out) rule (tests_are true t.cuts_is v ∙ t.goes)
      ∙ rw (held_is, sym t.cuts_is)

  pub ask_cuts : Asking s (length out) true → (r : Sending) (table' : List ℕ) (out' : Bytes) → Cuts s s.held store table out r table' out'
      → Promise (call_of k (length out)) s store table out (record { session = r.session; answer = Ok (answer.Sends r.request) }) store table' out'
  ask_cuts t r table' out' c = record {
    first = first (Rows.first_false _ _ _ t.goes);
    refuses = λ y f. let z : ◌≡◌ {A = ℕ} 0 1 = cc in absurd (omega arith);
    takes = omega arith;
    store_beyond = refl;
    table_beyond = c.table_beyond;
    out_beyond = c.out_beyond;
    sent_is = c.sent_is;
    sent_in = c.sent_in;
    steps = λ v. ap₂ (λ (q : Request) (z : R.Session). R.answers (R.sends q) z) (c.request_is v) (c.session_is v) ∙ sym (rule-cuts t v);
    stays = c.stays;
  }

  -- none are held: a waiter is made
  rule-waits : Asking s (length out) false → Valid s store table
      → step (call_of k (length out)) rule ≡ R.answers (R.waits (U.request_for (kind_of k) rule) (suc s.made)) (U.awaits (kind_of k) rule)
  unfolding R.choose view
  rule-waits t v =
      step_is k (length out) rule
      ∙ rule_accepts (kind_of k) (length out) rule (tests_are false t.cuts_is v ∙ t.goes)
      ∙ rw (held_is, sym t.cuts_is)

  valid_waits : (q : PendingRequests) → length (waiters_of q) ≡ q.count → q.count ≤ max_waiters → R.is_live (phase_of s.phase) ≡ true → Valid s store table
      → Valid (awaiting k q s) store table
  valid_waits q e h live v = record {
    guarded = guarded_waiting q.count h v.guarded;
    slots_in = v.slots_in;
    sound = v.sound;
    waiting_is = e;
    spec_fits = v.spec_fits;
    followed = v.followed;
    cursor = no_cursor s.phase _ _ (live_no_replay s.phase live);
  }

  view-waits : (q : PendingRequests) → waiters_of q ≡ waiters_of s.worker.pending_requests ++ (pending_of (waiter_for k s) ∷ [])
      → view (awaiting k q s) store table ≡ U.awaits (kind_of k) rule
  unfolding view worker_of
  view-waits q e = ap₂ (after_wait k s store table) (add-one s.made) (e ∙ ap (λ (p : R.PendingRequest). waiters_of s.worker.pending_requests ++ (p ∷ [])) (waiter_is k s store table))

  pub ask_waits : Asking s (length out) false → (r : Sending) → Awaits k s r
      → Promise (call_of k (length out)) s store table out (record { session = r.session; answer = Ok (answer.Waits r.request r.session.made) }) store table out
  ask_waits t r w =
      let q : PendingRequests = r.session.worker.pending_requests in
      let a = waitable s (length out) t in
      let none_sent : data_in (some (request_of r.request out)) ≡ [] = ap (λ (x : Request). data_in (some x)) (w.request_is out) ∙ ap content_of (absent k s) in
      let empty : length_of r.request.«data» ≡ 0 = no_length r.request out _ (w.request_is out) (absent k s) in
      record {
        first = first (Rows.first_false _ _ _ t.goes);
        refuses = λ y f. let z : ◌≡◌ {A = ℕ} 0 1 = cc in absurd (omega arith);
        takes = omega arith;
        store_beyond = refl;
        table_beyond = refl;
        out_beyond = rw (none_sent, empty);
        sent_is = rw (none_sent, empty);
        sent_in = omega (arith, empty);
        steps = λ v.
            ap (λ (z : Session). R.answers (R.waits (request_of r.request out) z.made) (view r.session store table)) w.session_is
            ∙ ap (λ (x : Request). R.answers (R.waits x (s.made + 1)) (view r.session store table)) (w.request_is out ∙ ap (λ (p : R.PendingRequest). p.request) (waiter_is k s store table))
            ∙ ap₂ (λ (n : ℕ) (z : R.Session). R.answers (R.waits (U.request_for (kind_of k) rule) n) z) (add-one s.made)
            (ap (λ (z : Session). view z store table) w.session_is ∙ view-waits q w.waiters_are)
            ∙ sym (rule-waits t v);
        stays = λ v.
            let l : length (waiters_of q) ≡ q.count = omega (arith, simp length-append at (ap length w.waiters_are), v.waiting_is, w.count_is) in
            subst (λ (z : Session). Valid z store table) (sym w.session_is) (valid_waits q l (omega (arith, a, w.count_is)) a.live v);
      }

-- ---- what the callees ask

pub ask_cut-room : (s : Session) (store table out : ℕ) → GuardedAt s store table → Asking s out true → CutRoom s s.held store table out
ask_cut-room s store table out g t = record { guarded = g; cuttable = cuttable s s.held out t.goes (omega (arith, g)) }
