-- Append: what the code tests, takes and leaves is what the rule says.
-- Assumes nothing.
use mathlib.Core.Path.{◌≡◌, refl, sym, ap, ap₂, ◌∙◌}
use mathlib.Core.Bool.{Bool, true, false, ◌&&◌}
use mathlib.Core.Option.{none, some}
use mathlib.Core.List.{List, [], ◌∷◌}
use Prim.Native.Nat.{ℕ, ◌+◌, ◌-◌, ◌<◌, ◌≤◌, ◌^◌, min}
use native.Mathlib.Nat.{not-suc-le-zero}
use native.Mathlib.Omega.{arith}
use borrow.Author.Tests.{leb-false}
use lib.Dec.{ltb, leb}
use lib.ListN.{length, take, length-append, length-take}
use lib.Seq.{take_at}
use Rattle.rules.specs.Message.{Bytes, Request}
use Rattle.rules.specs.Session as R
use Rattle.rules.specs.Upload as U
use Rattle.rules.specs.Step.{step}
use Rattle.ring.specs.Ring.{Within}
use Rattle.ring.proofs.Laws.{take_part}
use Rattle.coalescing_buffer.specs.Held.{Extends}
use Rattle.coalescing_buffer.proofs.Laws.{takes_is, holds_is, cuts_is}
use Rattle.replay_buffer.specs.View.{queue_of}
use Rattle.worker.specs.View.{worker_of}
use Rattle.bidi_write.specs.Refusal.{number_of}
use Rattle.admission.specs.Rows.{upload_check}
use Rattle.transport.specs.View.{phase_of, lent_of, end_of, held_of, view}
use Rattle.transport.specs.Valid.{GuardedAt, Valid}
use Rattle.transport.specs.Promise.{Promise}
use Rattle.cuts.specs.Cut.{chunk_at, CutRoom, Cuts}
use Rattle.appends.specs.Append.{append_tests, Taking}
use Rattle.transport.specs.declared.Session.{Session}
use Rattle.std.specs.Prelude.{Some, None}
use Rattle.std.specs.declared.result.Result.{Result}
use Rattle.std.specs.Prelude.{Ok, Err}
use Rattle.transport.specs.declared.Sent.TheVariants as sent
use Rattle.transport.specs.declared.Answer.{Answer}
use Rattle.transport.specs.declared.Answer.TheVariants as answer
use Rattle.bidi_write.specs.declared.Refusal.{Refusal}
use Rattle.cuts.specs.declared.Sending.{Sending}
use Rattle.rules.proofs.Tests.{clash}
use Rattle.bidi_write.proofs.Rows as Rows
use Rattle.transport.proofs.First.{some_offered, first_goes}
use Rattle.transport.proofs.Refused as Refused
use Rattle.transport.proofs.Numbers.{held_length, full_is, slot_is}
use Rattle.cuts.proofs.Passing.{cuttable, past_is}

-- ---- the rule, by its tests

-- held bytes reach the limit
abbrev fills_at : Bytes → R.Session → Bool
fills_at d v = leb v.limit (length (U.holding d v))

abbrev tests_at : Bytes → ℕ → R.Session → Result (Unit {0}) Refusal
tests_at d out v =
    upload_check (R.phase_number v.phase) v.worker.finalized (fills_at d v) (fills_at d v) (R.short_out out v) (R.full v) (fills_at d v && R.no_slot v)
    (R.past_end (U.holding d v) v)

step_is : (d : Bytes) (out : ℕ) (v : R.Session) → 0 < length d → step (R.append d out) v ≡ U.appends d out v
unfolding step
step_is [] out v h = absurd (not-suc-le-zero h)
step_is (x ∷ d) out v h = refl

rule-refuses : (d : Bytes) (out : ℕ) (v : R.Session) (x : Refusal) → tests_at d out v ≡ Err x → U.appends d out v ≡ R.answers (R.refused (number_of x)) v
unfolding U.appends R.closed R.unless
rule-refuses d out v x e = Rows.refused v _ x _ e

rule_accepts : (d : Bytes) (out : ℕ) (v : R.Session) → tests_at d out v ≡ Ok tt
    → U.appends d out v
    ≡ R.choose (fills_at d v) (R.answers (R.took (U.room d v) (some (U.cut_request (U.holding d v) v))) (U.cuts (U.holding d v) v))
    (R.answers (R.took (U.room d v) none) (U.holds (U.holding d v) v))
unfolding U.appends R.closed R.unless R.choose
rule_accepts d out v e = Rows.passed v _ _ e

same_tests : (phase : ℕ) (finalized short : Bool) (cuts cuts' full full' slot slot' past past' : Bool) → cuts ≡ cuts' → full ≡ full' → slot ≡ slot' → past ≡ past'
    → upload_check phase finalized cuts cuts short full (cuts && slot) past ≡ upload_check phase finalized cuts' cuts' short full' (cuts' && slot') past'
same_tests phase finalized short cuts cuts' full full' slot slot' past past' e f g h = rw (e, f, g, h)

-- the same record with other bytes in a store of the same length
valid_store : (s : Session) (store store' : Bytes) (table : List ℕ) → length store' ≡ length store → Valid s store table → Valid s store' table
valid_store s store store' table e v = record {
  guarded = rw e v.guarded;
  slots_in = v.slots_in;
  sound = v.sound;
  waiting_is = v.waiting_is;
  spec_fits = v.spec_fits;
  followed = v.followed;
  cursor = v.cursor;
}

-- so many bytes are held, and nothing is sent
abbrev holding : ℕ → Session → Session
holding n s = record {
  limit = s.limit;
  slots = s.slots;
  phase = s.phase;
  sent = sent.Nothing;
  made = s.made;
  write_offset = s.write_offset;
  running_crc32c = s.running_crc32c;
  held = n;
  worker = s.worker;
}

valid_holds : (s : Session) (store : Bytes) (table : List ℕ) (n : ℕ) → s.held + n < s.limit → Valid s store table → Valid (holding (s.held + n) s) store table
valid_holds s store table n h v =
    let g = v.guarded in
    record {
      guarded = record {
        limit_some = g.limit_some;
        limit_top = g.limit_top;
        capacity_low = g.capacity_low;
        capacity_top = g.capacity_top;
        store_lent = g.store_lent;
        table_lent = g.table_lent;
        head_in = g.head_in;
        stored_in = g.stored_in;
        held_in = h;
        first_in = g.first_in;
        chunks_in = g.chunks_in;
        waiting_in = g.waiting_in;
        offset_in = g.offset_in;
        offset_top = g.offset_top;
        started = g.started;
      };
      slots_in = v.slots_in;
      sound = v.sound;
      waiting_is = v.waiting_is;
      spec_fits = v.spec_fits;
      followed = v.followed;
      cursor = v.cursor;
    }

-- ---- at the view of a record

module _ (s : Session) (store : Bytes) (table : List ℕ) (out : Bytes) (g : GuardedAt s (length store) (length table)) (d : Bytes) (n : ℕ)
    (taken : n ≡ min (length d) (s.limit - s.held)) where
  abbrev rule : R.Session
  rule = view s store table

  abbrev stored : ℕ
  stored = s.worker.replay_buffer.unpersisted_bytes

  held_in : stored + s.held ≤ (lent_of s).size
  held_in = omega (arith, g)

  room_is : U.room d rule ≡ n
  unfolding view
  room_is = takes_is s.limit (lent_of s).size s.worker.replay_buffer.head stored s.held store g.store_lent held_in d n taken

  fills_is : fills_at d rule ≡ leb s.limit (s.held + n)
  unfolding view
  fills_is = cuts_is s.limit (lent_of s).size s.worker.replay_buffer.head stored s.held store g.store_lent held_in d n taken

  length_held_is : length (held_of s store) ≡ s.held
  length_held_is = held_length s store (length table) g

  length-holding : length (U.holding d rule) ≡ s.held + n
  unfolding view
  length-holding = rw (room_is, length-append, length_held_is, length-take) (omega arith)

  past_end_is : Valid s store table → R.past_end (U.holding d rule) rule ≡ ltb (2 ^ 63 - 1) (end_of s + (s.held + n))
  past_end_is v = sym (past_is s store table v (U.holding d rule)) ∙ ap (λ (k : ℕ). ltb (2 ^ 63 - 1) (end_of s + k)) length-holding

  tests_are : (cuts : Bool) → cuts ≡ leb s.limit (s.held + n) → Valid s store table → tests_at d (length out) rule ≡ append_tests s n (length out) cuts
  unfolding view R.short_out worker_of
  tests_are cuts e v =
      same_tests (R.phase_number (phase_of s.phase)) s.worker.finalized (ltb (length out) s.limit) _ cuts _ _ _ _ _ _
      (fills_is ∙ sym e) (sym (full_is s store table v)) (sym (slot_is s store table v)) (past_end_is v)

  -- refused
  pub append-refuses : R.is_ended (phase_of s.phase) ≡ false → (cuts : Bool) → cuts ≡ leb s.limit (s.held + n) → 0 < length d
      → (x : Refusal) → append_tests s n (length out) cuts ≡ Err x
      → Promise (R.append d (length out)) s store table out (record { session = s; answer = Err x }) store table out
  append-refuses on cuts e h x t =
      Refused.refusal (R.append d (length out)) s store table out x
      (first_goes (R.append d (length out)) s store table (some_offered d h) on g)
      (λ v. step_is d (length out) rule h ∙ rule-refuses d (length out) rule x (tests_are cuts e v ∙ t))

  rule-holds : Taking s d (length out) n false → Valid s store table
      → step (R.append d (length out)) rule ≡ R.answers (R.took n none) (U.holds (U.holding d rule) rule)
  unfolding R.choose
  rule-holds t v =
      step_is d (length out) rule t.some_given
      ∙ rule_accepts d (length out) rule (tests_are false t.cuts_is v ∙ t.goes)
      ∙ rw (fills_is, sym t.cuts_is, room_is)

  rule-cuts : Taking s d (length out) n true → Valid s store table
      → step (R.append d (length out)) rule ≡ R.answers (R.took n (some (U.cut_request (U.holding d rule) rule))) (U.cuts (U.holding d rule) rule)
  unfolding R.choose
  rule-cuts t v =
      step_is d (length out) rule t.some_given
      ∙ rule_accepts d (length out) rule (tests_are true t.cuts_is v ∙ t.goes)
      ∙ rw (fills_is, sym t.cuts_is, room_is)

  -- the bytes that are taken come behind those held
  module _ (store' : Bytes) (x : Extends (lent_of s).size s.worker.replay_buffer.head stored s.held d n store store') where
    chunk_is : chunk_at s (s.held + n) store' ≡ U.holding d rule
    unfolding view
    chunk_is = sym (holds_is s.limit (lent_of s).size s.worker.replay_buffer.head stored s.held store g.store_lent held_in d n taken store' x)

    held_kept : held_of s store' ≡ held_of s store
    held_kept =
        sym (take_part (lent_of s).size s.worker.replay_buffer.head store' stored s.held (s.held + n) (omega arith))
        ∙ ap (take s.held) x.held_is
        ∙ take_at (held_of s store) (take n d) s.held length_held_is

    view_kept : view s store' table ≡ rule
    unfolding view worker_of queue_of
    view_kept = rw (held_kept, x.stored_is)

    view-holds : view (holding (s.held + n) s) store' table ≡ U.holds (chunk_at s (s.held + n) store') (view s store' table)
    unfolding view U.holds
    view-holds = refl

    -- no chunk is cut
    pub append-holds : length store' ≡ length store → Taking s d (length out) n false
        → Promise (R.append d (length out)) s store table out (record { session = holding (s.held + n) s; answer = Ok (answer.Took n None) }) store' table out
    append-holds same t = record {
      first = first_goes (R.append d (length out)) s store table (some_offered d t.some_given) (Rows.first_false _ _ _ t.goes) g;
      refuses = λ y f. absurd (Refused.accepted _ y f);
      takes = omega (arith, taken);
      store_beyond = x.beyond;
      table_beyond = refl;
      out_beyond = refl;
      sent_is = refl;
      sent_in = omega arith;
      steps = λ v. ap (R.answers (R.took n none)) (view-holds ∙ ap₂ U.holds chunk_is view_kept) ∙ sym (rule-holds t v);
      stays = λ v. valid_holds s store' table n (leb-false s.limit (s.held + n) (sym t.cuts_is)) (valid_store s store store' table same v);
    }

    -- a chunk is cut
    pub append-cuts : length store' ≡ length store → Taking s d (length out) n true → (r : Sending) (table' : List ℕ) (out' : Bytes)
        → Cuts s (s.held + n) store' table out r table' out'
        → Promise (R.append d (length out)) s store table out (record { session = r.session; answer = Ok (answer.Took n (Some r.request)) }) store' table' out'
    append-cuts same t r table' out' k = record {
      first = first_goes (R.append d (length out)) s store table (some_offered d t.some_given) (Rows.first_false _ _ _ t.goes) g;
      refuses = λ y f. absurd (Refused.accepted _ y f);
      takes = omega (arith, taken);
      store_beyond = x.beyond;
      table_beyond = k.table_beyond;
      out_beyond = k.out_beyond;
      sent_is = k.sent_is;
      sent_in = k.sent_in;
      steps = λ v.
          let w = valid_store s store store' table same v in
          ap₂ (λ (q : Request) (z : R.Session). R.answers (R.took n (some q)) z)
          (k.request_is w ∙ ap₂ U.cut_request chunk_is view_kept) (k.session_is w ∙ ap₂ U.cuts chunk_is view_kept)
          ∙ sym (rule-cuts t v);
      stays = λ v. k.stays (valid_store s store store' table same v);
    }

-- ---- what the callees ask

pub take-cuts : (s : Session) (store table : ℕ) → GuardedAt s store table → (d : Bytes) (out n : ℕ) → Taking s d out n true → CutRoom s (s.held + n) store table out
take-cuts s store table g d out n t =
    record { guarded = g; cuttable = cuttable s (s.held + n) out t.goes (omega (arith, g, t.taken)) }

-- stored bytes at or above capacity leave room for less than a chunk
take_ends : (s : Session) (store table : ℕ) → GuardedAt s store table → (d : Bytes) (out n : ℕ) (cuts : Bool) → Taking s d out n cuts
    → s.worker.replay_buffer.unpersisted_bytes + s.held + n ≤ (lent_of s).size
take_ends s store table g d out n true t = omega (arith, g, t.taken, (take-cuts s store table g d out n t).cuttable.below)
take_ends s store table g d out n false t = omega (arith, g, leb-false s.limit (s.held + n) (sym t.cuts_is))

module _ (s : Session) (store table : ℕ) (g : GuardedAt s store table) (d : Bytes) (out n : ℕ) (cuts : Bool) (t : Taking s d out n cuts) where
  pub take_within : Within store (lent_of s).size s.worker.replay_buffer.head (s.worker.replay_buffer.unpersisted_bytes + s.held) n
  take_within = record { room = g.store_lent; starts = omega (arith, g); ends = take_ends s store table g d out n cuts t }

-- an append of nothing
pub append-nothing : (d : Bytes) (s : Session) (store : Bytes) (table : List ℕ) (out : Bytes) → length d ≡ 0
    → Promise (R.append d (length out)) s store table out (record { session = s; answer = Ok (answer.Took 0 None) }) store table out
unfolding step
append-nothing [] s store table out e = record {
  first = record { empty = λ _. (refl, refl, refl, refl); over = λ f. clash refl f; unfit = λ f. clash refl f };
  refuses = λ y f. absurd (Refused.accepted _ y f);
  takes = omega arith;
  store_beyond = refl;
  table_beyond = refl;
  out_beyond = refl;
  sent_is = refl;
  sent_in = omega arith;
  steps = λ v. refl;
  stays = λ v. v;
}
append-nothing (x ∷ d) s store table out e = absurd (omega arith)
