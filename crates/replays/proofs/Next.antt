-- Next request: the refusals, and what a call that goes on promises.
-- Assumes nothing.
use mathlib.Core.Path.{◌≡◌, refl, sym, ap, ◌∙◌}
use mathlib.Core.Bool.{Bool, true, false, not, ◌&&◌}
use mathlib.Core.Option.{Option, none}
use mathlib.Core.List.{List, [], ◌∷◌}
use Prim.Native.Nat.{ℕ, zero, suc, ◌≤◌}
use native.Mathlib.Omega.{arith}
use lib.ListN.{length, get_elem?}
use lib.Dec.{ltb, eqb, leb-suc-suc}
use borrow.Author.Tests.{ltb-true, ltb-false, lt-ltb, le-ltb, not-false}
use Rattle.rules.specs.Message.{Bytes, is_given}
use Rattle.rules.specs.Session as R
use Rattle.rules.specs.Replay.{place, hands_chunk, hands}
use Rattle.rules.specs.Step.{step}
use Rattle.worker.proofs.Waiters.{element_past}
use Rattle.bidi_write.specs.Refusal.{number_of}
use Rattle.admission.specs.Rows.{next_rows}
use Rattle.transport.specs.View.{Left, phase_of, view, left}
use Rattle.transport.specs.Valid.{GuardedAt, Valid}
use Rattle.transport.specs.Promise.{First, Promise}
use Rattle.bidi_write.specs.Refusal.{checked}
use Rattle.replays.specs.Replay.{cursor_of, HandsChunk, HandsRest}
use Rattle.transport.specs.declared.Cursor.{Cursor}
use Rattle.transport.specs.declared.Phase.{Phase}
use Rattle.transport.specs.declared.Phase.TheVariants as phase
use Rattle.transport.specs.declared.Session.{Session}
use Rattle.bidi_write.specs.declared.Refusal.{Refusal}
use Rattle.transport.proofs.Refused.{accepted}
use Rattle.std.specs.declared.result.Result.{Result}
use Rattle.std.specs.Prelude.{Ok, Err}
use Rattle.transport.specs.declared.Outcome.{Outcome}
use Rattle.rules.proofs.Tests.{clash}
use Rattle.bidi_write.proofs.Rows.{refused, passed, first_false, later}
use Rattle.transport.proofs.First.{first_goes}
use Rattle.transport.proofs.Refused as laws
use Rattle.transport.proofs.Numbers.{chunks_are}

abbrev pub next_tests : ℕ → Bool → Result (Unit {0}) Refusal
next_tests n short = checked (next_rows n short)

-- the rule's last test
abbrev short : ℕ → R.Session → Bool
short out v = is_given (get_elem? (R.chunks v) (place v.phase)) && R.short_out out v

rule-refuses : (out : ℕ) (v : R.Session) (x : Refusal) → next_tests (R.phase_number v.phase) (short out v) ≡ Err x
    → step (R.next_request out) v ≡ R.answers (R.refused (number_of x)) v
unfolding step hands R.unless
rule-refuses out v x e = refused v _ x _ e

rule-hands : (out : ℕ) (v : R.Session) → next_tests (R.phase_number v.phase) (short out v) ≡ Ok tt
    → step (R.next_request out) v ≡ hands_chunk (get_elem? (R.chunks v) (place v.phase)) (place v.phase) v
unfolding step hands R.unless
rule-hands out v e = passed v _ _ e

-- where the code goes on, the last two tests do not hold
goes_on : (n : ℕ) (out : Bool) → next_tests n out ≡ Ok tt → (not (eqb n 4) ≡ false) × (out ≡ false)
goes_on n out e =
    let phase = later (eqb n 6) _ _ e in
    (first_false (not (eqb n 4)) _ _ phase, first_false out _ _ (later (not (eqb n 4)) _ _ phase))

-- ---- the cursor

place_is : (p : Phase) → place (phase_of p) ≡ (cursor_of p).next
place_is phase.Live = refl
place_is phase.Closing = refl
place_is phase.Connecting = refl
place_is (phase.Verdict r) = refl
place_is (phase.Replay c) = refl
place_is (phase.Ended c) = refl

in_replay : (p : Phase) → eqb (R.phase_number (phase_of p)) 4 ≡ true → p ≡ phase.Replay (cursor_of p)
in_replay phase.Live e = clash e refl
in_replay phase.Closing e = clash e refl
in_replay phase.Connecting e = clash e refl
in_replay (phase.Verdict r) e = clash e refl
in_replay (phase.Replay c) e = refl
in_replay (phase.Ended c) e = clash e refl

-- an element is given below the length
given_is : {A : Type 0} (l : List A) (i : ℕ) → is_given (get_elem? l i) ≡ ltb i (length l)
given_is [] i = sym (le-ltb i 0 (omega arith))
given_is (x ∷ l) zero = sym (lt-ltb 0 (suc (length l)) (omega arith))
given_is (x ∷ l) (suc i) = given_is l i ∙ sym (leb-suc-suc (suc i) (length l))

module _ (s : Session) (store : Bytes) (table : List ℕ) (out : Bytes) (n : ℕ) (phase_is : n ≡ R.phase_number (phase_of s.phase))
    (at : Cursor) (at_is : at ≡ cursor_of s.phase) (on : R.is_ended (phase_of s.phase) ≡ false) (g : GuardedAt s (length store) (length table)) where
  abbrev more : Bool
  more = ltb at.next s.worker.replay_buffer.chunks

  abbrev short_out_lem : Bool
  short_out_lem = ltb (length out) s.limit

  first : {r : Left} {out' : Bytes} → First (R.next_request (length out)) s store table out r store table out'
  first = first_goes (R.next_request (length out)) s store table refl on g

  place_at : place (view s store table).phase ≡ at.next
  unfolding view
  place_at = place_is s.phase ∙ ap (λ (c : Cursor). c.next) (sym at_is)

  short_is : Valid s store table → (more && short_out_lem) ≡ short (length out) (view s store table)
  unfolding R.short_out view
  short_is v =
      ap (λ (t : Bool). t && short_out_lem)
      (ap (ltb at.next) (sym (chunks_are s store table v)) ∙ sym (given_is (R.chunks (view s store table)) at.next)
      ∙ ap (λ (i : ℕ). is_given (get_elem? (R.chunks (view s store table)) i)) (sym place_at))

  at-view : (o : Result (Unit {0}) Refusal) → next_tests n (more && short_out_lem) ≡ o → Valid s store table
      → next_tests (R.phase_number (view s store table).phase) (short (length out) (view s store table)) ≡ o
  unfolding view
  at-view o e v = rw (sym phase_is, sym (short_is v)) e

  pub next-refuses : (x : Refusal) → next_tests n (more && short_out_lem) ≡ Err x
      → Promise (R.next_request (length out)) s store table out (record { session = s; answer = Err x }) store table out
  next-refuses x e =
      laws.refusal (R.next_request (length out)) s store table out x first (λ v. rule-refuses (length out) (view s store table) x (at-view (Err x) e v))

  module _ (goes : next_tests n (more && short_out_lem) ≡ Ok tt) where
    here : s.phase ≡ phase.Replay at
    here =
        in_replay s.phase (ap (λ (k : ℕ). eqb k 4) (sym phase_is) ∙ not-false (eqb n 4) (goes_on n (more && short_out_lem) goes).0)
        ∙ ap phase.Replay (sym at_is)

    room : more ≡ true → s.limit ≤ length out
    room m =
        ltb-false (length out) s.limit (ap (λ (t : Bool). t && short_out_lem) (sym m) ∙ (goes_on n (more && short_out_lem) goes).1)

    rule_is : Valid s store table → step (R.next_request (length out)) (view s store table)
        ≡ hands_chunk (get_elem? (R.chunks (view s store table)) at.next) at.next (view s store table)
    rule_is v =
        rule-hands (length out) (view s store table) (at-view (Ok tt) goes v)
        ∙ ap (λ (i : ℕ). hands_chunk (get_elem? (R.chunks (view s store table)) i) i (view s store table)) place_at

    pub next_chunk : (r : Outcome) (out' : Bytes) → more ≡ true → HandsChunk s store table at out r out'
        → Promise (R.next_request (length out)) s store table out (left s (Ok r)) store table out'
    next_chunk r out' m h = record {
      first = first;
      refuses = λ x f. absurd (accepted r.answer x f);
      takes = omega (arith, h.none_taken);
      store_beyond = refl;
      table_beyond = refl;
      out_beyond = h.fills;
      sent_is = h.sent_is;
      sent_in = h.sent_in;
      steps = λ v. (h.hands v here (ltb-true _ _ m) (room m)).steps ∙ sym (rule_is v);
      stays = λ v. (h.hands v here (ltb-true _ _ m) (room m)).stays;
    }

    pub next-rest : (r : Outcome) → more ≡ false → HandsRest s at r → Promise (R.next_request (length out)) s store table out (left s (Ok r)) store table out
    next-rest r m h = record {
      first = first;
      refuses = λ x f. absurd (h.quiet.accepts x f);
      takes = omega (arith, h.quiet.none_taken);
      store_beyond = refl;
      table_beyond = refl;
      out_beyond = rw (h.quiet.has_no_data out, h.quiet.none_sent);
      sent_is = rw (h.quiet.has_no_data out, h.quiet.none_sent);
      sent_in = omega (arith, h.quiet.none_sent);
      steps = λ v. (h.hands store table out v here (ltb-false _ _ m)).steps ∙ sym (rule_is v ∙ no_chunk v);
      stays = λ v. (h.hands store table out v here (ltb-false _ _ m)).stays;
    }
      where
        no_chunk : Valid s store table → hands_chunk (get_elem? (R.chunks (view s store table)) at.next) at.next (view s store table)
            ≡ hands_chunk none at.next (view s store table)
        no_chunk v =
            ap (λ (o : Option R.ReplayChunk). hands_chunk o at.next (view s store table))
            (element_past (R.chunks (view s store table)) at.next (omega (arith, ltb-false at.next s.worker.replay_buffer.chunks m, chunks_are s store table v)))
