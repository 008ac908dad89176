-- The last step of a response or handshake: a bare flush, nothing, a replay, or the end.
-- Assumes nothing.
use mathlib.Core.Path.{◌≡◌, refl, sym, ap, ◌∙◌, subst}
use mathlib.Core.Bool.{Bool, true, false, not, ◌&&◌}
use mathlib.Core.Option.{some}
use mathlib.Core.List.{List, []}
use Prim.Native.Nat.{ℕ, ◌*◌, ◌-◌}
use native.Mathlib.Omega.{arith}
use lib.Dec.{leb, eqb}
use Rattle.rules.specs.Message.{Bytes}
use Rattle.rules.specs.Session as R
use Rattle.rules.specs.Respond.{last_step, to_replay}
use Rattle.rules.specs.Upload.{flush_request}
use Rattle.bidi_write.specs.View.{request_of}
use Rattle.bidi_write.specs.declared.Cause.{Cause}
use Rattle.bidi_write.specs.declared.Request.{Request}
use Rattle.worker.specs.View.{worker_of}
use Rattle.worker.specs.declared.Worker.{Worker}
use Rattle.transport.specs.View.{phase_of, view}
use Rattle.transport.specs.Valid.{Valid}
use Rattle.transport.specs.Parts.{set_phase, set_worker, EndsAs}
use Rattle.transport.specs.Promise.{Quiet}
use Rattle.responses.specs.Respond.{completes, Flushes, Answers}
use Rattle.transport.specs.declared.Answer.{Answer}
use Rattle.transport.specs.declared.Answer.TheVariants as answer
use Rattle.transport.specs.declared.Ending.{Ending}
use Rattle.std.specs.Prelude.{Some, None, Ok, Err}
use Rattle.std.specs.declared.result.Result.{Result}
use Rattle.transport.specs.declared.Outcome.{Outcome}
use Rattle.transport.specs.declared.Phase.TheVariants as phase
use Rattle.bidi_write.specs.declared.Refusal.{Refusal}
use Rattle.transport.specs.declared.Sent.TheVariants as sent
use Rattle.transport.specs.declared.Session.{Session}
use Rattle.sizes.specs.declared.Settled.{Settled}
use Rattle.worker.proofs.Lengths.{no_length}
use Rattle.rules.proofs.Tests.{and_left, and_right}
use Rattle.transport.proofs.Numbers.{watermark_is}
use Rattle.transport.proofs.Refused.{accepted}
use Rattle.transport.proofs.Views.{no_cursor, live_no_replay}
use Rattle.transport.proofs.Bare.{bare_is}
use Rattle.sizes.proofs.Taking.{chosen, passed_over}
use Rattle.transport.proofs.Views.{valid_phase}

-- ---- whether a bare flush is sent

pub flushes_at : (s : Session) (n : ℕ) → n ≡ R.phase_number (phase_of s.phase) → eqb n 1 ≡ true → (low : Bool)
    → low ≡ (eqb s.worker.pending_requests.count 0 && not s.worker.self_flush_outstanding
    && leb (s.worker.replay_buffer.capacity - 2 * s.limit) s.worker.replay_buffer.unpersisted_bytes)
    → Flushes s low
flushes_at s n is e low l = record {
  flushes = λ store table v.
      l ∙ watermark_is s store table v
      ∙ sym (ap (λ (x : Bool). x && R.watermark (view s store table)) (ap (λ (x : ℕ). eqb x 1) (sym is) ∙ e));
}

-- ---- the answers

-- an accepted call's answer that takes nothing and hands nothing out
settles_quietly : (k : Settled) → Quiet (Ok (completes k None))
settles_quietly k = record { accepts = accepted _; none_taken = refl; none_sent = refl; has_no_data = λ out. refl }

ends_quiet : (d : Ending) → Quiet (Ok (answer.Ends d))
ends_quiet d = record { accepts = accepted _; none_taken = refl; none_sent = refl; has_no_data = λ out. refl }

-- the worker with an own flush outstanding
abbrev pub marked : Worker → Worker
marked w = record {
  connector = w.connector;
  replay_buffer = w.replay_buffer;
  pending_requests = w.pending_requests;
  persisted_size = w.persisted_size;
  finalized = w.finalized;
  self_flush_outstanding = true;
}

module _ (s : Session) (k : Settled) where
  module _ (asked : Flushes s true) (q : Request) (is : (out : Bytes) → request_of q out ≡ flush_request s.write_offset.0) where
    flushed : (store : Bytes) (table : List ℕ) (out : Bytes) → Valid s store table
        → R.answers (R.completes k.completed k.released (some (request_of q out))) (view (set_phase s.phase sent.BareFlush (set_worker (marked s.worker) s)) store table)
        ≡ last_step k.completed k.released (view s store table)
    unfolding last_step view worker_of
    flushed store table out v =
        ap (λ (x : _). R.answers (R.completes k.completed k.released (some x)) (R.set_phase (phase_of s.phase) R.bare_flush (R.set_worker (R.set_mark true (view s store table).worker) (view s store table))))
        (is out ∙ sym (bare_is s store table v (and_right (R.is_live (phase_of s.phase)) (R.watermark (view s store table)) (sym (asked.flushes store table v)))))
        ∙ sym (chosen _ _ (sym (asked.flushes store table v)))

    pub answers-flush : Answers last_step None k s (record {
      session = set_phase s.phase sent.BareFlush (set_worker (marked s.worker) s);
      answer = completes k (Some q);
    })
    answers-flush = record {
      quiet = record {
        accepts = accepted _;
        none_taken = refl;
        none_sent = no_length q [] _ (is []) refl;
        has_no_data = λ out. rw (is out);
      };
      answers = flushed;
      stays = λ store table e v. record {
        guarded = v.guarded;
        slots_in = v.slots_in;
        sound = v.sound;
        waiting_is = v.waiting_is;
        spec_fits = v.spec_fits;
        followed = v.followed;
        cursor = no_cursor s.phase _ _ (live_no_replay s.phase (and_left (R.is_live (phase_of s.phase)) (R.watermark (view s store table)) (sym (asked.flushes store table v))));
      };
    }

  pub answers-nothing : Flushes s false → Answers last_step None k s (record { session = set_phase s.phase sent.Nothing s; answer = completes k None })
  unfolding last_step view
  answers-nothing asked = record {
    quiet = settles_quietly k;
    answers = λ store table out v. sym (passed_over _ _ (sym (asked.flushes store table v)));
    stays = λ store table e v. valid_phase s.phase sent.Nothing s store table v v.followed v.cursor;
  }

  pub answers-replay : Answers to_replay None k s (record {
    session = set_phase (phase.Replay (record { next = 0; bytes = 0 })) sent.Nothing s;
    answer = completes k None;
  })
  unfolding to_replay view
  answers-replay = record {
    quiet = settles_quietly k;
    answers = λ store table out v. refl;
    stays = λ store table e v. valid_phase _ sent.Nothing s store table v (λ _. v.followed e) (refl, omega arith);
  }

  pub answers-end : (last : ℕ → ℕ → R.Session → R.Result) (c : Cause) (r : Outcome) → EndsAs c k.completed k.released s r → Answers last (Some c) k s r
  answers-end last c r ends = record {
    quiet = subst (λ (a : Answer). Quiet (Ok a)) (sym ends.answer_is) (ends_quiet _);
    answers = ends.ends;
    stays = λ store table e v. ends.stays store table v;
  }
