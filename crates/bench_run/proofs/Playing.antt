-- A run over the bytes at hand, turn by turn.
-- Assumes nothing.
use mathlib.Core.Path.{◌≡◌, refl, sym, ap, ◌∙◌, subst}
use mathlib.Core.Option.{some}
use mathlib.Core.List.{List, [], ◌++◌, append_assoc}
use Prim.Native.Nat.{ℕ, ◌+◌, ◌-◌, ◌*◌, ◌≤◌, ◌<◌}
use native.Mathlib.Omega.{arith}
use lib.ListN.{length, take, drop, length-take, length-drop}
use lib.Seq.{drop-drop}
use Rattle.rules.specs.Message.{Bytes}
use Rattle.rules.specs.Session as R
use Rattle.rules.specs.Step.{step}
use Rattle.ring.specs.Ring.{ring, part}
use Rattle.transport.specs.View.{Left, lent_of, view, answer_of, sent_length}
use Rattle.transport.specs.Valid.{Valid}
use Rattle.transport.specs.declared.Session.{Session}
use Rattle.bench_records.specs.declared.CallRecord.{CallRecord}
use Rattle.bench_records.specs.declared.CallRecord.TheVariants as call
use Rattle.bench_lines.specs.Text.{mark_of, line_of}
use Rattle.bench_turns.specs.Turn.{call_of, Makes, again, line_for}
use Rattle.bench_run.specs.Stands.{call_turns, turns, Stands}
use Rattle.bench_run.specs.Turn.{TurnInside, call_at, rest_at, Standing, Found, Goes}
use Rattle.bench_run.specs.Gathers.{Gathers}
use Rattle.bench_run.specs.declared.turns.Turn.{Turn}
use Rattle.bench_run.specs.declared.turns.Turn.TheVariants as turn
use Rattle.bench_run.specs.declared.turns.Next.{Next}
use Rattle.bench_run.proofs.Standing.{called, called_fewer}

-- fewer bytes than C are held
held_below : (s : Session) (store : Bytes) (table : List ℕ) → Valid s store table → length (view s store table).writer.held < (view s store table).limit
unfolding view part
held_below s store table v = omega (arith, v.guarded.held_in, length-take s.held (drop s.worker.replay_buffer.unpersisted_bytes (ring (lent_of s).size s.worker.replay_buffer.head store)))

mark_is : (c : CallRecord) (d : Bytes) (k : ℕ) → mark_of (call_of c [] 0) ≡ mark_of (call_of c d k)
mark_is call.Append d k = refl
mark_is call.Flush d k = refl
mark_is call.Finalise d k = refl
mark_is call.Close d k = refl
mark_is (call.Response n) d k = refl
mark_is (call.Handshake n) d k = refl
mark_is call.Break d k = refl
mark_is (call.Verdict v) d k = refl
mark_is call.Next d k = refl

-- from the turn and place where the loop began
pub record Playing (input store₀ : Bytes) (table₀ : List ℕ) (s₀ : Session) (turn₀ : Turn) (at₀ : ℕ) (store : Bytes) (table : List ℕ) (text : Bytes) (s : Session) (t : Turn) (at used : ℕ) : Type 0 where
  pub valid : Valid s store table
  pub at_in : at ≤ length input
  pub used_in : used ≤ length text
  pub found : Found t (drop at input)
  pub stands : (fed written : Bytes) → Standing fed written turn₀ (drop at₀ input) (view s₀ store₀ table₀) → Standing fed (written ++ take used text) t (drop at input) (view s store table)

-- the turns that the loop still makes at most
abbrev pub left : Bytes → Bytes → List ℕ → Session → Turn → ℕ → ℕ
left input store table s t at = turns (call_at t (drop at input)) (rest_at t (drop at input)) (view s store table)

-- ---- one turn

module _ (input : Bytes) {s : Session} {store : Bytes} {table : List ℕ} {out : Bytes} {r : Left} {store' : Bytes} {table' : List ℕ} {out' : Bytes} {t : Turn} {c : CallRecord} {n : ℕ} (at : ℕ)
    (v : Valid s store table) (long : length out ≡ 8192) (is : t ≡ turn.Call c n)
    (m : Makes c (take (at + n - at) (drop at input)) s store table out r store' table' out') where
  abbrev own : Bytes
  own = take n (drop at input)

  made : R.answers (answer_of r.answer out') (view r.session store' table') ≡ step (call_of c own 8192) (view s store table)
  made =
      let there : at + n - at ≡ n = omega arith in
      m.steps v ∙ ap (λ (k : ℕ). step (call_of c (take (at + n - at) (drop at input)) k) (view s store table)) long
      ∙ ap (λ (k : ℕ). step (call_of c (take k (drop at input)) 8192) (view s store table)) there

  pub after_valid : Valid r.session store' table'
  after_valid = m.stays v

  module _ {l : Bytes} {next : Next} (li : l ≡ drop at input)
      (g : (x : Bytes) → Goes (again (call_of c (take n l) 8192) (answer_of r.answer x)) (drop n l) l next) where
    on : Goes (again (call_of c own 8192) (answer_of r.answer out')) (drop n (drop at input)) (drop at input) next
    on = subst (λ (b : Bytes). Goes (again (call_of c (take n b) 8192) (answer_of r.answer out')) (drop n b) b next) li (g out')

    there : drop next.at (drop at input) ≡ drop (at + next.at) input
    there = drop-drop next.at at input

    pub turn_fewer : left input store' table' r.session next.turn (at + next.at) < left input store table s t at
    turn_fewer =
        let f : left input store' table' r.session next.turn (at + next.at) ≤ turns (again (call_of c own 8192) (answer_of r.answer out')) (drop n (drop at input)) (view r.session store' table')
        = subst (λ (b : Bytes). turns (call_at next.turn b) (rest_at next.turn b) (view r.session store' table') ≤ turns (again (call_of c own 8192) (answer_of r.answer out')) (drop n (drop at input)) (view r.session store' table')) there (on.fewer (view r.session store' table')) in
        let h = called_fewer (call_of c own 8192) (view s store table) (answer_of r.answer out') (view r.session store' table') (held_below s store table v) made in
        let e : left input store table s t at ≡ call_turns (call_of c own 8192) (view s store table) + 2 * length (drop n (drop at input))
        = ap (λ (x : Turn). turns (call_at x (drop at input)) (rest_at x (drop at input)) (view s store table)) is in
        omega (arith, f, h, e)

    module _ {text line text' : Bytes} {used used' : ℕ} {store₀ : Bytes} {table₀ : List ℕ} {s₀ : Session} {turn₀ : Turn} {at₀ : ℕ}
        (put : Gathers text used line text' used') (same : length text' ≡ length text)
        (kept : length out' ≡ length out) (li' : (x : Bytes) → sent_length r.answer ≤ length x → line ≡ line_for c r.answer x) where
      pub turned : Playing input store₀ table₀ s₀ turn₀ at₀ store table text s t at used
          → Playing input store₀ table₀ s₀ turn₀ at₀ store' table' text' r.session next.turn (at + next.at) used'
      turned p = record {
        valid = after_valid;
        at_in = omega (arith, p.at_in, on.inside, length-drop at input);
        used_in = omega (arith, put.inside);
        found = subst (Found next.turn) there on.found;
        stands = λ fed written h.
            let before : Stands fed (written ++ take used text) (some (call_of c own 8192)) (drop n (drop at input)) (view s store table)
            = subst (λ (x : Turn). Standing fed (written ++ take used text) x (drop at input) (view s store table)) is (p.stands fed written h) in
            subst (λ (b : Bytes). Standing fed (written ++ take used' text') next.turn b (view r.session store' table')) there
            (on.stands fed (written ++ take used' text') (view r.session store' table')
            (subst (λ (w : Bytes). Stands fed w (again (call_of c own 8192) (answer_of r.answer out')) (drop n (drop at input)) (view r.session store' table')) (wrote written)
            (called (answer_of r.answer out') (view r.session store' table') (held_below s store table v) made before)));
      }
        where
          wrote : (written : Bytes) → (written ++ take used text) ++ line_of (mark_of (call_of c own 8192)) (answer_of r.answer out') ≡ written ++ take used' text'
          wrote written =
              append_assoc written (take used text) _
              ∙ ap (λ (b : Bytes). written ++ b) (ap (λ (b : Bytes). take used text ++ b) (ap (λ (k : _). line_of k (answer_of r.answer out')) (sym (mark_is c own 8192)) ∙ sym (li' out' (omega (arith, m.sent_in)))) ∙ sym put.text_is)

-- what was found lies in the input
pub found_inside : (t : Turn) (x : Bytes) {k : ℕ} → length x ≡ k → Found t x → TurnInside t k
found_inside (turn.Call c n) x e f = omega arith
found_inside turn.Read x e f = tt
found_inside turn.End x e f = tt
