-- What is always so of the rules is always so of a program whose calls keep their contracts, where the contracts give `step` at a view: one lift for the
-- claims over turns, one for the claims over calls.
use mathlib.Core.Path.{◌≡◌, refl, sym, ap, ◌∙◌, subst}
use mathlib.Core.Option.{Option}
use mathlib.Core.List.{List, [], ◌∷◌, map}
use Rattle.rules.specs.Session.{Session, Call, Answer, Result, answers}
use Rattle.rules.specs.Step.{step}
use Rattle.rules.specs.Opening.{Opening, opened, opens}
use Rattle.rules.specs.Server.{Stored}
use Rattle.rules.specs.World.{World, call_in}
use Rattle.rules.specs.Program.{Turn, turned, AllDid, ran, Always, itself, Steps, AlwaysSteps}
use Rattle.rules.specs.Demand3.{Holds}
use Rattle.rules.specs.More.{HoldsMore}
use Rattle.rules.specs.Total.{Total, first_taken, ServedTotal}
use Rattle.rules.specs.Released.{Accounted, MayDrop}
use Rattle.rules.specs.Calls.{Run, called, called_all, begin, AlwaysSince, HoldsCalled, CallTurn, AllDidCall, ran_calls, left_by, AlwaysDidCall}
use Rattle.rules.proofs.Lists.{opt_ind}
use Rattle.rules.proofs.Demand3.{demand3}
use Rattle.rules.proofs.More.{more_than_demand3}
use Rattle.rules.proofs.Released.{released-total}
use Rattle.rules.proofs.Total.{byte_total, byte_total_served, copies_needed}
use Rattle.rules.proofs.CalledStart.{calls_hold}

-- Valid: what an accepted opening gives and each call keeps
module _ {S : Type 0} (view : S → Session) (Does : Call → S → Answer → S → Type 0) (Begins : Opening → S → Type 0) (Valid : S → Type 0)
    (keeps : (c : Call) (s : S) (a : Answer) (s' : S) → Does c s a s' → Valid s → Valid s' × (answers a (view s') ≡ step c (view s)))
    (begun : (o : Opening) (s : S) → Begins o s → Valid s × (opens o ≡ opened (view s))) where
  -- ---- turns

  -- a turn as the rules see it
  abbrev seen : Turn view Does → Turn itself Steps
  seen t = record { event = t.event; answer = t.answer; left = view t.left }

  all_seen : (ts : List (Turn view Does)) (s : S) (w : World) → Valid s → AllDid view Does ts s w → AllDid itself Steps (map seen ts) (view s) w
  all_seen [] s w p d = tt
  all_seen (t ∷ ts) s w p d =
      let valid : Valid t.left
      = opt_ind (λ (o : Option Call). call_in t.event w ≡ o → Valid t.left) (call_in t.event w)
      (λ _ f. subst Valid (sym (d.0.idle f)) p) (λ c _ f. (keeps c s t.answer t.left (d.0.called c f) p).0) refl in (
        record { called = λ c f. (keeps c s t.answer t.left (d.0.called c f) p).1; idle = λ f. ap view (d.0.idle f) },
        all_seen ts t.left (turned view Does t w) valid d.1,
      )

  ran-seen : (ts : List (Turn view Does)) (w : World) → ran itself Steps (map seen ts) w ≡ ran view Does ts w
  ran-seen [] w = refl
  ran-seen (t ∷ ts) w = ran-seen ts (turned view Does t w)

  pub program_always : (Q : Opening → Stored → World → Type 0) → AlwaysSteps Q → Always view Does Begins Q
  program_always Q h o s b k v ts d =
      subst (Q o k) (ran-seen ts _) (h o (view s) (begun o s b).1 k v (map seen ts) (all_seen ts s _ (begun o s b).0 d))

  pub program_demand3 : Always view Does Begins (λ o k w. Holds w)
  program_demand3 = program_always (λ o k w. Holds w) demand3

  pub program_more : Always view Does Begins (λ o k w. HoldsMore w)
  program_more = program_always (λ o k w. HoldsMore w) more_than_demand3

  pub program_byte_total_served : Always view Does Begins (λ o k w. ServedTotal (first_taken o.payload k.object) w)
  program_byte_total_served = program_always (λ o k w. ServedTotal (first_taken o.payload k.object) w) byte_total_served

  pub program_copies_needed : Always view Does Begins (λ o k w. MayDrop (first_taken o.payload k.object) w)
  program_copies_needed = program_always (λ o k w. MayDrop (first_taken o.payload k.object) w) copies_needed

  -- ---- calls alone

  abbrev calls_of : List (CallTurn view Does) → List Call
  calls_of [] = []
  calls_of (t ∷ ts) = t.call ∷ calls_of ts

  ran-called : (ts : List (CallTurn view Does)) (s : S) (r : Run) → Valid s → r.session ≡ view s → AllDidCall view Does ts s
      → ran_calls view Does ts r ≡ called_all (calls_of ts) r
  unfolding called_all
  ran-called [] s r p e d = refl
  ran-called (t ∷ ts) s r p e d =
      let k : Valid t.left × (answers t.answer (view t.left) ≡ step t.call (view s)) = keeps t.call s t.answer t.left d.0 p in
      ran-called ts t.left (called t.call (answers t.answer (view t.left)) r) k.0 refl d.1
      ∙ ap (λ (x : Result). called_all (calls_of ts) (called t.call x r)) (k.1 ∙ ap (step t.call) (sym e))

  pub program_called : (Q : Run → Run → Type 0) → AlwaysSince Q → AlwaysDidCall view Does Begins Q
  unfolding begin
  program_called Q h o s b ts d =
      subst (Q (begin o (view s))) (sym (ran-called ts s (begin o (view s)) (begun o s b).0 refl d)) (h o (view s) (begun o s b).1 (calls_of ts))

  -- what the calls left is valid, and is seen as the session of the run
  pub record Left (ts : List (CallTurn view Does)) (s : S) (r : Run) : Type 0 where
    pub valid : Valid (left_by view Does ts s)
    pub session_is : view (left_by view Does ts s) ≡ (ran_calls view Does ts r).session

  left_valid : (ts : List (CallTurn view Does)) (s : S) (r : Run) → Valid s → r.session ≡ view s → AllDidCall view Does ts s → Left ts s r
  left_valid [] s r p e d = record { valid = p; session_is = sym e }
  left_valid (t ∷ ts) s r p e d =
      let l : Left ts t.left (called t.call (answers t.answer (view t.left)) r)
      = left_valid ts t.left _ (keeps t.call s t.answer t.left d.0 p).0 refl d.1 in
      record { valid = l.valid; session_is = l.session_is }

  pub program_left : (o : Opening) (s : S) → Begins o s → (ts : List (CallTurn view Does)) → AllDidCall view Does ts s → Left ts s (begin o (view s))
  unfolding begin
  program_left o s b ts d = left_valid ts s (begin o (view s)) (begun o s b).0 refl d

  pub program_calls_hold : AlwaysDidCall view Does Begins (λ _ r. HoldsCalled r)
  program_calls_hold = program_called (λ _ r. HoldsCalled r) calls_hold

  pub program_byte_total : AlwaysDidCall view Does Begins Total
  program_byte_total = program_called Total byte_total

  pub program_released-total : AlwaysDidCall view Does Begins (λ _ r. Accounted r)
  program_released-total = program_called (λ _ r. Accounted r) released-total
