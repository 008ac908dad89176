-- Where enough is lent, no call that is made for a list is refused.
use mathlib.Core.Path.{◌≡◌, refl, sym, ap, ◌∙◌, subst}
use mathlib.Core.Option.{Option, map, none, some, some-injective, none-ne-some}
use mathlib.Core.List.{List, [], ◌∷◌}
use Prim.Native.Nat.{ℕ, zero, suc, ◌+◌, ◌-◌, ◌^◌, min, ◌≤◌, ◌<◌}
use native.Mathlib.Omega.{arith}
use lib.Dec.{leb}
use lib.ListN.{length}
use borrow.Author.Tests.{leb-false}
use Rattle.rules.specs.Limits.{max_chunk}
use Rattle.rules.specs.Basics.{true, All}
use Rattle.rules.specs.Session.{Session, Call, Answer, answers, waiters}
use Rattle.rules.specs.Notes.{accepted}
use Rattle.rules.specs.Program.{itself, Steps}
use Rattle.rules.specs.Calls.{CallTurn, AllDidCall}
use Rattle.rules.specs.Step.{step}
use Rattle.rules.specs.Opening.{Opening, opened, opens, open_session}
use Rattle.rules.proofs.Lists.{cond_ind}
use Rattle.rules.proofs.Accepted as opening
use Rattle.plan_rules.specs.Unbounded.{unbounded}
use Rattle.plan_rules.specs.Plan.{Plan, Driven, begins, shown, after, drives, most, plain_opening, planned}
use Rattle.plan_rules.specs.Claims.{flushes_in, out_of, MadeFor, NeverRefused, AlwaysEnough}
use Rattle.plan_rules.specs.Counting.{nothing_yet, counted_all}
use Rattle.plan_rules.proofs.Counting.{once, rest, flush_behind, waiting_with, counts_on, chunks_grow, stored_grows}
use Rattle.plan_rules.proofs.Calls.{Fits, Kept, Once, made_once, made_same}
use Rattle.plan_rules.proofs.Drives.{went, session-after, drives_fits}
use Rattle.plan_rules.proofs.Planned.{open_fits, plain-accepted, plain_is}

-- the waiters that wait and those that are still to come
flush-waits : (h w : ℕ) (ls : List ℕ) → waiting_with 0 h w + flushes_in (flush_behind h ls) ≡ w + flushes_in (0 ∷ ls)
flush-waits zero w ls = omega arith
flush-waits (suc h) w ls = refl

append-waits : (n : ℕ) (ls : List ℕ) → 0 < n → flushes_in (n ∷ ls) ≡ flushes_in ls
append-waits zero ls l = absurd (omega arith)
append-waits (suc n) ls l = refl

to_come : (C n w : ℕ) (ls : List ℕ) (p : Plan) → waiting_with n p.held w + flushes_in (rest C n ls p) ≡ w + flushes_in (n ∷ ls)
to_come C zero w ls p = flush-waits p.held w ls
to_come C (suc n) w ls p =
    cond_ind (λ (x : List ℕ). w + flushes_in x ≡ w + flushes_in ls) (leb (suc n) (min (suc n) (C - p.held))) (λ e. refl)
    (λ e. ap (λ (m : ℕ). w + m) (append-waits (suc n - min (suc n) (C - p.held)) ls (omega (arith, leb-false (suc n) (min (suc n) (C - p.held)) e))))

open_kept : (o : Opening) (s : Session) → opens o ≡ opened s → Kept s.worker.replay_buffer.capacity s.slots 0 s
unfolding open_session
open_kept o s e =
    let is : open_session o ≡ s = (opening.accepted o s e).is in
    record {
      capacity_is = refl;
      slots_is = refl;
      waiting_is = sym (ap (λ (t : Session). length (waiters t)) is);
      made_is = sym (ap (λ (t : Session). t.writer.made) is);
    }

-- what is planned is counted, and its chunks end in time
record Found (limit : ℕ) (ls : List ℕ) (p : Plan) : Type 0 where
  is : counted_all limit ls nothing_yet ≡ p
  ends : (counted_all limit ls nothing_yet).stored ≤ 2 ^ 63 - 1

found : (limit : ℕ) (ls : List ℕ) (p : Plan) → 0 < limit → limit ≤ max_chunk → planned limit ls ≡ some p → Found limit ls p
unfolding planned
found limit ls p z l g = at (drives unbounded (most ls) ls (begins (open_session (plain_opening limit)))) refl g
  where
    at : (x : Option Driven) → drives unbounded (most ls) ls (begins (open_session (plain_opening limit))) ≡ x → map shown x ≡ some p → Found limit ls p
    at none e f = absurd (none-ne-some p f)
    at (some d) e f =
        let s : Session = open_session (plain_opening limit) in
        let h : Fits limit d (counted_all limit ls nothing_yet)
        = drives_fits limit (most ls) ls (begins s) d nothing_yet (open_fits (plain_opening limit) s (plain-accepted limit z l) (plain_is limit)) e in
        record { is = sym h.shown_is ∙ some-injective (shown d) p f; ends = h.offset_most }

-- Does: what is known of a call, in which an accepted call is one of the step rules
module _ {S : Type 0} (view : S → Session) (Does : Call → S → Answer → S → Type 0) (Valid : S → Type 0)
    (keeps : (c : Call) (s : S) (a : Answer) (s' : S) → Does c s a s' → Valid s → Valid s' × (answers a (view s') ≡ step c (view s))) where
  none-refused : (C K Z w : ℕ) (ts : List (CallTurn view Does)) (ls : List ℕ) (s : S) (d : Driven) (p : Plan) → Valid s → d.session ≡ view s → Fits C d p
      → Kept K Z w d.session → (counted_all C ls p).stored < K → (counted_all C ls p).chunks ≤ Z → w + flushes_in ls ≤ 16
      → (counted_all C ls p).stored ≤ 2 ^ 63 - 1 → AllDidCall view Does ts s → MadeFor view Does C ts ls
      → All (λ (t : CallTurn view Does). accepted t.answer ≡ true) ts
  unfolding counted_all
  none-refused C K Z w [] ls s d p u i h q l m v t a f = tt
  none-refused C K Z w (r ∷ ts) [] s d p u i h q l m v t a f = absurd f
  none-refused C K Z w (r ∷ ts) (n ∷ ls) s d p u i h q l m v t a f =
      let on : counted_all C (rest C n ls p) (once C n p) ≡ counted_all C (n ∷ ls) p = counts_on C n ls p h.held_most in
      let stored_on : (counted_all C (rest C n ls p) (once C n p)).stored < K = subst (λ (x : Plan). x.stored < K) (sym on) l in
      let chunks-on : (counted_all C (rest C n ls p) (once C n p)).chunks ≤ Z = subst (λ (x : Plan). x.chunks ≤ Z) (sym on) m in
      let most-on : (counted_all C (rest C n ls p) (once C n p)).stored ≤ 2 ^ 63 - 1 = subst (λ (x : Plan). x.stored ≤ 2 ^ 63 - 1) (sym on) t in
      let bound : (once C n p).stored ≤ 2 ^ 63 - 1 = omega (arith, stored_grows C (rest C n ls p) (once C n p)) in
      let lent : d.session.limit ≤ out_of r.call = omega (arith, h.limit_is, f.1) in
      let k : Valid r.left × (answers r.answer (view r.left) ≡ step r.call (view s)) = keeps r.call s r.answer r.left a.0 u in
      let ruled : unbounded r.call d.session ≡ answers r.answer (view r.left)
      = sym (made_same C d p h K Z w q (omega (arith, stored_grows C (n ∷ ls) p)) r.call n f.0 lent bound
      (omega (arith, chunks_grow C (rest C n ls p) (once C n p))) (omega (arith, to_come C n w ls p)))
      ∙ ap (step r.call) i ∙ sym k.1 in
      let o : Once C n d p (answers r.answer (view r.left)) = subst (Once C n d p) ruled (made_once C d p h r.call n f.0 lent bound) in
      let after_is : (after n (answers r.answer (view r.left)) d).session ≡ view r.left = session-after n (answers r.answer (view r.left)) d in (
        went n ls r.answer (rest C n ls p) (o.goes ls),
        none-refused C K Z (waiting_with n p.held w) ts (rest C n ls p) r.left (after n (answers r.answer (view r.left)) d) (once C n p) k.0 after_is o.fits
            (subst (Kept K Z (waiting_with n p.held w)) (sym after_is) (o.kept K Z w q)) stored_on chunks-on (omega (arith, to_come C n w ls p)) most-on a.1
            (f.2 (rest C n ls p) (o.goes ls)),
      )

  pub never_refused : (Begins : Opening → S → Type 0) → ((o : Opening) (s : S) → Begins o s → Valid s × (opens o ≡ opened (view s))) → NeverRefused view Does Begins
  never_refused Begins begun o s b plain ls p g q ts a m =
      let e : opens o ≡ opened (view s) = (begun o s b).1 in
      let k : opening.Accepted o (view s) = opening.accepted o (view s) e in
      let f : Found o.limit ls p = found o.limit ls p k.positive k.limit_most g in
      none-refused o.limit (view s).worker.replay_buffer.capacity (view s).slots 0 ts ls s (begins (view s)) nothing_yet (begun o s b).0 refl
      (open_fits o (view s) e plain) (open_kept o (view s) e)
      (subst (λ (x : Plan). x.stored < (view s).worker.replay_buffer.capacity) (sym f.is) q.capacity_above)
      (subst (λ (x : Plan). x.chunks ≤ (view s).slots) (sym f.is) q.slots_enough) (omega (arith, q.waiters_enough)) f.ends a m

pub always_enough : AlwaysEnough
always_enough = never_refused itself Steps (λ s. Unit {0}) (λ c s a s' e v. (tt, e)) (λ o s. opens o ≡ opened s) (λ o s e. (tt, e))
